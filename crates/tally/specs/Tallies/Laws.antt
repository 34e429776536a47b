-- A tally from its search on; the image.
-- Serves document 02, order 9.
use Rattle.std.specs.Prelude.{ℕ, ◌≡◌, List, length, Ok, Err}
use Rattle.std.proofs.Math.Path.{ap}
use Rattle.std.proofs.Common.{◌∙◌}
use Rattle.semantics.specs.declared.refusal.ImageRefusal.{ImageRefusal}
use Rattle.semantics.specs.declared.refusal.SearchRefusal.{SearchRefusal}
use Rattle.semantics.specs.Limits.{base, slot_length}
use Rattle.semantics.specs.Answer.{Answer, ok, refuse}
use Rattle.semantics.specs.Graph.{Graph}
use Rattle.semantics.specs.Path.{Path}
use Rattle.semantics.specs.Enumeration.{State}
use Rattle.semantics.specs.Words.{zeros}
use Rattle.semantics.specs.Tally.{tally_outcome, tally_call}
use Rattle.semantics.specs.Entries.{tally_request_of}
use Rattle.search_state.specs.declared.search.Finished.{Finished}
use Rattle.direct_search.specs.Counting.{Tallies, tallied_on}
use Rattle.tally.specs.declared.lengths.TallyOutcome as T
use Rattle.tally.specs.Tallies.{outcome_on, Does}
use Rattle.semantics.specs.declared.answer.TurnedBack.{TurnedBack}

module _ (g : Graph) (ws : List ℕ) (n : ℕ) (r : T.TallyOutcome) {ws' : List ℕ} (cleared : ws' ≡ zeros (length ws)) where
  pub told_over : (f : Finished) → Tallies (Ok f) r.numbers (tallied_on g ws n) → r.answer ≡ Ok tt → Does (outcome_on g ws n) r ws'
  unfolding tally_outcome
  told_over f h a = on (tallied_on g ws n) h
    where
      on : (z : Answer SearchRefusal (State Path)) → Tallies (Ok f) r.numbers z → Does (tally_outcome base (tally_request_of ws n) z) r ws'
      on (ok u) k = (a, k, cleared)
      on (refuse y) k = absurd k

  pub told-refused : (y : SearchRefusal) (ns : List ℕ) → Tallies (Err y) ns (tallied_on g ws n) → r.answer ≡ Err (TurnedBack.Refused y) → r.numbers ≡ zeros slot_length → Does (outcome_on g ws n) r ws'
  unfolding tally_outcome
  told-refused y ns h a z = on (tallied_on g ws n) h
    where
      on : (b : Answer SearchRefusal (State Path)) → Tallies (Err y) ns b → Does (tally_outcome base (tally_request_of ws n) b) r ws'
      on (ok u) k = absurd k
      on (refuse w) k = (a ∙ ap (λ r. Err (TurnedBack.Refused r)) k, z, cleared)

-- ---- the image

module _ (ws : List ℕ) (n : ℕ) {y : Answer ImageRefusal Graph} (r : T.TallyOutcome) (ws' : List ℕ) where
  pub image-refused : (z : ImageRefusal) → y ≡ refuse z → r.answer ≡ Err (TurnedBack.Image z) → r.numbers ≡ zeros slot_length → ws' ≡ zeros (length ws) → Does (tally_call base (tally_request_of ws n) y) r ws'
  unfolding tally_call
  image-refused z e a m w = rw e (a, m, w)

  pub image_does : (g : Graph) → y ≡ ok g → Does (outcome_on g ws n) r ws' → Does (tally_call base (tally_request_of ws n) y) r ws'
  unfolding tally_call
  image_does g e h = rw e h
