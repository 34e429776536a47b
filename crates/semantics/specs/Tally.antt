-- How many lists of distinct edges reach a complete path from a reference, for each length that a path may have.
-- Document 02, order 9.
use Rattle.std.specs.Prelude.{ℕ, zero, suc, List, [], ◌∷◌, eqb, length, None, Err, Ok}
use Rattle.semantics.specs.declared.search.SearchLimits.{SearchLimits}
use Rattle.semantics.specs.declared.search.SearchOrder.TheVariants.{DepthFirst}
use Rattle.semantics.specs.declared.refusal.ImageRefusal.{ImageRefusal}
use Rattle.semantics.specs.declared.refusal.SearchRefusal.{SearchRefusal}
use Rattle.semantics.specs.declared.refusal.SearchRefusal.TheVariants as Search
use Rattle.semantics.specs.Lists.{cons_if}
use Rattle.semantics.specs.Limits.{Bounds, slot_words}
use Rattle.semantics.specs.Answer.{Answer, ok, refuse}
use Rattle.semantics.specs.Graph.{Graph, view_of}
use Rattle.semantics.specs.Path.{Path}
use Rattle.semantics.specs.Enumeration.{Setting, slots, unlimited, State}
use Rattle.semantics.specs.Recorded.{edge_lists}
use Rattle.semantics.specs.Direct.{direct}
use Rattle.semantics.specs.Words.{zeros, whole_slots}
use Rattle.semantics.specs.PublicAnswers.{Tallying}
use Rattle.semantics.specs.declared.answer.TurnedBack.{TurnedBack}
pub mod Laws

-- no limit at all
abbrev pub no_limits : SearchLimits
no_limits = record { length = None; expansions = None; complete = None }

-- the unlimited direct search, depth-first, which keeps every complete path and in no slot
abbrev pub tally_setting : ℕ → Setting SearchRefusal
tally_setting waiting = record { order = DepthFirst; max_count = None; max_complete = None; waiting = slots waiting Search.NoWaitingSlot; results = unlimited; too_many = Search.TooManyExpansions }

-- the lists of a length
unfoldable pub of_length : ℕ → List (List ℕ) → List (List ℕ)
of_length n [] = []
of_length n (l ∷ ls) = cons_if (eqb (length l) n) l (of_length n ls)

-- how many have length i, how many the next, and so on: so many numbers
unfoldable pub lengths_from : ℕ → ℕ → List (List ℕ) → List ℕ
unfolding of_length
lengths_from i zero ls = []
lengths_from i (suc count) ls = length (of_length i ls) ∷ lengths_from (suc i) count ls

-- one number for each length from none to the bound
abbrev pub lengths : Bounds → List (List ℕ) → List ℕ
lengths bd ls = lengths_from 0 (suc bd.edges) ls

-- THE CALL

-- what is asked: the reference; work is the length of the lent area in words
pub record TallyRequest : Type 0 where
  pub work : ℕ
  pub node : ℕ

-- an answer, the numbers by ascending length, and every word of the work area
pub record TallyOutcome : Type 0 where
  pub answer : Tallying
  pub numbers : List ℕ
  pub work : List ℕ

module _ (bd : Bounds) (q : TallyRequest) where
  -- all numbers are 0
  abbrev pub untallied : Tallying → TallyOutcome
  untallied a = record { answer = a; numbers = zeros (suc bd.edges); work = zeros q.work }

  unfoldable pub tally_outcome : Answer SearchRefusal (State Path) → TallyOutcome
  unfolding lengths_from
  tally_outcome (ok s) = record { answer = Ok tt; numbers = lengths bd (edge_lists s.kept); work = zeros q.work }
  tally_outcome (refuse r) = untallied (Err (TurnedBack.Refused r))

  -- the image, then the node. It is asked of the image as a desk sees it: Hidden, `seen_image`
  unfoldable pub tally_call : Answer ImageRefusal Graph → TallyOutcome
  unfolding tally_outcome direct view_of
  tally_call (ok g) = tally_outcome (direct bd None (tally_setting (whole_slots (slot_words bd) q.work)) (view_of g) q.node)
  tally_call (refuse x) = untallied (Err (TurnedBack.Image x))
