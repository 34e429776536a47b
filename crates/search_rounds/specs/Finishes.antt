-- The end of a search: the kept paths become those of the reply, a refused search leaves both areas zero. For every search whose kept paths replay.
-- Serves document 01, "Answer".
use Rattle.std.specs.Prelude.{ℕ, ◌≡◌, refl, List, length, Ok, Err}
use Rattle.std.proofs.Common.{arith, sym, subst, ◌∙◌}
use Rattle.std.proofs.Math.Path.{ap, ap₂}
use Rattle.semantics.specs.Entries.{Does}
use Rattle.semantics.specs.declared.search.SearchStats.{SearchStats}
use Rattle.semantics.specs.declared.refusal.SearchRefusal.{SearchRefusal}
use Rattle.semantics.specs.Limits.{base, slot_length}
use Rattle.semantics.specs.Answer.{Answer, ok, refuse}
use Rattle.semantics.specs.Graph.{Graph, view_of}
use Rattle.semantics.specs.Path.{Path}
use Rattle.semantics.specs.Enumeration.{State, figured, report_of}
use Rattle.semantics.specs.Recorded.{edge_lists}
use Rattle.semantics.specs.Words.{zeros, area}
use Rattle.semantics.specs.Calls.{Request, search_outcome}
use Rattle.storage.specs.Index.{Loaded, HoldsGraph}
use Rattle.path.specs.Shadows.Laws.{JumpAt}
use Rattle.search_state.specs.declared.search.Finished.{Finished}
use Rattle.search_state.specs.Searches.{report_in}
use Rattle.search_state.specs.Reps.{Counts}
use Rattle.reply.specs.declared.finish.Reply.{Reply}
use Rattle.reply.specs.EdgeLists.Paths.{Replays}
use Rattle.reply.specs.Ends.{Stand}
use Rattle.reply.specs.Ends.Laws.{stand-lists}
use Rattle.reply.specs.ResultSlots.{Lists}
use Rattle.reply.specs.Replies.{reply_of, Replied}
use Rattle.search_rounds.specs.Drives.{SearchEnd}
use Rattle.search_rounds.specs.Drives.{Ends}
use Rattle.semantics.specs.PublicAnswers.{resolved}
use Rattle.semantics.specs.declared.answer.ResolutionRefusal.{ResolutionRefusal}

over-refused : (f : Finished) (x : SearchRefusal) → Ok f ≡ Err x → ⊥
over-refused f x e = let z : ◌≡◌ {A = ℕ} 0 1 = cc in omega arith

pub ends-over : (d : SearchEnd) (rs : List ℕ) (t : Answer SearchRefusal (State Path)) (f : Finished) → Ends d rs t → d ≡ Ok f → (u : State Path) × (t ≡ ok u) × Counts f.state rs u × (f.waited ≡ u.tally.waited)
ends-over (Ok s) rs (ok u) f h e =
    let z : s ≡ f = cc in
    let k = subst (λ (x : Finished). Counts x.state rs u × (x.waited ≡ u.tally.waited)) z h in
    (u, refl, k.0, k.1)
ends-over (Ok s) rs (refuse y) f h e = absurd h
ends-over (Err x) rs t f h e = absurd (over-refused f x (sym e))

pub ends-refused : (d : SearchEnd) (rs : List ℕ) (t : Answer SearchRefusal (State Path)) (x : SearchRefusal) → Ends d rs t → d ≡ Err x → t ≡ refuse x
ends-refused (Ok s) rs t x h e = absurd (over-refused s x e)
ends-refused (Err y) rs (ok u) x h e = absurd h
ends-refused (Err y) rs (refuse z) x h e = let w : y ≡ x = cc in ap (λ (v : SearchRefusal). refuse v) (sym h ∙ w)

-- a search on a loaded graph has ended, and its kept paths replay
pub record Concluding (index : List ℕ) (d : SearchEnd) (rs : List ℕ) : Type 0 where
  pub graph : Graph
  pub loaded : Loaded graph index
  pub answer : Answer SearchRefusal (State Path)
  pub ends : Ends d rs answer
  pub good : (u : State Path) → answer ≡ ok u → Replays base (view_of graph) u.kept

module _ {index : List ℕ} {d : SearchEnd} {rs : List ℕ} (v : Concluding index d rs) where
  module _ (n : Finished) (e : d ≡ Ok n) where
    over : (u : State Path) × (v.answer ≡ ok u) × Counts n.state rs u × (n.waited ≡ u.tally.waited)
    over = ends-over d rs v.answer n v.ends e

    stand : Stand slot_length n.state.kept rs over.0.kept
    stand = record { words = over.2.words; count = over.2.kept }

    pub over-holds : HoldsGraph index
    over-holds = record { graph = v.graph; loaded = v.loaded }

    -- what the end of the search is given
    pub over-lists : Lists slot_length n.state.kept rs
    over-lists = stand-lists base (view_of v.graph) (v.good over.0 over.1) stand

    pub over-does : (reply : Reply) (q : Request) → length rs ≡ q.result → JumpAt (view_of v.graph) → {ws' : List ℕ} → ws' ≡ zeros q.work → (r : ℕ) (rs' : List ℕ) → length rs' ≡ length rs → Replied index reply n.state.kept rs r rs' → {t : SearchStats} → t ≡ report_in n
        → Does (search_outcome base (reply_of reply) q v.answer) (resolved r t) ws' rs'
    unfolding search_outcome
    over-does reply q long j w r rs' k f {t} s =
        let z = f v.graph over.0 v.loaded j (v.good over.0 over.1) stand in
        let c : t ≡ report_of over.0 = s ∙ ap₂ figured over.3 over.2.stats in
        rw over.1 (ap (λ (m : ℕ). resolved m t) z.count ∙ ap (resolved (length (reply_of reply over.0))) c, w, z.words ∙ ap (λ (m : ℕ). area slot_length m (edge_lists (reply_of reply over.0))) (k ∙ long))

  pub refused-does : (reply : Reply) (q : Request) → length rs ≡ q.result → (x : SearchRefusal) → d ≡ Err x → {ws' rs' : List ℕ} → ws' ≡ zeros q.work → rs' ≡ zeros (length rs) → Does (search_outcome base (reply_of reply) q v.answer) (Err (ResolutionRefusal.Refused x)) ws' rs'
  unfolding search_outcome
  refused-does reply q long x e w r = rw (ends-refused d rs v.answer x v.ends e) (refl, w, r ∙ ap zeros long)
