-- A path that was extended by an edge, or by a partial path: it is recorded where it is complete, then it waits.
-- Document 01, "Answer": "completeness, push".
use Rattle.std.specs.Prelude.{ℕ, ◌+◌, ◌<◌, ◌≤◌, ◌^◌, ◌≡◌, Bool, List}
use Rattle.semantics.specs.Limits.{slot_length}
use Rattle.semantics.specs.Answer.{and_then}
use Rattle.semantics.specs.Graph.{View}
use Rattle.semantics.specs.Path.{Path}
use Rattle.semantics.specs.Enumeration.{State, keep, push_item}
use Rattle.words.specs.Slots.{SlotsIn}
use Rattle.search_state.specs.declared.search.Search as S
use Rattle.search_state.specs.Searches.{Going}
use Rattle.search_state.specs.Searches.{Pushable}
use Rattle.search_state.specs.Progresses.{frame_of}
use Rattle.search_state.specs.Reps.{slot_of, Few, setting_of, Replayed, Rep, Tells}
pub mod Laws

-- the areas have their slots, and one more complete path can be counted
pub record Extendable (s : S.Search) (ws rs item : List ℕ) : Type 0 where
  pub pushable : Pushable s ws item
  pub fits : s.state.kept ≤ s.state.results
  pub room : SlotsIn slot_length s.state.results rs
  pub few : s.state.budget.complete + 1 < 2 ^ 64

-- the enumeration keeps and pushes alike; the edge that led here is among those looked at
abbrev pub ExtendsTo : S.Search → Bool → List ℕ → List ℕ → List ℕ → Going → List ℕ → List ℕ → Type 0
ExtendsTo s complete ws rs item a ws' rs' =
    (g : View) (r : ℕ) (m : State Path) (q : Path) (n : ℕ) → Rep g r s ws rs m → Few n m.stats → n + 1 ≡ m.tally.looked → Replayed g r q → item ≡ slot_of q
    → Tells g r (frame_of s) a ws' rs' (and_then (keep complete (setting_of (frame_of s)) m q) (push_item (setting_of (frame_of s)) q))
