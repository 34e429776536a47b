-- The numbers of the complete paths by length, round by round, against the enumeration that keeps every complete path.
-- Serves document 02, order 9.
use Rattle.std.specs.Prelude.{ℕ, ◌+◌, ◌-◌, ◌≤◌, ◌≡◌, List, length, get_or, set, Ok, Err, None, Some}
use Rattle.semantics.specs.declared.search.SearchLimits.{SearchLimits}
use Rattle.semantics.specs.declared.refusal.SearchRefusal.{SearchRefusal}
use Rattle.semantics.specs.Limits.{base, slot_length, max_expansions}
use Rattle.semantics.specs.Answer.{Answer, ok, refuse}
use Rattle.semantics.specs.Graph.{Graph, View, view_of}
use Rattle.semantics.specs.Path.{Path}
use Rattle.semantics.specs.Enumeration.{State, run, merge}
use Rattle.semantics.specs.Enumeration.Keeping.{keeping, Keeping}
use Rattle.semantics.specs.Direct.{direct}
use Rattle.semantics.specs.Recorded.{edge_lists}
use Rattle.semantics.specs.Words.{whole_slots}
use Rattle.semantics.specs.Tally.{tally_setting, lengths}
use Rattle.search_state.specs.declared.search.Search as S
use Rattle.search_state.specs.declared.progress.Frame.{Frame}
use Rattle.search_state.specs.Progresses.{frame_of}
use Rattle.search_state.specs.Reps.{setting_of}
use Rattle.search_rounds.specs.Drives.{SearchEnd}
use Rattle.search_rounds.specs.Drives.{Driving}
use Rattle.direct_search.specs.DirectAnswers.{edge_tries}
pub mod Laws

-- so many more at a place
abbrev pub added_to : List ℕ → ℕ → ℕ → List ℕ
added_to ns i more = set ns i (get_or ns i 0 + more)

-- no number is above the count of all complete paths, so that a sum of 64 bits holds one more
abbrev pub Low : List ℕ → S.Search → Type 0
Low ns s = (i : ℕ) → get_or ns i 0 ≤ s.state.budget.complete

-- the rest of the enumeration that keeps every complete path, in a frame
abbrev pub kept_from : View → Frame → ℕ → State Path → Answer SearchRefusal (State Path)
kept_from g f n m = run (keeping (setting_of f)) (edge_tries f.limits.length g) n (merge f.order m)

-- what the rounds are given: a search that may keep no path, beside the state of the enumeration that keeps each, and the numbers of what that has kept
pub record Counting (index steps item : List ℕ) (s : S.Search) (ws rs ns : List ℕ) : Type 0 where
  pub driving : Driving index steps item s ws rs
  pub none : (frame_of s).limits.complete ≡ Some 0
  pub state : State Path
  pub keeps : Keeping state driving.model
  pub numbers : ns ≡ lengths base (edge_lists state.kept)

abbrev pub run_on : {index steps item : List ℕ} {s : S.Search} {ws rs ns : List ℕ} → Counting index steps item s ws rs ns → Answer SearchRefusal (State Path)
run_on {s = s} x = kept_from (view_of x.driving.graph) (frame_of s) (max_expansions - s.state.budget.expanded) x.state

-- the search is over with the numbers of what is kept, or refused alike
abbrev pub Tallies : SearchEnd → List ℕ → Answer SearchRefusal (State Path) → Type 0
Tallies (Ok f) ns (ok u) = ns ≡ lengths base (edge_lists u.kept)
Tallies (Ok f) ns (refuse y) = ⊥
Tallies (Err x) ns (ok u) = ⊥
Tallies (Err x) ns (refuse y) = x ≡ y

-- the limits of a tally: complete paths are counted, and none is kept
abbrev pub none_kept : SearchLimits
none_kept = record { length = None; expansions = None; complete = Some 0 }

-- what the definitions answer to a tally on a graph
abbrev pub tallied_on : Graph → List ℕ → ℕ → Answer SearchRefusal (State Path)
tallied_on g ws n = direct base None (tally_setting (whole_slots slot_length (length ws))) (view_of g) n
