-- The rounds of a search from a reference, in code against the enumeration, for every choice of what is tried on a path.
-- Document 01, "Answer" and "Budget and frontier".
use Rattle.std.specs.Prelude.{Result, ℕ, ◌-◌, ◌*◌, ◌<◌, ◌≤◌, ◌≡◌, List, length, Ok, Err}
use Rattle.semantics.specs.Limits.{steps_length, slot_length, max_expansions, Limit}
use Rattle.semantics.specs.declared.refusal.SearchRefusal.{SearchRefusal}
use Rattle.semantics.specs.Answer.{Answer, ok, refuse}
use Rattle.semantics.specs.Graph.{Graph, View, view_of}
use Rattle.semantics.specs.Path.{Path, from_reference}
use Rattle.semantics.specs.Enumeration.{State, Try, each, run, merge}
use Rattle.words.specs.Slots.{IsSlot}
use Rattle.storage.specs.Index.{Loaded}
use Rattle.stepping.specs.Judged.{Stepped}
use Rattle.search_state.specs.declared.search.Search as S
use Rattle.search_state.specs.declared.search.Finished.{Finished}
use Rattle.search_state.specs.Searches.{Going}
use Rattle.search_state.specs.Items.{Clear}
use Rattle.search_state.specs.Retraces.{Laid}
use Rattle.search_state.specs.declared.progress.Frame.{Frame}
use Rattle.search_state.specs.Progresses.{frame_of}
use Rattle.search_state.specs.Reps.{slot_of, Counts, setting_of, Replayed, Rep, Tells}
pub mod Laws

-- what is tried on a path, under a limit on its length
abbrev pub Tries : Type 0
Tries = Limit → View → Path → List (Try SearchRefusal Path)

-- A ROUND: the path in the item was popped, steps 0 to n stand in the steps; at most `most` were looked at
pub record Rounding (most : ℕ) (index steps item : List ℕ) (n : ℕ) (s : S.Search) (ws rs : List ℕ) : Type 0 where
  pub graph : Graph
  pub loaded : Loaded graph index
  pub reference : ℕ
  pub first : Path
  pub starts : from_reference (view_of graph) reference ≡ ok first
  pub begun : Stepped steps 0 first
  pub laid : Laid (view_of graph) first steps n
  pub long : steps_length ≤ length steps
  pub path : Path
  pub words : item ≡ slot_of path
  pub good : Replayed (view_of graph) reference path
  pub fits : length path.edges < s.frontier.length
  pub model : State Path
  pub rep : Rep (view_of graph) reference s ws rs model
  pub small : model.tally.looked ≤ most

pub record Rounded (tries : Tries) (most : ℕ) (index steps item : List ℕ) (n : ℕ) (s : S.Search) (ws rs : List ℕ) (v : Rounding most index steps item n s ws rs) (a : Going) (steps' ws' rs' : List ℕ) : Type 0 where
  pub tells : Tells (view_of v.graph) v.reference (frame_of s) a ws' rs' (each (setting_of (frame_of s)) v.model (tries (frame_of s).limits.length (view_of v.graph) v.path))
  pub begun : Stepped steps' 0 v.first
  pub laid : Laid (view_of v.graph) v.first steps' (length v.path.edges)

-- THE WHOLE SEARCH, from a state of the enumeration on
pub record Driving (index steps item : List ℕ) (s : S.Search) (ws rs : List ℕ) : Type 0 where
  pub graph : Graph
  pub loaded : Loaded graph index
  pub reference : ℕ
  pub first : Path
  pub starts : from_reference (view_of graph) reference ≡ ok first
  pub begun : Stepped steps 0 first
  pub long : steps_length ≤ length steps
  pub slot : IsSlot slot_length item
  pub clear : Clear s.frontier.length item
  pub model : State Path
  pub rep : Rep (view_of graph) reference s ws rs model
  pub looked : model.tally.looked ≤ 4096 * s.state.budget.expanded
  pub expanded : s.state.budget.expanded ≤ max_expansions

-- how the rounds end: the search is over, or refused
abbrev pub SearchEnd : Type 0
SearchEnd = Result Finished SearchRefusal

-- the search is over with this state and waiting figure, or refused alike
abbrev pub Ends : SearchEnd → List ℕ → Answer SearchRefusal (State Path) → Type 0
Ends (Ok f) rs (ok u) = Counts f.state rs u × (f.waited ≡ u.tally.waited)
Ends (Ok f) rs (refuse y) = ⊥
Ends (Err x) rs (ok u) = ⊥
Ends (Err x) rs (refuse y) = x ≡ y

-- the run from a state on, in a frame
abbrev pub run_from : Tries → View → Frame → ℕ → State Path → Answer SearchRefusal (State Path)
run_from tries g f n m = run (setting_of f) (tries f.limits.length g) n (merge f.order m)

module _ (tries : Tries) (index steps item : List ℕ) (s : S.Search) (ws rs : List ℕ) (v : Driving index steps item s ws rs) where
  -- the enumeration's answer from here on
  abbrev pub run_of : Answer SearchRefusal (State Path)
  run_of = run_from tries (view_of v.graph) (frame_of s) (max_expansions - s.state.budget.expanded) v.model

  abbrev pub DrivenTo : SearchEnd → List ℕ → Type 0
  DrivenTo a rs' = Ends a rs' run_of
