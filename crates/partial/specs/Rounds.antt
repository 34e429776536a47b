-- The rounds of a computation, in code against the enumeration.
-- Document 01, "Partial paths": `StackPartialPathSet::compute`.
use Rattle.std.specs.Prelude.{ℕ, ◌-◌, ◌*◌, ◌<◌, ◌≤◌, ◌≡◌, ◌⊎◌, Bool, false, List, ◌++◌, Result, Ok, Err, leb, ltb, length, take, get_or}
use Rattle.semantics.specs.Limits.{slot_length, max_expansions}
use Rattle.semantics.specs.declared.search.PartialPathStats.{PartialPathStats}
use Rattle.semantics.specs.declared.refusal.PartialPathRefusal.{PartialPathRefusal}
use Rattle.semantics.specs.Lists.{and}
use Rattle.semantics.specs.Answer.{Answer, ok, refuse}
use Rattle.semantics.specs.Words.{zeros}
use Rattle.semantics.specs.Graph.{Graph, view_of}
use Rattle.semantics.specs.Enumeration.{State, each, run, merge}
use Rattle.semantics.specs.PartialPaths.{Route, partial_stats}
use Rattle.storage.specs.Index.{Loaded}
use Rattle.words.specs.Slots.{IsSlot}
use Rattle.partial_state.specs.declared.filing.Filing.{Filing}
use Rattle.partial_state.specs.declared.extraction.ExtractionFrame.{ExtractionFrame}
use Rattle.partial_state.specs.Routes.{held, Waiting}
use Rattle.partial_state.specs.Filings.{Fits, filed_in}
use Rattle.partial_state.specs.Reps.{frame_of, setting_of, Rep, Untouched, Tells}
use Rattle.partial_state.specs.Extractions.{Computation, Course, Grows}
use Rattle.partial_trial.specs.Expansions.{Roomy, tries_of}
pub mod Laws
pub mod Kept

-- ROOM FOR ONE MORE EDGE behind the route in the front of the item: the slots become longer, and the rest of the item zeros
pub record Grown (x : Computation) (item ws : List ℕ) (y : Computation) (item' ws' : List ℕ) : Type 0 where
  pub words : ℕ
  pub longer : x.frontier.length < words
  pub most : words ≤ slot_length
  pub grows : Grows x ws words y ws'
  pub rest : item' ≡ take x.frontier.length item ++ zeros (slot_length - x.frontier.length)

-- or there is room, or no slot is longer
abbrev pub MadeRoom : Computation → List ℕ → List ℕ → Computation → List ℕ → List ℕ → Type 0
MadeRoom x item ws y item' ws' = ((y ≡ x) × (item' ≡ item) × (ws' ≡ ws) × Roomy (get_or item 0 0) x.frontier.length) ⊎ Grown x item ws y item' ws'

-- A ROUND: the route in the item was popped
pub record Rounding (most : ℕ) (index : List ℕ) (f : Filing) (item : List ℕ) (x : Computation) (ws db : List ℕ) : Type 0 where
  pub graph : Graph
  pub loaded : Loaded graph index
  pub origin : List ℕ
  pub route : Route
  pub words : item ≡ held x.frontier.length route
  pub good : Waiting (view_of graph) f.file x.frontier.length route
  pub room : Roomy (length route.edges) x.frontier.length
  pub fits : Fits f db
  pub model : State Route
  pub rep : Rep (view_of graph) f origin x ws db model
  pub small : model.tally.looked ≤ most

abbrev pub Rounded : (most : ℕ) (index : List ℕ) (f : Filing) (item : List ℕ) (x : Computation) (ws db : List ℕ) → Rounding most index f item x ws db → Course → List ℕ → List ℕ → Type 0
Rounded most index f item x ws db v a ws' db' =
    Tells (view_of v.graph) f v.origin (frame_of x) a ws' db' (each (setting_of (frame_of x)) v.model (tries_of (frame_of x) v.graph f.file v.route))

-- THE WHOLE COMPUTATION, from a state of the enumeration on
pub record Driving (index : List ℕ) (f : Filing) (item : List ℕ) (x : Computation) (ws db : List ℕ) : Type 0 where
  pub graph : Graph
  pub loaded : Loaded graph index
  pub origin : List ℕ
  pub slot : IsSlot slot_length item
  pub fits : Fits f db
  pub model : State Route
  pub rep : Rep (view_of graph) f origin x ws db model
  pub looked : model.tally.looked ≤ 4096 * x.budget.expanded
  pub expanded : x.budget.expanded ≤ max_expansions

-- as many are found as there is room for, and there is room for some
abbrev pub is_filed : Filing → ℕ → Bool
is_filed f found = and (ltb 0 f.room) (leb f.room found)

abbrev pub nothing_counted : PartialPathStats
nothing_counted = record { expanded = 0; found = 0; cycles = 0; length_limited = false; count_limited = false; waited = 0 }

-- it has ended with this state, whose found routes are filed, or is refused alike. Without room for any, the counts are those of the state;
-- with room it ends as soon as that is taken, whatever would come behind
abbrev pub Ends : Filing → List ℕ → Result PartialPathStats PartialPathRefusal → List ℕ → Answer PartialPathRefusal (State Route) → Type 0
Ends f origin (Ok stats) db (ok u) = (f.room ≡ 0 → (stats ≡ partial_stats u) × (stats.found ≡ length u.kept)) × (db ≡ filed_in f u.kept origin)
Ends f origin (Ok stats) db (refuse y) = 0 < f.room
Ends f origin (Err r) db (ok u) = ⊥
Ends f origin (Err r) db (refuse y) = (r ≡ y) × Untouched f origin db

-- the enumeration's run with so many expansions left
abbrev pub run_from : ExtractionFrame → Graph → ℕ → ℕ → State Route → Answer PartialPathRefusal (State Route)
run_from fr g file n m = run (setting_of fr) (tries_of fr g file) n (merge fr.order m)

abbrev pub DrivenTo : (index : List ℕ) (f : Filing) (item : List ℕ) (x : Computation) (ws db : List ℕ) → Driving index f item x ws db → Result PartialPathStats PartialPathRefusal → List ℕ → Type 0
DrivenTo index f item x ws db v a db' = Ends f v.origin a db' (run_from (frame_of x) v.graph f.file (max_expansions - x.budget.expanded) v.model)
