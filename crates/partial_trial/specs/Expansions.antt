-- The expansion of a route by the edges of its owner, a file or nobody, in code against the enumeration.
-- Document 01, "Partial paths": `StackPartialPathSet::compute`; document 02, order 5.
use Rattle.std.specs.Prelude.{ℕ, ◌+◌, ◌<◌, ◌≤◌, ◌≡◌, ◌⊎◌, Bool, true, false, eqb, length}
use mathlib.Core.List.{List, Memᴰ}
use Rattle.semantics.specs.declared.graph.Node.{Node}
use Rattle.semantics.specs.declared.refusal.PartialPathRefusal.{PartialPathRefusal}
use Rattle.semantics.specs.Lists.{or, pick}
use Rattle.semantics.specs.Limits.{base, slot_length, nobody}
use Rattle.semantics.specs.Answer.{Answer, ok}
use Rattle.semantics.specs.Graph.{Graph, view_of, file_of, is_file, lacks_file}
use Rattle.semantics.specs.Enumeration.{State, Try, one, each}
use Rattle.semantics.specs.PartialPaths.{Route, owned_by, reached, judge_route, route_tries}
use Rattle.storage.specs.Index.{Loaded}
use Rattle.search_state.specs.Items.{Carries}
use Rattle.partial_state.specs.declared.route.Ends as R
use Rattle.partial_state.specs.declared.filing.Filing.{Filing}
use Rattle.partial_state.specs.declared.extraction.ExtractionFrame.{ExtractionFrame}
use Rattle.partial_state.specs.Routes.{Waiting}
use Rattle.partial_state.specs.Filings.{Fits}
use Rattle.partial_state.specs.Reps.{frame_of, setting_of, Rep, Tells}
use Rattle.partial_state.specs.Extractions.{Computation, Course}
use Rattle.partial_trial.specs.declared.expand.Sought.{Sought}
pub mod Laws
pub mod Edges

-- which edges of a node an owner has, as far as the node tells
unfoldable pub sought_from : ℕ → Node → Sought
unfolding lacks_file is_file
sought_from f n =
    pick (eqb f nobody) (record { all = false; of_file = false; fileless = lacks_file (file_of n) }) (record { all = is_file f (file_of n); of_file = true; fileless = false })

-- and of these one to a node
unfoldable pub leads_to : ℕ → Sought → Node → Bool
unfolding lacks_file is_file
leads_to f s t = pick s.of_file (is_file f (file_of t)) (pick s.fileless (lacks_file (file_of t)) false)

abbrev pub is_sought : ℕ → Sought → Node → Bool
is_sought f s t = or s.all (leads_to f s t)

-- behind k edges a slot of L words has room for one more, or is as long as any
abbrev pub Roomy : ℕ → ℕ → Type 0
Roomy k L = (k + 1 < L) ⊎ (L ≡ slot_length)

-- THE ROUTE UNDER EXPANSION: its edges in the item, and the state of the enumeration; at most `most` edges were looked at
pub record Given (most : ℕ) (index : List ℕ) (f : Filing) (start k : ℕ) (item : List ℕ) (x : Computation) (ws db : List ℕ) : Type 0 where
  pub graph : Graph
  pub loaded : Loaded graph index
  pub origin : List ℕ
  pub route : Route
  pub starts : start ≡ route.start
  pub count : length route.edges ≡ k
  pub carries : Carries x.frontier.length item route.edges
  pub good : Waiting (view_of graph) f.file x.frontier.length route
  pub room : Roomy k x.frontier.length
  pub fits : Fits f db
  pub model : State Route
  pub rep : Rep (view_of graph) f origin x ws db model
  pub small : model.tally.looked ≤ most

-- an edge leaves the route's end
pub record Looking (most : ℕ) (index : List ℕ) (f : Filing) (start k e : ℕ) (item : List ℕ) (x : Computation) (ws db : List ℕ) : Type 0 where
  pub given : Given most index f start k item x ws db
  pub leaves : Memᴰ e ((view_of given.graph).out given.route.current)

-- and it is known which of that node's edges are the owner's
pub record Owning (most : ℕ) (index : List ℕ) (f : Filing) (start k e : ℕ) (item : List ℕ) (x : Computation) (ws db : List ℕ) (own : Sought) : Type 0 where
  pub looking : Looking most index f start k e item x ws db
  pub known : own ≡ sought_from f.file ((view_of looking.given.graph).node looking.given.route.current)

-- an edge that belongs to the owner
pub record Trying (most : ℕ) (index : List ℕ) (f : Filing) (start k e : ℕ) (item : List ℕ) (x : Computation) (ws db : List ℕ) : Type 0 where
  pub looking : Looking most index f start k e item x ws db
  pub owned : owned_by (view_of looking.given.graph) f.file e ≡ true

-- what becomes of an edge of the owner
abbrev pub judge_of : ExtractionFrame → Graph → Route → ℕ → Try PartialPathRefusal Route
judge_of fr g r e = judge_route base fr.length (view_of g) r e

module _ {most : ℕ} {index : List ℕ} {f : Filing} {start k : ℕ} {item : List ℕ} {x : Computation} {ws db : List ℕ} (v : Given most index f start k item x ws db) where
  -- the enumeration's answer, and the item with the same route in front
  pub record Answered (a : Course) (item' ws' db' : List ℕ) (t : Answer PartialPathRefusal (State Route)) : Type 0 where
    pub tells : Tells (view_of v.graph) f v.origin (frame_of x) a ws' db' t
    pub carries : Carries x.frontier.length item' v.route.edges

module _ (most : ℕ) (index : List ℕ) (f : Filing) (start k e : ℕ) (item : List ℕ) (x : Computation) (ws db : List ℕ) where
  -- the answer to an edge that is neither cut nor too long
  abbrev pub Lengthened : Trying most index f start k e item x ws db → Course → List ℕ → List ℕ → List ℕ → Type 0
  Lengthened t a item' ws' db' =
      let v = t.looking.given in
      Answered v a item' ws' db' (one (setting_of (frame_of x)) v.model (reached (view_of v.graph) v.route e))

  -- to an edge of the owner
  abbrev pub Tried : Trying most index f start k e item x ws db → Course → List ℕ → List ℕ → List ℕ → Type 0
  Tried t a item' ws' db' =
      let v = t.looking.given in
      Answered v a item' ws' db' (one (setting_of (frame_of x)) v.model (judge_of (frame_of x) v.graph v.route e))

  -- to any edge
  abbrev pub Looked : Looking most index f start k e item x ws db → Course → List ℕ → List ℕ → List ℕ → Type 0
  Looked l a item' ws' db' =
      let v = l.given in
      Answered v a item' ws' db' (pick (owned_by (view_of v.graph) f.file e) (one (setting_of (frame_of x)) v.model (judge_of (frame_of x) v.graph v.route e)) (ok v.model))

-- ALL ITS EDGES
pub record Expanding (most : ℕ) (index : List ℕ) (f : Filing) (ends : R.Ends) (k : ℕ) (item : List ℕ) (x : Computation) (ws db : List ℕ) : Type 0 where
  pub given : Given most index f ends.start k item x ws db
  pub stands : ends.end ≡ given.route.current

abbrev pub tries_of : ExtractionFrame → Graph → ℕ → Route → List (Try PartialPathRefusal Route)
tries_of fr g file r = route_tries base fr.length (view_of g) (owned_by (view_of g) file) r

abbrev pub Expanded : (most : ℕ) (index : List ℕ) (f : Filing) (ends : R.Ends) (k : ℕ) (item : List ℕ) (x : Computation) (ws db : List ℕ) → Expanding most index f ends k item x ws db → Course → List ℕ → List ℕ → Type 0
Expanded most index f ends k item x ws db u a ws' db' =
    let v = u.given in
    Tells (view_of v.graph) f v.origin (frame_of x) a ws' db' (each (setting_of (frame_of x)) v.model (tries_of (frame_of x) v.graph f.file v.route))
