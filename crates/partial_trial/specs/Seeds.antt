-- The starts of an owner's partial paths, pushed one after another.
-- Document 01, "Partial paths": "Starts: root, then the file's references and exported scopes by number"; document 02, order 5.
use Rattle.std.specs.Prelude.{ℕ, List, [], ◌∷◌, map, eqb, length}
use Rattle.semantics.specs.Lists.{pick, and}
use Rattle.semantics.specs.Limits.{nobody}
use Rattle.semantics.specs.Answer.{ok}
use Rattle.semantics.specs.Graph.{Graph, View, view_of, file_of, is_file, is_start}
use Rattle.semantics.specs.Enumeration.{State, push_item}
use Rattle.semantics.specs.Enumeration as Enumeration
use Rattle.semantics.specs.PartialPaths.{Route, route_at, starts_from}
use Rattle.words.specs.Slots.{IsSlot}
use Rattle.partial_state.specs.declared.filing.Filing.{Filing}
use Rattle.partial_state.specs.Reps.{frame_of, setting_of, Rep, Tells}
use Rattle.partial_state.specs.Extractions.{Computation, Course}
pub mod Laws

-- root, then a file's own starts; nobody has none
abbrev pub starts_of : Graph → ℕ → List Route
starts_of g owner = route_at 0 ∷ pick (eqb owner nobody) [] (map route_at (starts_from owner 0 g.nodes))

-- the computation before its first expansion; the database stays out of it
pub record Seeding (item : List ℕ) (x : Computation) (ws : List ℕ) : Type 0 where
  pub view : View
  pub filing : Filing
  pub origin : List ℕ
  pub database : List ℕ
  pub slot : IsSlot x.frontier.length item
  pub model : State Route
  pub rep : Rep view filing origin x ws database model

module _ (item : List ℕ) (x : Computation) (ws : List ℕ) (v : Seeding item x ws) where
  -- the route without edges from node n
  abbrev pub Started : ℕ → Course → List ℕ → Type 0
  Started n a ws' = Tells v.view v.filing v.origin (frame_of x) a ws' v.database (push_item (setting_of (frame_of x)) (route_at n) v.model)

  -- node n if it is a start of the file
  abbrev pub NodeSeeded : Graph → ℕ → ℕ → Course → List ℕ → Type 0
  NodeSeeded g file n a ws' =
      Tells v.view v.filing v.origin (frame_of x) a ws' v.database
      (pick (and (is_file file (file_of ((view_of g).node n))) (is_start ((view_of g).node n))) (push_item (setting_of (frame_of x)) (route_at n) v.model) (ok v.model))

  -- the file's own starts
  abbrev pub FileSeeded : Graph → ℕ → Course → List ℕ → Type 0
  FileSeeded g file a ws' = Tells v.view v.filing v.origin (frame_of x) a ws' v.database (Enumeration.seed (setting_of (frame_of x)) v.model (map route_at (starts_from file 0 g.nodes)))

  -- all starts of the owner
  abbrev pub Seeded : Graph → ℕ → Course → List ℕ → Type 0
  Seeded g owner a ws' = Tells v.view v.filing v.origin (frame_of x) a ws' v.database (Enumeration.seed (setting_of (frame_of x)) v.model (starts_of g owner))
