-- The last part of the whole check, as the code calls it, and the index that an accepted image leaves before its edges are linked.
-- Document 01, "Turned back": the header, the records in order, bytes left over, and last 5 in record order.
use Rattle.std.specs.Prelude.{ℕ, ◌*◌, ◌≤◌, Bool, true, false, List, length}
use Rattle.semantics.specs.declared.refusal.ImageRefusal.{ImageRefusal}
use Rattle.semantics.specs.Answer.{Answer, ok, and_then}
use Rattle.semantics.specs.Graph.{Graph}
use Rattle.semantics.specs.Hidden.{seen}
use Rattle.semantics.specs.Image.{references}
use Rattle.image.specs.Filling.{Held}
use Rattle.image.specs.Records.{graph_read}
use Rattle.storage.specs.Index.{NODES, EDGES, BLOCK}
use Rattle.storage.specs.References.{Sources}
pub mod Laws

-- what the records refer to: the graph
abbrev pub references_of : List ℕ → Answer ImageRefusal Graph
references_of im = and_then (references im (graph_read im)) (λ x. ok (graph_read im))

-- what is loaded of a graph: the whole, or what a set of files lets be seen
abbrev pub shown : Bool → (ℕ → Bool) → Graph → Graph
shown true see g = g
shown false see g = seen see g

-- the records of the graph are in place, each with a block, and no edge is linked yet
pub record Unlinked (g : Graph) (index : List ℕ) : Type 0 where
  pub held : Held g index
  pub sources : Sources index
  pub nodes : length g.nodes ≤ NODES
  pub edges : length g.edges ≤ EDGES
  pub node-room : BLOCK * length g.nodes ≤ length index
  pub edge-room : BLOCK * length g.edges ≤ length index
