-- What hiding does to a filled index. Document 02, order 8.
use Rattle.std.specs.Prelude.{ℕ, ◌+◌, ◌*◌, ◌≤◌, ◌≡◌, Bool, List, length, ltb}
use Rattle.semantics.specs.declared.answer.Counts.{Counts}
use Rattle.semantics.specs.declared.graph.Node.{Node}
use Rattle.semantics.specs.declared.graph.Edge.{Edge}
use Rattle.semantics.specs.declared.graph.Edge.TheVariants as E
use Rattle.semantics.specs.Lists.{pick, and}
use Rattle.semantics.specs.Acceptance.{is_live}
use Rattle.semantics.specs.Graph.{Graph}
use Rattle.semantics.specs.Hidden.{seen_node, edge_if}
use Rattle.image.specs.Filling.{Filled}
use Rattle.image.specs.Index.{EDGES, BLOCK, Blocks}
pub mod Laws
pub mod Whole

-- the counts are those of the graph
pub record Counted (counts : Counts) (g : Graph) : Type 0 where
  pub file-count : counts.files ≡ g.files
  pub node-count : counts.nodes ≡ length g.nodes
  pub edge-count : counts.edges ≡ length g.edges

-- the index has a block for each node and for each edge that is counted
pub record Fits (counts : Counts) (index : List ℕ) : Type 0 where
  pub blocks : Blocks index
  pub nodes-bound : (counts.nodes ≤ EDGES) × (BLOCK * counts.nodes ≤ length index)
  pub edges-bound : (counts.edges ≤ EDGES) × (BLOCK * counts.edges ≤ length index)

-- nodes below k as they are seen, the others as they were
abbrev pub seen_to : (ℕ → Bool) → ℕ → (ℕ → Node) → ℕ → Node
seen_to see k f j = pick (ltb j k) (seen_node see (f j)) (f j)

abbrev pub NodeHidden : (ℕ → Bool) → ℕ → List ℕ → List ℕ → Type 0
NodeHidden see n before after = (f : ℕ → Node) (D : ℕ → Edge) → Filled (seen_to see n f) D before → Filled (seen_to see (n + 1) f) D after

abbrev pub NodesHidden : (ℕ → Bool) → ℕ → List ℕ → List ℕ → Type 0
NodesHidden see k before after = (f : ℕ → Node) (D : ℕ → Edge) → Filled f D before → Filled (seen_to see k f) D after

-- an edge both of whose ends are live, or a removed one
unfoldable pub pruned : (ℕ → Node) → Edge → Edge
unfolding edge_if
pruned F E.Removed = E.Removed
pruned F (E.Live s t p) = edge_if (and (is_live (F s.0)) (is_live (F t.0))) s t p

abbrev pub pruned_to : (ℕ → Node) → ℕ → (ℕ → Edge) → ℕ → Edge
pruned_to F k f j = pick (ltb j k) (pruned F (f j)) (f j)

abbrev pub EdgeHidden : ℕ → List ℕ → List ℕ → Type 0
EdgeHidden e before after = (F : ℕ → Node) (f : ℕ → Edge) → Filled F (pruned_to F e f) before → Filled F (pruned_to F (e + 1) f) after

abbrev pub EdgesHidden : ℕ → List ℕ → List ℕ → Type 0
EdgesHidden k before after = (F : ℕ → Node) (f : ℕ → Edge) → Filled F f before → Filled F (pruned_to F k f) after
