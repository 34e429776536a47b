-- A filled index while its edges are linked, from the last one down.
-- Serves document 01, "Graph image": `outgoing`.
use Rattle.std.specs.Prelude.{ℕ, ◌≤◌, ◌≡◌, List, length, drop}
use Rattle.semantics.specs.Graph.{Graph, view_of, outgoing}
use Rattle.storage.specs.Index.{NODES, EDGES, Blocks, node_row, edge_row, first_row, Runs}
pub mod Laws

-- the records of the graph are in place, and the edges from e on are linked
pub record Linked (g : Graph) (index : List ℕ) (e : ℕ) : Type 0 where
  pub long : Blocks index
  pub node : (n : ℕ) → node_row index n ≡ (view_of g).node n
  pub edge : (k : ℕ) → edge_row index k ≡ (view_of g).edge k
  pub runs : (n : ℕ) → Runs index (first_row index n) (outgoing n e (drop e g.edges))
  pub nodes : length g.nodes ≤ NODES
  pub edges : length g.edges ≤ EDGES
