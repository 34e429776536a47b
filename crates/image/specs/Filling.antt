-- An index while it is filled: records below a number are in place, the others stand as removed, and no edge is linked yet.
-- Serves document 01, "Graph image": the blocks are filled in the pass that checks the records.
use Rattle.std.specs.Prelude.{ℕ, ◌<◌, ◌≡◌, List, ltb}
use Rattle.semantics.specs.declared.graph.Node.{Node}
use Rattle.semantics.specs.declared.graph.Edge.{Edge}
use Rattle.semantics.specs.Lists.{pick}
use Rattle.semantics.specs.Graph.{Graph, view_of}
use Rattle.image.specs.Index.{KIND, Blocks, cell, node_row, edge_row, first_row}
pub mod Laws

-- the first k of a sequence, and d behind them
abbrev pub upto : {A : Type 0} → ℕ → (ℕ → A) → A → ℕ → A
upto k f d j = pick (ltb j k) (f j) d

pub record Filled (nodes : ℕ → Node) (edges : ℕ → Edge) (index : List ℕ) : Type 0 where
  pub long : Blocks index
  pub node : (n : ℕ) → node_row index n ≡ nodes n
  pub edge : (e : ℕ) → edge_row index e ≡ edges e
  pub kinds : (n : ℕ) → cell index KIND n < 9
  pub unlinked : (n : ℕ) → first_row index n ≡ 0

-- all records of the graph are in place
abbrev pub Held : Graph → List ℕ → Type 0
Held g index = Filled (view_of g).node (view_of g).edge index
