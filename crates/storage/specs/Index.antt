-- The loaded form of a graph: an index whose edges are linked, and what it means that it holds a graph.
-- Document 01, "Graph image": `outgoing`, the live edges of a node by ascending number.
use Rattle.std.specs.Prelude.{ℕ, ◌+◌, ◌≤◌, ◌≡◌, Bool, true, false, List, [], ◌∷◌, leb, length}
use Rattle.semantics.specs.declared.graph.Node.{Node}
use Rattle.semantics.specs.declared.graph.Node.TheVariants as N
use Rattle.semantics.specs.Lists.{and}
use Rattle.semantics.specs.Graph.{Graph, view_of}
use Rattle.semantics.specs.Image.{first_record, nodes_of, edges_of}
use Rattle.image.specs.Records.{Headed, Room}
-- the blocks themselves are those that the pass over the image fills; crates above find both here
pub use Rattle.image.specs.Index.{NODES, EDGES, BLOCK, KIND, FLAG, FILE, SYMBOL, SYMBOL-HIGH, SCOPE, FIRST, SOURCE, TARGET, NEXT, PRECEDENCE, INDEX, FEW, SMALL, Blocks, symbol_row, first_row, Fresh}
unfoldable pub use Rattle.image.specs.Index.{cell, node_of, edge_of, node_row, edge_row, put}
pub mod Laws
pub mod Use

abbrev pub next_row : List ℕ → ℕ → ℕ
next_row index e = cell index NEXT e

-- where a live edge leads
abbrev pub target_row : List ℕ → ℕ → ℕ
target_row index e = cell index TARGET e

-- root and scopes, which change neither stack
abbrev pub is_plain : Node → Bool
is_plain N.Removed = false
is_plain N.Root = true
is_plain N.JumpToScope = false
is_plain (N.Scope f exported) = true
is_plain (N.Push f symbol reference) = false
is_plain (N.Pop f symbol definition) = false
is_plain (N.PushScoped f symbol scope reference) = false
is_plain (N.PopScoped f symbol definition) = false
is_plain (N.DropScopes f) = false

-- following the links from `link` on runs over just these edges
abbrev pub Runs : List ℕ → ℕ → List ℕ → Type 0
Runs index link [] = link ≡ 0
Runs index link (e ∷ es) = (link ≡ e + 1) × Runs index (next_row index e) es

-- the index holds the graph
pub record Loaded (g : Graph) (index : List ℕ) : Type 0 where
  pub long : Blocks index
  pub node : (n : ℕ) → node_row index n ≡ (view_of g).node n
  pub edge : (e : ℕ) → edge_row index e ≡ (view_of g).edge e
  pub runs : (n : ℕ) → Runs index (first_row index n) ((view_of g).out n)
  pub nodes : length g.nodes ≤ NODES
  pub edges : length g.edges ≤ EDGES

-- an index that takes an image: there is nothing in it yet, and for an accepted header it has a block for each node and each edge
pub record Takes (im index : List ℕ) : Type 0 where
  pub fresh : Fresh index
  pub room : Headed im → Room im index

-- a small index takes the image: its header is there, and counts at most FEW nodes and FEW edges
unfoldable pub is_small : List ℕ → Bool
is_small im = and (leb first_record (length im)) (and (leb (nodes_of im) FEW) (leb (edges_of im) FEW))

-- the edge is put in front of those that leave its source s
unfoldable pub put_link : ℕ → ℕ → List ℕ → List ℕ
unfolding cell put
put_link e s index = put FIRST s (e + 1) (put NEXT e (cell index FIRST s) index)

-- THE INDEX HOLDS A GRAPH: what every search and computation on a loaded graph asks
pub record HoldsGraph (index : List ℕ) : Type 0 where
  pub graph : Graph
  pub loaded : Loaded graph index

-- one of so many nodes
pub record HoldsNodes (index : List ℕ) (nodes : ℕ) : Type 0 where
  pub holds : HoldsGraph index
  pub node-count : nodes ≡ length holds.graph.nodes

-- and of so many files
pub record Sized (index : List ℕ) (nodes files : ℕ) : Type 0 where
  pub holds : HoldsGraph index
  pub node-count : nodes ≡ length holds.graph.nodes
  pub file-count : files ≡ holds.graph.files
