-- The blocks of an index: the places of the words, the record that the words of a number are, and writing one.
-- Document 01, "Graph image": the fields of each record.
use Rattle.std.specs.Prelude.{ℕ, ◌+◌, ◌*◌, ◌-◌, ◌%◌, ◌≡◌, List, eqb, length, get_or, set}
use Rattle.semantics.specs.declared.graph.Node.{Node}
use Rattle.semantics.specs.declared.graph.Node.TheVariants as N
use Rattle.semantics.specs.declared.graph.Edge.{Edge}
use Rattle.semantics.specs.declared.graph.Edge.TheVariants as E
use Rattle.semantics.specs.Lists.{pick}
use Rattle.semantics.specs.Halves.{joined}
use Rattle.semantics.specs.Bytes.{signed}
use Rattle.semantics.specs.Graph.{node_id, file_id}
pub mod Laws

-- THE LAYOUT. The words of node n and of edge n stand side by side in block n: those of the node first, the link to its first edge last of them
abbrev pub NODES : ℕ
NODES = 2048

abbrev pub EDGES : ℕ
EDGES = 4096

abbrev pub BLOCK : ℕ
BLOCK = 11

abbrev pub KIND : ℕ
KIND = 0

abbrev pub FLAG : ℕ
FLAG = 1

abbrev pub FILE : ℕ
FILE = 2

abbrev pub SYMBOL : ℕ
SYMBOL = 3

abbrev pub SYMBOL-HIGH : ℕ
SYMBOL-HIGH = 4

abbrev pub SCOPE : ℕ
SCOPE = 5

abbrev pub FIRST : ℕ
FIRST = 6

abbrev pub SOURCE : ℕ
SOURCE = 7

abbrev pub TARGET : ℕ
TARGET = 8

abbrev pub NEXT : ℕ
NEXT = 9

abbrev pub PRECEDENCE : ℕ
PRECEDENCE = 10

-- THE SIZES: an index for every image, and one for an image with at most FEW nodes and at most FEW edges
abbrev pub INDEX : ℕ
INDEX = BLOCK * EDGES

abbrev pub FEW : ℕ
FEW = 128

abbrev pub SMALL : ℕ
SMALL = BLOCK * FEW

-- an index is a list of whole blocks, so that the first word of a block stands for all of them
abbrev pub Blocks : List ℕ → Type 0
Blocks index = length index % BLOCK ≡ 0

-- a word of block n; 0 behind the last block
unfoldable pub cell : List ℕ → ℕ → ℕ → ℕ
cell index row n = get_or index (BLOCK * n + row) 0

-- A RECORD FROM ITS WORDS
unfoldable pub node_of : ℕ → ℕ → ℕ → ℕ → ℕ → Node
node_of kind flag file symbol scope =
    pick (eqb kind 1) N.Root
    (pick (eqb kind 2) N.JumpToScope
    (pick (eqb kind 3) (N.Scope (file_id file) (eqb flag 1))
    (pick (eqb kind 4) (N.Push (file_id file) symbol (eqb flag 1))
    (pick (eqb kind 5) (N.Pop (file_id file) symbol (eqb flag 1))
    (pick (eqb kind 6) (N.PushScoped (file_id file) symbol (node_id scope) (eqb flag 1))
    (pick (eqb kind 7) (N.PopScoped (file_id file) symbol (eqb flag 1))
    (pick (eqb kind 8) (N.DropScopes (file_id file)) N.Removed)))))))

-- the first word is the source plus 1, or 0 where the edge is removed
unfoldable pub edge_of : ℕ → ℕ → ℕ → Edge
edge_of source target precedence = pick (eqb source 0) E.Removed (E.Live (node_id (source - 1)) (node_id target) (signed precedence))

-- WHAT AN INDEX HOLDS, whatever its words are
abbrev pub symbol_row : List ℕ → ℕ → ℕ
symbol_row index n = joined (cell index SYMBOL n) (cell index SYMBOL-HIGH n)

unfoldable pub node_row : List ℕ → ℕ → Node
unfolding cell node_of
node_row index n = node_of (cell index KIND n) (cell index FLAG n) (cell index FILE n) (symbol_row index n) (cell index SCOPE n)

unfoldable pub edge_row : List ℕ → ℕ → Edge
unfolding cell edge_of
edge_row index e = edge_of (cell index SOURCE e) (cell index TARGET e) (cell index PRECEDENCE e)

-- a link is an edge's number plus 1; 0 is none
abbrev pub first_row : List ℕ → ℕ → ℕ
first_row index n = cell index FIRST n

-- an index that holds nothing yet: no node, no edge, no link
pub record Fresh (index : List ℕ) : Type 0 where
  pub long : Blocks index
  pub clear : (i : ℕ) → get_or index i 0 ≡ 0

-- WRITING A RECORD
unfoldable pub put : ℕ → ℕ → ℕ → List ℕ → List ℕ
put row n v index = set index (BLOCK * n + row) v

-- a symbol in two words
unfoldable pub put_node : ℕ → ℕ → ℕ → ℕ → ℕ → ℕ → ℕ → List ℕ → List ℕ
unfolding put
put_node n kind flag file low high scope index = put SCOPE n scope (put SYMBOL-HIGH n high (put SYMBOL n low (put FILE n file (put FLAG n flag (put KIND n kind index)))))

unfoldable pub put_edge : ℕ → ℕ → ℕ → ℕ → List ℕ → List ℕ
unfolding put
put_edge e source target precedence index = put PRECEDENCE e precedence (put TARGET e target (put SOURCE e source index))
