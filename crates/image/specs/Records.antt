-- The records of an image one after the other: what is at each place, and what it means that a record was put into an index.
-- Document 01, "Graph image".
use Rattle.std.specs.Prelude.{ℕ, ◌+◌, ◌*◌, ◌-◌, ◌<◌, ◌≤◌, ◌≡◌, List, Bool, false, ◌⊎◌, eqb, ltb, length}
use Rattle.semantics.specs.declared.graph.Node.{Node}
use Rattle.semantics.specs.declared.graph.Node.TheVariants as N
use Rattle.semantics.specs.declared.graph.Edge.{Edge}
use Rattle.semantics.specs.declared.graph.Edge.TheVariants as E
use Rattle.semantics.specs.Lists.{pick}
use Rattle.semantics.specs.Bytes.{byte_at, short, long}
use Rattle.semantics.specs.Image.{width_in, longest_image, body_size, files_of, nodes_of, edges_of, node_record, edge_record, scan, node_in, edge_in, place_of, first_record, graph_of}
use Rattle.semantics.specs.Answer.{Answer, and_then}
use Rattle.semantics.specs.Graph.{Graph}
use Rattle.semantics.specs.declared.refusal.ImageRefusal.{ImageRefusal}
use Rattle.image.specs.Index.{NODES, EDGES, BLOCK}
use Rattle.image.specs.Filling.{upto, Filled}
pub mod Laws

-- the bytes of a symbol in the versions that are read
abbrev pub KnownWidth : ℕ → Type 0
KnownWidth w = (w ≡ 4) ⊎ (w ≡ 8)

-- what a header that is not refused says
pub record Headed (im : List ℕ) : Type 0 where
  pub head : 10 < length im
  pub small : length im ≤ longest_image
  pub width : KnownWidth (width_in im)
  pub files : files_of im ≤ 256
  pub some : 2 ≤ nodes_of im
  pub nodes : nodes_of im ≤ NODES
  pub edges : edges_of im ≤ EDGES

-- a block for each node and for each edge
pub record Room (im index : List ℕ) : Type 0 where
  pub nodes : BLOCK * nodes_of im ≤ length index
  pub edges : BLOCK * edges_of im ≤ length index

-- a whole record of a kind that has fields, with symbols of w bytes
pub record Fielded (w : ℕ) (im : List ℕ) (at kind : ℕ) : Type 0 where
  pub known : KnownWidth w
  pub low : 3 ≤ kind
  pub high : kind ≤ 8
  pub reads : byte_at im (at + 1) ≡ kind
  pub size : byte_at im at ≡ body_size w kind
  pub whole : at + body_size w kind < length im
  pub small : length im ≤ longest_image

-- a symbol of w bytes is there, and the byte behind it
pub record Named (w : ℕ) (im : List ℕ) (at : ℕ) : Type 0 where
  pub known : KnownWidth w
  pub whole : at + (4 + w) < length im
  pub small : length im ≤ longest_image

-- the record at a place
abbrev pub node_here : ℕ → List ℕ → ℕ → Node
node_here w im at = node_in w im at (byte_at im (at + 1))

abbrev pub edge_here : List ℕ → ℕ → Edge
edge_here im at = edge_in im at (byte_at im (at + 1))

-- record j from a place on
abbrev pub node_at : ℕ → List ℕ → ℕ → ℕ → Node
node_at w im at j = node_here w im (place_of im at j)

abbrev pub edge_at : List ℕ → ℕ → ℕ → Edge
edge_at im at j = edge_here im (place_of im at j)

-- record n is in the index behind the records below it
abbrev pub NodePut : ℕ → Node → List ℕ → List ℕ → Type 0
NodePut n x before after = (f : ℕ → Node) (D : ℕ → Edge) → x ≡ f n → Filled (upto n f N.Removed) D before → Filled (upto (n + 1) f N.Removed) D after

abbrev pub EdgePut : ℕ → Edge → List ℕ → List ℕ → Type 0
EdgePut e x before after = (F : ℕ → Node) (f : ℕ → Edge) → x ≡ f e → Filled F (upto e f E.Removed) before → Filled F (upto (e + 1) f E.Removed) after

-- the first k records are in the index, whatever else is
abbrev pub NodesPut : ℕ → List ℕ → ℕ → List ℕ → List ℕ → Type 0
NodesPut w im k before after = (D : ℕ → Edge) → Filled (λ n. N.Removed) D before → Filled (upto k (node_at w im first_record) N.Removed) D after

abbrev pub EdgesPut : List ℕ → ℕ → ℕ → List ℕ → List ℕ → Type 0
EdgesPut im from k before after = (F : ℕ → Node) → Filled F (λ e. E.Removed) before → Filled F (upto k (edge_at im from) E.Removed) after

-- all records: the place behind the last one
abbrev pub records_of : List ℕ → Answer ImageRefusal ℕ
records_of im = and_then (scan (node_record (width_in im) im (files_of im)) 0 first_record (nodes_of im)) (λ middle. scan (λ e. edge_record im) 0 middle (edges_of im))

-- the graph that the records hold, whose symbols have as many bytes as the version says
abbrev pub graph_read : List ℕ → Graph
graph_read im = graph_of (width_in im) im

-- a run over `count` records has come to record i at a place
pub record Run (im : List ℕ) (test : ℕ → ℕ → Answer ImageRefusal ℕ) (from count i at : ℕ) : Type 0 where
  pub place : at ≡ place_of im from i
  pub same : scan test i at (count - i) ≡ scan test 0 from count

-- the kinds with a symbol
abbrev pub has_symbol : ℕ → Bool
has_symbol kind = pick (ltb kind 4) false (ltb kind 8)

-- the first four bytes of a symbol that has eight, and a scope where there is one
abbrev pub high_in : ℕ → List ℕ → ℕ → ℕ
high_in w im at = pick (eqb w 4) 0 (long im (at + 4))

abbrev pub scope_in : ℕ → List ℕ → ℕ → ℕ → ℕ
scope_in w im at kind = pick (eqb kind 6) (short im (at + 4 + w)) 0
