-- What a desk reads of two images of which it sees the same: the same. Document 02, order 8, kept by the readers.
use Rattle.std.specs.Prelude.{ℕ, ◌≡◌, Bool, List, length}
use Rattle.std.proofs.Math.Path.{ap}
use Rattle.semantics.specs.Answer.{ok}
use Rattle.semantics.specs.Graph.{Graph, View, traits}
use Rattle.semantics.proofs.Theorems.Finding.Laws.{same_references}
use Rattle.semantics.specs.Hidden.{sees, seen}
use Rattle.semantics.proofs.Theorems.Hidden.Desks.{SameDesk, SameImages, desk-view, seen-is, seen-is'}
use Rattle.semantics.specs.Image.{symbol_bytes}
use Rattle.semantics.specs.Entries.{node_of, edge_of, references_of, outgoing_of}
use Rattle.semantics.specs.Reading.{node_read, node_call, edge_read, edge_call, listed, listed_unless, references_call, outgoing_call}

module _ (see : ℕ → Bool) (g h : Graph) (desk : SameDesk see g h) where
  graph-node : (n : ℕ) → node_call (ok (seen see g)) n ≡ node_call (ok (seen see h)) n
  unfolding node_call
  graph-node n = ap (node_read n) (desk.nodes n)

  graph-edge : (e : ℕ) → edge_call (ok (seen see g)) e ≡ edge_call (ok (seen see h)) e
  unfolding edge_call
  graph-edge e = ap (edge_read e) (desk.edges e)

  graph-references : (words : ℕ) → references_call (ok (seen see g)) words ≡ references_call (ok (seen see h)) words
  unfolding references_call
  graph-references words = ap (listed words) (same_references (seen see g) (seen see h) desk.nodes)

  graph-outgoing : (n words : ℕ) → outgoing_call (ok (seen see g)) n words ≡ outgoing_call (ok (seen see h)) n words
  unfolding outgoing_call
  graph-outgoing n words = ap (λ (v : View). listed_unless (traits (v.node n)).removed n words (v.out n)) (desk-view see g h desk)

-- FROM BYTES: the same answer and the same words of the area, refused or not
module _ (visible im im' : List ℕ) (same : SameImages symbol_bytes (sees visible) im im') where
  pub desks-node : (n : ℕ) → node_of im visible n ≡ node_of im' visible n
  desks-node n = rw (seen-is symbol_bytes (sees visible) im im' same, seen-is' symbol_bytes (sees visible) im im' same) (graph-node (sees visible) same.graph same.graph' same.desk n)

  pub desks-edge : (e : ℕ) → edge_of im visible e ≡ edge_of im' visible e
  desks-edge e = rw (seen-is symbol_bytes (sees visible) im im' same, seen-is' symbol_bytes (sees visible) im im' same) (graph-edge (sees visible) same.graph same.graph' same.desk e)

  pub desks-references : (rs : List ℕ) → references_of im visible rs ≡ references_of im' visible rs
  desks-references rs = rw (seen-is symbol_bytes (sees visible) im im' same, seen-is' symbol_bytes (sees visible) im im' same) (graph-references (sees visible) same.graph same.graph' same.desk (length rs))

  pub desks-outgoing : (n : ℕ) (rs : List ℕ) → outgoing_of im visible n rs ≡ outgoing_of im' visible n rs
  desks-outgoing n rs = rw (seen-is symbol_bytes (sees visible) im im' same, seen-is' symbol_bytes (sees visible) im im' same) (graph-outgoing (sees visible) same.graph same.graph' same.desk n (length rs))
