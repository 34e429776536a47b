-- Header, nodes and edges, written one behind the other, are the image of the graph.
-- Serves document 01, "Graph image", and document 02, order 3.
use Rattle.std.specs.Prelude.{ℕ, ◌+◌, ◌-◌, ◌≤◌, ◌<◌, ◌≡◌, refl, List, ◌∷◌, ◌++◌, length}
use Rattle.std.proofs.Common.{arith, sym, ap, ap₂, ◌∙◌, append_assoc}
use Rattle.std.proofs.Math.ListN.{length-append}
use Rattle.semantics.specs.Bytes.Placed.{put, front, put_first}
use Rattle.semantics.specs.Bytes.Written.{be, length-be}
use Rattle.semantics.specs.declared.answer.Counts.{Counts}
use Rattle.semantics.specs.Graph.{Graph}
use Rattle.semantics.specs.Image.Encoding.{encode_nodes, encode_edges, encode_records, encode_image}
use Rattle.semantics.specs.Image.Encoding.Laws.{encoded-length}
use Rattle.words.specs.Writing.{wrote, wrote_then}
use Rattle.rewriting.specs.Held.{nodes_in, edges_in, graph_held, first-length}
use Rattle.rewriting.specs.Records.{byte-self}

-- the eleven bytes of the header
abbrev pub header_bytes : ℕ → ℕ → Counts → List ℕ
header_bytes version follow counts = version ∷ (be 4 follow ++ (be 2 counts.files ++ (be 2 counts.nodes ++ be 2 counts.edges)))

pub header-written : (o : List ℕ) (v n : ℕ) (counts : Counts) {x y z s t : List ℕ} → v < 256 → 11 ≤ length o
    → x ≡ put 0 (be 1 v) o → y ≡ put 1 (be 4 n) x → z ≡ put 5 (be 2 counts.files) y → s ≡ put 7 (be 2 counts.nodes) z → t ≡ put 9 (be 2 counts.edges) s → t ≡ put 0 (header_bytes v n counts) o
header-written o v n counts a h d e p q r =
    let f = counts.files in
    let k = counts.nodes in
    let m = counts.edges in
    let one = wrote 0 1 (be 1 v) d (length-be 1 v) in
    let two = wrote_then one 1 4 (be 4 n) e refl (length-be 4 n) (omega arith) in
    let three = wrote_then two 5 2 (be 2 f) p refl (length-be 2 f) (omega arith) in
    let four = wrote_then three 7 2 (be 2 k) q refl (length-be 2 k) (omega arith) in
    let five = wrote_then four 9 2 (be 2 m) r refl (length-be 2 m) (omega arith) in
    let g : (((be 1 v ++ be 4 n) ++ be 2 f) ++ be 2 k) ++ be 2 m ≡ be 1 v ++ (be 4 n ++ (be 2 f ++ (be 2 k ++ be 2 m))) = simp append_assoc in
    five.is ∙ ap (λ (l : List ℕ). put 0 l o) (g ∙ ap (λ (l : List ℕ). l ++ (be 4 n ++ (be 2 f ++ (be 2 k ++ be 2 m)))) (byte-self v a))

pub header-length : (v n : ℕ) (counts : Counts) → length (header_bytes v n counts) ≡ 11
unfolding be
header-length v n counts = refl

-- the counts of a graph
abbrev counts_of : Graph → Counts
counts_of g = record { files = g.files; nodes = length g.nodes; edges = length g.edges }

-- the header and the records are the image
whole : (v w s : ℕ) (g : Graph) → s ≡ length (encode_image v w g) → (header_bytes v (s - 5) (counts_of g) ++ encode_nodes w g.nodes) ++ encode_edges g.edges ≡ encode_image v w g
unfolding encode_image encode_records
whole v w s g e =
    let n : List ℕ = encode_nodes w g.nodes in
    let m : List ℕ = encode_edges g.edges in
    let z : s - 5 ≡ 6 + length (n ++ m) = omega (arith, encoded-length v w g) in
    let p : List ℕ = be 2 g.files in
    let q : List ℕ = be 2 (length g.nodes) in
    let r : List ℕ = be 2 (length g.edges) in
    let a : ((be 4 (s - 5) ++ (p ++ (q ++ r))) ++ n) ++ m ≡ be 4 (s - 5) ++ (p ++ (q ++ (r ++ (n ++ m)))) = simp append_assoc in
    ap (λ (l : List ℕ). v ∷ l) (a ∙ ap (λ (i : ℕ). be 4 i ++ (p ++ (q ++ (r ++ (n ++ m))))) z)

module _ (v w s : ℕ) (counts : Counts) (index : List ℕ) (size : s ≡ length (encode_image v w (graph_held index counts))) where
  abbrev ns : List ℕ
  ns = encode_nodes w (nodes_in index counts.nodes)

  abbrev es : List ℕ
  es = encode_edges (edges_in index counts.edges)

  pub size-parts : s ≡ 11 + (length (encode_nodes w (nodes_in index counts.nodes)) + length (encode_edges (edges_in index counts.edges)))
  unfolding encode_records
  size-parts = let g = graph_held index counts in omega (arith, encoded-length v w g, length-append ns es)

  pub image-written : (o : List ℕ) (middle : ℕ) {x y z : List ℕ} → s ≤ length o → x ≡ put 0 (header_bytes v (s - 5) counts) o → middle ≡ 11 + length (encode_nodes w (nodes_in index counts.nodes))
      → y ≡ put 11 (encode_nodes w (nodes_in index counts.nodes)) x → z ≡ put middle (encode_edges (edges_in index counts.edges)) y → z ≡ front (encode_image v w (graph_held index counts)) o
  image-written o middle h d k e f =
      let t = size-parts in
      let one = wrote 0 11 (header_bytes v (s - 5) counts) d (header-length v (s - 5) counts) in
      let two = wrote_then one 11 (length ns) ns e refl refl (omega arith) in
      let three = wrote_then two middle (length es) es f (omega arith) refl (omega arith) in
      let c : header_bytes v (s - 5) counts ≡ header_bytes v (s - 5) (counts_of (graph_held index counts)) = ap₂ (λ (i : ℕ) (j : ℕ). header_bytes v (s - 5) (record { files = counts.files; nodes = i; edges = j })) (sym (first-length _ counts.nodes)) (sym (first-length _ counts.edges)) in
      three.is ∙ ap (λ (l : List ℕ). put 0 ((l ++ ns) ++ es) o) c ∙ ap (λ (l : List ℕ). put 0 l o) (whole v w s (graph_held index counts) size) ∙ put_first (encode_image v w (graph_held index counts)) o
