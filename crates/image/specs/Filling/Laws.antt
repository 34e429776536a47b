-- One record more in an index.
-- Serves document 01, "Graph image": each word is a field of its record.
use Rattle.std.specs.Prelude.{ℕ, ◌+◌, ◌*◌, ◌<◌, ◌≤◌, ◌≡◌, List, length}
use Rattle.std.proofs.Common.{arith, sym, ◌∙◌, lt-ltb, le-ltb}
use Rattle.std.proofs.Math.Decide.{dec_lt, ℕ_discrete}
use Rattle.std.proofs.Math.ListN.{length-set}
use Rattle.semantics.specs.declared.graph.Node.{Node}
use Rattle.semantics.specs.declared.graph.Node.TheVariants as N
use Rattle.semantics.specs.declared.graph.Edge.{Edge}
use Rattle.semantics.specs.declared.graph.Edge.TheVariants as E
use Rattle.image.specs.Index.{BLOCK, KIND, FLAG, FILE, SYMBOL, SYMBOL-HIGH, SCOPE, FIRST, SOURCE, TARGET, PRECEDENCE, Blocks, cell, node_of, edge_of, node_row, edge_row, first_row, Fresh, put, put_node, put_edge}
use Rattle.semantics.specs.Halves.{joined}
use Rattle.image.specs.Index.Laws.{cell_same, cell_other}
use Rattle.image.specs.Filling.{upto, Filled}

-- one more of a sequence
pub upto-more : {A : Type 0} (k : ℕ) (f : ℕ → A) (d : A) (j : ℕ) → (j ≡ k → ⊥) → upto (k + 1) f d j ≡ upto k f d j
upto-more k f d j h = go (dec_lt j k)
  where
    go : Dec (j < k) → upto (k + 1) f d j ≡ upto k f d j
    go (yes p) = rw (lt-ltb j (k + 1) (omega arith), lt-ltb j k p)
    go (no p) = let q : k + 1 ≤ j = go-past p (ℕ_discrete j k) in rw (le-ltb j (k + 1) q, le-ltb j k (omega arith))
      where
        go-past : (j < k → ⊥) → Dec (j ≡ k) → k + 1 ≤ j
        go-past a (yes e) = absurd (h e)
        go-past a (no e) = omega arith

pub upto-last : {A : Type 0} (k : ℕ) (f : ℕ → A) (d : A) → upto (k + 1) f d k ≡ f k
upto-last k f d = rw (lt-ltb k (k + 1) (omega arith))

pub filled-as : {F G : ℕ → Node} {D E : ℕ → Edge} (l : List ℕ) → ((n : ℕ) → F n ≡ G n) → ((e : ℕ) → D e ≡ E e) → Filled F D l → Filled G E l
filled-as l f d k = record { long = k.long; node = λ n. k.node n ∙ f n; edge = λ e. k.edge e ∙ d e; kinds = k.kinds; unlinked = k.unlinked }

-- A FRESH INDEX
module _ (l : List ℕ) (f : Fresh l) where
  clear-cell : (row n : ℕ) → cell l row n ≡ 0
  unfolding cell
  clear-cell row n = f.clear (BLOCK * n + row)

  pub cleared : Filled (λ n. N.Removed) (λ e. E.Removed) l
  unfolding node_row node_of edge_row edge_of
  cleared = record {
    long = f.long;
    node = λ n. rw (clear-cell KIND n);
    edge = λ e. rw (clear-cell SOURCE e);
    kinds = λ n. rw (clear-cell KIND n) (omega arith);
    unlinked = λ n. clear-cell FIRST n;
  }

-- ONE NODE MORE
module _ (l : List ℕ) (long : Blocks l) (n kind flag file low high scope : ℕ) (h : BLOCK * n < length l) where
  a1 : List ℕ
  a1 = put KIND n kind l

  a2 : List ℕ
  unfolding a1
  a2 = put FLAG n flag a1

  a3 : List ℕ
  unfolding a2
  a3 = put FILE n file a2

  a4 : List ℕ
  unfolding a3
  a4 = put SYMBOL n low a3

  a5 : List ℕ
  unfolding a4
  a5 = put SYMBOL-HIGH n high a4

  put-long : Blocks (put_node n kind flag file low high scope l)
  unfolding put_node
  put-long = simp length-set long

  -- a word that is none of the six: one of another block, or one of the words behind them
  put-apart : (row m : ℕ) → row < BLOCK → (m ≡ n → ⊥) → cell (put_node n kind flag file low high scope l) row m ≡ cell l row m
  unfolding a1 a2 a3 a4 a5 put_node
  put-apart row m b d =
      cell_other a5 row m SCOPE n scope (λ x. d (omega arith)) ∙ cell_other a4 row m SYMBOL-HIGH n high (λ x. d (omega arith)) ∙ cell_other a3 row m SYMBOL n low (λ x. d (omega arith)) ∙ cell_other a2 row m FILE n file (λ x. d (omega arith))
      ∙ cell_other a1 row m FLAG n flag (λ x. d (omega arith)) ∙ cell_other l row m KIND n kind (λ x. d (omega arith))

  put-behind : (row m : ℕ) → SCOPE < row → row < BLOCK → cell (put_node n kind flag file low high scope l) row m ≡ cell l row m
  unfolding a1 a2 a3 a4 a5 put_node
  put-behind row m a b =
      cell_other a5 row m SCOPE n scope (λ x. omega arith) ∙ cell_other a4 row m SYMBOL-HIGH n high (λ x. omega arith) ∙ cell_other a3 row m SYMBOL n low (λ x. omega arith) ∙ cell_other a2 row m FILE n file (λ x. omega arith)
      ∙ cell_other a1 row m FLAG n flag (λ x. omega arith) ∙ cell_other l row m KIND n kind (λ x. omega arith)

  put-kind : cell (put_node n kind flag file low high scope l) KIND n ≡ kind
  unfolding a1 a2 a3 a4 a5 put_node
  put-kind =
      cell_other a5 KIND n SCOPE n scope (λ x. omega arith) ∙ cell_other a4 KIND n SYMBOL-HIGH n high (λ x. omega arith) ∙ cell_other a3 KIND n SYMBOL n low (λ x. omega arith) ∙ cell_other a2 KIND n FILE n file (λ x. omega arith)
      ∙ cell_other a1 KIND n FLAG n flag (λ x. omega arith) ∙ cell_same l KIND n kind (omega arith)

  put-flag : cell (put_node n kind flag file low high scope l) FLAG n ≡ flag
  unfolding a1 a2 a3 a4 a5 put_node
  put-flag =
      cell_other a5 FLAG n SCOPE n scope (λ x. omega arith) ∙ cell_other a4 FLAG n SYMBOL-HIGH n high (λ x. omega arith) ∙ cell_other a3 FLAG n SYMBOL n low (λ x. omega arith) ∙ cell_other a2 FLAG n FILE n file (λ x. omega arith)
      ∙ cell_same a1 FLAG n flag (simp length-set (omega arith))

  put-file : cell (put_node n kind flag file low high scope l) FILE n ≡ file
  unfolding a1 a2 a3 a4 a5 put_node
  put-file =
      cell_other a5 FILE n SCOPE n scope (λ x. omega arith) ∙ cell_other a4 FILE n SYMBOL-HIGH n high (λ x. omega arith) ∙ cell_other a3 FILE n SYMBOL n low (λ x. omega arith) ∙ cell_same a2 FILE n file (simp length-set (omega arith))

  put_low : cell (put_node n kind flag file low high scope l) SYMBOL n ≡ low
  unfolding a1 a2 a3 a4 a5 put_node
  put_low =
      cell_other a5 SYMBOL n SCOPE n scope (λ x. omega arith) ∙ cell_other a4 SYMBOL n SYMBOL-HIGH n high (λ x. omega arith) ∙ cell_same a3 SYMBOL n low (simp length-set (omega arith))

  put-high : cell (put_node n kind flag file low high scope l) SYMBOL-HIGH n ≡ high
  unfolding a1 a2 a3 a4 a5 put_node
  put-high = cell_other a5 SYMBOL-HIGH n SCOPE n scope (λ x. omega arith) ∙ cell_same a4 SYMBOL-HIGH n high (simp length-set (omega arith))

  put-scope : cell (put_node n kind flag file low high scope l) SCOPE n ≡ scope
  unfolding a1 a2 a3 a4 a5 put_node
  put-scope = cell_same a5 SCOPE n scope (simp length-set (omega arith))

  put-here : node_row (put_node n kind flag file low high scope l) n ≡ node_of kind flag file (joined low high) scope
  unfolding node_row
  put-here = rw (put-kind, put-flag, put-file, put_low, put-high, put-scope)

  put-else : (m : ℕ) → (m ≡ n → ⊥) → node_row (put_node n kind flag file low high scope l) m ≡ node_row l m
  unfolding node_row
  put-else m d =
      rw (put-apart KIND m (omega arith) d, put-apart FLAG m (omega arith) d, put-apart FILE m (omega arith) d, put-apart SYMBOL m (omega arith) d, put-apart SYMBOL-HIGH m (omega arith) d, put-apart SCOPE m (omega arith) d)

  -- what is no node stays
  put-edges : (e : ℕ) → edge_row (put_node n kind flag file low high scope l) e ≡ edge_row l e
  unfolding edge_row
  put-edges e =
      rw (put-behind SOURCE e (omega arith) (omega arith), put-behind TARGET e (omega arith) (omega arith), put-behind PRECEDENCE e (omega arith) (omega arith))

  put-firsts : (m : ℕ) → first_row (put_node n kind flag file low high scope l) m ≡ first_row l m
  put-firsts m = put-behind FIRST m (omega arith) (omega arith)

  put-kinds : kind < 9 → ((m : ℕ) → cell l KIND m < 9) → (m : ℕ) → cell (put_node n kind flag file low high scope l) KIND m < 9
  put-kinds k s m = go (ℕ_discrete m n)
    where
      go : Dec (m ≡ n) → cell (put_node n kind flag file low high scope l) KIND m < 9
      go (yes e) = rw e (rw put-kind k)
      go (no d) = rw (put-apart KIND m (omega arith) d) (s m)

pub filled-node : (l : List ℕ) (f : ℕ → Node) (E : ℕ → Edge) (n kind flag file low high scope : ℕ) → BLOCK * n < length l → kind < 9 → node_of kind flag file (joined low high) scope ≡ f n
    → Filled (upto n f N.Removed) E l → Filled (upto (n + 1) f N.Removed) E (put_node n kind flag file low high scope l)
filled-node l f E n kind flag file low high scope h k e d = record {
  long = put-long l d.long n kind flag file low high scope h;
  node = λ m. go m (ℕ_discrete m n);
  edge = λ m. put-edges l d.long n kind flag file low high scope h m ∙ d.edge m;
  kinds = put-kinds l d.long n kind flag file low high scope h k d.kinds;
  unlinked = λ m. put-firsts l d.long n kind flag file low high scope h m ∙ d.unlinked m;
}
  where
    go : (m : ℕ) → Dec (m ≡ n) → node_row (put_node n kind flag file low high scope l) m ≡ upto (n + 1) f N.Removed m
    go m (yes q) = rw q (put-here l d.long n kind flag file low high scope h ∙ e ∙ sym (upto-last n f N.Removed))
    go m (no q) = put-else l d.long n kind flag file low high scope h m q ∙ d.node m ∙ sym (upto-more n f N.Removed m q)

-- ONE EDGE MORE
module _ (l : List ℕ) (long : Blocks l) (e source target precedence : ℕ) (h : BLOCK * e < length l) where
  b1 : List ℕ
  b1 = put SOURCE e source l

  b2 : List ℕ
  unfolding b1
  b2 = put TARGET e target b1

  edge-long : Blocks (put_edge e source target precedence l)
  unfolding put_edge
  edge-long = simp length-set long

  -- a word that is none of the three: one of another block, or one of the words in front of them
  edge-apart : (row m : ℕ) → row < BLOCK → (m ≡ e → ⊥) → cell (put_edge e source target precedence l) row m ≡ cell l row m
  unfolding b1 b2 put_edge
  edge-apart row m b d =
      cell_other b2 row m PRECEDENCE e precedence (λ x. d (omega arith)) ∙ cell_other b1 row m TARGET e target (λ x. d (omega arith)) ∙ cell_other l row m SOURCE e source (λ x. d (omega arith))

  edge-before : (row m : ℕ) → row < SOURCE → cell (put_edge e source target precedence l) row m ≡ cell l row m
  unfolding b1 b2 put_edge
  edge-before row m b =
      cell_other b2 row m PRECEDENCE e precedence (λ x. omega arith) ∙ cell_other b1 row m TARGET e target (λ x. omega arith) ∙ cell_other l row m SOURCE e source (λ x. omega arith)

  edge-source : cell (put_edge e source target precedence l) SOURCE e ≡ source
  unfolding b1 b2 put_edge
  edge-source =
      cell_other b2 SOURCE e PRECEDENCE e precedence (λ x. omega arith) ∙ cell_other b1 SOURCE e TARGET e target (λ x. omega arith) ∙ cell_same l SOURCE e source (omega arith)

  edge-target : cell (put_edge e source target precedence l) TARGET e ≡ target
  unfolding b1 b2 put_edge
  edge-target = cell_other b2 TARGET e PRECEDENCE e precedence (λ x. omega arith) ∙ cell_same b1 TARGET e target (simp length-set (omega arith))

  edge-precedence : cell (put_edge e source target precedence l) PRECEDENCE e ≡ precedence
  unfolding b1 b2 put_edge
  edge-precedence = cell_same b2 PRECEDENCE e precedence (simp length-set (omega arith))

  edge_here : edge_row (put_edge e source target precedence l) e ≡ edge_of source target precedence
  unfolding edge_row
  edge_here = rw (edge-source, edge-target, edge-precedence)

  edge-else : (m : ℕ) → (m ≡ e → ⊥) → edge_row (put_edge e source target precedence l) m ≡ edge_row l m
  unfolding edge_row
  edge-else m d = rw (edge-apart SOURCE m (omega arith) d, edge-apart TARGET m (omega arith) d, edge-apart PRECEDENCE m (omega arith) d)

  -- no word of a node
  edge-nodes : (m : ℕ) → node_row (put_edge e source target precedence l) m ≡ node_row l m
  unfolding node_row
  edge-nodes m =
      rw (edge-before KIND m (omega arith), edge-before FLAG m (omega arith), edge-before FILE m (omega arith), edge-before SYMBOL m (omega arith), edge-before SYMBOL-HIGH m (omega arith), edge-before SCOPE m (omega arith))

pub filled-edge : (l : List ℕ) (F : ℕ → Node) (f : ℕ → Edge) (e source target precedence : ℕ) → BLOCK * e < length l → edge_of source target precedence ≡ f e
    → Filled F (upto e f E.Removed) l → Filled F (upto (e + 1) f E.Removed) (put_edge e source target precedence l)
filled-edge l F f e source target precedence h q d = record {
  long = edge-long l d.long e source target precedence h;
  node = λ m. edge-nodes l d.long e source target precedence h m ∙ d.node m;
  edge = λ m. go m (ℕ_discrete m e);
  kinds = λ m. rw (edge-before l d.long e source target precedence h KIND m (omega arith)) (d.kinds m);
  unlinked = λ m. edge-before l d.long e source target precedence h FIRST m (omega arith) ∙ d.unlinked m;
}
  where
    go : (m : ℕ) → Dec (m ≡ e) → edge_row (put_edge e source target precedence l) m ≡ upto (e + 1) f E.Removed m
    go m (yes z) = rw z (edge_here l d.long e source target precedence h ∙ q ∙ sym (upto-last e f E.Removed))
    go m (no z) = edge-else l d.long e source target precedence h m z ∙ d.edge m ∙ sym (upto-more e f E.Removed m z)
