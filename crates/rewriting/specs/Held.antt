-- The records that an index holds, in order, and what their writing one behind the other comes to.
-- Serves document 02, order 3: the rewritten image is written from the loaded graph.
use Prim.Native.Nat.{ℕ, zero, suc, ◌+◌, ◌-◌, ◌≤◌, ◌<◌}
use Rattle.std.proofs.Common.{add-zero, add-suc, add-one, arith, sym, ◌∙◌, take-append-drop}
use Rattle.std.specs.Prelude.{◌≡◌, length, get_or, take, drop}
use Rattle.std.proofs.Math.Path.{refl, ap, ap₂}
use Rattle.std.proofs.Math.Option.{Option, none, some}
use mathlib.Core.List.{List, [], ◌∷◌, ◌++◌, append-nil}
use Rattle.std.proofs.Math.ListN.{length-append}
use Rattle.semantics.specs.declared.answer.Counts.{Counts}
use Rattle.semantics.specs.declared.graph.Node.{Node}
use Rattle.semantics.specs.declared.graph.Node.TheVariants as N
use Rattle.semantics.specs.declared.graph.Edge.{Edge}
use Rattle.semantics.specs.declared.graph.Edge.TheVariants as E
use Rattle.semantics.specs.Bytes.Placed.{put, put-put}
use Rattle.semantics.specs.Graph.{Graph, view_of}
use Rattle.semantics.specs.Image.Encoding.{encode_node, encode_edge, encode_nodes, encode_edges, symbol_of, one_if, symbols_in}
use Rattle.semantics.specs.Image.Encoding.Laws.{nodes-append, edges-append}
use Rattle.storage.specs.Index.{node_row, edge_row, Loaded}

-- the first k values of f
unfoldable pub first_of : {A : Type 0} → (ℕ → A) → ℕ → List A
first_of f zero = []
first_of f (suc k) = first_of f k ++ (f k ∷ [])

-- the nodes and the edges of an index
abbrev pub nodes_in : List ℕ → ℕ → List Node
nodes_in index k = first_of (node_row index) k

abbrev pub edges_in : List ℕ → ℕ → List Edge
edges_in index k = first_of (edge_row index) k

-- the graph of an index of which the counts are known
abbrev pub graph_held : List ℕ → Counts → Graph
graph_held index counts = record { files = counts.files; nodes = nodes_in index counts.nodes; edges = edges_in index counts.edges }

module _ {A : Type 0} where
  pub first-length : (f : ℕ → A) (k : ℕ) → length (first_of f k) ≡ k
  unfolding first_of
  first-length f zero = refl
  first-length f (suc k) = let z = first-length f k in omega (arith, length-append (first_of f k) (f k ∷ []), z)

  first-cons : (f : ℕ → A) (k : ℕ) → first_of f (suc k) ≡ f 0 ∷ first_of (λ i. f (suc i)) k
  unfolding first_of
  first-cons f zero = refl
  first-cons f (suc k) = ap (λ (l : List A). l ++ (f (suc k) ∷ [])) (first-cons f k)

  pub first-all : (l : List A) (d : A) (f : ℕ → A) → ((n : ℕ) → f n ≡ get_or l n d) → first_of f (length l) ≡ l
  unfolding first_of
  first-all [] d f h = refl
  first-all (x ∷ l) d f h = first-cons f (length l) ∙ ap₂ (λ (y : A) (m : List A). y ∷ m) (h 0) (first-all l d (λ i. f (suc i)) (λ i. h (suc i)))

-- A LOADED GRAPH is what its index holds
pub loaded-nodes : {g : Graph} {index : List ℕ} → Loaded g index → nodes_in index (length g.nodes) ≡ g.nodes
unfolding view_of
loaded-nodes {g} {index} k = first-all g.nodes N.Removed (node_row index) k.node

pub loaded-edges : {g : Graph} {index : List ℕ} → Loaded g index → edges_in index (length g.edges) ≡ g.edges
unfolding view_of
loaded-edges {g} {index} k = first-all g.edges E.Removed (edge_row index) k.edge

pub held : {g : Graph} {index : List ℕ} → Loaded g index → (counts : Counts) → counts.files ≡ g.files → counts.nodes ≡ length g.nodes → counts.edges ≡ length g.edges → graph_held index counts ≡ g
held {g} {index} k counts f n e =
    let p : nodes_in index counts.nodes ≡ g.nodes = ap (nodes_in index) n ∙ loaded-nodes k in
    let q : edges_in index counts.edges ≡ g.edges = ap (edges_in index) e ∙ loaded-edges k in
    λ i. record { files = f i; nodes = p i; edges = q i }

-- NOTHING is written nowhere
pub none_written : (at : ℕ) (o : List ℕ) → o ≡ put at [] o
unfolding put
none_written at o = sym (ap (λ (k : ℕ). take at o ++ drop k o) (add-zero at) ∙ take-append-drop at o)

-- ONE RECORD MORE, for nodes and for edges
module _ {A : Type 0} (all : List A → List ℕ) (one : A → List ℕ) (more : (l : List A) (a : A) → all (l ++ (a ∷ [])) ≡ all l ++ one a) (f : ℕ → A) where
  all-next : (k : ℕ) → all (first_of f (suc k)) ≡ all (first_of f k) ++ one (f k)
  unfolding first_of
  all-next k = more (first_of f k) (f k)

  next-length : (k : ℕ) → length (all (first_of f (suc k))) ≡ length (all (first_of f k)) + length (one (f k))
  next-length k = ap length (all-next k) ∙ length-append (all (first_of f k)) (one (f k))

  grows : (k d : ℕ) → length (all (first_of f k)) ≤ length (all (first_of f (k + d)))
  grows k zero = let z : length (all (first_of f (k + 0))) ≡ length (all (first_of f k)) = ap (λ (i : ℕ). length (all (first_of f i))) (add-zero k) in omega (arith, z)
  grows k (suc d) =
      let z : length (all (first_of f (k + suc d))) ≡ length (all (first_of f (suc (k + d)))) = ap (λ (i : ℕ). length (all (first_of f i))) (add-suc k d) in
      omega (arith, z, grows k d, next-length (k + d))

  -- there is room for the next one where there is room for all
  pub next_fits : (from k n at len : ℕ) → k < n → at ≡ from + length (all (first_of f k)) → from + length (all (first_of f n)) ≤ len → at + length (one (f k)) ≤ len
  next_fits from k n at len h e r =
      let z : length (all (first_of f (suc k + (n - suc k)))) ≡ length (all (first_of f n)) = ap (λ (i : ℕ). length (all (first_of f i))) (let y : suc k + (n - suc k) ≡ n = omega arith in y) in
      omega (arith, z, grows (suc k) (n - suc k), next-length k)

  -- the place and the bytes behind the next one
  pub next_place : (from k at r : ℕ) → at ≡ from + length (all (first_of f k)) → r ≡ at + length (one (f k)) → r ≡ from + length (all (first_of f (k + 1)))
  next_place from k at r e h = let z : length (all (first_of f (k + 1))) ≡ length (all (first_of f (suc k))) = ap (λ (i : ℕ). length (all (first_of f i))) (add-one k) in omega (arith, z, next-length k)

  pub next-written : (from k at : ℕ) (o : List ℕ) {x y : List ℕ} → at ≡ from + length (all (first_of f k)) → at + length (one (f k)) ≤ length o → x ≡ put from (all (first_of f k)) o → y ≡ put at (one (f k)) x
      → y ≡ put from (all (first_of f (k + 1))) o
  next-written from k at o e h p q =
      let n : ℕ = length (all (first_of f k)) in
      q ∙ ap₂ (λ (i : ℕ) (z : List ℕ). put i (one (f k)) z) e p ∙ put-put from n (all (first_of f k)) (one (f k)) o refl (omega arith)
      ∙ ap (λ (l : List ℕ). put from l o) (sym (ap (λ (i : ℕ). all (first_of f i)) (add-one k) ∙ all-next k))

pub nodes-next : (w : ℕ) (l : List Node) (n : Node) → encode_nodes w (l ++ (n ∷ [])) ≡ encode_nodes w l ++ encode_node w n
unfolding encode_nodes
nodes-next w l n = nodes-append w l (n ∷ []) ∙ ap (λ (x : List ℕ). encode_nodes w l ++ x) (append-nil (encode_node w n))

pub edges-next : (l : List Edge) (e : Edge) → encode_edges (l ++ (e ∷ [])) ≡ encode_edges l ++ encode_edge e
unfolding encode_edges
edges-next l e = edges-append l (e ∷ []) ∙ ap (λ (x : List ℕ). encode_edges l ++ x) (append-nil (encode_edge e))

-- THE SYMBOLS
symbols-append : (l : List Node) (n : Node) → symbols_in (l ++ (n ∷ [])) ≡ symbols_in l + one_if (symbol_of n)
symbols-append [] n = omega arith
symbols-append (m ∷ l) n = let z = symbols-append l n in omega (arith, z)

pub symbols-next : (f : ℕ → Node) (k : ℕ) → symbols_in (first_of f (k + 1)) ≡ symbols_in (first_of f k) + one_if (symbol_of (f k))
unfolding first_of
symbols-next f k = ap (λ (i : ℕ). symbols_in (first_of f i)) (add-one k) ∙ symbols-append (first_of f k) (f k)

pub one-most : (o : Option ℕ) → one_if o ≤ 1
one-most none = omega arith
one-most (some s) = omega arith
