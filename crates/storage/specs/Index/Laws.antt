-- A record from the words of its number, and the indexes that take an image.
-- Serves document 01, "Graph image": each word is a field of its record.
use Rattle.std.specs.Prelude.{ℕ, ◌+◌, ◌*◌, ◌-◌, ◌%◌, ◌<◌, ◌≤◌, ◌≡◌, Bool, List, [], ◌∷◌, eqb, leb, ltb, ℤ, length, get_or, replicate}
use Rattle.std.proofs.Common.{arith, sym, ap, ◌∙◌, inl, inr}
use Rattle.std.proofs.Math.Decide.{dec_lt}
use Rattle.std.proofs.Math.Path.{refl}
use Rattle.std.proofs.Math.Bool.{true, false}
use borrow.Author.Tests.{eq-eqb, ne_eqb, lt-ltb, le-ltb, lt-leb, le-leb, leb-true}
use types.Run.{OneOf}
use Rattle.std.proofs.lemmas.List.{length-replicate, get_or-replicate}
use Rattle.std.proofs.Math.ListN.{get_or-eq_default}
use Rattle.semantics.specs.declared.graph.NodeId.{NodeId}
use Rattle.semantics.specs.declared.graph.Node.TheVariants as N
use Rattle.semantics.specs.declared.graph.Edge.TheVariants as E
use Rattle.semantics.specs.Bytes.{signed}
use Rattle.semantics.specs.Lists.{pick, or, has}
use Rattle.semantics.specs.Lists.Laws.{or-true, and-true}
use Rattle.semantics.specs.Graph.{node_id, file_of, is_file, lacks_file, is_reference, is_definition, is_exported, is_start, is_endpoint}
use Rattle.semantics.specs.Image.{first_record, nodes_of, edges_of}
pub use Rattle.image.specs.Index.Laws.{cell_out, cell_same, cell_other, no_kind, known-kind, by_kind}
use Rattle.semantics.specs.Halves.{joined}
use Rattle.storage.specs.Index.{BLOCK, KIND, FLAG, FILE, SYMBOL, SYMBOL-HIGH, SCOPE, SOURCE, TARGET, PRECEDENCE, INDEX, FEW, SMALL, cell, node_of, edge_of, node_row, edge_row, target_row, is_plain, Fresh, Takes, is_small}

-- A RECORD'S WORDS, in its block and behind the last one
pub node_in : (l : List ℕ) (n kind : ℕ) → get_or l (BLOCK * n + KIND) 0 ≡ kind
    → node_of kind (get_or l (BLOCK * n + FLAG) 0) (get_or l (BLOCK * n + FILE) 0) (joined (get_or l (BLOCK * n + SYMBOL) 0) (get_or l (BLOCK * n + SYMBOL-HIGH) 0)) (get_or l (BLOCK * n + SCOPE) 0) ≡ node_row l n
unfolding node_row
node_in l n kind e = rw e

pub node-out : (l : List ℕ) (n : ℕ) → length l ≤ BLOCK * n → N.Removed ≡ node_row l n
unfolding node_row node_of
node-out l n h = rw (cell_out l KIND n h)

pub edge_in : (l : List ℕ) (e : ℕ) → edge_of (get_or l (BLOCK * e + SOURCE) 0) (get_or l (BLOCK * e + TARGET) 0) (get_or l (BLOCK * e + PRECEDENCE) 0) ≡ edge_row l e
unfolding edge_row
edge_in l e = refl

pub edge-out : (l : List ℕ) (e : ℕ) → length l ≤ BLOCK * e → E.Removed ≡ edge_row l e
unfolding edge_row edge_of
edge-out l e h = rw (cell_out l SOURCE e h)

-- an edge is removed or live by its first word
pub words-removed : (source target precedence : ℕ) → source < 1 → E.Removed ≡ edge_of source target precedence
unfolding edge_of
words-removed source target precedence h = simp (eq-eqb source 0 (omega arith))

pub words-live : (source target precedence : ℕ) → 0 < source → E.Live (node_id (source - 1)) (node_id target) (signed precedence) ≡ edge_of source target precedence
unfolding edge_of
words-live source target precedence h = simp (ne_eqb source 0 (λ q. omega arith))

-- a live edge's target is its word
pub target_row_lem : (l : List ℕ) (e : ℕ) (s t : NodeId) (p : ℤ) → edge_row l e ≡ E.Live s t p → target_row l e ≡ t.0
unfolding edge_row edge_of
target_row_lem l e s t p = on (eqb (cell l SOURCE e) 0)
  where
    on : (b : Bool) → pick b E.Removed (E.Live (node_id (cell l SOURCE e - 1)) (node_id (cell l TARGET e)) (signed (cell l PRECEDENCE e))) ≡ E.Live s t p → cell l TARGET e ≡ t.0
    on true h = absurd (let z : ◌≡◌ {A = ℕ} 0 1 = cc in omega arith)
    on false h = let z : node_id (cell l TARGET e) ≡ t = cc in ap (λ (x : NodeId). x.0) z

-- a record that is there has a block
pub edge-inside : (l : List ℕ) (e : ℕ) (s t : NodeId) (p : ℤ) → edge_row l e ≡ E.Live s t p → BLOCK * e < length l
edge-inside l e s t p h = on (dec_lt (BLOCK * e) (length l))
  where
    differ : E.Removed ≡ E.Live s t p → ⊥
    differ z = let y : ◌≡◌ {A = ℕ} 0 1 = cc in omega arith

    on : Dec (BLOCK * e < length l) → BLOCK * e < length l
    on (yes k) = k
    on (no k) = absurd (differ (edge-out l e (omega arith) ∙ h))

pub node-inside : (l : List ℕ) (n : ℕ) → (node_row l n ≡ N.Removed → ⊥) → BLOCK * n < length l
node-inside l n h = on (dec_lt (BLOCK * n) (length l))
  where
    on : Dec (BLOCK * n < length l) → BLOCK * n < length l
    on (yes k) = k
    on (no k) = absurd (h (sym (node-out l n (omega arith))))

-- AN INDEX THAT TAKES AN IMAGE: zeros, a large one for any image and a small one for few nodes and few edges
zeros-fresh : (k : ℕ) → k % BLOCK ≡ 0 → Fresh (replicate k 0)
zeros-fresh k h = record { long = omega (arith, length-replicate {A = ℕ} k 0); clear = λ i. go i (dec_lt i k) }
  where
    go : (i : ℕ) → Dec (i < k) → get_or (replicate {A = ℕ} k 0) i 0 ≡ 0
    go i (yes p) = get_or-replicate k i 0 0 p
    go i (no p) = get_or-eq_default (replicate k 0) 0 {n = i} (omega (arith, length-replicate {A = ℕ} k 0))

pub large-takes : (im : List ℕ) → Takes im (replicate INDEX 0)
large-takes im = record {
  fresh = zeros-fresh INDEX (omega arith);
  room = λ h. record { nodes = omega (arith, h.nodes, length-replicate {A = ℕ} INDEX 0); edges = omega (arith, h.edges, length-replicate {A = ℕ} INDEX 0) };
}

pub small-takes : (im : List ℕ) → (nodes_of im ≤ FEW) × (edges_of im ≤ FEW) → Takes im (replicate SMALL 0)
small-takes im few = record {
  fresh = zeros-fresh SMALL (omega arith);
  room = λ h. record { nodes = omega (arith, few.0, length-replicate {A = ℕ} SMALL 0); edges = omega (arith, few.1, length-replicate {A = ℕ} SMALL 0) };
}

-- WHICH IMAGES ARE SMALL
module _ (im : List ℕ) where
  pub small-headless : length im < first_record → false ≡ is_small im
  unfolding is_small
  small-headless h = simp (lt-leb first_record (length im) h)

  pub small-nodes : first_record ≤ length im → FEW < nodes_of im → false ≡ is_small im
  unfolding is_small
  small-nodes h n = simp (le-leb first_record (length im) h, lt-leb (nodes_of im) FEW n)

  pub small-edges : first_record ≤ length im → nodes_of im ≤ FEW → FEW < edges_of im → false ≡ is_small im
  unfolding is_small
  small-edges h n e = simp (le-leb first_record (length im) h, le-leb (nodes_of im) FEW n, lt-leb (edges_of im) FEW e)

  pub small-both : first_record ≤ length im → nodes_of im ≤ FEW → edges_of im ≤ FEW → true ≡ is_small im
  unfolding is_small
  small-both h n e = simp (le-leb first_record (length im) h, le-leb (nodes_of im) FEW n, le-leb (edges_of im) FEW e)

-- what a test of `is_small` that succeeded says
pub few-records : (im : List ℕ) {b : Bool} → b ≡ is_small im → b ≡ true → (nodes_of im ≤ FEW) × (edges_of im ≤ FEW)
unfolding is_small
few-records im e h =
    let x = and-true (leb first_record (length im)) _ (sym e ∙ h) in
    let y = and-true (leb (nodes_of im) FEW) _ x.1 in
    (leb-true (nodes_of im) FEW y.0, leb-true (edges_of im) FEW y.1)

-- is a kind among these: what the keys of a `match` say
pub has_one : (ks : List ℕ) (k : ℕ) → OneOf ks k → has k ks ≡ true
unfolding has
has_one [] k h = absurd h
has_one (x ∷ []) k h = rw (eq-eqb k x h)
has_one (x ∷ y ∷ ks) k (inl h) = rw (eq-eqb k x h)
has_one (x ∷ y ∷ ks) k (inr h) = rw (has_one (y ∷ ks) k h) (or-true (eqb k x))

pub has-none : (ks : List ℕ) (k : ℕ) → (OneOf ks k → ⊥) → has k ks ≡ false
unfolding has
has-none [] k h = refl
has-none (x ∷ []) k h = rw (ne_eqb k x h)
has-none (x ∷ y ∷ ks) k h = rw (ne_eqb k x (λ e. h (inl e))) (has-none (y ∷ ks) k (λ o. h (inr o)))

or-last : (b : Bool) → b ≡ or b false
or-last true = refl
or-last false = refl

-- a number behind the kinds is none of them
other : (k x : ℕ) → 9 ≤ k → x < 9 → eqb k x ≡ false
other k x h b = ne_eqb k x (λ e. omega (arith, h, b, e))

-- WHAT THE WORDS TELL OF A NODE: the flag where the kind is one of these, and for another kind something else
abbrev pub marked : List ℕ → Bool → List ℕ → ℕ → Bool
marked kinds else l n = pick (has (cell l KIND n) kinds) (eqb (cell l FLAG n) 1) else

module _ (kinds : List ℕ) (else : Bool) (l : List ℕ) (n k : ℕ) (read : k ≡ cell l KIND n) where
  pub marked-one : OneOf kinds k → eqb (cell l FLAG n) 1 ≡ marked kinds else l n
  marked-one h = rw (sym read, has_one kinds k h)

  pub marked-none : (OneOf kinds k → ⊥) → else ≡ marked kinds else l n
  marked-none h = rw (sym read, has-none kinds k h)

module _ (l : List ℕ) (n : ℕ) where
  pub exported-row : marked (3 ∷ []) false l n ≡ is_exported (node_row l n)
  unfolding has
  exported-row =
      by_kind (λ k x. pick (has k (3 ∷ [])) (eqb (cell l FLAG n) 1) false ≡ is_exported x) l n
      refl refl refl refl refl refl refl refl refl (λ k h. rw (other k 3 h (omega arith)))

  pub definition-row : marked (5 ∷ 7 ∷ []) false l n ≡ is_definition (node_row l n)
  unfolding has
  definition-row =
      by_kind (λ k x. pick (has k (5 ∷ 7 ∷ [])) (eqb (cell l FLAG n) 1) false ≡ is_definition x) l n
      refl refl refl refl refl refl refl refl refl (λ k h. rw (other k 5 h (omega arith), other k 7 h (omega arith)))

  pub reference-row : marked (4 ∷ 6 ∷ []) false l n ≡ is_reference (node_row l n)
  unfolding has
  reference-row =
      by_kind (λ k x. pick (has k (4 ∷ 6 ∷ [])) (eqb (cell l FLAG n) 1) false ≡ is_reference x) l n
      refl refl refl refl refl refl refl refl refl (λ k h. rw (other k 4 h (omega arith), other k 6 h (omega arith)))

  pub plain_row : has (cell l KIND n) (1 ∷ 3 ∷ []) ≡ is_plain (node_row l n)
  unfolding has
  plain_row = by_kind (λ k x. has k (1 ∷ 3 ∷ []) ≡ is_plain x) l n refl refl refl refl refl refl refl refl refl (λ k h. rw (other k 1 h (omega arith), other k 3 h (omega arith)))

  pub start-row : marked (3 ∷ 4 ∷ 6 ∷ []) false l n ≡ is_start (node_row l n)
  unfolding has
  start-row =
      by_kind (λ k x. pick (has k (3 ∷ 4 ∷ 6 ∷ [])) (eqb (cell l FLAG n) 1) false ≡ is_start x) l n
      refl refl refl (or-last (eqb (cell l FLAG n) 1)) refl refl refl refl refl (λ k h. rw (other k 3 h (omega arith), other k 4 h (omega arith), other k 6 h (omega arith)))

  pub endpoint-row : marked (3 ∷ 5 ∷ 7 ∷ []) (has (cell l KIND n) (1 ∷ 2 ∷ [])) l n ≡ is_endpoint (node_row l n)
  unfolding has
  endpoint-row =
      by_kind (λ k x. pick (has k (3 ∷ 5 ∷ 7 ∷ [])) (eqb (cell l FLAG n) 1) (has k (1 ∷ 2 ∷ [])) ≡ is_endpoint x) l n
      refl refl refl (or-last (eqb (cell l FLAG n) 1)) refl refl refl refl refl
      (λ k h. rw (other k 3 h (omega arith), other k 5 h (omega arith), other k 7 h (omega arith), other k 1 h (omega arith), other k 2 h (omega arith)))

  pub file-row : (f : ℕ) → is_file f (file_of (node_row l n)) ≡ pick (ltb (cell l KIND n) 3) false (pick (ltb 8 (cell l KIND n)) false (eqb (cell l FILE n) f))
  unfolding is_file
  file-row f =
      by_kind (λ k x. is_file f (file_of x) ≡ pick (ltb k 3) false (pick (ltb 8 k) false (eqb (cell l FILE n) f))) l n
      refl refl refl refl refl refl refl refl refl (λ k h. rw (le-ltb k 3 (omega (arith, h)), lt-ltb 8 k h))

  pub fileless-row : lacks_file (file_of (node_row l n)) ≡ pick (ltb (cell l KIND n) 3) true (ltb 8 (cell l KIND n))
  unfolding lacks_file
  fileless-row =
      by_kind (λ k x. lacks_file (file_of x) ≡ pick (ltb k 3) true (ltb 8 k)) l n
      refl refl refl refl refl refl refl refl refl (λ k h. rw (le-ltb k 3 (omega (arith, h)), lt-ltb 8 k h))
