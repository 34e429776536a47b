-- What the words of a record say of its references, and the place of the first one that misses.
-- Serves document 01, "Turned back", row 5.
use Prim.Native.Nat.{ℕ, zero, suc, ◌+◌, ◌*◌, ◌-◌, ◌<◌, ◌≤◌}
use Rattle.std.proofs.Common.{arith, sym, ◌∙◌}
use Rattle.std.proofs.Math.Decide.{dec_lt}
use Rattle.std.specs.Prelude.{◌≡◌, Bool, eqb, ltb, ℤ, get_or}
use Rattle.std.proofs.Math.Path.{refl, ap}
use Rattle.std.proofs.Math.Bool.{true, false, not}
use Rattle.std.proofs.lemmas.Bool.{false≢true}
use Rattle.std.proofs.Math.Option.{Option, none, some}
use mathlib.Core.List.{List, [], ◌∷◌}
use borrow.Author.Tests.{lt-ltb, le-ltb, eq-eqb, ne_eqb}
use Rattle.std.proofs.Math.ListN.{length, get_or-eq_default}
use Rattle.semantics.specs.declared.graph.NodeId.{NodeId}
use Rattle.semantics.specs.declared.graph.Node.{Node}
use Rattle.semantics.specs.declared.graph.Node.TheVariants as N
use Rattle.semantics.specs.declared.graph.Edge.{Edge}
use Rattle.semantics.specs.declared.graph.Edge.TheVariants as E
use Rattle.semantics.specs.declared.refusal.ImageRefusal.{ImageRefusal}
use Rattle.semantics.specs.declared.refusal.ImageRefusal.TheVariants as Image
use Rattle.semantics.specs.Lists.{pick, and}
use Rattle.semantics.specs.Lists.Laws.{and-true}
use Rattle.semantics.specs.Answer.{Answer, ok, refuse}
use Rattle.semantics.specs.Bytes.{signed}
use Rattle.semantics.specs.Graph.{node_id, Graph, View, view_of, file_of, is_file}
use Rattle.semantics.specs.Acceptance.{exported_in, node_fits, edge_fits, one_file, is_live}
use Rattle.semantics.specs.Image.{next_place, place_of, node_misfit, edge_misfit}
use Rattle.storage.specs.Index.{BLOCK, KIND, FLAG, FILE, SCOPE, SOURCE, TARGET, PRECEDENCE, Blocks, cell, node_of, node_row, edge_row, put_link}
use Rattle.storage.specs.Index.Laws.{cell_out, words-removed, words-live, known-kind}
use Rattle.image.specs.Filling.{Held}
use Rattle.storage.specs.Links.{Linked}
use Rattle.storage.specs.Links.Laws.{link-other, link-length, linked-removed, linked-live}
use Rattle.storage.specs.References.{node_test, edge_test, Sources}

-- root and jump have no file
abbrev file_word : ℕ → ℕ → Option ℕ
file_word kind file = pick (ltb kind 3) none (some file)

-- A NODE OF THE GRAPH THAT AN INDEX HOLDS, by its words: is it an exported scope of the file, does it fit, is it live, which is its file
module _ (g : Graph) (l : List ℕ) (held : Held g l) where
  pub exported-at : (f n : ℕ) → exported_in f ((view_of g).node n) ≡ pick (eqb (cell l KIND n) 3) (and (eqb (cell l FLAG n) 1) (eqb (cell l FILE n) f)) false
  unfolding exported_in is_file
  exported-at f n =
      ap (exported_in f) (sym (held.node n))
      ∙ known-kind (λ k x. exported_in f x ≡ pick (eqb k 3) (and (eqb (cell l FLAG n) 1) (eqb (cell l FILE n) f)) false) l n refl refl refl refl refl refl refl refl refl (held.kinds n)

  pub fits-at : (n : ℕ) → node_test g n ≡ pick (eqb (cell l KIND n) 6) (exported_in (cell l FILE n) ((view_of g).node (cell l SCOPE n))) true
  unfolding node_fits
  fits-at n =
      ap (node_fits (view_of g)) (sym (held.node n))
      ∙ known-kind (λ k x. node_fits (view_of g) x ≡ pick (eqb k 6) (exported_in (cell l FILE n) ((view_of g).node (cell l SCOPE n))) true) l n refl refl refl refl refl refl refl refl refl (held.kinds n)

  live_at : (n : ℕ) → is_live ((view_of g).node n) ≡ not (eqb (cell l KIND n) 0)
  live_at n = ap (λ (x : Node). is_live x) (sym (held.node n)) ∙ known-kind (λ k x. is_live x ≡ not (eqb k 0)) l n refl refl refl refl refl refl refl refl refl (held.kinds n)

  file-at : (n : ℕ) → file_of ((view_of g).node n) ≡ file_word (cell l KIND n) (cell l FILE n)
  file-at n = ap (λ (x : Node). file_of x) (sym (held.node n)) ∙ known-kind (λ k x. file_of x ≡ file_word k (cell l FILE n)) l n refl refl refl refl refl refl refl refl refl (held.kinds n)

-- BOTH ENDS OF AN EDGE, by their words
unfoldable pub ends_fit : ℕ → ℕ → ℕ → ℕ → ℕ → Bool
unfolding one_file
ends_fit s a fa b fb = and (one_file (file_word a fa) (file_word b fb)) (and (not (eqb a 0)) (and (not (eqb b 0)) (not (eqb s 1))))

and_none : (b : Bool) → and b false ≡ false
and_none true = refl
and_none false = refl

module _ (s a fa b fb : ℕ) where
  pub from-jump : s ≡ 1 → false ≡ ends_fit s a fa b fb
  unfolding ends_fit
  from-jump e = simp (eq-eqb s 1 e, and_none)

  pub dead-source : a ≡ 0 → false ≡ ends_fit s a fa b fb
  unfolding ends_fit
  dead-source e = simp (eq-eqb a 0 e, and_none)

  pub dead-target : b ≡ 0 → false ≡ ends_fit s a fa b fb
  unfolding ends_fit
  dead-target e = simp (eq-eqb b 0 e, and_none)

  module _ (n : s ≡ 1 → ⊥) (x : a ≡ 0 → ⊥) (y : b ≡ 0 → ⊥) where
    pub shared-source : a < 3 → true ≡ ends_fit s a fa b fb
    unfolding ends_fit one_file
    shared-source h = simp (ne_eqb s 1 n, ne_eqb a 0 x, ne_eqb b 0 y, lt-ltb a 3 h)

    pub shared-target : 3 ≤ a → b < 3 → true ≡ ends_fit s a fa b fb
    unfolding ends_fit one_file
    shared-target h i = simp (ne_eqb s 1 n, ne_eqb a 0 x, ne_eqb b 0 y, le-ltb a 3 h, lt-ltb b 3 i)

    pub in-files : 3 ≤ a → 3 ≤ b → eqb fa fb ≡ ends_fit s a fa b fb
    unfolding ends_fit one_file
    in-files h i = simp (ne_eqb s 1 n, ne_eqb a 0 x, ne_eqb b 0 y, le-ltb a 3 h, le-ltb b 3 i) (same (eqb fa fb))
      where
        same : (q : Bool) → q ≡ and q true
        same true = refl
        same false = refl

-- an edge by its words: removed, or live
row-removed : (l : List ℕ) (e : ℕ) → cell l SOURCE e < 1 → E.Removed ≡ edge_row l e
unfolding edge_row
row-removed l e z = words-removed (cell l SOURCE e) (cell l TARGET e) (cell l PRECEDENCE e) z

row-live : (l : List ℕ) (e : ℕ) → 0 < cell l SOURCE e → E.Live (node_id (cell l SOURCE e - 1)) (node_id (cell l TARGET e)) (signed (cell l PRECEDENCE e)) ≡ edge_row l e
unfolding edge_row
row-live l e z = words-live (cell l SOURCE e) (cell l TARGET e) (cell l PRECEDENCE e) z

source-live : (v : View) (s t : NodeId) (p : ℤ) → edge_fits v (E.Live s t p) ≡ true → is_live (v.node s.0) ≡ true
unfolding edge_fits
source-live v s t p h =
    (and-true (is_live (v.node s.0)) (and (is_live (v.node t.0)) (not (eqb s.0 1)))
    (and-true (one_file (file_of (v.node s.0)) (file_of (v.node t.0))) (and (is_live (v.node s.0)) (and (is_live (v.node t.0)) (not (eqb s.0 1)))) h).1).0

edge-beyond : (g : Graph) (e : ℕ) → length g.edges ≤ e → (view_of g).edge e ≡ E.Removed
unfolding view_of
edge-beyond g e h = get_or-eq_default g.edges E.Removed {n = e} h

removed-live : {s t : NodeId} {p : ℤ} → E.Removed ≡ E.Live s t p → ⊥
removed-live {s} {t} {p} e = let z : ◌≡◌ {A = ℕ} 0 1 = cc in omega arith

module _ (g : Graph) (l : List ℕ) (k : Held g l) where
  pub ends_at : (s t : ℕ) (p : ℤ) → ends_fit s (cell l KIND s) (cell l FILE s) (cell l KIND t) (cell l FILE t) ≡ edge_fits (view_of g) (E.Live (node_id s) (node_id t) p)
  unfolding ends_fit edge_fits
  ends_at s t p = rw (live_at g l k s, live_at g l k t, file-at g l k s, file-at g l k t)

  pub edge-removed : (e : ℕ) → cell l SOURCE e < 1 → (view_of g).edge e ≡ E.Removed
  edge-removed e z = sym (k.edge e) ∙ sym (row-removed l e z)

  pub edge-live : (e : ℕ) → 0 < cell l SOURCE e → (view_of g).edge e ≡ E.Live (node_id (cell l SOURCE e - 1)) (node_id (cell l TARGET e)) (signed (cell l PRECEDENCE e))
  edge-live e z = sym (k.edge e) ∙ sym (row-live l e z)

  node-out : (n : ℕ) → is_live ((view_of g).node n) ≡ true → BLOCK * n < length l
  unfolding node_row node_of
  node-out n e = go (dec_lt (BLOCK * n) (length l))
    where
      go : Dec (BLOCK * n < length l) → BLOCK * n < length l
      go (yes h) = h
      go (no h) = absurd (false≢true (sym (live_at g l k n ∙ ap (λ (x : ℕ). not (eqb x 0)) (cell_out l KIND n (omega arith))) ∙ e))

  -- where every edge fits, every source is a node that has a block
  pub sources-fit : (m : ℕ) → length g.edges ≤ m → ((e : ℕ) → e < m → edge_test g e ≡ true) → Sources l
  sources-fit m b h e = go (dec_lt 0 (cell l SOURCE e)) (dec_lt e m)
    where
      inside : 0 < cell l SOURCE e → e < m → BLOCK * (cell l SOURCE e - 1) < length l
      inside p q =
          node-out (cell l SOURCE e - 1)
          (source-live (view_of g) (node_id (cell l SOURCE e - 1)) (node_id (cell l TARGET e)) (signed (cell l PRECEDENCE e)) (sym (ap (edge_fits (view_of g)) (edge-live e p)) ∙ h e q))

      go : Dec (0 < cell l SOURCE e) → Dec (e < m) → BLOCK * cell l SOURCE e ≤ length l
      go (no p) q = omega arith
      go (yes p) (yes q) = let z = inside p q in omega (arith, z, k.long)
      go (yes p) (no q) = absurd (removed-live (sym (edge-beyond g e (omega arith)) ∙ edge-live e p))

-- THE PLACE OF THE FIRST MISFIT
module _ (im : List ℕ) (g : Graph) where
  pub nodes-fit : (ns : List Node) (at : ℕ) (next : Answer ImageRefusal ℕ) → ((j : ℕ) → j < length ns → node_fits (view_of g) (get_or ns j N.Removed) ≡ true) → node_misfit im g at ns next ≡ next
  unfolding node_misfit
  nodes-fit [] at next h = refl
  nodes-fit (x ∷ ns) at next h = rw (h 0 (omega arith)) (nodes-fit ns (next_place im at) next (λ j b. h (suc j) (omega arith)))

  pub node-misfit : (ns : List Node) (at k : ℕ) (next : Answer ImageRefusal ℕ) → k < length ns → ((j : ℕ) → j < k → node_fits (view_of g) (get_or ns j N.Removed) ≡ true)
      → node_fits (view_of g) (get_or ns k N.Removed) ≡ false → node_misfit im g at ns next ≡ refuse (Image.Reference (place_of im at k))
  unfolding node_misfit place_of
  node-misfit [] at k next b h e = absurd (omega (arith, b))
  node-misfit (x ∷ ns) at zero next b h e = rw e
  node-misfit (x ∷ ns) at (suc k) next b h e = rw (h 0 (omega arith)) (node-misfit ns (next_place im at) k next (omega (arith, b)) (λ j c. h (suc j) (omega arith)) e)

  pub edges_fit : (es : List Edge) (at : ℕ) → ((j : ℕ) → j < length es → edge_fits (view_of g) (get_or es j E.Removed) ≡ true) → edge_misfit im g at es ≡ ok (place_of im at (length es))
  unfolding edge_misfit place_of
  edges_fit [] at h = refl
  edges_fit (x ∷ es) at h = rw (h 0 (omega arith)) (edges_fit es (next_place im at) (λ j b. h (suc j) (omega arith)))

  pub edge-misfit : (es : List Edge) (at k : ℕ) → k < length es → ((j : ℕ) → j < k → edge_fits (view_of g) (get_or es j E.Removed) ≡ true)
      → edge_fits (view_of g) (get_or es k E.Removed) ≡ false → edge_misfit im g at es ≡ refuse (Image.Reference (place_of im at k))
  unfolding edge_misfit place_of
  edge-misfit [] at k b h e = absurd (omega (arith, b))
  edge-misfit (x ∷ es) at zero b h e = rw e
  edge-misfit (x ∷ es) at (suc k) b h e = rw (h 0 (omega arith)) (edge-misfit es (next_place im at) k (omega (arith, b)) (λ j c. h (suc j) (omega arith)) e)

-- THE SEARCH FOR IT, for every test
pub passed-more : (test : ℕ → Bool) (n : ℕ) → ((j : ℕ) → j < n → test j ≡ true) → test n ≡ true → (j : ℕ) → j < n + 1 → test j ≡ true
passed-more test n h e j b = go (dec_lt j n)
  where
    go : Dec (j < n) → test j ≡ true
    go (yes p) = h j p
    go (no p) = let z : j ≡ n = omega arith in ap test z ∙ e

-- ONE EDGE LINKED, by the words that are read
module _ (l : List ℕ) (long : Blocks l) (e : ℕ) (h : BLOCK * e < length l) where
  pub unlinked : cell l SOURCE e < 1 → (g : Graph) → e < length g.edges → Linked g l (e + 1) → Linked g l e
  unlinked z g b k = linked-removed e k b (sym (k.edge e) ∙ sym (row-removed l e z))

  module _ (live : 0 < cell l SOURCE e) (known : BLOCK * cell l SOURCE e ≤ length l) where
    pub linked : (g : Graph) → e < length g.edges → Linked g l (e + 1) → Linked g (put_link e (cell l SOURCE e - 1) l) e
    linked g b k =
        linked-live e k b (node_id (cell l SOURCE e - 1)) (node_id (cell l TARGET e)) (signed (cell l PRECEDENCE e)) (sym (k.edge e) ∙ sym (row-live l e live)) h (omega arith)

    pub sources-kept : Sources l → Sources (put_link e (cell l SOURCE e - 1) l)
    sources-kept s m =
        rw (link-other l long e (cell l SOURCE e - 1) h (omega arith) SOURCE m (λ x. omega arith) (λ x. omega arith), link-length l long e (cell l SOURCE e - 1) h (omega arith))
        (s m)
