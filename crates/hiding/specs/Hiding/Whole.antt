-- An index of an accepted graph in which nodes and edges were hidden holds what the desk sees of the graph.
-- Document 02, order 8.
use Rattle.std.specs.Prelude.{ℕ, zero, suc, ◌<◌, ◌≡◌, Bool, List, [], ◌∷◌}
use Rattle.std.proofs.Common.{arith, ◌∙◌, subst, lt-ltb, le-ltb}
use Rattle.std.proofs.Math.Decide.{dec_lt}
use Rattle.std.proofs.Math.Path.{refl, sym, ap}
use Rattle.std.proofs.Math.Bool.{true, false}
use Rattle.std.proofs.Math.ListN.{length, get_or, get_or-eq_default}
use Rattle.semantics.specs.declared.graph.Node.{Node}
use Rattle.semantics.specs.declared.graph.Node.TheVariants as N
use Rattle.semantics.specs.declared.graph.Edge.{Edge}
use Rattle.semantics.specs.declared.graph.Edge.TheVariants as E
use Rattle.semantics.specs.Lists.{and}
use Rattle.semantics.specs.Lists.Laws.{and-true}
use Rattle.semantics.specs.Graph.{Graph, view_of, file_of}
use Rattle.semantics.specs.Acceptance.{every_from, edge_fits, one_file, is_live, count_fits, accepts, place_fits, file_fits, node_fits}
use Rattle.semantics.specs.Hidden.{sees_file, node_if, edge_if, seen_node, seen_edge, seen}
use Rattle.semantics.proofs.Theorems.Hidden.Laws.{seen-node, seen-edge}
use Rattle.image.specs.Filling.{Filled, Held}
use Rattle.image.specs.Filling.Laws.{filled-as}
use Rattle.hiding.specs.Hiding.{seen_to, pruned, pruned_to}

-- what holds of each record, and of what stands behind the last one
every-at : {A : Type 0} (t : A → Bool) (d : A) → t d ≡ true → (l : List A) (i k : ℕ) → every_from (λ j x. t x) i l ≡ true → t (get_or l k d) ≡ true
every-at t d z [] i k h = z
every-at t d z (x ∷ l) i zero h = (and-true (t x) (every_from (λ j y. t y) (suc i) l) h).0
every-at t d z (x ∷ l) i (suc k) h = every-at t d z l (suc i) k (and-true (t x) (every_from (λ j y. t y) (suc i) l) h).1

-- every edge of an accepted graph fits
pub edge_at : (g : Graph) → accepts g ≡ true → (e : ℕ) → edge_fits (view_of g) ((view_of g).edge e) ≡ true
unfolding accepts view_of edge_fits
edge_at g good e =
    every-at (edge_fits (view_of g)) E.Removed refl g.edges 0 e
    (and-true (every_from (λ i n. and (place_fits i n) (and (file_fits g.files (file_of n)) (node_fits (view_of g) n))) 0 g.nodes) (every_from (λ i x. edge_fits (view_of g) x) 0 g.edges) (and-true (count_fits g) _ good).1).1

module _ (see : ℕ → Bool) (g : Graph) (good : accepts g ≡ true) where
  abbrev F : ℕ → Node
  F = seen_to see (length g.nodes) (view_of g).node

  removed_seen : N.Removed ≡ seen_node see N.Removed
  unfolding seen_node node_if sees_file
  removed_seen = refl

  nodes-seen : (n : ℕ) → F n ≡ (view_of (seen see g)).node n
  unfolding view_of
  nodes-seen n = go (dec_lt n (length g.nodes))
    where
      go : Dec (n < length g.nodes) → F n ≡ (view_of (seen see g)).node n
      go (yes p) = rw (lt-ltb n (length g.nodes) p) (sym (seen-node see g n))
      go (no p) =
          let z : get_or g.nodes n N.Removed ≡ N.Removed = get_or-eq_default g.nodes N.Removed {n = n} (omega arith) in
          rw (le-ltb n (length g.nodes) (omega arith)) (z ∙ removed_seen ∙ ap (seen_node see) (sym z) ∙ sym (seen-node see g n))

  gone-seen : E.Removed ≡ seen_edge see (view_of g) E.Removed
  unfolding seen_edge
  gone-seen = refl

  -- a live node is seen exactly when its file is
  live-seen : (n : Node) → is_live n ≡ true → is_live (seen_node see n) ≡ sees_file see (file_of n)
  unfolding seen_node node_if
  live-seen n h = on (sees_file see (file_of n))
    where
      on : (b : Bool) → is_live (node_if b n) ≡ b
      on true = h
      on false = refl

  pruned-is : (x : Edge) → edge_fits (view_of g) x ≡ true → pruned F x ≡ seen_edge see (view_of g) x
  unfolding pruned seen_edge edge_fits
  pruned-is E.Removed h = refl
  pruned-is (E.Live s t p) h =
      let a = (and-true (one_file (file_of ((view_of g).node s.0)) (file_of ((view_of g).node t.0))) _ h).1 in
      let b = and-true (is_live ((view_of g).node s.0)) _ a in
      let c = and-true (is_live ((view_of g).node t.0)) _ b.1 in
      ap (λ x. edge_if (and x (is_live (F t.0))) s t p) (end s.0 b.0) ∙ ap (λ x. edge_if (and (sees_file see (file_of ((view_of g).node s.0))) x) s t p) (end t.0 c.0)
    where
      end : (n : ℕ) → is_live ((view_of g).node n) ≡ true → is_live (F n) ≡ sees_file see (file_of ((view_of g).node n))
      end n h = ap is_live (nodes-seen n ∙ seen-node see g n) ∙ live-seen ((view_of g).node n) h

  edges-seen : (e : ℕ) → pruned_to F (length g.edges) (view_of g).edge e ≡ (view_of (seen see g)).edge e
  unfolding view_of
  edges-seen e = go (dec_lt e (length g.edges))
    where
      go : Dec (e < length g.edges) → pruned_to F (length g.edges) (view_of g).edge e ≡ (view_of (seen see g)).edge e
      go (yes p) = rw (lt-ltb e (length g.edges) p) (pruned-is ((view_of g).edge e) (edge_at g good e) ∙ sym (seen-edge see g e))
      go (no p) =
          let z : get_or g.edges e E.Removed ≡ E.Removed = get_or-eq_default g.edges E.Removed {n = e} (omega arith) in
          rw (le-ltb e (length g.edges) (omega arith)) (z ∙ gone-seen ∙ ap (seen_edge see (view_of g)) (sym z) ∙ sym (seen-edge see g e))

  -- THE WHOLE: what both passes leave is what the desk sees
  pub hidden_held : (l : List ℕ) → Filled F (pruned_to F (length g.edges) (view_of g).edge) l → Held (seen see g) l
  hidden_held l d = filled-as l nodes-seen edges-seen d

-- both passes, with the counts as they are given
pub both-passes : (see : ℕ → Bool) (g : Graph) → accepts g ≡ true → (n m : ℕ) → n ≡ length g.nodes → m ≡ length g.edges → (a b c : List ℕ) → Held g a
    → ((f : ℕ → Node) (D : ℕ → Edge) → Filled f D a → Filled (seen_to see n f) D b) → ((G : ℕ → Node) (f : ℕ → Edge) → Filled G f b → Filled G (pruned_to G m f) c) → Held (seen see g) c
both-passes see g good n m p q a b c h x y =
    hidden_held see g good c
    (subst (λ k. Filled (seen_to see (length g.nodes) (view_of g).node) (pruned_to (seen_to see (length g.nodes) (view_of g).node) k (view_of g).edge) c) q
    (subst (λ k. Filled (seen_to see k (view_of g).node) (pruned_to (seen_to see k (view_of g).node) m (view_of g).edge) c) p (y (seen_to see n (view_of g).node) (view_of g).edge (x (view_of g).node (view_of g).edge h))))
