-- An accepted graph has what demand 3 needs, and every attached scope of it is exported.
-- Document 01, "For demand 3"; 19 of "Turned back".
use Rattle.std.specs.Prelude.{ℕ, zero, suc, ◌+◌, ◌≤◌, ◌<◌, ◌⊎◌, Bool, List, [], ◌∷◌, eqb, leb, ltb, length, get_or, ℤ}
use Rattle.std.proofs.Common.{add-zero, add-suc, suc-add, arith, ◌∙◌, inl, inr}
use Rattle.std.proofs.Math.Nat.{zero-add}
use Rattle.std.proofs.Math.Path.{◌≡◌, refl, sym, ap}
use Rattle.std.proofs.Math.Logic.{⊎_elim}
use Rattle.std.proofs.Math.Bool.{true, false, true≢false}
use Rattle.std.proofs.Math.Option.{Option, none, some}
use Rattle.std.proofs.Math.Dec.{leb→le, ltb→lt}
use borrow.Author.Tests.{not-true}
use Rattle.semantics.specs.declared.graph.NodeId.{NodeId}
use Rattle.semantics.specs.declared.graph.FileId.{FileId}
use Rattle.semantics.specs.declared.graph.Node.{Node}
use Rattle.semantics.specs.declared.graph.Node.TheVariants as N
use Rattle.semantics.specs.declared.graph.Edge.{Edge}
use Rattle.semantics.specs.declared.graph.Edge.TheVariants as E
use Rattle.semantics.specs.Lists.{and}
use Rattle.semantics.specs.Lists.Laws.{eq→T, eqb-true, eqb_same, and-true}
use Rattle.semantics.specs.Graph.{Graph, View, view_of, traits, file_of, lacks_file, is_exported}
use Rattle.semantics.specs.Graph.Laws.{fileless-shared}
use Rattle.semantics.proofs.Theorems.PartialPaths.Laws.{belongs-cases, belongs-source}
use Rattle.semantics.specs.Demand.{file_owners, Suited}
use Rattle.semantics.specs.Acceptance.{every_from, is_live, file_fits, place_fits, exported_in, one_file, edge_fits, node_fits, count_fits, accepts}

abbrev node_test : ℕ → View → ℕ → Node → Bool
node_test files g i n = and (place_fits i n) (and (file_fits files (file_of n)) (node_fits g n))

abbrev edge_test : View → ℕ → Edge → Bool
edge_test g i e = edge_fits g e

every-at : {A : Type 0} (t : ℕ → A → Bool) (d : A) (l : List A) (i k : ℕ) → every_from t i l ≡ true → (t (i + k) (get_or l k d) ≡ true) ⊎ (get_or l k d ≡ d)
every-at t d [] i k h = inr refl
every-at t d (x ∷ l) i zero h = inl (rw add-zero (and-true (t i x) (every_from t (suc i) l) h).0)
every-at t d (x ∷ l) i (suc k) h = rw (add-suc i k, ← suc-add i k) (every-at t d l (suc i) k (and-true (t i x) (every_from t (suc i) l) h).1)

-- WHAT THE TESTS SAY OF EACH RECORD
module _ (g : Graph) (h : accepts g ≡ true) where
  tests : (count_fits g ≡ true) × (and (every_from (node_test g.files (view_of g)) 0 g.nodes) (every_from (edge_test (view_of g)) 0 g.edges) ≡ true)
  unfolding accepts
  tests = and-true (count_fits g) _ h

  each : (every_from (node_test g.files (view_of g)) 0 g.nodes ≡ true) × (every_from (edge_test (view_of g)) 0 g.edges ≡ true)
  each = and-true (every_from (node_test g.files (view_of g)) 0 g.nodes) _ tests.1

  pub few-files : g.files ≤ 256
  unfolding count_fits
  few-files = leb→le g.files 256 (eq→T _ (and-true (leb g.files 256) _ tests.0).0)

  node_at : (n : ℕ) → (node_test g.files (view_of g) n ((view_of g).node n) ≡ true) ⊎ ((view_of g).node n ≡ N.Removed)
  unfolding view_of
  node_at n = rw zero-add at (every-at (node_test g.files (view_of g)) N.Removed g.nodes 0 n each.0)

  edge_at : (e : ℕ) → (edge_fits (view_of g) ((view_of g).edge e) ≡ true) ⊎ ((view_of g).edge e ≡ E.Removed)
  unfolding view_of
  edge_at e = every-at (edge_test (view_of g)) E.Removed g.edges 0 e each.1

  root-first : (n : ℕ) → (view_of g).node n ≡ N.Root → n ≡ 0
  unfolding place_fits
  root-first n e = ⊎_elim (λ (k : node_test g.files (view_of g) n ((view_of g).node n) ≡ true). eqb-true n 0 (sym (ap (place_fits n) e) ∙ (and-true (place_fits n ((view_of g).node n)) _ k).0)) (λ k. absurd (let z : ◌≡◌ {A = Bool} true false = cc in true≢false z)) (node_at n)

  home : (n f : ℕ) → file_of ((view_of g).node n) ≡ some f → f < g.files
  unfolding file_fits
  home n f e = ⊎_elim (λ (k : node_test g.files (view_of g) n ((view_of g).node n) ≡ true). ltb→lt f g.files (eq→T (ltb f g.files) (sym (ap (file_fits g.files) e) ∙ (and-true (file_fits g.files (file_of ((view_of g).node n))) _ (and-true (place_fits n ((view_of g).node n)) _ k).1).0)))
      (λ (k : (view_of g).node n ≡ N.Removed). absurd (let y : none ≡ some f = sym (ap file_of k) ∙ e in let z : ◌≡◌ {A = Bool} true false = cc in true≢false z)) (node_at n)

  one-file : (e : ℕ) (s t : NodeId) (p : ℤ) (a b : ℕ) → (view_of g).edge e ≡ E.Live s t p → file_of ((view_of g).node s.0) ≡ some a → file_of ((view_of g).node t.0) ≡ some b → a ≡ b
  unfolding edge_fits one_file
  one-file e s t p a b k x y = ⊎_elim (λ (q : edge_fits (view_of g) ((view_of g).edge e) ≡ true). eqb-true a b (sym (ap (λ (o : Option ℕ). one_file o (some b)) x) ∙ ap (one_file (file_of ((view_of g).node s.0))) (sym y) ∙ (and-true (one_file (file_of ((view_of g).node s.0)) (file_of ((view_of g).node t.0))) _ (sym (ap (edge_fits (view_of g)) k) ∙ q)).0))
      (λ q. absurd (let z : ◌≡◌ {A = Bool} true false = cc in true≢false z)) (edge_at e)

  -- a live edge has live ends and does not start at jump
  pub edge-live : (e : ℕ) (s t : NodeId) (p : ℤ) → (view_of g).edge e ≡ E.Live s t p → (is_live ((view_of g).node s.0) ≡ true) × (is_live ((view_of g).node t.0) ≡ true) × (s.0 ≡ 1 → ⊥)
  unfolding edge_fits
  edge-live e s t p k = ⊎_elim fits (λ q. absurd (let z : ◌≡◌ {A = Bool} true false = cc in true≢false z)) (edge_at e)
    where
      fits : edge_fits (view_of g) ((view_of g).edge e) ≡ true → (is_live ((view_of g).node s.0) ≡ true) × (is_live ((view_of g).node t.0) ≡ true) × (s.0 ≡ 1 → ⊥)
      fits q =
          let a = and-true (one_file (file_of ((view_of g).node s.0)) (file_of ((view_of g).node t.0))) _ (sym (ap (edge_fits (view_of g)) k) ∙ q) in
          let b = and-true (is_live ((view_of g).node s.0)) _ a.1 in
          let c = and-true (is_live ((view_of g).node t.0)) _ b.1 in
          (b.0, c.0, λ z. true≢false (sym (eqb_same s.0) ∙ ap (eqb s.0) z ∙ not-true (eqb s.0 1) c.1))

  -- jump is node 1 and no other
  pub jump-only : (n : ℕ) → (view_of g).node n ≡ N.JumpToScope → n ≡ 1
  unfolding place_fits
  jump-only n e = ⊎_elim (λ (k : node_test g.files (view_of g) n ((view_of g).node n) ≡ true). eqb-true n 1 (sym (ap (place_fits n) e) ∙ (and-true (place_fits n ((view_of g).node n)) _ k).0)) (λ k. absurd (let z : ◌≡◌ {A = Bool} true false = cc in true≢false z)) (node_at n)

  pub jump-there : (view_of g).node 1 ≡ N.JumpToScope
  unfolding view_of place_fits count_fits
  jump-there = on g.nodes enough each.0
    where
      second : (n : Node) → place_fits 1 n ≡ true → n ≡ N.JumpToScope
      second N.Removed h = absurd (true≢false (sym h))
      second N.Root h = absurd (true≢false (sym h))
      second N.JumpToScope h = refl
      second (N.Scope f x) h = absurd (true≢false (sym h))
      second (N.Push f x d) h = absurd (true≢false (sym h))
      second (N.Pop f x d) h = absurd (true≢false (sym h))
      second (N.PushScoped f x a d) h = absurd (true≢false (sym h))
      second (N.PopScoped f x d) h = absurd (true≢false (sym h))
      second (N.DropScopes f) h = absurd (true≢false (sym h))

      enough : 2 ≤ length g.nodes
      enough = leb→le 2 (length g.nodes) (eq→T _ (and-true (leb 2 (length g.nodes)) _ (and-true (leb g.files 256) _ tests.0).1).0)

      on : (l : List Node) → 2 ≤ length l → every_from (node_test g.files (view_of g)) 0 l ≡ true → get_or l 1 N.Removed ≡ N.JumpToScope
      on [] m e = absurd (omega (arith, m))
      on (a ∷ []) m e = absurd (omega (arith, m))
      on (a ∷ b ∷ l) m e = second b (and-true (place_fits 1 b) _ (and-true (node_test g.files (view_of g) 1 b) _ (and-true (node_test g.files (view_of g) 0 a) _ e).1).0).0

  -- so a live node that lacks a file is node 0 or node 1
  pub fileless-first : (n : ℕ) → is_live ((view_of g).node n) ≡ true → lacks_file (file_of ((view_of g).node n)) ≡ true → (n ≡ 0) ⊎ (n ≡ 1)
  fileless-first n l e = ⊎_elim (λ k. inl (root-first n k)) (λ k. inr (jump-only n k)) (fileless-shared ((view_of g).node n) (not-true (traits ((view_of g).node n)).removed l) e)

  -- an attached scope is exported: 19 has no occasion
  pub scope-exported : (n : ℕ) (f : FileId) (x : ℕ) (a : NodeId) (r : Bool) → (view_of g).node n ≡ N.PushScoped f x a r → is_exported ((view_of g).node a.0) ≡ true
  unfolding node_fits exported_in
  scope-exported n f x a r e = ⊎_elim (λ (k : node_test g.files (view_of g) n ((view_of g).node n) ≡ true). (and-true (is_exported ((view_of g).node a.0)) _ (sym (ap (node_fits (view_of g)) e) ∙ (and-true (file_fits g.files (file_of ((view_of g).node n))) _ (and-true (place_fits n ((view_of g).node n)) _ k).1).1)).0)
      (λ k. absurd (let z : ◌≡◌ {A = Bool} true false = cc in true≢false z)) (node_at n)

  pub suited : Suited (view_of g) (file_owners g)
  suited = record {
    root-first = root-first;
    home = home;
    from-root = λ f k. inl refl;
    from_start = λ n f k s. inr (k, s);
    at_source = λ e s t p f k x. belongs-source (view_of g) f e s t p k x;
    at_target = λ e s t p a b k o y. ⊎_elim (λ x. one-file e s t p a b k x y) (λ (x : file_of ((view_of g).node t.0) ≡ some a). some_inj a b (sym x ∙ y)) (belongs-cases (view_of g) a e s t p k o);
  }
    where
      some_inj : (a b : ℕ) → some a ≡ some b → a ≡ b
      some_inj a b e = cc
