-- What a desk sees of an accepted graph is an accepted graph with the same counts; so 34 is the same; and dead slots do not matter to what it sees of a database.
-- Document 02, order 8.
use Rattle.std.specs.Prelude.{ℕ, zero, suc, ◌≡◌, Bool, leb, ltb, length, get_or}
use Rattle.std.proofs.Math.Path.{refl, ap}
use Rattle.std.proofs.Common.{sym, ◌∙◌}
use Rattle.std.proofs.Math.Bool.{true, false}
use Rattle.std.proofs.lemmas.Bool.{false≢true}
use Rattle.std.proofs.Math.Option.{Option, none, some}
use mathlib.Core.List.{List, [], ◌∷◌, map}
use Rattle.std.proofs.Math.ListN.{length-map}
use Rattle.semantics.specs.declared.graph.Node.{Node}
use Rattle.semantics.specs.declared.graph.Node.TheVariants as N
use Rattle.semantics.specs.declared.graph.Edge.{Edge}
use Rattle.semantics.specs.declared.graph.Edge.TheVariants as E
use Rattle.semantics.specs.Lists.{and}
use Rattle.semantics.specs.Lists.Laws.{and-true, eqb-true}
use Rattle.semantics.specs.Graph.{Graph, View, view_of, file_of, is_file, is_exported}
use Rattle.semantics.specs.Acceptance.{every_from, file_fits, place_fits, exported_in, edge_fits, node_fits, count_fits, accepts}
use Rattle.semantics.specs.Limits.{Bounds}
use Rattle.semantics.specs.PartialPaths.{Slot, dead, slot, only_live, SameLive}
use Rattle.semantics.specs.Database.{check_database}
use Rattle.semantics.specs.Hidden.{sees_file, node_if, edge_if, seen_node, seen_edge, seen, sees_owner, slot_if, seen_slot, seen_slots}

get_d_map : {A : Type 0} (f : A → A) (d : A) (l : List A) (k : ℕ) → f d ≡ d → get_or (map f l) k d ≡ f (get_or l k d)
get_d_map f d [] k h = sym h
get_d_map f d (x ∷ l) zero h = refl
get_d_map f d (x ∷ l) (suc k) h = get_d_map f d l k h

module _ (see : ℕ → Bool) (g : Graph) where
  pub seen-node : (n : ℕ) → (view_of (seen see g)).node n ≡ seen_node see ((view_of g).node n)
  unfolding view_of seen
  seen-node n = get_d_map (seen_node see) N.Removed g.nodes n refl

  pub seen-edge : (e : ℕ) → (view_of (seen see g)).edge e ≡ seen_edge see (view_of g) ((view_of g).edge e)
  unfolding view_of seen
  seen-edge e = get_d_map (seen_edge see (view_of g)) E.Removed g.edges e refl

  pub seen-files : (seen see g).files ≡ g.files
  unfolding seen
  seen-files = refl

  pub seen-nodes : length (seen see g).nodes ≡ length g.nodes
  unfolding seen
  seen-nodes = length-map g.nodes (seen_node see)

  pub seen-edges : length (seen see g).edges ≡ length g.edges
  unfolding seen
  seen-edges = length-map g.edges (seen_edge see (view_of g))

-- what is said of a seen node that is not said of a removed one is said of the node, whose file is visible
pub seen_test : (see : ℕ → Bool) (g : Graph) (test : Node → Bool) → test N.Removed ≡ false → (n : ℕ) → test ((view_of (seen see g)).node n) ≡ true
    → (sees_file see (file_of ((view_of g).node n)) ≡ true) × (test ((view_of g).node n) ≡ true)
unfolding node_if seen_node
seen_test see g test removed n e = on (sees_file see (file_of ((view_of g).node n))) refl (sym (ap test (seen-node see g n)) ∙ e)
  where
    on : (b : Bool) → sees_file see (file_of ((view_of g).node n)) ≡ b → test (node_if b ((view_of g).node n)) ≡ true → (sees_file see (file_of ((view_of g).node n)) ≡ true) × (test ((view_of g).node n) ≡ true)
    on true h k = (h, k)
    on false h k = absurd (false≢true (sym removed ∙ k))

-- ACCEPTED
every_map : {A : Type 0} (t u : ℕ → A → Bool) (f : A → A) (l : List A) (i : ℕ) → ((j : ℕ) (x : A) → t j x ≡ true → u j (f x) ≡ true) → every_from t i l ≡ true → every_from u i (map f l) ≡ true
every_map t u f [] i h e = refl
every_map t u f (x ∷ l) i h e =
    let a = and-true (t i x) (every_from t (suc i) l) e in
    rw (h i x a.0, every_map t u f l (suc i) h a.1)

abbrev node_test : ℕ → View → ℕ → Node → Bool
node_test files g i n = and (place_fits i n) (and (file_fits files (file_of n)) (node_fits g n))

module _ (see : ℕ → Bool) (g : Graph) where
  abbrev G : Graph
  G = seen see g

  -- an exported scope of a file that is seen is seen
  exported-seen : (f : ℕ) (n : Node) → see f ≡ true → exported_in f n ≡ true → exported_in f (seen_node see n) ≡ true
  unfolding exported_in seen_node is_file sees_file node_if
  exported-seen f n v h = on (file_of n) refl
    where
      on : (o : Option ℕ) → file_of n ≡ o → and (is_exported (node_if (sees_file see (file_of n)) n)) (is_file f (file_of (node_if (sees_file see (file_of n)) n))) ≡ true
      on none e = rw e h
      on (some x) e =
          let k = (and-true (is_exported n) (is_file f (file_of n)) h).1 in
          let q : x ≡ f = eqb-true x f (sym (ap (is_file f) e) ∙ k) in
          rw (ap (sees_file see) e ∙ ap see q ∙ v) h

  node-fits : (i : ℕ) (n : Node) → node_test g.files (view_of g) i n ≡ true → node_test g.files (view_of G) i (seen_node see n) ≡ true
  unfolding seen_node node_if place_fits file_fits node_fits sees_file
  node-fits i N.Removed h = h
  node-fits i N.Root h = h
  node-fits i N.JumpToScope h = h
  node-fits i (N.Scope f x) h = on (see f.0)
    where
      on : (b : Bool) → node_test g.files (view_of G) i (node_if b (N.Scope f x)) ≡ true
      on true = h
      on false = rw (and-true (leb 2 i) _ h).0
  node-fits i (N.Push f x r) h = on (see f.0)
    where
      on : (b : Bool) → node_test g.files (view_of G) i (node_if b (N.Push f x r)) ≡ true
      on true = h
      on false = rw (and-true (leb 2 i) _ h).0
  node-fits i (N.Pop f x d) h = on (see f.0)
    where
      on : (b : Bool) → node_test g.files (view_of G) i (node_if b (N.Pop f x d)) ≡ true
      on true = h
      on false = rw (and-true (leb 2 i) _ h).0
  node-fits i (N.PushScoped f x a r) h = on (see f.0) refl
    where
      on : (b : Bool) → see f.0 ≡ b → node_test g.files (view_of G) i (node_if b (N.PushScoped f x a r)) ≡ true
      on true v =
          let p = and-true (leb 2 i) _ h in
          let q = and-true (ltb f.0 g.files) _ p.1 in
          rw (p.0, q.0, seen-node see g a.0) (exported-seen f.0 ((view_of g).node a.0) v q.1)
      on false v = rw (and-true (leb 2 i) _ h).0
  node-fits i (N.PopScoped f x d) h = on (see f.0)
    where
      on : (b : Bool) → node_test g.files (view_of G) i (node_if b (N.PopScoped f x d)) ≡ true
      on true = h
      on false = rw (and-true (leb 2 i) _ h).0
  node-fits i (N.DropScopes f) h = on (see f.0)
    where
      on : (b : Bool) → node_test g.files (view_of G) i (node_if b (N.DropScopes f)) ≡ true
      on true = h
      on false = rw (and-true (leb 2 i) _ h).0

  edge-fits : (x : Edge) → edge_fits (view_of g) x ≡ true → edge_fits (view_of G) (seen_edge see (view_of g) x) ≡ true
  unfolding edge_fits seen_edge edge_if
  edge-fits E.Removed h = refl
  edge-fits (E.Live s t p) h = on (and (sees_file see (file_of ((view_of g).node s.0))) (sees_file see (file_of ((view_of g).node t.0)))) refl
    where
      same : (n : ℕ) → sees_file see (file_of ((view_of g).node n)) ≡ true → (view_of G).node n ≡ (view_of g).node n
      same n v = seen-node see g n ∙ (unfold seen_node node_if in ap (λ b. node_if b ((view_of g).node n)) v)

      on : (b : Bool) → and (sees_file see (file_of ((view_of g).node s.0))) (sees_file see (file_of ((view_of g).node t.0))) ≡ b → edge_fits (view_of G) (edge_if b s t p) ≡ true
      on true v =
          let z = and-true (sees_file see (file_of ((view_of g).node s.0))) (sees_file see (file_of ((view_of g).node t.0))) v in
          rw (same s.0 z.0, same t.0 z.1) h
      on false v = refl

  pub seen-accepted : accepts g ≡ true → accepts G ≡ true
  unfolding accepts count_fits seen
  seen-accepted h =
      let a = and-true (count_fits g) _ h in
      let b = and-true (every_from (node_test g.files (view_of g)) 0 g.nodes) _ a.1 in
      let c : count_fits G ≡ true = rw (seen-nodes see g, seen-edges see g) a.0 in
      let d : every_from (node_test g.files (view_of G)) 0 (map (seen_node see) g.nodes) ≡ true = every_map (node_test g.files (view_of g)) (node_test g.files (view_of G)) (seen_node see) g.nodes 0 node-fits b.0 in
      let e : every_from (λ i x. edge_fits (view_of G) x) 0 (map (seen_edge see (view_of g)) g.edges) ≡ true = every_map (λ i x. edge_fits (view_of g) x) (λ i x. edge_fits (view_of G) x) (seen_edge see (view_of g)) g.edges 0 (λ j x k. edge-fits x k) b.1 in
      finish c d e
    where
      finish : count_fits G ≡ true → every_from (node_test g.files (view_of G)) 0 (map (seen_node see) g.nodes) ≡ true → every_from (λ i x. edge_fits (view_of G) x) 0 (map (seen_edge see (view_of g)) g.edges) ≡ true → accepts G ≡ true
      finish c d e = unfold accepts seen in rw (c, d, e)

-- 35 does not look at the graph, and 34 only at its counts
pub seen-checked : (bd : Bounds) (known : ℕ → ℕ → Bool) (see : ℕ → Bool) (g : Graph) (words : List ℕ) → check_database bd known (seen see g) words ≡ check_database bd known g words
unfolding check_database
seen-checked bd known see g words = rw (seen-nodes see g, seen-files see g)

-- DEAD SLOTS
module _ (see : ℕ → Bool) where
  live-seen : (db : List Slot) → only_live (seen_slots see db) ≡ only_live (seen_slots see (only_live db))
  unfolding only_live seen_slot
  live-seen [] = refl
  live-seen (dead ∷ db) = live-seen db
  live-seen (slot f s t es ∷ db) = on (sees_owner see f) (live-seen db)
    where
      on : (b : Bool) → only_live (seen_slots see db) ≡ only_live (seen_slots see (only_live db)) → only_live (slot_if b (slot f s t es) ∷ seen_slots see db) ≡ only_live (slot_if b (slot f s t es) ∷ seen_slots see (only_live db))
      on true e = ap (λ (l : List Slot). slot f s t es ∷ l) e
      on false e = e

  pub seen-live : (db db' : List Slot) → SameLive db db' → SameLive (seen_slots see db) (seen_slots see db')
  seen-live db db' e = live-seen db ∙ ap (λ (l : List Slot). only_live (seen_slots see l)) e ∙ sym (live-seen db')
