-- One edge more linked.
-- Serves document 01, "Graph image": `outgoing`.
use Rattle.std.specs.Prelude.{ℕ, suc, ◌+◌, ◌*◌, ◌<◌, ◌≤◌, ◌≡◌, Bool, true, false, List, [], ◌∷◌, eqb, ℤ, length}
use Rattle.std.proofs.Common.{arith, add-one, sym, ◌∙◌, subst, eq-eqb, ne_eqb, drop_of_length-le, drop-cons}
use Rattle.std.proofs.Math.Decide.{ℕ_discrete}
use Rattle.std.proofs.Math.Path.{ap}
use Rattle.std.proofs.Math.ListN.{drop, length-set}
use Rattle.semantics.specs.declared.graph.NodeId.{NodeId}
use Rattle.semantics.specs.declared.graph.Edge.{Edge}
use Rattle.semantics.specs.declared.graph.Edge.TheVariants as E
use Rattle.semantics.specs.Lists.{cons_if}
use Rattle.semantics.specs.Graph.{Graph, view_of, outgoing}
use Rattle.image.specs.Filling.{Held}
use Rattle.storage.specs.Index.{NODES, EDGES, BLOCK, KIND, FLAG, FILE, SYMBOL, SYMBOL-HIGH, SCOPE, FIRST, SOURCE, TARGET, NEXT, PRECEDENCE, Blocks, cell, node_row, edge_row, first_row, next_row, put, Runs, Loaded, put_link}
use Rattle.storage.specs.Index.Laws.{cell_same, cell_other}
use Rattle.storage.specs.Links.{Linked}

-- ONE EDGE MORE LINKED
module _ (l : List ℕ) (long : Blocks l) (e s : ℕ) (h : BLOCK * e < length l) (b : BLOCK * s < length l) where
  c1 : List ℕ
  c1 = put NEXT e (cell l FIRST s) l

  link-long : Blocks (put_link e s l)
  unfolding put_link
  link-long = simp length-set long

  pub link-length : length (put_link e s l) ≡ length l
  unfolding put_link
  link-length = simp length-set

  pub link-other : (row m : ℕ) → (BLOCK * m + row ≡ BLOCK * e + NEXT → ⊥) → (BLOCK * m + row ≡ BLOCK * s + FIRST → ⊥) → cell (put_link e s l) row m ≡ cell l row m
  unfolding c1 put_link
  link-other row m p q = cell_other c1 row m FIRST s (e + 1) q ∙ cell_other l row m NEXT e (cell l FIRST s) p

  link-first : first_row (put_link e s l) s ≡ e + 1
  unfolding c1 put_link
  link-first = cell_same c1 FIRST s (e + 1) (simp length-set (omega arith))

  link-next : next_row (put_link e s l) e ≡ first_row l s
  unfolding c1 put_link
  link-next = cell_other c1 NEXT e FIRST s (e + 1) (λ x. omega arith) ∙ cell_same l NEXT e (cell l FIRST s) (omega arith)

  link-nodes : (m : ℕ) → node_row (put_link e s l) m ≡ node_row l m
  unfolding node_row
  link-nodes m =
      rw (
        link-other KIND m (λ x. omega arith) (λ x. omega arith),
        link-other FLAG m (λ x. omega arith) (λ x. omega arith),
        link-other FILE m (λ x. omega arith) (λ x. omega arith),
        link-other SYMBOL m (λ x. omega arith) (λ x. omega arith),
        link-other SYMBOL-HIGH m (λ x. omega arith) (λ x. omega arith),
        link-other SCOPE m (λ x. omega arith) (λ x. omega arith),
      )

  link-edges : (m : ℕ) → edge_row (put_link e s l) m ≡ edge_row l m
  unfolding edge_row
  link-edges m =
      rw (
        link-other SOURCE m (λ x. omega arith) (λ x. omega arith),
        link-other TARGET m (λ x. omega arith) (λ x. omega arith),
        link-other PRECEDENCE m (λ x. omega arith) (λ x. omega arith),
      )

-- links of later edges stay
pub runs-kept : (l k : List ℕ) (n i link : ℕ) (es : List Edge) → ((j : ℕ) → i ≤ j → next_row k j ≡ next_row l j) → Runs l link (outgoing n i es) → Runs k link (outgoing n i es)
unfolding outgoing
runs-kept l k n i link [] h r = r
runs-kept l k n i link (E.Removed ∷ es) h r = runs-kept l k n (suc i) link es (λ j b. h j (omega arith)) r
runs-kept l k n i link (E.Live s t p ∷ es) h r = go (eqb s.0 n) r (λ x q. runs-kept l k n (suc i) x es (λ j b. h j (omega arith)) q)
  where
    go : (b : Bool) → Runs l link (cons_if b i (outgoing n (suc i) es)) → ((x : ℕ) → Runs l x (outgoing n (suc i) es) → Runs k x (outgoing n (suc i) es)) → Runs k link (cons_if b i (outgoing n (suc i) es))
    go true q f = (q.0, rw (h i (omega arith)) (f (next_row l i) q.1))
    go false q f = f link q

module _ (g : Graph) (e : ℕ) (h : e < length g.edges) where
  out-cons : (n : ℕ) → outgoing n e (drop e g.edges) ≡ outgoing n e ((view_of g).edge e ∷ drop (suc e) g.edges)
  unfolding view_of
  out-cons n = ap (outgoing n e) (drop-cons g.edges e E.Removed h)

  out-removed : (n : ℕ) → (view_of g).edge e ≡ E.Removed → outgoing n e (drop e g.edges) ≡ outgoing n (suc e) (drop (suc e) g.edges)
  unfolding outgoing
  out-removed n q = out-cons n ∙ ap (λ (x : Edge). outgoing n e (x ∷ drop (suc e) g.edges)) q

  out-live : (n : ℕ) (s t : NodeId) (p : ℤ) → (view_of g).edge e ≡ E.Live s t p → outgoing n e (drop e g.edges) ≡ cons_if (eqb s.0 n) e (outgoing n (suc e) (drop (suc e) g.edges))
  unfolding outgoing
  out-live n s t p q = out-cons n ∙ ap (λ (x : Edge). outgoing n e (x ∷ drop (suc e) g.edges)) q

module _ {g : Graph} {l : List ℕ} (e : ℕ) (k : Linked g l (e + 1)) (h : e < length g.edges) where
  later : (n : ℕ) → Runs l (first_row l n) (outgoing n (suc e) (drop (suc e) g.edges))
  later n = rw add-one at (k.runs n)

  pub linked-removed : (view_of g).edge e ≡ E.Removed → Linked g l e
  linked-removed q = record { long = k.long; node = k.node; edge = k.edge; runs = λ n. subst (Runs l (first_row l n)) (sym (out-removed g e h n q)) (later n); nodes = k.nodes; edges = k.edges }

  pub linked-live : (s t : NodeId) (p : ℤ) → (view_of g).edge e ≡ E.Live s t p → BLOCK * e < length l → BLOCK * s.0 < length l → Linked g (put_link e s.0 l) e
  linked-live s t p q w b = record {
    long = link-long l k.long e s.0 w b;
    node = λ n. link-nodes l k.long e s.0 w b n ∙ k.node n;
    edge = λ n. link-edges l k.long e s.0 w b n ∙ k.edge n;
    runs = λ n. subst (Runs k' (first_row k' n)) (sym (out-live g e h n s t p q)) (go n (ℕ_discrete s.0 n));
    nodes = k.nodes;
    edges = k.edges;
  }
    where
      k' : List ℕ
      k' = put_link e s.0 l

      kept : (n x : ℕ) → Runs l x (outgoing n (suc e) (drop (suc e) g.edges)) → Runs (put_link e s.0 l) x (outgoing n (suc e) (drop (suc e) g.edges))
      kept n x r = runs-kept l (put_link e s.0 l) n (suc e) x (drop (suc e) g.edges) (λ j m. link-other l k.long e s.0 w b NEXT j (λ y. omega arith) (λ y. omega arith)) r

      go : (n : ℕ) → Dec (s.0 ≡ n) → Runs (put_link e s.0 l) (first_row (put_link e s.0 l) n) (cons_if (eqb s.0 n) e (outgoing n (suc e) (drop (suc e) g.edges)))
      go n (yes z) =
          rw (eq-eqb s.0 n z) (
            ap (first_row (put_link e s.0 l)) (sym z) ∙ link-first l k.long e s.0 w b,
            rw (link-next l k.long e s.0 w b) (kept n (first_row l s.0) (rw z (later n))),
          )
      go n (no z) =
          rw (ne_eqb s.0 n z)
          (rw (link-other l k.long e s.0 w b FIRST n (λ x. omega arith) (λ x. z (omega arith))) (kept n (first_row l n) (later n)))

pub nothing-linked : (g : Graph) (l : List ℕ) (e : ℕ) → length g.edges ≤ e → length g.nodes ≤ NODES → length g.edges ≤ EDGES → Held g l → Linked g l e
unfolding outgoing
nothing-linked g l e h a b k = record {
  long = k.long;
  node = k.node;
  edge = k.edge;
  runs = λ n. subst (λ (es : List Edge). Runs l (first_row l n) (outgoing n e es)) (sym (drop_of_length-le g.edges h)) (k.unlinked n);
  nodes = a;
  edges = b;
}

pub all-linked : {g : Graph} {l : List ℕ} → Linked g l 0 → Loaded g l
unfolding view_of
all-linked k = record { long = k.long; node = k.node; edge = k.edge; runs = k.runs; nodes = k.nodes; edges = k.edges }
