-- Each outcome of the whole check from the outcomes of its parts.
-- Serves document 01, "Turned back".
use Rattle.std.specs.Prelude.{ℕ, ◌<◌, ◌≤◌, ◌≡◌, Bool, true, false, List, eqb, length, Err}
use Rattle.std.proofs.Common.{arith, sym, ◌∙◌, subst, eq-eqb, ne_eqb}
use Rattle.std.proofs.Math.Path.{refl, ap}
use Rattle.semantics.specs.Entries.{graph_in}
use Rattle.semantics.specs.declared.refusal.ImageRefusal.{ImageRefusal}
use Rattle.semantics.specs.declared.refusal.ImageRefusal.TheVariants as Image
use Rattle.semantics.specs.Calls.{check_call}
use Rattle.semantics.specs.Lists.{pick}
use Rattle.semantics.specs.Answer.{Answer, ok, refuse, and_then}
use Rattle.semantics.specs.Acceptance.{accepts}
use Rattle.semantics.specs.Answer.Laws.{ok-inj, refuse-ok, and_then-ok}
use Rattle.semantics.proofs.Theorems.Hidden.Laws.{seen-nodes, seen-edges, seen-accepted}
use Rattle.hiding.specs.Hiding.Whole.{edge_at}
use Rattle.semantics.specs.Graph.{Graph, view_of}
use Rattle.semantics.specs.Image.{symbol_bytes, width_in, first_record, first_edge, files_of, nodes_of, edges_of, header, node_record, edge_record, scan, place_of, edge_misfit, graph_of, references, check_image}
use Rattle.storage.specs.Index.{Loaded}
use Rattle.image.specs.Filling.{Held}
use Rattle.storage.specs.Links.{Linked}
use Rattle.storage.specs.Links.Laws.{nothing-linked}
use Rattle.image.specs.Records.{Headed, Room, records_of, graph_read}
use Rattle.image.specs.Records.Laws.{length-nodes, length-edges}
use Rattle.storage.specs.References.{First, node_test, edge_test, Sources}
use Rattle.storage.specs.References.Laws.{nodes-fit, node-misfit, edges_fit, edge-misfit, sources-fit}
use Rattle.storage.specs.Checks.{references_of, Unlinked, shown}
use Rattle.semantics.specs.PublicAnswers.{Checked, accepted}

-- THE PARTS BEHIND ONE ANOTHER
then-assoc : {A B C : Type 0} (x : Answer ImageRefusal A) (f : A → Answer ImageRefusal B) (h : B → Answer ImageRefusal C) → and_then x (λ a. and_then (f a) h) ≡ and_then (and_then x f) h
then-assoc (ok a) f h = refl
then-assoc (refuse r) f h = refl

abbrev ending : List ℕ → ℕ → Answer ImageRefusal Graph
ending im last = pick (eqb last (length im)) (references_of im) (refuse Image.Length)

module _ (im : List ℕ) where
  pub bad-header : (r : ImageRefusal) → header symbol_bytes im ≡ refuse r → graph_in im ≡ refuse r
  unfolding check_image
  bad-header r e = rw e

  module _ (good : header symbol_bytes im ≡ ok first_record) where
    behind-header : graph_in im ≡ and_then (records_of im) (ending im)
    unfolding check_image
    behind-header = rw good (then-assoc (scan (node_record (width_in im) im (files_of im)) 0 first_record (nodes_of im)) (λ middle. scan (λ e. edge_record im) 0 middle (edges_of im)) (ending im))

    pub bad-record : (r : ImageRefusal) → records_of im ≡ refuse r → graph_in im ≡ refuse r
    bad-record r e = behind-header ∙ ap (λ x. and_then x (ending im)) e

    module _ (last : ℕ) (read : records_of im ≡ ok last) where
      at-end : graph_in im ≡ ending im last
      at-end = behind-header ∙ ap (λ x. and_then x (ending im)) read

      pub left_over : (last ≡ length im → ⊥) → graph_in im ≡ refuse Image.Length
      left_over h = at-end ∙ ap (λ (b : Bool). pick b (references_of im) (refuse Image.Length)) (ne_eqb last (length im) h)

      pub by-references : last ≡ length im → graph_in im ≡ references_of im
      by-references h = at-end ∙ ap (λ (b : Bool). pick b (references_of im) (refuse Image.Length)) (eq-eqb last (length im) h)

-- THE REFERENCES
pub count-nodes : (im : List ℕ) → length (graph_read im).nodes ≡ nodes_of im
unfolding graph_of
count-nodes im = length-nodes (width_in im) im first_record (nodes_of im)

pub count-edges : (im : List ℕ) → length (graph_read im).edges ≡ edges_of im
unfolding graph_of
count-edges im = length-edges im (first_edge im) (edges_of im)

module _ (im : List ℕ) {n k : ℕ} (is_nodes : n ≡ nodes_of im) (f : First (node_test (graph_read im)) n k) where
  pub bad-node : k < n → references_of im ≡ refuse (Image.Reference (place_of im first_record k))
  unfolding references view_of
  bad-node h =
      ap (λ x. and_then x (λ y. ok (graph_read im)))
      (node-misfit im (graph_read im) (graph_read im).nodes first_record k _ (omega (arith, count-nodes im)) f.before (f.here h))

  module _ (fit : n ≤ k) where
    -- the nodes fit, so the edges decide
    by-edges : references im (graph_read im) ≡ edge_misfit im (graph_read im) (first_edge im) (graph_read im).edges
    unfolding references view_of
    by-edges = nodes-fit im (graph_read im) (graph_read im).nodes first_record _ (λ j h. f.before j (omega (arith, h, count-nodes im)))

    module _ {m e : ℕ} (is_edges : m ≡ edges_of im) (d : First (edge_test (graph_read im)) m e) where
      pub bad-edge : e < m → references_of im ≡ refuse (Image.Reference (place_of im (first_edge im) e))
      unfolding view_of
      bad-edge h =
          ap (λ x. and_then x (λ y. ok (graph_read im)))
          (by-edges ∙ edge-misfit im (graph_read im) (graph_read im).edges (first_edge im) e (omega (arith, count-edges im)) d.before (d.here h))

      pub all_fit : m ≤ e → references_of im ≡ ok (graph_read im)
      unfolding view_of
      all_fit h =
          ap (λ x. and_then x (λ y. ok (graph_read im)))
          (by-edges ∙ edges_fit im (graph_read im) (graph_read im).edges (first_edge im) (λ j b. d.before j (omega (arith, b, count-edges im))))

      -- what the linking is handed
      pub sources-known : (l : List ℕ) → Held (graph_read im) l → m ≤ e → Sources l
      sources-known l k h = sources-fit (graph_read im) l k m (omega (arith, count-edges im)) (λ j b. d.before j (omega arith))

-- the graph of an accepted image is the one that was put into the index
read_is : (im : List ℕ) (g : Graph) → references_of im ≡ ok g → graph_read im ≡ g
read_is im g e = let x = and_then-ok (references im (graph_read im)) (λ y. ok (graph_read im)) g e in ok-inj (graph_read im) g x.2

-- what the check leaves
pub unlinked : (im l : List ℕ) → Headed im → Room im l → Held (graph_read im) l → ((g : Graph) → references_of im ≡ ok g → Sources l) → (g : Graph) → references_of im ≡ ok g → Unlinked g l
unlinked im l h r k s g e =
    subst (λ (x : Graph). Unlinked x l) (read_is im g e)
    (record {
      held = k;
      sources = s g e;
      nodes = omega (arith, count-nodes im, h.nodes);
      edges = omega (arith, count-edges im, h.edges);
      node-room = omega (arith, count-nodes im, r.nodes);
      edge-room = omega (arith, count-edges im, r.edges);
    })

-- of what is shown: as many records, and accepted
module _ (whole : Bool) (see : ℕ → Bool) (g : Graph) where
  shown-nodes : length (shown whole see g).nodes ≡ length g.nodes
  shown-nodes = on whole
    where
      on : (b : Bool) → length (shown b see g).nodes ≡ length g.nodes
      on true = refl
      on false = seen-nodes see g

  pub shown-edges : length (shown whole see g).edges ≡ length g.edges
  shown-edges = on whole
    where
      on : (b : Bool) → length (shown b see g).edges ≡ length g.edges
      on true = refl
      on false = seen-edges see g

  shown-accepted : accepts g ≡ true → accepts (shown whole see g) ≡ true
  shown-accepted good = on whole
    where
      on : (b : Bool) → accepts (shown b see g) ≡ true
      on true = good
      on false = seen-accepted see g good

-- what is shown of it, when its hidden files are cleared
pub unlinked-shown : {g : Graph} {l : List ℕ} (whole : Bool) (see : ℕ → Bool) (m : List ℕ) → accepts g ≡ true → Unlinked g l → length m ≡ length l → Held (shown whole see g) m → Unlinked (shown whole see g) m
unlinked-shown {g} {l} whole see m good u n k = record {
  held = k;
  sources = sources-fit (shown whole see g) m k (length (shown whole see g).edges) (omega arith) (λ e b. edge_at (shown whole see g) (shown-accepted whole see g good) e);
  nodes = omega (arith, shown-nodes whole see g, u.nodes);
  edges = omega (arith, shown-edges whole see g, u.edges);
  node-room = omega (arith, shown-nodes whole see g, u.node-room, n);
  edge-room = omega (arith, shown-edges whole see g, u.edge-room, n);
}

-- what linking is handed
pub ready : {g : Graph} {l : List ℕ} {m : ℕ} → Unlinked g l → m ≡ length g.edges → Linked g l m
ready {g} {l} {m} u e = nothing-linked g l m (omega arith) u.nodes u.edges u.held

-- THE ANSWER
pub told-refused : {x : Answer ImageRefusal Graph} (r : ImageRefusal) → x ≡ refuse r → Err r ≡ check_call x
unfolding check_call
told-refused r e = sym (ap check_call e)

pub told-accepted : (im : List ℕ) {f n m : ℕ} → f ≡ files_of im → n ≡ nodes_of im → m ≡ edges_of im → references_of im ≡ ok (graph_read im) → accepted f n m ≡ check_call (references_of im)
unfolding check_call
told-accepted im a b c e =
    let x = a ∙ sym files in let y = b ∙ sym (count-nodes im) in let z = c ∙ sym (count-edges im) in
    (λ i. accepted (x i) (y i) (z i)) ∙ sym (ap check_call e)
  where
    files : (graph_read im).files ≡ files_of im
    files = unfold graph_of in refl

-- a refused one has none
pub refused-graph : {x : Answer ImageRefusal Graph} {a : Checked} (r : ImageRefusal) → a ≡ check_call x → a ≡ Err r → (g : Graph) → x ≡ ok g → ⊥
unfolding check_call
refused-graph r e q g k = let z : Err r ≡ check_call (ok g) = sym q ∙ e ∙ ap check_call k in let y : ◌≡◌ {A = ℕ} 0 1 = cc in omega arith

-- and whatever is said of the graph of a refused image holds
pub none-known : {P : Type 0} {x : Answer ImageRefusal Graph} (r : ImageRefusal) → x ≡ refuse r → (g : Graph) → x ≡ ok g → P
none-known r e g q = absurd (refuse-ok r g (sym e ∙ q))

-- nothing is loaded by a refused image
pub none-loaded : {l : List ℕ} {x : Answer ImageRefusal Graph} (r : ImageRefusal) → x ≡ refuse r → (g : Graph) → x ≡ ok g → Loaded g l
none-loaded r e g q = absurd (refuse-ok r g (sym e ∙ q))

-- what is said of the graph that an accepted image holds
pub one-loaded : (L : Graph → Type 0) {x : Answer ImageRefusal Graph} (h : Graph) → x ≡ ok h → L h → (g : Graph) → x ≡ ok g → L g
one-loaded L h e k g q = subst L (ok-inj h g (sym e ∙ q)) k
