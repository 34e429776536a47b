-- The value of a replay: how the loop builds it, and what it says of the path rules.
-- Document 01, "Path": "Replay tests the bound, then appends".
use Rattle.std.specs.Prelude.{ℕ, ◌+◌, ◌≤◌, ◌<◌, Bool, length, replicate, Err, Ok}
use native.Mathlib.Omega.{arith}
use Rattle.std.proofs.Math.Numerals.{add-one}
use Rattle.std.proofs.Math.Path.{◌≡◌, refl, sym, ap, subst, fun_ext}
use Rattle.std.proofs.Common.{◌∙◌, drop_of_length-le, drop-cons}
use Rattle.std.proofs.Math.Bool.{true, false}
use mathlib.Core.List.{List, [], ◌∷◌}
use Rattle.std.proofs.Math.Dec.{ltb}
use Rattle.std.proofs.Math.ListN.{get_or, drop}
use borrow.Author.Tests.{lt-ltb, le-ltb, ltb-true, ltb-false}
use Rattle.semantics.specs.ReplayedPaths.{step_at}
use Rattle.semantics.specs.declared.graph.Node.{Node}
use Rattle.semantics.specs.declared.graph.Edge.{Edge}
use Rattle.semantics.specs.declared.refusal.ReplayRefusal.{ReplayRefusal}
use Rattle.semantics.specs.declared.refusal.ReplayRefusal.TheVariants as Replay
use Rattle.semantics.specs.PublicAnswers as A
use Rattle.semantics.specs.Lists.{pick}
use Rattle.semantics.specs.Limits.{base, steps_length}
use Rattle.semantics.specs.Answer.{Answer, ok, refuse, and_then, wrap}
use Rattle.semantics.specs.Graph.{Graph, View, view_of}
use Rattle.semantics.specs.Path as Model
use Rattle.semantics.specs.Path.{append_if, append_under, append_all, from_reference, replay}
use Rattle.semantics.proofs.Theorems.Path.Laws.{append_under-is}
use Rattle.storage.specs.Index.{node_row, edge_row, Loaded}
use Rattle.stepping.specs.Steps.{Effect}
use Rattle.std.specs.Prelude.{Ok, Err}
use Rattle.semantics.specs.declared.replayed.Path.{Path}
use Rattle.path.specs.declared.replay.ReplayOutcome as R
use Rattle.stepping.specs.Steps.{Low}
use Rattle.stepping.specs.Judged.{begun_of, judged_of}
use Rattle.stepping.specs.Judged.Laws.{begun-low, judged-low, begun-done, begun-refused, judged-done, judged-refused, written_low}
use Rattle.path.specs.Shadows.Laws.{JumpAt}
use Rattle.path.specs.Values.{is_jump_edge, started_by, longer_path, appended_by, Sized, Growing, Shows}
use Rattle.path.specs.Values.Laws.{empty-room, start-sized, more-sized, shows-start, more_room, shows_more}
use Rattle.path.specs.Replays.{outcome_of, too_long, onward, one_more, value_along, value_from, value_of, Answers}
use Rattle.semantics.specs.declared.answer.TurnedBack.{TurnedBack}

-- the rows of a loaded graph are its view
pub nodes-are : (g : Graph) (index : List ℕ) → Loaded g index → node_row index ≡ (view_of g).node
nodes-are g index l = fun_ext l.node

pub edges_are : (g : Graph) (index : List ℕ) → Loaded g index → edge_row index ≡ (view_of g).edge
edges_are g index l = fun_ext l.edge

-- GOING ON, or not
onward_stops : (a : A.Replayed) (x : R.ReplayOutcome) (next : Path → R.ReplayOutcome) → (a ≡ Ok tt → ⊥) → x ≡ onward a x next
onward_stops (Ok tt) x next h = absurd (h refl)
onward_stops (Err (TurnedBack.Image r)) x next h = refl
onward_stops (Err (TurnedBack.Refused r)) x next h = refl

onward-goes : (a : A.Replayed) (x : R.ReplayOutcome) (next : Path → R.ReplayOutcome) → a ≡ Ok tt → next x.path ≡ onward a x next
onward-goes a x next h = ap (λ b. onward b x next) (sym h)

-- A VALUE ON THE WAY: its arrays have their lengths, and every step reads only steps before it
abbrev pub Lowly : Path → Type 0
Lowly x = (j : ℕ) → j < x.count + 1 → Low (step_at x.steps j) j

pub record Sound (x : Path) : Type 0 where
  pub low : Lowly x
  pub sized : Sized x

pub may-grow : (x : Path) → Sound x → x.count < base.edges → Growing x
may-grow x s h =
    let l = s.low x.count (omega arith) in
    record { few = h; ready = record { few = omega (arith, h); room = omega (arith, h, s.sized.steps); symbols = l.symbols; scopes = omega (arith, l.scopes) } }

module _ (nodes : ℕ → Node) (r : ℕ) where
  start-sound : (value_from nodes r).answer ≡ Ok tt → Sound (value_from nodes r).path
  start-sound h = on (begun_of nodes r) refl h
    where
      on : (E : Effect) → begun_of nodes r ≡ E → (outcome_of (started_by r E)).answer ≡ Ok tt → Sound (outcome_of (started_by r E)).path
      on (Ok s) f h = record { low = written_low (replicate steps_length 0) 0 s empty-room (λ j i. absurd (omega (arith, i))) (begun-low nodes r s f).0; sized = start-sized r s }
      on (Err z) f h = absurd (let z : ◌≡◌ {A = ℕ} 0 1 = cc in omega arith)

module _ (nodes : ℕ → Node) (edges : ℕ → Edge) (x : Path) (e : ℕ) where
  abbrev judged : Effect
  judged = judged_of nodes x.steps x.count e (edges e)

  abbrev appended : Effect → R.ReplayOutcome
  appended E = outcome_of (appended_by x e (is_jump_edge (edges e)) E)

  pub more-long : base.edges ≤ x.count → too_long ≡ one_more nodes edges x e
  unfolding one_more
  more-long h = simp (le-ltb x.count base.edges h)

  pub more-short : x.count < base.edges → appended judged ≡ one_more nodes edges x e
  unfolding one_more
  more-short h = simp (lt-ltb x.count base.edges h)

  appended-sound : Sound x → x.count < base.edges → (E : Effect) → judged ≡ E → (appended E).answer ≡ Ok tt → Sound (appended E).path
  appended-sound v few (Ok s) f h = record {
    low = written_low x.steps (x.count + 1) s (omega (arith, few, v.sized.steps)) v.low (judged-low nodes x.steps x.count e (edges e) s v.low f);
    sized = more-sized e (is_jump_edge (edges e)) s v.sized;
  }
  appended-sound v few (Err z) f h = absurd (let z : ◌≡◌ {A = ℕ} 0 1 = cc in omega arith)

  more-sound : Sound x → (one_more nodes edges x e).answer ≡ Ok tt → Sound (one_more nodes edges x e).path
  unfolding one_more
  more-sound v h = on (ltb x.count base.edges) refl h
    where
      on : (b : Bool) → ltb x.count base.edges ≡ b → (pick b (appended judged) too_long).answer ≡ Ok tt → Sound (pick b (appended judged) too_long).path
      on true t h = appended-sound v (ltb-true x.count base.edges t) judged refl h
      on false t h = absurd (let z : ◌≡◌ {A = ℕ} 0 1 = cc in omega arith)

-- THE LOOP: the value from here on is the value from the start
abbrev pub Going : List ℕ → ℕ → List ℕ → Path → ℕ → Type 0
Going index r es x i = (i ≤ length es) × Sound x × (value_along (node_row index) (edge_row index) x (drop i es) ≡ value_of (node_row index) (edge_row index) r es)

module _ (index : List ℕ) (r : ℕ) (es : List ℕ) (b : R.ReplayOutcome) (is : b ≡ value_from (node_row index) r) where
  pub begun-stops : (b.answer ≡ Ok tt → ⊥) → b ≡ value_of (node_row index) (edge_row index) r es
  unfolding value_of
  begun-stops h = is ∙ onward_stops (value_from (node_row index) r).answer (value_from (node_row index) r) (λ p. value_along (node_row index) (edge_row index) p es) (λ k. h (ap (λ (y : R.ReplayOutcome). y.answer) is ∙ k))

  pub begun-goes : b.answer ≡ Ok tt → Going index r es b.path 0
  unfolding value_of
  begun-goes h =
      let k = sym (ap (λ (y : R.ReplayOutcome). y.answer) is) ∙ h in
      let p = ap (λ (y : R.ReplayOutcome). y.path) is in (
        omega arith,
        subst Sound (sym p) (start-sound (node_row index) r k),
        ap (λ (q : Path). value_along (node_row index) (edge_row index) q es) p ∙ onward-goes (value_from (node_row index) r).answer (value_from (node_row index) r) (λ q. value_along (node_row index) (edge_row index) q es) k,
      )

module _ (index : List ℕ) (r : ℕ) (es : List ℕ) (x : Path) (i : ℕ) (go : Going index r es x i) (more : i < length es) (b : R.ReplayOutcome) (is : b ≡ one_more (node_row index) (edge_row index) x (get_or es i 0)) where
  abbrev next : R.ReplayOutcome
  next = one_more (node_row index) (edge_row index) x (get_or es i 0)

  abbrev rest : Path → R.ReplayOutcome
  rest q = value_along (node_row index) (edge_row index) q (drop (i + 1) es)

  rest-is : onward next.answer next rest ≡ value_of (node_row index) (edge_row index) r es
  unfolding value_along
  rest-is =
      let d : drop i es ≡ get_or es i 0 ∷ drop (i + 1) es = rw add-one (drop-cons es i 0 more) in
      sym (ap (value_along (node_row index) (edge_row index) x) d) ∙ go.2

  pub more-stops : (b.answer ≡ Ok tt → ⊥) → b ≡ value_of (node_row index) (edge_row index) r es
  more-stops h = is ∙ onward_stops next.answer next rest (λ k. h (ap (λ (y : R.ReplayOutcome). y.answer) is ∙ k)) ∙ rest-is

  pub more-goes : b.answer ≡ Ok tt → Going index r es b.path (i + 1)
  more-goes h =
      let k = sym (ap (λ (y : R.ReplayOutcome). y.answer) is) ∙ h in
      let p = ap (λ (y : R.ReplayOutcome). y.path) is in (
        omega (arith, more),
        subst Sound (sym p) (more-sound (node_row index) (edge_row index) x (get_or es i 0) go.1 k),
        ap rest p ∙ onward-goes next.answer next rest k ∙ rest-is,
      )

pub all-replayed : (index : List ℕ) (r : ℕ) (es : List ℕ) (x : Path) (i : ℕ) → Going index r es x i → length es ≤ i → record { answer = Ok tt; path = x } ≡ value_of (node_row index) (edge_row index) r es
unfolding value_along
all-replayed index r es x i go h =
    let z : value_along (node_row index) (edge_row index) x (drop i es) ≡ record { answer = Ok tt; path = x } = ap (value_along (node_row index) (edge_row index) x) (drop_of_length-le es h) in
    sym z ∙ go.2

-- WHAT THE VALUE SAYS: what the path rules say
module _ (g : View) (j : JumpAt g) where
  -- behind one edge, where the rest says what the path rules say
  module _ (es : List ℕ) (x : Path) (p : Model.Path) (sh : Shows x p) (e : ℕ) (rest-says : (y : Path) (q : Model.Path) → Shows y q → Answers (value_along g.node g.edge y es) (append_all base g q es)) where
    abbrev followed : R.ReplayOutcome → R.ReplayOutcome
    followed y = onward y.answer y (λ q. value_along g.node g.edge q es)

    abbrev modelled : Answer ReplayRefusal Model.Path
    modelled = and_then (append_under base g p e) (λ q. append_all base g q es)

    appended-says : x.count < base.edges → (E : Effect) → judged_of g.node x.steps x.count e (g.edge e) ≡ E → Answers (followed (outcome_of (appended_by x e (is_jump_edge (g.edge e)) E))) modelled
    appended-says few (Ok s) f =
        let y = judged-done g x.steps x.count p sh.stepped (more_room e (is_jump_edge (g.edge e)) s few sh.sized) e s f in
        let q = shows_more e (is_jump_edge (g.edge e)) s few sh.sized j sh refl y in
        let u : append_under base g p e ≡ ok q.0 = append_under-is base g p e (lt-ltb (length p.edges) base.edges (omega (arith, few, sh.stepped.count))) ∙ ap (wrap Replay.Path) q.1 in
        rw u (rest-says (longer_path x e (is_jump_edge (g.edge e)) s) q.0 q.2)
    appended-says few (Err z) f =
        let k = judged-refused g x.steps x.count p sh.stepped (omega (arith, few, sh.sized.steps)) e z f in
        let u : append_under base g p e ≡ refuse (Replay.Path z) = append_under-is base g p e (lt-ltb (length p.edges) base.edges (omega (arith, few, sh.stepped.count))) ∙ ap (wrap Replay.Path) k in
        rw u (refl, refl)

    edge-says : Answers (followed (one_more g.node g.edge x e)) modelled
    unfolding one_more append_under append_if
    edge-says = on (ltb x.count base.edges) refl
      where
        on : (b : Bool) → ltb x.count base.edges ≡ b → Answers (followed (pick b (outcome_of (appended_by x e (is_jump_edge (g.edge e)) (judged_of g.node x.steps x.count e (g.edge e)))) too_long)) modelled
        on true t = appended-says (ltb-true x.count base.edges t) (judged_of g.node x.steps x.count e (g.edge e)) refl
        on false t =
            let l = ltb-false x.count base.edges t in
            rw (le-ltb (length p.edges) base.edges (omega (arith, l, sh.stepped.count))) (refl, refl)

  along-says : (es : List ℕ) (x : Path) (p : Model.Path) → Shows x p → Answers (value_along g.node g.edge x es) (append_all base g p es)
  unfolding value_along append_all
  along-says [] x p sh = (refl, sh)
  along-says (e ∷ es) x p sh = edge-says es x p sh e (along-says es)

  value-says : (r : ℕ) (es : List ℕ) → Answers (value_of g.node g.edge r es) (replay base g r es)
  unfolding value_of replay
  value-says r es = on (begun_of g.node r) refl
    where
      on : (E : Effect) → begun_of g.node r ≡ E → Answers (onward (outcome_of (started_by r E)).answer (outcome_of (started_by r E)) (λ p. value_along g.node g.edge p es)) (and_then (wrap Replay.Path (from_reference g r)) (λ p. append_all base g p es))
      on (Ok s) f =
          let d = begun-done g (replicate steps_length 0) empty-room r s f in
          rw d.started (along-says es (started_by r (Ok s)).path d.path (shows-start f d))
      on (Err z) f =
          let k = begun-refused g (replicate steps_length 0) empty-room r z f in
          rw k (refl, refl)

-- on the rows of a loaded graph
pub value_loaded : (g : Graph) (index : List ℕ) → Loaded g index → (r : ℕ) (es : List ℕ) → value_of (node_row index) (edge_row index) r es ≡ value_of (view_of g).node (view_of g).edge r es
value_loaded g index l r es = λ i. value_of (nodes-are g index l i) (edges_are g index l i) r es

pub loaded-says : (index : List ℕ) (r : ℕ) (es : List ℕ) (y : R.ReplayOutcome) → y ≡ value_of (node_row index) (edge_row index) r es → (g : Graph) → Loaded g index → JumpAt (view_of g) → Answers y (replay base (view_of g) r es)
loaded-says index r es y e g l j = subst (λ (v : R.ReplayOutcome). Answers v (replay base (view_of g) r es)) (sym (e ∙ value_loaded g index l r es)) (value-says (view_of g) j r es)
