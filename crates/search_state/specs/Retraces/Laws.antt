-- The loop of `retrace`: behind i edges the steps stand for a path from which the others lead on.
-- Serves document 01, "Answer".
use Rattle.std.specs.Prelude.{ℕ, suc, ◌+◌, ◌*◌, ◌<◌, ◌≤◌, ◌≡◌, refl, Bool, true, false, ltb, length, take, drop, get_or}
use Rattle.std.proofs.Common.{arith, sym, ap, ◌∙◌, ltb-true, ltb-false, take-append-drop, drop_of_length-le, length-take-le, get_or-take, drop-cons}
use Rattle.std.proofs.Math.Numerals.{add-one}
use Rattle.std.proofs.Math.Path.{subst}
use mathlib.Core.List.{List, [], ◌∷◌, ◌++◌}
use Rattle.semantics.specs.ReplayedPaths.{step_at}
use Rattle.semantics.specs.declared.graph.Node.{Node}
use Rattle.semantics.specs.declared.graph.Edge.{Edge}
use Rattle.semantics.specs.declared.refusal.PathRefusal.{PathRefusal}
use Rattle.semantics.specs.Limits.{base, step_length}
use Rattle.semantics.specs.Answer.{ok, refuse}
use Rattle.semantics.specs.Answer.Laws.{ok-inj, ok-refuse, and_then-ok}
use Rattle.semantics.specs.Graph.{Graph, View, view_of}
use Rattle.semantics.specs.Path.{Path, append, append_all, append_under}
use Rattle.semantics.proofs.Theorems.Path.Laws.{append_under-ok, append_all-append, append_all-edges}
use Rattle.storage.specs.Index.{BLOCK, node_row, edge_row, target_row, Loaded}
use Rattle.storage.specs.Index.Laws.{target_row_lem, edge-inside, node-inside}
use Rattle.semantics.specs.declared.replayed.Step.{Step}
use Rattle.stepping.specs.Steps.{Effect}
use Rattle.std.specs.Prelude.{Ok, Err}
use Rattle.stepping.specs.Steps.{Low, stacks_of}
use Rattle.stepping.specs.Steps.Laws.{scopes-kept, symbols-kept}
use Rattle.stepping.specs.StepWords.{with_step}
use Rattle.stepping.specs.StepWords.Laws.{step_same, step_other}
use Rattle.stepping.specs.Judged.{Ready, Stepped, Behind, judged_of, remade_behind, remade_in}
use Rattle.stepping.specs.Judged.Laws.{Grown, judged-done, judged-refused, Made, judged-made}
use Rattle.path.specs.Replays.Laws.{nodes-are, edges_are}
use Rattle.search_state.specs.Retraces.{Laid, Retraces, Retraced, Way, Mid, Shared}

-- ---- steps below a new one stay

pub stepped_kept : {ws : List ℕ} (m : ℕ) {k : ℕ} (s : Step) {p : Path} → k < m → Stepped ws k p → Stepped (with_step ws m s) k p
stepped_kept {ws} m {k} s {p} h st =
    let f = step_at ws in
    let f' = step_at (with_step ws m s) in
    let e : (j : ℕ) → j < k + 1 → f' j ≡ f j = λ j l. step_other ws m j s (omega (arith, h, l)) in
    let top : f' k ≡ f k = step_other ws m k s h in
    let low = st.low k (omega arith) in
    let a = symbols-kept f (k + 1) st.low f' e (f k).symbols low.symbols in
    let b = scopes-kept f (k + 1) st.low f' e (f k).scopes (omega (arith, low.scopes)) in
    record {
      low = λ j l. subst (λ (x : Step). Low x j) (sym (e j l)) (st.low j l);
      count = st.count;
      end = ap (λ (x : Step). x.end) top ∙ st.end;
      stacks = st.stacks ∙ (let z : stacks_of f (f k) ≡ stacks_of f' (f k) = λ i. record { symbols = sym a i; scopes = sym b i } in z) ∙ ap (stacks_of f') (sym top);
      edges = λ j l. on j l;
    }
  where
    on : (j : ℕ) → j < k → (step_at (with_step ws m s) (j + 1)).edge ≡ get_or p.edges j 0
    on j l = ap (λ (x : Step). x.edge) (step_other ws m (j + 1) s (omega (arith, h, l))) ∙ st.edges j l

-- an edge can be judged behind these steps
pub ready_of : {ws : List ℕ} {k : ℕ} {p : Path} → Stepped ws k p → k < 4294967294 → step_length * k + step_length ≤ length ws → Ready ws k
ready_of {k} st f r = let low = st.low k (omega arith) in record { few = f; room = r; symbols = low.symbols; scopes = omega (arith, low.scopes) }

-- ---- an edge judged in the index is the edge appended in the graph
module _ {g : Graph} {index : List ℕ} (loaded : Loaded g index) {ws : List ℕ} {k : ℕ} {p : Path} (st : Stepped ws k p) (room : step_length * (k + 1) + step_length ≤ length ws) (e : ℕ) {x : Effect}
    (is : x ≡ judged_of (node_row index) ws k e (edge_row index e)) where
  judged-in : judged_of (view_of g).node ws k e ((view_of g).edge e) ≡ x
  judged-in = sym (is ∙ ap (λ (f : ℕ → Node). judged_of f ws k e (edge_row index e)) (nodes-are g index loaded) ∙ ap (λ (f : ℕ → Edge). judged_of (view_of g).node ws k e (f e)) (edges_are g index loaded))

  pub effect-done : (s : Step) → x ≡ Ok s → Grown (view_of g) ws k p st room e s
  effect-done s d = judged-done (view_of g) ws k p st room e s (judged-in ∙ d)

  pub effect-refused : (z : PathRefusal) → x ≡ Err z → append (view_of g) p e ≡ refuse z
  effect-refused z d = judged-refused (view_of g) ws k p st room e z (judged-in ∙ d)

-- ---- the edges that stand there already

same_entries : (l m : List ℕ) → length l ≡ length m → ((j : ℕ) → j < length l → get_or l j 0 ≡ get_or m j 0) → l ≡ m
same_entries [] [] e h = refl
same_entries [] (y ∷ m) e h = absurd (omega (arith, e))
same_entries (x ∷ l) [] e h = absurd (omega (arith, e))
same_entries (x ∷ l) (y ∷ m) e h =
    let a : x ≡ y = h 0 (omega arith) in
    let b : l ≡ m = same_entries l m (omega (arith, e)) (λ j k. h (suc j) (omega (arith, k))) in
    λ i. a i ∷ b i

append-split : (g : View) (l m : List ℕ) (p q x : Path) → append_all base g p (l ++ m) ≡ ok x → append_all base g p l ≡ ok q → append_all base g q m ≡ ok x
unfolding append_all
append-split g [] m p q x e f = subst (λ (z : Path). append_all base g z m ≡ ok x) (ok-inj p q f) e
append-split g (y ∷ l) m p q x e f =
    let a = and_then-ok (append_under base g p y) (λ z. append_all base g z (l ++ m)) x e in
    let b = and_then-ok (append_under base g p y) (λ z. append_all base g z l) q f in
    let z : a.0 ≡ b.0 = ok-inj a.0 b.0 (sym a.1 ∙ b.1) in
    append-split g l m b.0 q x (subst (λ (w : Path). append_all base g w (l ++ m) ≡ ok x) z a.2) b.2

-- edge by edge
pub shared-none : (ws edges : List ℕ) (n : ℕ) → Shared ws edges n 0
shared-none ws edges n = record { within = omega arith; inside = omega arith; same = λ j h. absurd (omega (arith, h)) }

pub shared-more : {ws edges : List ℕ} {n i : ℕ} → Shared ws edges n i → i < n → i < length edges → (step_at ws (i + 1)).edge ≡ get_or edges i 0 → Shared ws edges n (i + 1)
shared-more {ws} {edges} {i} h a b e = record { within = omega (arith, a); inside = omega (arith, b); same = λ j k. by j k (ltb j i) refl }
  where
    by : (j : ℕ) → j < i + 1 → (b : Bool) → ltb j i ≡ b → (step_at ws (j + 1)).edge ≡ get_or edges j 0
    by j k true t = h.same j (ltb-true j i t)
    by j k false t = let l = ltb-false j i t in let z : i ≡ j = omega (arith, l, k) in subst (λ (m : ℕ). (step_at ws (m + 1)).edge ≡ get_or edges m 0) z e

-- a step more below which all stays
laid_more : (g : View) (first : Path) (ws : List ℕ) (n : ℕ) (s : Step) {q : Path} → Laid g first ws n → Stepped (with_step ws (n + 1) s) (n + 1) q → append_all base g first q.edges ≡ ok q → Laid g first (with_step ws (n + 1) s) (n + 1)
laid_more g first ws n s {q} h st e j k = by (ltb j (n + 1)) refl
  where
    by : (b : Bool) → ltb j (n + 1) ≡ b → (p : Path) × Stepped (with_step ws (n + 1) s) j p × (append_all base g first p.edges ≡ ok p)
    by true t = let l = ltb-true j (n + 1) t in let u = h j (omega (arith, l)) in (u.0, stepped_kept (n + 1) s l u.1, u.2)
    by false t = let l = ltb-false j (n + 1) t in let z : n + 1 ≡ j = omega (arith, l, k) in (q, subst (λ (i : ℕ). Stepped (with_step ws (n + 1) s) i q) z st, e)

-- ---- the loop

-- the edges of a path that is to be laid out
pub way_of : {index ws edges : List ℕ} {n : ℕ} → Retraces index ws edges n → Way index edges
way_of t = record { graph = t.graph; loaded = t.loaded; first = t.first; path = t.path; few = t.few }

pub mid_start : {index ws edges : List ℕ} {n : ℕ} (t : Retraces index ws edges n) {c : ℕ} → Shared ws edges n c → Mid index edges (way_of t) ws c
unfolding way_of
mid_start {edges} t {c} h =
    let u = t.laid c h.within in
    let l : length u.0.edges ≡ c = u.1.count in
    let m : length (take c edges) ≡ c = length-take-le c edges h.inside in
    let z : u.0.edges ≡ take c edges = same_entries u.0.edges (take c edges) (l ∙ sym m) (λ j k. sym (u.1.edges j (omega (arith, k, l))) ∙ h.same j (omega (arith, k, l)) ∙ sym (get_or-take c edges j 0 (omega (arith, k, l)))) in
    let d : append_all base (view_of t.graph) t.first (take c edges) ≡ ok u.0 = subst (λ (x : List ℕ). append_all base (view_of t.graph) t.first x ≡ ok u.0) z u.2 in
    record {
      path = u.0;
      stepped = u.1;
      begun = t.begun;
      led = u.2;
      laid = λ j k. t.laid j (omega (arith, k, h.within));
      onward = append-split (view_of t.graph) (take c edges) (drop c edges) t.first u.0 t.path (subst (λ (x : List ℕ). append_all base (view_of t.graph) t.first x ≡ ok t.path) (sym (take-append-drop c edges)) t.appended) d;
    }

pub mid-end : {index ws₀ edges : List ℕ} {n : ℕ} (t : Retraces index ws₀ edges n) {ws : List ℕ} {i : ℕ} → Mid index edges (way_of t) ws i → i ≤ length edges → length edges ≤ i → Retraced index ws₀ edges n t ws
unfolding append_all way_of
mid-end {edges} t {ws} {i} mid a b =
    let m : i ≡ length edges = omega (arith, a, b) in
    let o = subst (λ (l : List ℕ). append_all base (view_of t.graph) mid.path l ≡ ok t.path) (drop_of_length-le edges b) mid.onward in
    record {
      stepped = subst (λ (p : Path). Stepped ws (length edges) p) (ok-inj mid.path t.path o) (subst (λ (k : ℕ). Stepped ws k mid.path) m mid.stepped);
      begun = mid.begun;
      laid = subst (λ (k : ℕ). Laid (view_of t.graph) t.first ws k) m mid.laid;
    }

-- ---- one edge more
module _ {index edges : List ℕ} {w : Way index edges} {ws : List ℕ} {i : ℕ} (mid : Mid index edges w ws i) (room : step_length * length edges + step_length ≤ length ws) (h : i < length edges) where
  abbrev edge : ℕ
  edge = get_or edges i 0

  abbrev view : View
  view = view_of w.graph

  mid-room : step_length * (i + 1) + step_length ≤ length ws
  mid-room = omega (arith, h, room)

  -- its step can be made behind the last one
  pub mid-behind : {last : Step} → last ≡ step_at ws i → Behind ws last (i + 1)
  mid-behind is =
      let low = mid.stepped.low i (omega arith) in
      let a = ap (λ (s : Step). s.symbols) is in
      let b = ap (λ (s : Step). s.scopes) is in
      record { few = omega (arith, h, w.few); room = mid-room; symbols = omega (arith, a, low.symbols, h, room); scopes = omega (arith, b, low.scopes, h, room) }

  -- it leads to the next path
  parts : (q : Path) × (append_under base view mid.path edge ≡ ok q) × (append view mid.path edge ≡ ok q) × (append_all base view q (drop (i + 1) edges) ≡ ok w.path)
  unfolding append_all
  parts =
      let o = subst (λ (l : List ℕ). append_all base view mid.path l ≡ ok w.path) (drop-cons edges i 0 h) mid.onward in
      let a = and_then-ok (append_under base view mid.path edge) (λ y. append_all base view y (drop (suc i) edges)) w.path o in
      (a.0, a.1, (append_under-ok base view mid.path a.0 edge a.1).1, rw add-one a.2)

  more : append_all base view mid.path (edge ∷ []) ≡ ok parts.0
  unfolding append_all
  more = rw parts.1

  more-led : append_all base view w.first parts.0.edges ≡ ok parts.0
  more-led =
      subst (λ (l : List ℕ). append_all base view w.first l ≡ ok parts.0) (sym (append_all-edges base view (edge ∷ []) mid.path parts.0 more))
      (append_all-append base view mid.path.edges (edge ∷ []) w.first mid.path parts.0 mid.led more)

  -- so it is not refused
  judged : (s : Step) × (judged_of (node_row index) ws i edge (edge_row index edge) ≡ Ok s)
  judged = on (judged_of (node_row index) ws i edge (edge_row index edge)) refl
    where
      on : (x : Effect) → x ≡ judged_of (node_row index) ws i edge (edge_row index edge) → (s : Step) × (judged_of (node_row index) ws i edge (edge_row index edge) ≡ Ok s)
      on (Ok s) is = (s, sym is)
      on (Err z) is = let q = parts in absurd (ok-refuse z q.0 (sym q.2 ∙ effect-refused w.loaded mid.stepped mid-room edge is z refl))

  made : Made (node_row index) ws i edge (edge_row index edge) judged.0
  made = judged-made (node_row index) ws i edge (edge_row index edge) judged.0 judged.1

  leads : target_row index edge ≡ made.target.0
  leads = target_row_lem index edge made.source made.target made.precedence made.live

  -- both records have a block
  pub mid-edge : BLOCK * edge < length index
  mid-edge = edge-inside index edge made.source made.target made.precedence made.live

  pub mid-node : BLOCK * target_row index edge < length index
  mid-node = node-inside index (target_row index edge) (λ e. made.there (ap (node_row index) (sym leads) ∙ e))

  -- made again behind the last step, it is the next one
  pub mid-again : {last : Step} → last ≡ step_at ws i → {r : Step} → r ≡ remade_behind (node_row index) ws last (i + 1) edge (target_row index edge) → {ws' : List ℕ} → ws' ≡ with_step ws (i + 1) r → Mid index edges w ws' (i + 1)
  mid-again was {r} is {ws'} e =
      let q = parts in
      let s = judged.0 in
      let m = effect-done w.loaded mid.stepped mid-room edge (sym judged.1) s refl in
      let x : r ≡ s = is ∙ ap (λ (l : Step). remade_behind (node_row index) ws l (i + 1) edge (target_row index edge)) was ∙ ap (remade_in (node_row index) ws i edge) leads ∙ sym made.step in
      let y : ws' ≡ with_step ws (i + 1) s = e ∙ ap (with_step ws (i + 1)) x in
      let z : q.0 ≡ m.path = ok-inj q.0 m.path (sym q.2 ∙ m.appended) in
      let d : append_all base view w.first m.path.edges ≡ ok m.path = subst (λ (p : Path). append_all base view w.first p.edges ≡ ok p) z more-led in
      record {
        path = m.path;
        stepped = subst (λ (l : List ℕ). Stepped l (i + 1) m.path) (sym y) m.stepped;
        begun = subst (λ (l : List ℕ). Stepped l 0 w.first) (sym y) (stepped_kept (i + 1) s (omega arith) mid.begun);
        led = d;
        laid = subst (λ (l : List ℕ). Laid view w.first l (i + 1)) (sym y) (laid_more view w.first ws i s mid.laid m.stepped d);
        onward = subst (λ (p : Path). append_all base view p (drop (i + 1) edges) ≡ ok w.path) z q.3;
      }

  pub mid-last : (r : Step) {ws' : List ℕ} → ws' ≡ with_step ws (i + 1) r → r ≡ step_at ws' (i + 1)
  mid-last r e = sym (ap (λ (l : List ℕ). step_at l (i + 1)) e ∙ step_same ws (i + 1) r mid-room)
