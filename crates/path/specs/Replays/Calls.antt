-- From the values to the calls of the definitions: replay, completeness, shadowing.
-- Document 01, "Path".
use Rattle.std.specs.Prelude.{ℕ, ◌+◌, ◌*◌, ◌≤◌, ◌≡◌, refl, Bool, true, false, List, [], ◌∷◌, length, Err, Ok}
use Rattle.std.proofs.Common.{arith, sym, ap, ◌∙◌, length-append}
use Rattle.std.proofs.lemmas.List.{length-replicate}
use Rattle.semantics.specs.ReplayedPaths.{step_at, read_path}
use Rattle.semantics.specs.declared.graph.Edge.{Edge}
use Rattle.semantics.specs.declared.graph.Node.{Node}
use Rattle.semantics.specs.declared.refusal.ImageRefusal.{ImageRefusal}
use Rattle.semantics.specs.declared.refusal.ReplayRefusal.{ReplayRefusal}
use Rattle.semantics.specs.Limits.{base, max_edges, step_length, steps_length}
use Rattle.semantics.specs.Answer.{Answer, ok, refuse}
use Rattle.semantics.specs.Answer.Laws.{ok-inj, and_then-ok}
use Rattle.semantics.specs.Graph.{Graph, View, view_of, is_reference}
use Rattle.semantics.specs.Acceptance.{accepts}
use Rattle.semantics.proofs.Theorems.Acceptance.Laws.{jump-only, jump-there}
use Rattle.semantics.specs.Hidden.{seen}
use Rattle.semantics.proofs.Theorems.Hidden.Laws.{seen-accepted}
use Rattle.semantics.specs.Image.{check_image}
use Rattle.semantics.proofs.Theorems.Image.Laws.{image-accepted}
use Rattle.semantics.specs.Path as Model
use Rattle.semantics.specs.Path.{append_under, append_all, replay}
use Rattle.semantics.proofs.Theorems.Path.Laws.{append-ok, append_under-ok, append_all-edges, append_all-bound, begun, replay-ok}
use Rattle.semantics.specs.Told.{told_replayed}
use Rattle.semantics.specs.Calls.{replay_answer, complete_answer, shadows_answer, left_first, replay_call, complete_call, shadows_call}
use Rattle.storage.specs.Index.{node_row, edge_row, Loaded}
use Rattle.semantics.specs.declared.replayed.Path.{Path}
use Rattle.path.specs.declared.replay.ReplayOutcome as R
use Rattle.stepping.specs.Judged.{complete_step}
use Rattle.stepping.specs.Judged.Laws.{complete-is}
use Rattle.path.specs.Shadows.{shadows_edges}
use Rattle.path.specs.Shadows.Laws.{JumpAt, shadows-edges}
use Rattle.path.specs.Values.{empty_path}
use Rattle.path.specs.Values.Laws.{reads, reads-empty}
use Rattle.path.specs.Replays.{value_of, replay_value, Answers, judged_as}
use Rattle.path.specs.Replays.Laws.{nodes-are, edges_are, value_loaded}
use Rattle.semantics.specs.declared.answer.TurnedBack.{TurnedBack}

jump-at : (g : Graph) → accepts g ≡ true → JumpAt (view_of g)
jump-at g a = record { there = jump-there g a; only = jump-only g a }

-- an accepted graph has its jump at node 1
pub accepted-jump : (widths : ℕ → ℕ) (im : List ℕ) (g : Graph) → check_image widths im ≡ ok g → JumpAt (view_of g)
accepted-jump widths im g h = jump-at g (image-accepted widths im g h)

-- and so has what a desk sees of it
pub seen-jump : (see : ℕ → Bool) (widths : ℕ → ℕ) (im : List ℕ) (g : Graph) → check_image widths im ≡ ok g → JumpAt (view_of (seen see g))
seen-jump see widths im g h = jump-at (seen see g) (seen-accepted see g (image-accepted widths im g h))

-- REPLAY: what is told, what is read, and the value whole
abbrev Given : Answer ImageRefusal Graph → ℕ → List ℕ → R.ReplayOutcome → Type 0
Given x n es y = (told_replayed y.answer ≡ told_replayed (replay_call base x n es).answer) × (read_path y.path ≡ (replay_call base x n es).path) × (y ≡ replay_value x n es)

pub replay-image : {x : Answer ImageRefusal Graph} (r : ImageRefusal) → x ≡ refuse r → (n : ℕ) (es : List ℕ) {p : Path} → p ≡ empty_path → Given x n es (record { answer = Err (TurnedBack.Image r); path = p })
unfolding replay_call replay_value
replay-image r h n es k = rw h (refl, ap read_path k ∙ reads-empty, (λ i. record { answer = Err (TurnedBack.Image r); path = k i }))

pub replay-answers : {index : List ℕ} {x : Answer ImageRefusal Graph} {g : Graph} → x ≡ ok g → Loaded g index → (n : ℕ) (es : List ℕ) {y : R.ReplayOutcome} → y ≡ value_of (node_row index) (edge_row index) n es
    → Answers y (replay base (view_of g) n es) → Given x n es y
unfolding replay_call replay_answer replay_value
replay-answers {index} {g} h l n es {y} v a = rw h (let k = on (replay base (view_of g) n es) a in (k.0, k.1, v ∙ value_loaded g index l n es))
  where
    on : (z : Answer ReplayRefusal Model.Path) → Answers y z → (told_replayed y.answer ≡ told_replayed (replay_answer z).answer) × (read_path y.path ≡ (replay_answer z).path)
    on (ok p) a = (ap told_replayed a.0, reads a.1)
    on (refuse r) a = (ap told_replayed a.0, ap read_path a.1 ∙ reads-empty)

-- COMPLETENESS
all_start : (g : View) (es : List ℕ) (p q : Model.Path) → append_all base g p es ≡ ok q → q.start ≡ p.start
unfolding append_all
all_start g [] p q h = ap (λ (x : Model.Path). x.start) (sym (ok-inj p q h))
all_start g (e ∷ es) p q h =
    let a = and_then-ok (append_under base g p e) (λ x. append_all base g x es) q h in
    let k = append-ok g p a.0 e (append_under-ok base g p a.0 e a.1).1 in
    all_start g es a.0 q a.2 ∙ k.added.start

module _ (g : View) (n : ℕ) (es : List ℕ) (q : Model.Path) (h : replay base g n es ≡ ok q) where
  pub from-a-reference : is_reference (g.node q.start) ≡ true
  from-a-reference =
      let a = replay-ok base g n es q h in
      let b = begun g n a.0 a.1 in
      ap (λ m. is_reference (g.node m)) (all_start g es a.0 q a.2 ∙ b.start) ∙ b.reference

  pub few-edges : length q.edges ≤ max_edges
  few-edges =
      let a = replay-ok base g n es q h in
      let b = begun g n a.0 a.1 in
      let z : length a.0.edges ≡ 0 = ap length b.edges in
      let m = append_all-bound base g es a.0 q (omega (arith, z)) a.2 in
      let l : length q.edges ≡ length a.0.edges + length es = ap length (append_all-edges base g es a.0 q a.2) ∙ length-append a.0.edges es in
      omega (arith, m, l)

-- the last step can be read
pub room : (g : View) (n : ℕ) (es : List ℕ) (y : R.ReplayOutcome) → Answers y (replay base g n es) → step_length * y.path.count + step_length ≤ length y.path.steps
room g n es y a = on (replay base g n es) refl a
  where
    on : (z : Answer ReplayRefusal Model.Path) → replay base g n es ≡ z → Answers y z → step_length * y.path.count + step_length ≤ length y.path.steps
    on (ok p) e a = omega (arith, few-edges g n es p e, a.1.stepped.count, a.1.sized.steps)
    on (refuse r) e a =
        let z : y.path.count ≡ 0 = ap (λ (p : Path). p.count) a.1 in
        let l : length y.path.steps ≡ steps_length = ap (λ (p : Path). length p.steps) a.1 ∙ length-replicate {A = ℕ} steps_length 0 in
        omega (arith, z, l)

pub complete-answers : {index : List ℕ} {x : Answer ImageRefusal Graph} {g : Graph} → x ≡ ok g → Loaded g index → (n : ℕ) (es : List ℕ) (y : R.ReplayOutcome) → Answers y (replay base (view_of g) n es)
    → judged_as y.answer (complete_step (node_row index) (step_at y.path.steps y.path.count)) ≡ complete_call base x n es
unfolding complete_call complete_answer
complete-answers {index} {g} h l n es y a = rw h (on (replay base (view_of g) n es) refl a)
  where
    on : (z : Answer ReplayRefusal Model.Path) → replay base (view_of g) n es ≡ z → Answers y z → judged_as y.answer (complete_step (node_row index) (step_at y.path.steps y.path.count)) ≡ complete_answer (view_of g) z
    on (ok p) e a =
        let c = complete-is (view_of g) y.path.steps y.path.count p a.1.stepped (from-a-reference (view_of g) n es p e) in
        ap (λ r. judged_as r (complete_step (node_row index) (step_at y.path.steps y.path.count))) a.0
        ∙ ap Ok (ap (λ (m : ℕ → Node). complete_step m (step_at y.path.steps y.path.count)) (nodes-are g index l) ∙ sym c)
    on (refuse r) e a = ap (λ r. judged_as r (complete_step (node_row index) (step_at y.path.steps y.path.count))) a.0

-- SHADOWING
pub left-stops : (y : R.ReplayOutcome) (a b : Answer ReplayRefusal Model.Path) → Answers y a → (y.answer ≡ Ok tt → ⊥) → judged_as y.answer false ≡ left_first a b
unfolding left_first
left-stops y (ok p) b h k = absurd (k h.0)
left-stops y (refuse r) b h k = ap (λ z. judged_as z false) h.0

pub right-judged : {index : List ℕ} {g : Graph} → Loaded g index → JumpAt (view_of g) → (n m : ℕ) (ls rs : List ℕ) (x y : R.ReplayOutcome)
    → Answers x (replay base (view_of g) n ls) → x.answer ≡ Ok tt → Answers y (replay base (view_of g) m rs)
    → judged_as y.answer (shadows_edges (edge_row index) ls rs) ≡ left_first (replay base (view_of g) n ls) (replay base (view_of g) m rs)
unfolding left_first shadows_answer
right-judged {index} {g} l j n m ls rs x y a d b = on (replay base (view_of g) n ls) (replay base (view_of g) m rs) refl refl a b
  where
    on : (v w : Answer ReplayRefusal Model.Path) → replay base (view_of g) n ls ≡ v → replay base (view_of g) m rs ≡ w → Answers x v → Answers y w → judged_as y.answer (shadows_edges (edge_row index) ls rs) ≡ left_first v w
    on (ok p) (ok q) e f a b =
        ap (λ r. judged_as r (shadows_edges (edge_row index) ls rs)) b.0
        ∙ ap Ok (ap (λ (m : ℕ → Edge). shadows_edges m ls rs) (edges_are g index l) ∙ sym (shadows-edges j base n m ls rs p q e f))
    on (ok p) (refuse r) e f a b = ap (λ r. judged_as r (shadows_edges (edge_row index) ls rs)) b.0
    on (refuse r) w e f a b = absurd (let z : ◌≡◌ {A = ℕ} 0 1 = cc in omega arith)

-- AN IMAGE that is turned back, or accepted
pub complete-image : {x : Answer ImageRefusal Graph} (r : ImageRefusal) → x ≡ refuse r → (n : ℕ) (es : List ℕ) → Err (TurnedBack.Image r) ≡ complete_call base x n es
unfolding complete_call
complete-image r h n es = rw h refl

pub shadows-image : {x : Answer ImageRefusal Graph} (r : ImageRefusal) → x ≡ refuse r → (n : ℕ) (ls : List ℕ) (m : ℕ) (rs : List ℕ) → Err (TurnedBack.Image r) ≡ shadows_call base x n ls m rs
unfolding shadows_call
shadows-image r h n ls m rs = rw h refl

pub shadows-answers : {x : Answer ImageRefusal Graph} (g : Graph) → x ≡ ok g → (n : ℕ) (ls : List ℕ) (m : ℕ) (rs : List ℕ) → left_first (replay base (view_of g) n ls) (replay base (view_of g) m rs) ≡ shadows_call base x n ls m rs
unfolding shadows_call
shadows-answers g h n ls m rs = rw h refl
