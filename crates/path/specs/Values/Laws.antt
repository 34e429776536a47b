-- What a path by value stands for, at the start and behind an edge; what is read off it.
-- Document 01, "Path".
use Prim.Native.Nat.{ℕ, zero, suc, ◌+◌, ◌*◌, ◌<◌, ◌≤◌}
use native.Mathlib.Omega.{arith}
use Rattle.std.proofs.Common.{add-one, sym, ap₂, ◌∙◌, subst, length-set, take-suc-set, eq-eqb, ne_eqb}
use Rattle.std.specs.Prelude.{◌≡◌, Bool, true, List, [], ◌∷◌, ◌++◌, length, set, take, replicate}
use Rattle.std.proofs.Math.Path.{refl, ap}
use Rattle.std.proofs.Math.Bool.{false}
use Rattle.std.proofs.Math.ListN.{get_or}
use Rattle.std.proofs.lemmas.List.{length-replicate}
use Rattle.std.proofs.Math.Seq.{get_or-set_same, get_or-set_other}
use Rattle.semantics.specs.Limits.{steps_length, step_length, max_edges}
use Rattle.semantics.specs.ReplayedPaths.{step_at, scopes_from, symbols_from, passages_to, read_path}
use Rattle.semantics.specs.declared.refusal.PathRefusal.{PathRefusal}
use Rattle.semantics.specs.declared.replayed.Step.{Step}
use Rattle.stepping.specs.Steps.{Effect}
use Rattle.std.specs.Prelude.{Ok, Err}
use Rattle.semantics.specs.declared.replayed.Path.{Path}
use Rattle.semantics.specs.Lists.{cons_if}
use Rattle.semantics.specs.Answer.{ok}
use Rattle.semantics.specs.Graph.{View}
use Rattle.semantics.specs.Path as Model
use Rattle.semantics.specs.Path.{along, jumped, append}
use Rattle.semantics.proofs.Theorems.Path.Laws.{Appended, append-ok}
use Rattle.semantics.specs.Calls.{Passage, edge, jump, passages, no_path}
use Rattle.stepping.specs.StepWords.{with_step}
use Rattle.stepping.specs.StepWords.Laws.{step_same, step_other}
use Rattle.stepping.specs.Judged.{begun_of}
use Rattle.stepping.specs.Judged.Laws.{Begun, Grown}
use Rattle.path.specs.Shadows.Laws.{JumpAt, Went, plainly, jumping, went}
use Rattle.path.specs.Values as G
use Rattle.path.specs.Values.{empty_path, is_jump_edge, started_by, longer_path, appended_by, Sized, Shows}

-- THE VALUES THAT ARE BUILT
pub started-refused : (r : ℕ) (E : Effect) (x : PathRefusal) {p : Path} → E ≡ Err x → p ≡ empty_path → ◌≡◌ {A = G.Grown} (record { effect = E; path = p }) (started_by r E)
started-refused r E x h k = (λ i. record { effect = h i; path = k i }) ∙ ap (started_by r) (sym h)

pub started-done : (r : ℕ) (s : Step) {x : Path} {w : List ℕ} → x ≡ empty_path → w ≡ with_step x.steps 0 s
    → ◌≡◌ {A = G.Grown} (record { effect = Ok s; path = record { start = r; end = r; count = x.count; edges = x.edges; jumps = x.jumps; steps = w } }) (started_by r (Ok s))
started-done r s {w} h k =
    let z : w ≡ with_step (replicate steps_length 0) 0 s = k ∙ ap (λ (y : Path). with_step y.steps 0 s) h in
    λ i. record { effect = Ok s; path = record { start = r; end = r; count = (h i).count; edges = (h i).edges; jumps = (h i).jumps; steps = z i } }

pub appended-refused : (p : Path) (e : ℕ) (j : Bool) (E : Effect) (x : PathRefusal) → E ≡ Err x → ◌≡◌ {A = G.Grown} (record { effect = E; path = p }) (appended_by p e j E)
appended-refused p e j E x h = (λ i. record { effect = h i; path = p }) ∙ ap (appended_by p e j) (sym h)

pub appended-done : (p : Path) (e : ℕ) (j : Bool) (s : Step) {w : List ℕ} → w ≡ with_step p.steps (p.count + 1) s
    → ◌≡◌ {A = G.Grown} (record { effect = Ok s; path = record { start = p.start; end = s.end; count = p.count + 1; edges = set p.edges p.count e; jumps = set p.jumps p.count j; steps = w } }) (appended_by p e j (Ok s))
appended-done p e j s k = λ i. record { effect = Ok s; path = record { start = p.start; end = s.end; count = p.count + 1; edges = set p.edges p.count e; jumps = set p.jumps p.count j; steps = k i } }

pub empty-long : {p : Path} → p ≡ empty_path → step_length ≤ length p.steps
empty-long h = subst (λ (x : Path). step_length ≤ length x.steps) (sym h) (omega (arith, length-replicate {A = ℕ} steps_length 0))

-- WHAT THE VALUES STAND FOR
length-step : (l : List ℕ) (k : ℕ) (s : Step) → length (with_step l k s) ≡ length l
length-step l k s = simp length-set

-- the steps that an append adds, as they are answered
passages-append : (l m : List Model.Step) → passages (l ++ m) ≡ passages l ++ passages m
passages-append [] m = refl
passages-append (along e n p ∷ l) m = ap (λ (x : List Passage). edge e ∷ x) (passages-append l m)
passages-append (jumped n ∷ l) m = ap (λ (x : List Passage). jump n ∷ x) (passages-append l m)

pub append-passages : {g : View} (j : JumpAt g) (p q : Model.Path) (e : ℕ) → append g p e ≡ ok q → passages q.steps ≡ passages p.steps ++ (edge e ∷ cons_if (is_jump_edge (g.edge e)) (jump q.end) [])
append-passages {g} j p q e h =
    let k = append-ok g p q e h in
    on k (went g p q e k.target.0 k.precedence k.extended)
  where
    on : (k : Appended g p q e) → Went g p q e k.target.0 k.precedence → passages q.steps ≡ passages p.steps ++ (edge e ∷ cons_if (is_jump_edge (g.edge e)) (jump q.end) [])
    on k (plainly d en st) =
        let z : is_jump_edge (g.edge e) ≡ false = ap is_jump_edge k.found ∙ ne_eqb k.target.0 1 (λ i. d (ap g.node i ∙ j.there)) in
        ap passages st ∙ passages-append p.steps _ ∙ ap (λ (b : Bool). passages p.steps ++ (edge e ∷ cons_if b (jump q.end) [])) (sym z)
    on k (jumping i st) =
        let z : is_jump_edge (g.edge e) ≡ true = ap is_jump_edge k.found ∙ eq-eqb k.target.0 1 (j.only k.target.0 i) in
        ap passages st ∙ passages-append p.steps _ ∙ ap (λ (b : Bool). passages p.steps ++ (edge e ∷ cons_if b (jump q.end) [])) (sym z)

pub empty-room : step_length ≤ length (replicate {A = ℕ} steps_length 0)
empty-room = omega (arith, length-replicate {A = ℕ} steps_length 0)

pub start-sized : (r : ℕ) (s : Step) → Sized (started_by r (Ok s)).path
start-sized r s = record { edges = length-replicate {A = ℕ} max_edges 0; jumps = length-replicate {A = Bool} max_edges false; steps = length-step (replicate steps_length 0) 0 s ∙ length-replicate {A = ℕ} steps_length 0 }

pub more-sized : {x : Path} (e : ℕ) (j : Bool) (s : Step) → Sized x → Sized (longer_path x e j s)
more-sized {x} e j s z = record { edges = length-set x.edges x.count e ∙ z.edges; jumps = length-set x.jumps x.count j ∙ z.jumps; steps = length-step x.steps (x.count + 1) s ∙ z.steps }

-- at the start
pub shows-start : {g : View} {r : ℕ} {s : Step} → begun_of g.node r ≡ Ok s → (b : Begun g (replicate steps_length 0) empty-room r s) → Shows (started_by r (Ok s)).path b.path
unfolding passages_to
shows-start {r} {s} h b = record {
  sized = start-sized r s;
  stepped = b.stepped;
  start = sym b.start;
  end = sym b.end;
  edges = sym b.edges;
  steps = ap passages (sym b.steps);
}

-- behind an edge
module _ {x : Path} (e : ℕ) (j : Bool) (s : Step) (few : x.count < max_edges) (z : Sized x) where
  abbrev next : Path
  next = longer_path x e j s

  pub more_room : step_length * (x.count + 1) + step_length ≤ length x.steps
  more_room = omega (arith, z.steps, few)

  older : (k : ℕ) → k ≤ x.count → passages_to next k ≡ passages_to x k
  unfolding passages_to
  older zero h = refl
  older (suc k) h =
      let a : get_or (set x.edges x.count e) k 0 ≡ get_or x.edges k 0 = get_or-set_other x.edges x.count k e 0 (λ i. omega (arith, h, i)) in
      let b : get_or (set x.jumps x.count j) k false ≡ get_or x.jumps k false = get_or-set_other x.jumps x.count k j false (λ i. omega (arith, h, i)) in
      let c : step_at (with_step x.steps (x.count + 1) s) (suc k) ≡ step_at x.steps (suc k) = step_other x.steps (x.count + 1) (suc k) s (omega (arith, h)) in
      let d = older k (omega (arith, h)) in
      λ i. d i ++ (edge (a i) ∷ cons_if (b i) (jump (c i).end) [])

  newest : passages_to next (x.count + 1) ≡ passages_to x x.count ++ (edge e ∷ cons_if j (jump s.end) [])
  unfolding passages_to
  newest =
      let a : get_or (set x.edges x.count e) x.count 0 ≡ e = get_or-set_same x.edges x.count e 0 (omega (arith, z.edges, few)) in
      let b : get_or (set x.jumps x.count j) x.count false ≡ j = get_or-set_same x.jumps x.count j false (omega (arith, z.jumps, few)) in
      let q : suc x.count ≡ x.count + 1 = omega arith in
      let c : step_at (with_step x.steps (x.count + 1) s) (suc x.count) ≡ s = ap (step_at (with_step x.steps (x.count + 1) s)) q ∙ step_same x.steps (x.count + 1) s more_room in
      let d = older x.count (omega arith) in
      ap (passages_to next) (sym q) ∙ (λ i. d i ++ (edge (a i) ∷ cons_if (b i) (jump (c i).end) []))

  pub shows_more : {g : View} (at : JumpAt g) {p : Model.Path} (sh : Shows x p) → j ≡ is_jump_edge (g.edge e) → Grown g x.steps x.count p sh.stepped more_room e s → (q : Model.Path) × (append g p e ≡ ok q) × Shows next q
  shows_more {g} at {p} sh is y =
      let k = append-ok g p y.path e y.appended in (
        y.path,
        y.appended,
        record {
          sized = more-sized e j s z;
          stepped = y.stepped;
          start = sh.start ∙ sym k.added.start;
          end = y.end;
          edges = ap (λ n. take n (set x.edges x.count e)) (add-one x.count) ∙ take-suc-set x.edges x.count e (omega (arith, z.edges, few)) ∙ ap (λ (l : List ℕ). l ++ (e ∷ [])) sh.edges ∙ sym k.added.edges;
          steps = newest ∙ ap₂ (λ (l : List Passage) (b : Bool). l ++ (edge e ∷ cons_if b (jump s.end) [])) sh.steps is ∙ ap (λ n. passages p.steps ++ (edge e ∷ cons_if (is_jump_edge (g.edge e)) (jump n) [])) y.end ∙ sym (append-passages at p y.path e y.appended);
        },
      )

-- WHAT IS READ
pub reads : {x : Path} {p : Model.Path} → Shows x p → read_path x ≡ record { end = p.end; steps = passages p.steps; symbols = p.stacks.symbols; scopes = p.stacks.scopes }
reads sh = λ i. record { end = sh.end i; steps = sh.steps i; symbols = (sym sh.stepped.stacks i).symbols; scopes = (sym sh.stepped.stacks i).scopes }

pub reads-empty : read_path empty_path ≡ no_path
unfolding passages_to symbols_from scopes_from
reads-empty = refl
