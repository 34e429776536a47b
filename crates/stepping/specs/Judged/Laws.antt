-- Judging on steps is `append` of the definitions, and the steps with one more stand for the longer path.
-- Document 01, "Path".
use Rattle.std.specs.Prelude.{ℕ, zero, suc, ◌+◌, ◌-◌, ◌*◌, ◌<◌, ◌≤◌, ◌≡◌, Bool, List, [], ◌∷◌, ◌++◌, ℤ, length, get_or}
use native.Mathlib.Omega.{arith}
use Rattle.std.proofs.Math.Path.{refl, ap, subst}
use Rattle.std.proofs.Common.{sym, ◌∙◌, ne_eqb, ltb→lt, length-append}
use Rattle.std.proofs.Math.Bool.{true, false, not}
use Rattle.std.proofs.lemmas.Bool.{false≢true}
use Rattle.std.proofs.Math.Option.{none, some}
use Rattle.std.proofs.Math.Dec.{T, eqb, ltb, nltb→le}
use Rattle.std.proofs.Math.ListN.{get_or-append}
use Rattle.std.proofs.Math.Seq.{get_or-append_seam}
use Rattle.semantics.specs.Limits.{step_length}
use Rattle.semantics.specs.ReplayedPaths.{step_at, scopes_from, scopes_of, symbols_from, symbols_of}
use Rattle.semantics.specs.declared.graph.NodeId.{NodeId}
use Rattle.semantics.specs.declared.graph.Node.{Node}
use Rattle.semantics.specs.declared.graph.Node.TheVariants as N
use Rattle.semantics.specs.declared.graph.Edge.{Edge}
use Rattle.semantics.specs.declared.graph.Edge.TheVariants as E
use Rattle.semantics.specs.declared.refusal.PathRefusal.{PathRefusal}
use Rattle.semantics.specs.declared.refusal.PathRefusal.TheVariants.{UnknownNode, NotReference, IncorrectSource, UnknownAttachedScope}
use Rattle.semantics.specs.Lists.{and, pick}
use Rattle.semantics.specs.Answer.{Answer, ok, refuse, and_then}
use Rattle.semantics.specs.Graph.{node_id, View, traits, is_reference, is_definition, is_exported}
use Rattle.semantics.specs.Path.{Stacks, Path, no_stacks, apply, push_attached, append, append_edge, append_from, from_reference, start_unless, start_reference, is_empty, is_complete}
use Rattle.semantics.specs.declared.replayed.Step.{Step}
use Rattle.stepping.specs.Steps.{Effect}
use Rattle.std.specs.Prelude.{Ok, Err}
use Rattle.stepping.specs.Steps.{plain_step, push_scoped_of, asked_scope, applied_of, remade_of, stacks_of, Low, maker_of, grown}
use Rattle.stepping.specs.Steps.Laws.{push-stacks, push-scoped-stacks, scopes-kept, symbols-kept, path_behind, outcome, extend-is, low-more, refused-done, unless-done, applied-remade, applied-there}
use Rattle.stepping.specs.StepWords.{maker_in, with_step}
use Rattle.stepping.specs.StepWords.Laws.{step_same, step_other}
use Rattle.stepping.specs.Judged.{no_step, reached, begun_of, judged_of, followed, remade_in, Stepped, complete_step}

-- the path that an effect leads to, along an edge that is x
pub path_after : View → List ℕ → ℕ → Path → ℕ → Edge → Effect → Answer PathRefusal Path
path_after g ws k p e E.Removed (Ok s) = ok p
path_after g ws k p e E.Removed (Err r) = refuse r
path_after g ws k p e (E.Live s t pr) x = outcome (step_at ws) k (g.node t.0) p e pr x

module _ (g : View) (ws : List ℕ) (k : ℕ) (p : Path) (st : Stepped ws k p) (e : ℕ) where
  -- judging is appending
  pub judged-append : append g p e ≡ path_after g ws k p e (g.edge e) (judged_of g.node ws k e (g.edge e))
  unfolding append append_edge judged_of followed path_after
  judged-append = on (g.edge e)
    where
      from : (s t : NodeId) (pr : ℤ) (b : Bool) → eqb s.0 p.end ≡ b
          → append_from b g p e s.0 t.0 pr ≡ outcome (step_at ws) k (g.node t.0) p e pr (pick b (reached g.node t.0 e (k + 1) (step_at ws k) (maker_in ws (step_at ws k).symbols) (maker_in ws (step_at ws k).scopes)) (Err (IncorrectSource (node_id (step_at ws k).end) s)))
      from s t pr true h = unfold append_from in extend-is g (step_at ws) k st.low p e t.0 pr st.stacks
      from s t pr false h = unfold append_from in ap (λ (n : ℕ). refuse (IncorrectSource (node_id n) s)) (sym st.end)

      on : (x : Edge) → append_edge g p e x ≡ path_after g ws k p e x (followed g.node e (k + 1) (step_at ws k) (maker_in ws (step_at ws k).symbols) (maker_in ws (step_at ws k).scopes) x)
      on E.Removed = refl
      on (E.Live s t pr) = from s t pr (eqb s.0 p.end) refl ∙ ap (λ (b : Bool). outcome (step_at ws) k (g.node t.0) p e pr (pick b (reached g.node t.0 e (k + 1) (step_at ws k) (maker_in ws (step_at ws k).symbols) (maker_in ws (step_at ws k).scopes)) (Err (IncorrectSource (node_id (step_at ws k).end) s)))) (ap (eqb s.0) (sym st.end))

-- THE NEW STEP'S CELLS LIE BELOW IT
module _ (f : ℕ → Step) (k : ℕ) (low : (j : ℕ) → j < k + 1 → Low (f j) j) (t e : ℕ) where
  abbrev low-last : Low (f k) k
  low-last = low k (omega arith)

  low-maker : (c : ℕ) → c ≤ k + 1 → Low (maker_of f c) (c - 1)
  low-maker c h = low (c - 1) (omega (arith, h))

  -- it is low, and names the edge
  abbrev New : Step → Type 0
  New s = Low s (k + 1) × (s.edge ≡ e)

  plain-low : (a b : ℕ) → a ≤ k + 1 + 1 → b ≤ k + 1 → (n : ℕ) → New (plain_step e n a b)
  plain-low a b x y n = (record { symbols = x; scopes = y; below = omega arith; attached = omega arith }, refl)

  remade-low : (n : Node) → New (remade_of n t e (k + 1) (f k) (maker_of f (f k).symbols) (maker_of f (f k).scopes))
  unfolding remade_of
  remade-low N.Removed = let l = low-last in plain-low _ _ (omega (arith, l.symbols)) (omega (arith, l.scopes)) t
  remade-low N.Root = let l = low-last in plain-low _ _ (omega (arith, l.symbols)) (omega (arith, l.scopes)) t
  remade-low N.JumpToScope = let l = low-last in let m = low-maker (f k).scopes (omega (arith, l.scopes)) in plain-low _ _ (omega (arith, l.symbols)) (omega (arith, m.scopes, l.scopes)) _
  remade-low (N.Scope i y) = let l = low-last in plain-low _ _ (omega (arith, l.symbols)) (omega (arith, l.scopes)) t
  remade-low (N.Push i y r) = let l = low-last in (record { symbols = omega arith; scopes = omega (arith, l.scopes); below = omega (arith, l.symbols); attached = omega arith }, refl)
  remade-low (N.Pop i y d) = let l = low-last in let m = low-maker (f k).symbols l.symbols in plain-low _ _ (omega (arith, m.below, l.symbols)) (omega (arith, l.scopes)) t
  remade-low (N.PushScoped i y a r) = let l = low-last in (record { symbols = omega arith; scopes = omega (arith, l.scopes); below = omega (arith, l.symbols); attached = omega arith }, refl)
  remade-low (N.PopScoped i y d) = let l = low-last in let m = low-maker (f k).symbols l.symbols in plain-low _ _ (omega (arith, m.below, l.symbols)) (omega (arith, m.attached, l.symbols)) t
  remade-low (N.DropScopes i) = let l = low-last in plain-low _ _ (omega (arith, l.symbols)) (omega arith) t

  -- of every kind of node
  pub applied-low : (x : Bool) (n : Node) (s : Step) → applied_of x n t e (k + 1) (f k) (maker_of f (f k).symbols) (maker_of f (f k).scopes) ≡ Ok s → New s
  applied-low x n s h = subst New (sym (applied-remade x n t e (k + 1) (f k) (maker_of f (f k).symbols) (maker_of f (f k).scopes) s h)) (remade-low n)

-- THE WORDS WITH ONE STEP MORE STAND FOR THE LONGER PATH
module _ (ws : List ℕ) (m : ℕ) (s : Step) (room : step_length * m + step_length ≤ length ws) where
  -- below and at the new step they are the steps with one more
  written : (j : ℕ) → j < m + 1 → step_at (with_step ws m s) j ≡ grown (step_at ws) m s j
  unfolding grown
  written j h = on (ltb j m) refl
    where
      on : (b : Bool) → ltb j m ≡ b → step_at (with_step ws m s) j ≡ pick b (step_at ws j) s
      on true e = step_other ws m j s (ltb→lt j m (subst T (sym e) tt))
      on false e = let q : m ≡ j = omega (arith, h, nltb→le j m (subst T (sym (ap not e)) tt)) in subst (λ (n : ℕ). step_at (with_step ws m s) n ≡ s) q (step_same ws m s room)

  module _ (low : (j : ℕ) → j < m → Low (step_at ws j) j) (new : Low s m) where
    pub written_low : (j : ℕ) → j < m + 1 → Low (step_at (with_step ws m s) j) j
    written_low j h = subst (λ (x : Step). Low x j) (sym (written j h)) (low-more (step_at ws) m low s new j h)

    written-stacks : stacks_of (grown (step_at ws) m s) s ≡ stacks_of (step_at (with_step ws m s)) (step_at (with_step ws m s) m)
    written-stacks =
        let f = grown (step_at ws) m s in
        let g = step_at (with_step ws m s) in
        let l = low-more (step_at ws) m low s new in
        let a = symbols-kept f (m + 1) l g written s.symbols new.symbols in
        let b = scopes-kept f (m + 1) l g written s.scopes (omega (arith, new.scopes)) in
        let c : stacks_of f s ≡ stacks_of g s = λ i. record { symbols = sym a i; scopes = sym b i } in
        c ∙ ap (stacks_of g) (sym (step_same ws m s room))

-- a longer path with these parts
pub stepped-more : (ws : List ℕ) (k : ℕ) (p q : Path) (s : Step) → step_length * (k + 1) + step_length ≤ length ws → Stepped ws k p → Low s (k + 1) → s.end ≡ q.end → q.edges ≡ p.edges ++ (s.edge ∷ []) → q.stacks ≡ stacks_of (grown (step_at ws) (k + 1) s) s → Stepped (with_step ws (k + 1) s) (k + 1) q
stepped-more ws k p q s room st new end edges stacks = record {
  low = written_low ws (k + 1) s room st.low new;
  count = ap length edges ∙ length-append p.edges (s.edge ∷ []) ∙ ap (λ n. n + 1) st.count;
  end = ap (λ (x : Step). x.end) (step_same ws (k + 1) s room) ∙ end;
  stacks = stacks ∙ written-stacks ws (k + 1) s room st.low new;
  edges = λ j h. on j h (ltb j k) refl;
}
  where
    on : (j : ℕ) → j < k + 1 → (b : Bool) → ltb j k ≡ b → (step_at (with_step ws (k + 1) s) (j + 1)).edge ≡ get_or q.edges j 0
    on j h true e =
        let l : j < k = ltb→lt j k (subst T (sym e) tt) in
        ap (λ (x : Step). x.edge) (step_other ws (k + 1) (j + 1) s (omega (arith, l))) ∙ st.edges j l ∙ sym (get_or-append p.edges (s.edge ∷ []) 0 j (omega (arith, l, st.count))) ∙ ap (λ (x : List ℕ). get_or x j 0) (sym edges)
    on j h false e =
        let q' : k ≡ j = omega (arith, h, nltb→le j k (subst T (sym (ap not e)) tt)) in
        subst (λ (n : ℕ). (step_at (with_step ws (k + 1) s) (n + 1)).edge ≡ get_or q.edges n 0) q'
        (ap (λ (x : Step). x.edge) (step_same ws (k + 1) s room) ∙ sym (get_or-append_seam p.edges s.edge [] 0) ∙ ap (λ n. get_or (p.edges ++ (s.edge ∷ [])) n 0) st.count ∙ ap (λ (x : List ℕ). get_or x k 0) (sym edges))

-- A STEP THAT WAS MADE ONCE: its edge is live, a node stands at its target, and it is made again as it was
pub record Made (nodes : ℕ → Node) (ws : List ℕ) (k e : ℕ) (x : Edge) (s : Step) : Type 0 where
  pub source : NodeId
  pub target : NodeId
  pub precedence : ℤ
  pub live : x ≡ E.Live source target precedence
  pub there : nodes target.0 ≡ N.Removed → ⊥
  pub step : s ≡ remade_in nodes ws k e target.0

pub judged-made : (nodes : ℕ → Node) (ws : List ℕ) (k e : ℕ) (x : Edge) (s : Step) → judged_of nodes ws k e x ≡ Ok s → Made nodes ws k e x s
unfolding judged_of followed
judged-made nodes ws k e E.Removed s h = absurd (refused-done _ s h)
judged-made nodes ws k e (E.Live a t p) s h =
    let last = step_at ws k in
    let top = maker_in ws last.symbols in
    let over = maker_in ws last.scopes in
    let b = is_exported (nodes (asked_scope (nodes t.0) over)) in
    let r = unless-done (eqb a.0 last.end) (reached nodes t.0 e (k + 1) last top over) _ s h in
    record {
      source = a;
      target = t;
      precedence = p;
      live = refl;
      there = λ z. applied-there b t.0 e (k + 1) last top over s r z;
      step = applied-remade b (nodes t.0) t.0 e (k + 1) last top over s r;
    }

-- JUDGING, AS A WHOLE
module _ (g : View) (ws : List ℕ) (k : ℕ) (p : Path) (st : Stepped ws k p) (room : step_length * (k + 1) + step_length ≤ length ws) (e : ℕ) where
  pub record Grown (s : Step) : Type 0 where
    pub path : Path
    pub appended : append g p e ≡ ok path
    pub stepped : Stepped (with_step ws (k + 1) s) (k + 1) path
    pub end : s.end ≡ path.end

  done-not : (r : PathRefusal) (s : Step) → Err r ≡ Ok s → ⊥
  done-not r s h = let z : ◌≡◌ {A = ℕ} 0 1 = cc in omega arith

  -- an edge that is not refused
  pub judged-done : (s : Step) → judged_of g.node ws k e (g.edge e) ≡ Ok s → Grown s
  unfolding judged_of followed path_after
  judged-done s h = on (g.edge e) h (judged-append g ws k p st e ∙ ap (path_after g ws k p e (g.edge e)) h)
    where
      last : Step
      last = step_at ws k

      made : (t : NodeId) (pr : ℤ) → reached g.node t.0 e (k + 1) (step_at ws k) (maker_in ws (step_at ws k).symbols) (maker_in ws (step_at ws k).scopes) ≡ Ok s → append g p e ≡ outcome (step_at ws) k (g.node t.0) p e pr (Ok s) → Grown s
      made t pr r a =
          let new = applied-low (step_at ws) k st.low t.0 e (is_exported (g.node (asked_scope (g.node t.0) (maker_in ws (step_at ws k).scopes)))) (g.node t.0) s r in
          let q : Path = path_behind (step_at ws) k (g.node t.0) p e pr s in
          record { path = q; appended = a; end = refl; stepped = stepped-more ws k p q s room st new.0 refl (ap (λ n. p.edges ++ (n ∷ [])) (sym new.1)) refl }

      from : (a t : NodeId) (pr : ℤ) (b : Bool) → pick b (reached g.node t.0 e (k + 1) (step_at ws k) (maker_in ws (step_at ws k).symbols) (maker_in ws (step_at ws k).scopes)) (Err (IncorrectSource (node_id (step_at ws k).end) a)) ≡ Ok s → append g p e ≡ outcome (step_at ws) k (g.node t.0) p e pr (Ok s) → Grown s
      from a t pr true r z = made t pr r z
      from a t pr false r z = absurd (done-not _ s r)

      on : (x : Edge) → followed g.node e (k + 1) (step_at ws k) (maker_in ws (step_at ws k).symbols) (maker_in ws (step_at ws k).scopes) x ≡ Ok s → append g p e ≡ path_after g ws k p e x (Ok s) → Grown s
      on E.Removed r z = absurd (done-not _ s r)
      on (E.Live a t pr) r z = from a t pr (eqb a.0 (step_at ws k).end) r z

  -- an edge that is refused
  pub judged-refused : (r : PathRefusal) → judged_of g.node ws k e (g.edge e) ≡ Err r → append g p e ≡ refuse r
  unfolding path_after
  judged-refused r h = judged-append g ws k p st e ∙ ap (path_after g ws k p e (g.edge e)) h ∙ on (g.edge e)
    where
      on : (x : Edge) → path_after g ws k p e x (Err r) ≡ refuse r
      on E.Removed = refl
      on (E.Live a t pr) = refl

-- COMPLETENESS
some-cell : (c : ℕ) → eqb (suc c) 0 ≡ false
some-cell c = ne_eqb (suc c) 0 (λ z. omega (arith, z))

symbols-empty : (f : ℕ → Step) (c : ℕ) → is_empty (symbols_of f c) ≡ eqb c 0
unfolding is_empty symbols_from
symbols-empty f zero = refl
symbols-empty f (suc c) = sym (some-cell c)

scopes-empty : (f : ℕ → Step) (c : ℕ) → is_empty (scopes_of f c) ≡ eqb c 0
unfolding is_empty scopes_from
scopes-empty f zero = refl
scopes-empty f (suc c) = sym (some-cell c)

pub complete-is : (g : View) (ws : List ℕ) (k : ℕ) (p : Path) → Stepped ws k p → is_reference (g.node p.start) ≡ true → is_complete g p ≡ complete_step g.node (step_at ws k)
unfolding is_complete
complete-is g ws k p st r =
    let a : is_empty p.stacks.symbols ≡ eqb (step_at ws k).symbols 0 = ap (λ (x : Stacks). is_empty x.symbols) st.stacks ∙ symbols-empty (step_at ws) (step_at ws k).symbols in
    let b : is_empty p.stacks.scopes ≡ eqb (step_at ws k).scopes 0 = ap (λ (x : Stacks). is_empty x.scopes) st.stacks ∙ scopes-empty (step_at ws) (step_at ws k).scopes in
    rw (r, a, b, ← st.end) (in_order (is_definition (g.node (step_at ws k).end)) (eqb (step_at ws k).symbols 0) (eqb (step_at ws k).scopes 0))
  where
    in_order : (d x y : Bool) → and d (and x y) ≡ pick x (pick y d false) false
    in_order true true true = refl
    in_order true true false = refl
    in_order true false y = refl
    in_order false true true = refl
    in_order false true false = refl
    in_order false false y = refl

-- A REFERENCE AS STEP 0: its cells lie below it, and it stands at the reference
abbrev first_step : ℕ → ℕ → ℕ → ℕ → Step
first_step r x attached scope = record { edge = 0; end = r; symbols = 0 + 1; scopes = 0; symbol = x; attached = attached; below = 0; scope = scope }

first-low : (r x a c : ℕ) → a ≤ 1 → Low (first_step r x a c) 0
first-low r x a c h = record { symbols = omega arith; scopes = omega arith; below = omega arith; attached = omega (arith, h) }

applied-first : (b : Bool) (r : ℕ) (n : Node) (s : Step) → is_reference n ≡ true → applied_of b n r 0 0 no_step no_step no_step ≡ Ok s → Low s 0 × (s.end ≡ r)
unfolding applied_of push_scoped_of
applied-first b r N.Removed s h e = absurd (false≢true h)
applied-first b r N.Root s h e = absurd (false≢true h)
applied-first b r N.JumpToScope s h e = absurd (false≢true h)
applied-first b r (N.Scope i y) s h e = absurd (false≢true h)
applied-first b r (N.Push i x d) s h e = let z : first_step r x 0 0 ≡ s = cc in subst (λ (y : Step). Low y 0 × (y.end ≡ r)) z (first-low r x 0 0 (omega arith), refl)
applied-first b r (N.Pop i x d) s h e = absurd (false≢true h)
applied-first true r (N.PushScoped i x a d) s h e = let z : first_step r x (0 + 1) a.0 ≡ s = cc in subst (λ (y : Step). Low y 0 × (y.end ≡ r)) z (first-low r x (0 + 1) a.0 (omega arith), refl)
applied-first false r (N.PushScoped i x a d) s h e = absurd (let z : ◌≡◌ {A = ℕ} 0 1 = cc in omega arith)
applied-first b r (N.PopScoped i x d) s h e = absurd (false≢true h)
applied-first b r (N.DropScopes i) s h e = absurd (false≢true h)

begun-what : (nodes : ℕ → Node) (r : ℕ) (s : Step) → begun_of nodes r ≡ Ok s → (is_reference (nodes r) ≡ true) × (reached nodes r 0 0 no_step no_step no_step ≡ Ok s)
unfolding begun_of
begun-what nodes r s h = on (traits (nodes r)).removed (is_reference (nodes r)) refl h
  where
    on : (a b : Bool) → is_reference (nodes r) ≡ b → pick a (Err (UnknownNode (node_id r))) (pick b (reached nodes r 0 0 no_step no_step no_step) (Err (NotReference (node_id r)))) ≡ Ok s → (is_reference (nodes r) ≡ true) × (reached nodes r 0 0 no_step no_step no_step ≡ Ok s)
    on true b f k = absurd (let z : ◌≡◌ {A = ℕ} 0 1 = cc in omega arith)
    on false true f k = (f, k)
    on false false f k = absurd (let z : ◌≡◌ {A = ℕ} 0 1 = cc in omega arith)

pub begun-low : (nodes : ℕ → Node) (r : ℕ) (s : Step) → begun_of nodes r ≡ Ok s → Low s 0 × (s.end ≡ r)
begun-low nodes r s h = let w = begun-what nodes r s h in applied-first (is_exported (nodes (asked_scope (nodes r) no_step))) r (nodes r) s w.0 w.1

-- the same of a step behind others, whatever the nodes and the edge are
pub judged-low : (nodes : ℕ → Node) (ws : List ℕ) (k e : ℕ) (x : Edge) (s : Step) → ((j : ℕ) → j < k + 1 → Low (step_at ws j) j) → judged_of nodes ws k e x ≡ Ok s → Low s (k + 1)
unfolding judged_of followed
judged-low nodes ws k e E.Removed s low h = absurd (let z : ◌≡◌ {A = ℕ} 0 1 = cc in omega arith)
judged-low nodes ws k e (E.Live a t p) s low h = on (eqb a.0 (step_at ws k).end) h
  where
    on : (b : Bool) → pick b (reached nodes t.0 e (k + 1) (step_at ws k) (maker_in ws (step_at ws k).symbols) (maker_in ws (step_at ws k).scopes)) (Err (IncorrectSource (node_id (step_at ws k).end) a)) ≡ Ok s → Low s (k + 1)
    on true r = (applied-low (step_at ws) k low t.0 e (is_exported (nodes (asked_scope (nodes t.0) (maker_in ws (step_at ws k).scopes)))) (nodes t.0) s r).0
    on false r = absurd (let z : ◌≡◌ {A = ℕ} 0 1 = cc in omega arith)

-- THE REFERENCE AS STEP 0
module _ (g : View) (ws : List ℕ) (room : step_length ≤ length ws) (r : ℕ) where
  abbrev beginning : Stacks → Path
  beginning S = record { start = r; end = r; edges = []; steps = []; stacks = S }

  starts_with : Effect → Answer PathRefusal Path
  starts_with (Ok s) = ok (beginning (stacks_of (grown (step_at ws) 0 s) s))
  starts_with (Err x) = refuse x

  none_below : (j : ℕ) → j < 0 → Low (step_at ws j) j
  none_below j h = absurd (omega (arith, h))

  pushed-first : (x : ℕ) → ok (beginning (record { symbols = record { symbol = x; scopes = none } ∷ []; scopes = [] })) ≡ starts_with (Ok (first_step r x 0 0))
  unfolding starts_with symbols_from scopes_from
  pushed-first x = ap (λ (S : Stacks). ok (beginning S)) (sym (push-stacks (step_at ws) 0 none_below (first_step r x 0 0) (first-low r x 0 0 (omega arith)) (omega arith) refl))

  scoped-first : (x a : ℕ) → ok (beginning (record { symbols = record { symbol = x; scopes = some (a ∷ []) } ∷ []; scopes = [] })) ≡ starts_with (Ok (first_step r x (0 + 1) a))
  unfolding starts_with symbols_from scopes_from
  scoped-first x a = ap (λ (S : Stacks). ok (beginning S)) (sym (push-scoped-stacks (step_at ws) 0 none_below (first_step r x (0 + 1) a) (first-low r x (0 + 1) a (omega arith)) (omega arith) (omega arith)))

  first-is : (n : Node) → is_reference n ≡ true → and_then (apply g r n no_stacks) (λ S. ok (beginning S)) ≡ starts_with (applied_of (is_exported (g.node (asked_scope n no_step))) n r 0 0 no_step no_step no_step)
  unfolding apply applied_of push_scoped_of push_attached starts_with
  first-is N.Removed h = absurd (false≢true h)
  first-is N.Root h = absurd (false≢true h)
  first-is N.JumpToScope h = absurd (false≢true h)
  first-is (N.Scope i y) h = absurd (false≢true h)
  first-is (N.Push i x d) h = pushed-first x
  first-is (N.Pop i x d) h = absurd (false≢true h)
  first-is (N.PushScoped i x a d) h = on (is_exported (g.node a.0))
    where
      on : (b : Bool) → and_then (push_attached b x a.0 no_stacks) (λ S. ok (beginning S)) ≡ starts_with (pick b (Ok (first_step r x (0 + 1) a.0)) (Err (UnknownAttachedScope (node_id a.0))))
      on true = scoped-first x a.0
      on false = refl
  first-is (N.PopScoped i x d) h = absurd (false≢true h)
  first-is (N.DropScopes i) h = absurd (false≢true h)

  begun-start : from_reference g r ≡ starts_with (begun_of g.node r)
  unfolding from_reference start_unless start_reference begun_of starts_with
  begun-start = on (traits (g.node r)).removed
    where
      on2 : (b : Bool) → is_reference (g.node r) ≡ b → start_reference b g r ≡ starts_with (pick b (reached g.node r 0 0 no_step no_step no_step) (Err (NotReference (node_id r))))
      on2 true h = first-is (g.node r) h
      on2 false h = refl

      on : (a : Bool) → start_unless a g r ≡ starts_with (pick a (Err (UnknownNode (node_id r))) (pick (is_reference (g.node r)) (reached g.node r 0 0 no_step no_step no_step) (Err (NotReference (node_id r)))))
      on true = refl
      on false = on2 (is_reference (g.node r)) refl

  pub record Begun (s : Step) : Type 0 where
    pub path : Path
    pub started : from_reference g r ≡ ok path
    pub stepped : Stepped (with_step ws 0 s) 0 path
    pub start : path.start ≡ r
    pub end : path.end ≡ r
    pub edges : path.edges ≡ []
    pub steps : path.steps ≡ []
    pub reference : is_reference (g.node r) ≡ true

  -- a reference that is not refused
  pub begun-done : (s : Step) → begun_of g.node r ≡ Ok s → Begun s
  unfolding starts_with
  begun-done s h =
      let w = begun-what g.node r s h in
      let l = begun-low g.node r s h in
      record {
        path = beginning (stacks_of (grown (step_at ws) 0 s) s);
        started = begun-start ∙ ap starts_with h;
        start = refl;
        end = refl;
        edges = refl;
        steps = refl;
        reference = w.0;
        stepped = record {
          low = λ j i. written_low ws 0 s (omega (arith, room)) none_below l.0 j i;
          count = refl;
          end = ap (λ (x : Step). x.end) (step_same ws 0 s (omega (arith, room))) ∙ l.1;
          stacks = written-stacks ws 0 s (omega (arith, room)) none_below l.0;
          edges = λ j i. absurd (omega (arith, i));
        };
      }

  pub begun-refused : (x : PathRefusal) → begun_of g.node r ≡ Err x → from_reference g r ≡ refuse x
  unfolding starts_with
  begun-refused x h = begun-start ∙ ap starts_with h
