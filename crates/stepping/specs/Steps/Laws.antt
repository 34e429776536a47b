-- A new step changes no cell below it, and does to the stacks what its node's rule says: cells are `extend` of the definitions.
-- Document 01, "Path".
use Prim.Native.Nat.{ℕ, zero, suc, ◌+◌, ◌-◌, ◌<◌, ◌≤◌}
use Rattle.std.proofs.Common.{arith, ◌∙◌, true≢false, lt-ltb, le-ltb, ne_eqb}
use Rattle.std.specs.Prelude.{◌≡◌, Bool, ℤ}
use Rattle.std.proofs.Math.Path.{refl, sym, ap, ap₂, subst}
use Rattle.std.proofs.Math.Bool.{true, false, not}
use Rattle.std.proofs.Math.Option.{none, some}
use mathlib.Core.List.{List, [], ◌∷◌, ◌++◌}
use lib.Dec.{eqb, ltb, T}
use Rattle.semantics.specs.ReplayedPaths.{scopes_from, scopes_of, attached_of, symbols_from, symbols_of}
use Rattle.semantics.specs.declared.graph.FileId.{FileId}
use Rattle.semantics.specs.declared.graph.NodeId.{NodeId}
use Rattle.semantics.specs.declared.graph.Node.{Node}
use Rattle.semantics.specs.declared.graph.Node.TheVariants as N
use Rattle.semantics.specs.declared.refusal.PathRefusal.{PathRefusal}
use Rattle.semantics.specs.declared.refusal.PathRefusal.TheVariants.{UnknownNode, EmptySymbolStack, IncorrectPoppedSymbol, UnexpectedAttachedScopes, MissingAttachedScopes, EmptyScopeStack, UnknownAttachedScope}
use Rattle.semantics.specs.Lists.{pick}
use Rattle.semantics.specs.Answer.{Answer, ok, refuse, and_then}
use Rattle.semantics.specs.Graph.{node_id, View, is_exported}
use Rattle.semantics.specs.Path.{Symbol, Stacks, along, jumped, Path, without_scopes, with_scopes, pop_equal, pop_top, push_attached, apply, jump_to, jump_top, land, extend}
use Rattle.semantics.specs.Path as Model
use Rattle.storage.specs.Index.{KIND, cell, node_row, is_plain}
use Rattle.storage.specs.Index.Laws.{by_kind}
use Rattle.semantics.specs.declared.replayed.Step.{Step}
use Rattle.stepping.specs.Steps.{Effect}
use Rattle.std.specs.Prelude.{Ok, Err}
use Rattle.stepping.specs.Steps.{plain_step, pop_of, pop_scoped_of, jump_of, push_scoped_of, asked_scope, applied_of, remade_of, stacks_of, Low, maker_of, grown}

module _ (f : ℕ → Step) (k : ℕ) (low : (j : ℕ) → j < k → Low (f j) j) where
  -- more fuel than the cell's number changes nothing
  scopes-fuel : (n m c : ℕ) → c ≤ n → c ≤ m → c ≤ k → scopes_from f n c ≡ scopes_from f m c
  unfolding scopes_from
  scopes-fuel zero zero zero p q r = refl
  scopes-fuel zero (suc m) zero p q r = refl
  scopes-fuel (suc n) zero zero p q r = refl
  scopes-fuel (suc n) (suc m) zero p q r = refl
  scopes-fuel zero m (suc c) p q r = absurd (omega arith)
  scopes-fuel (suc n) zero (suc c) p q r = absurd (omega arith)
  scopes-fuel (suc n) (suc m) (suc c) p q r =
      let h = (low c (omega arith)).scopes in
      ap (λ (l : List ℕ). (f c).scope ∷ l) (scopes-fuel n m (f c).scopes (omega arith) (omega arith) (omega arith))

  symbols-fuel : (n m c : ℕ) → c ≤ n → c ≤ m → c ≤ k → symbols_from f n c ≡ symbols_from f m c
  unfolding symbols_from
  symbols-fuel zero zero zero p q r = refl
  symbols-fuel zero (suc m) zero p q r = refl
  symbols-fuel (suc n) zero zero p q r = refl
  symbols-fuel (suc n) (suc m) zero p q r = refl
  symbols-fuel zero m (suc c) p q r = absurd (omega arith)
  symbols-fuel (suc n) zero (suc c) p q r = absurd (omega arith)
  symbols-fuel (suc n) (suc m) (suc c) p q r =
      let h = (low c (omega arith)).below in
      ap (λ (l : List Symbol). record { symbol = (f c).symbol; scopes = attached_of f (f c).attached } ∷ l)
      (symbols-fuel n m (f c).below (omega arith) (omega arith) (omega arith))

  -- a cell is what its step made on the cell below
  pub scopes-cons : (c : ℕ) → c < k → scopes_of f (suc c) ≡ (f c).scope ∷ scopes_of f (f c).scopes
  unfolding scopes_from
  scopes-cons c h =
      let b = (low c h).scopes in
      ap (λ (l : List ℕ). (f c).scope ∷ l) (scopes-fuel c (f c).scopes (f c).scopes b (omega arith) (omega arith))

  pub symbols-cons : (c : ℕ) → c < k → symbols_of f (suc c) ≡ record { symbol = (f c).symbol; scopes = attached_of f (f c).attached } ∷ symbols_of f (f c).below
  unfolding symbols_from
  symbols-cons c h =
      let b = (low c h).below in
      ap (λ (l : List Symbol). record { symbol = (f c).symbol; scopes = attached_of f (f c).attached } ∷ l)
      (symbols-fuel c (f c).below (f c).below b (omega arith) (omega arith))

  -- steps that agree below k have the same cells up to k
  module _ (g : ℕ → Step) (same : (j : ℕ) → j < k → g j ≡ f j) where
    scopes-same : (n c : ℕ) → c ≤ k → scopes_from g n c ≡ scopes_from f n c
    unfolding scopes_from
    scopes-same zero c h = refl
    scopes-same (suc n) zero h = refl
    scopes-same (suc n) (suc c) h =
        let b = (low c (omega arith)).scopes in
        let e = same c (omega arith) in
        ap₂ (λ (a : ℕ) (l : List ℕ). a ∷ l) (ap (λ (s : Step). s.scope) e)
        (ap (scopes_from g n) (ap (λ (s : Step). s.scopes) e) ∙ scopes-same n (f c).scopes (omega arith))

    pub scopes-kept : (c : ℕ) → c ≤ k → scopes_of g c ≡ scopes_of f c
    scopes-kept c h = scopes-same c c h

    attached-kept : (c : ℕ) → c ≤ k → attached_of g c ≡ attached_of f c
    attached-kept zero h = refl
    attached-kept (suc c) h = ap some (scopes-kept (suc c) h)

    symbols-same : (n c : ℕ) → c ≤ k → symbols_from g n c ≡ symbols_from f n c
    unfolding symbols_from
    symbols-same zero c h = refl
    symbols-same (suc n) zero h = refl
    symbols-same (suc n) (suc c) h =
        let b = (low c (omega arith)).below in
        let d = (low c (omega arith)).attached in
        let e = same c (omega arith) in
        let x : attached_of g (g c).attached ≡ attached_of f (f c).attached =
        ap (λ (s : Step). attached_of g s.attached) e ∙ attached-kept (f c).attached (omega arith) in
        let y : symbols_from g n (g c).below ≡ symbols_from f n (f c).below =
        ap (symbols_from g n) (ap (λ (s : Step). s.below) e) ∙ symbols-same n (f c).below (omega arith) in
        λ i. record { symbol = (e i).symbol; scopes = x i } ∷ y i

    pub symbols-kept : (c : ℕ) → c ≤ k → symbols_of g c ≡ symbols_of f c
    symbols-kept c h = symbols-same c c h

pub grown-old : (f : ℕ → Step) (k j : ℕ) (s : Step) → j < k → grown f k s j ≡ f j
unfolding grown
grown-old f k j s h = rw (lt-ltb j k h)

pub grown-new : (f : ℕ → Step) (k : ℕ) (s : Step) → grown f k s k ≡ s
unfolding grown
grown-new f k s = rw (le-ltb k k (omega arith))

-- THE STACKS BEHIND A NEW STEP, the m-th behind m steps
module _ (f : ℕ → Step) (m : ℕ) (low : (j : ℕ) → j < m → Low (f j) j) (s : Step) where
  -- the cells stay low
  pub low-more : Low s m → (j : ℕ) → j < m + 1 → Low (grown f m s j) j
  unfolding grown
  low-more l j h = on (ltb j m) refl
    where
      on : (b : Bool) → ltb j m ≡ b → Low (pick b (f j) s) j
      on true e = low j (omega (arith, lib.Dec.ltb→lt j m (subst T (sym e) tt)))
      on false e = let q : m ≡ j = omega (arith, lib.Dec.nltb→le j m (subst T (sym (ap not e)) tt)) in subst (Low s) q l

  -- a step that makes no cell
  pub plain-stacks : s.symbols ≤ m → s.scopes ≤ m → stacks_of (grown f m s) s ≡ stacks_of f s
  plain-stacks p q =
      let a = symbols-kept f m low (grown f m s) (λ j h. grown-old f m j s h) s.symbols p in
      let b = scopes-kept f m low (grown f m s) (λ j h. grown-old f m j s h) s.scopes q in
      λ i. record { symbols = a i; scopes = b i }

  -- a step that makes a symbol, with or without scopes
  made-symbols : Low s m → s.symbols ≡ suc m → symbols_of (grown f m s) s.symbols ≡ record { symbol = s.symbol; scopes = attached_of (grown f m s) s.attached } ∷ symbols_of f s.below
  made-symbols l p =
      let g = grown f m s in
      let b = l.below in
      ap (symbols_of g) p ∙ symbols-cons g (m + 1) (low-more l) m (omega arith)
      ∙ ap (λ (x : Step). record { symbol = x.symbol; scopes = attached_of g x.attached } ∷ symbols_of g x.below) (grown-new f m s)
      ∙ ap (λ (es : List Symbol). record { symbol = s.symbol; scopes = attached_of g s.attached } ∷ es) (symbols-kept f m low g (λ j h. grown-old f m j s h) s.below b)

  kept-scopes : s.scopes ≤ m → scopes_of (grown f m s) s.scopes ≡ scopes_of f s.scopes
  kept-scopes q = scopes-kept f m low (grown f m s) (λ j h. grown-old f m j s h) s.scopes q

  pub push-stacks : Low s m → s.symbols ≡ suc m → s.attached ≡ 0
      → stacks_of (grown f m s) s ≡ record { symbols = record { symbol = s.symbol; scopes = none } ∷ symbols_of f s.below; scopes = scopes_of f s.scopes }
  push-stacks l p q =
      let g = grown f m s in
      let a = made-symbols l p ∙ ap (λ (c : ℕ). record { symbol = s.symbol; scopes = attached_of g c } ∷ symbols_of f s.below) q in
      let b = kept-scopes (omega (arith, l.scopes)) in
      λ i. record { symbols = a i; scopes = b i }

  pub push-scoped-stacks : Low s m → s.symbols ≡ suc m → s.attached ≡ suc m
      → stacks_of (grown f m s) s ≡ record { symbols = record { symbol = s.symbol; scopes = some (s.scope ∷ scopes_of f s.scopes) } ∷ symbols_of f s.below; scopes = scopes_of f s.scopes }
  push-scoped-stacks l p q =
      let g = grown f m s in
      let b = kept-scopes (omega (arith, l.scopes)) in
      let d : scopes_of g (suc m) ≡ s.scope ∷ scopes_of f s.scopes =
      scopes-cons g (m + 1) (low-more l) m (omega arith) ∙ ap (λ (x : Step). x.scope ∷ scopes_of g x.scopes) (grown-new f m s) ∙ ap (λ (z : List ℕ). s.scope ∷ z) b in
      let a = made-symbols l p ∙ ap (λ (c : ℕ). record { symbol = s.symbol; scopes = attached_of g c } ∷ symbols_of f s.below) q
      ∙ ap (λ (z : List ℕ). record { symbol = s.symbol; scopes = some z } ∷ symbols_of f s.below) d in
      λ i. record { symbols = a i; scopes = b i }

-- WHAT THE CELLS SAY IS WHAT THE RULES SAY

-- a jump step is added behind the edge's
abbrev pub landed : Node → ℕ → List Model.Step → List Model.Step
landed N.Removed end l = l
landed N.Root end l = l
landed N.JumpToScope end l = l ++ (jumped end ∷ [])
landed (N.Scope f x) end l = l
landed (N.Push f s r) end l = l
landed (N.Pop f s d) end l = l
landed (N.PushScoped f s a r) end l = l
landed (N.PopScoped f s d) end l = l
landed (N.DropScopes f) end l = l

-- the path that a step leads to behind k + 1 steps
abbrev pub path_behind : (ℕ → Step) → ℕ → Node → Path → ℕ → ℤ → Step → Path
path_behind f k n p e pr s =
    record { start = p.start; end = s.end; edges = p.edges ++ (e ∷ []); steps = landed n s.end (p.steps ++ (along e p.end pr ∷ [])); stacks = stacks_of (grown f (k + 1) s) s }

abbrev pub outcome : (ℕ → Step) → ℕ → Node → Path → ℕ → ℤ → Effect → Answer PathRefusal Path
outcome f k n p e pr (Ok s) = ok (path_behind f k n p e pr s)
outcome f k n p e pr (Err r) = refuse r

module _ (g : View) (f : ℕ → Step) (k : ℕ) (low : (j : ℕ) → j < k + 1 → Low (f j) j) (p : Path) (e t : ℕ) (pr : ℤ) where
  abbrev last : Step
  last = f k

  -- the path when the target's rule has changed the stacks
  abbrev behind : Stacks → Path
  behind st = record { start = p.start; end = t; edges = p.edges ++ (e ∷ []); steps = p.steps ++ (along e p.end pr ∷ []); stacks = st }

  tops : Low last k
  tops = low k (omega arith)

  -- what the rules make of a node on the stacks of `last`, and what the cells make of it
  abbrev rules : Node → Answer PathRefusal Path
  rules n = and_then (apply g t n (stacks_of f last)) (λ st. land g t n (behind st))

  abbrev effect : Node → Effect
  effect n = applied_of (is_exported (g.node (asked_scope n (maker_of f last.scopes)))) n t e (k + 1) last (maker_of f last.symbols) (maker_of f last.scopes)

  -- the path with these stacks
  abbrev stands : Stacks → Answer PathRefusal Path
  stands S = ok (behind S)

  plain : stands (stacks_of f last) ≡ stands (stacks_of (grown f (k + 1) (plain_step e t last.symbols last.scopes)) (plain_step e t last.symbols last.scopes))
  plain = ap stands (sym (plain-stacks f (k + 1) low (plain_step e t last.symbols last.scopes) tops.symbols (omega (arith, tops.scopes))))

  dropped : stands (record { symbols = symbols_of f last.symbols; scopes = [] }) ≡ stands (stacks_of (grown f (k + 1) (plain_step e t last.symbols 0)) (plain_step e t last.symbols 0))
  unfolding scopes_from
  dropped = ap stands (sym (plain-stacks f (k + 1) low (plain_step e t last.symbols 0) tops.symbols (omega arith)))

  abbrev pushed_step : ℕ → ℕ → ℕ → Step
  pushed_step x attached scope = record { edge = e; end = t; symbols = k + 1 + 1; scopes = last.scopes; symbol = x; attached = attached; below = last.symbols; scope = scope }

  pushes : (x : ℕ) → stands (record { symbols = record { symbol = x; scopes = none } ∷ symbols_of f last.symbols; scopes = scopes_of f last.scopes }) ≡ stands (stacks_of (grown f (k + 1) (pushed_step x 0 0)) (pushed_step x 0 0))
  pushes x =
      let h = tops in
      ap stands (sym (push-stacks f (k + 1) low (pushed_step x 0 0) (record { symbols = omega arith; scopes = omega (arith, h.scopes); below = omega (arith, h.symbols); attached = omega arith }) (omega arith) refl))

  pushes-scoped : (x a : ℕ) → stands (record { symbols = record { symbol = x; scopes = some (a ∷ scopes_of f last.scopes) } ∷ symbols_of f last.symbols; scopes = scopes_of f last.scopes })
      ≡ stands (stacks_of (grown f (k + 1) (pushed_step x (k + 1 + 1) a)) (pushed_step x (k + 1 + 1) a))
  pushes-scoped x a =
      let h = tops in
      ap stands (sym (push-scoped-stacks f (k + 1) low (pushed_step x (k + 1 + 1) a) (record { symbols = omega arith; scopes = omega (arith, h.scopes); below = omega (arith, h.symbols); attached = omega arith }) (omega arith) (omega arith)))

  -- the cell that the top symbol is, if there is one
  top-is : (c : ℕ) → last.symbols ≡ suc c → symbols_of f last.symbols ≡ record { symbol = (f c).symbol; scopes = attached_of f (f c).attached } ∷ symbols_of f (f c).below
  top-is c h = ap (symbols_of f) h ∙ symbols-cons f (k + 1) low c (omega (arith, h, tops.symbols))

  over-is : (c : ℕ) → last.scopes ≡ suc c → scopes_of f last.scopes ≡ (f c).scope ∷ scopes_of f (f c).scopes
  over-is c h = ap (scopes_of f) h ∙ scopes-cons f (k + 1) low c (omega (arith, h, tops.scopes))

  -- a step that makes no cell, with these tops
  settles : (a b : ℕ) → a ≤ k + 1 → b ≤ k + 1 → stands (record { symbols = symbols_of f a; scopes = scopes_of f b }) ≡ stands (stacks_of (grown f (k + 1) (plain_step e t a b)) (plain_step e t a b))
  settles a b x y = ap stands (sym (plain-stacks f (k + 1) low (plain_step e t a b) x y))

  -- the maker of a cell that is there
  maker-is : (c : ℕ) {n : ℕ} → n ≡ suc c → maker_of f n ≡ f c
  maker-is c {n} h = let q : n - 1 ≡ c = omega (arith, h) in ap f q

  some-cell : (c : ℕ) {n : ℕ} → n ≡ suc c → eqb n 0 ≡ false
  some-cell c {n} h = ne_eqb n 0 (λ z. omega (arith, h, z))

  -- POP
  pop-cell : (i : FileId) (x c : ℕ) (d : Bool) → last.symbols ≡ suc c → (b : Bool) (a : ℕ) → (f c).attached ≡ a
      → and_then (pop_equal b t (without_scopes t (stacks_of f last) (symbols_of f (f c).below) (attached_of f a))) stands
      ≡ outcome f k (N.Pop i x d) p e pr (pick b (pick (eqb a 0) (Ok (plain_step e t (f c).below last.scopes)) (Err (UnexpectedAttachedScopes (node_id t)))) (Err (IncorrectPoppedSymbol (node_id t))))
  unfolding pop_equal without_scopes
  pop-cell i x c d h true zero q = let m = low c (omega (arith, h, tops.symbols)) in settles (f c).below last.scopes (omega (arith, m.below, h, tops.symbols)) (omega (arith, tops.scopes))
  pop-cell i x c d h true (suc a) q = rw (some-cell a {n = suc a} refl)
  pop-cell i x c d h false a q = refl

  pop-is : (i : FileId) (x : ℕ) (d : Bool) (n : ℕ) → last.symbols ≡ n → rules (N.Pop i x d) ≡ outcome f k (N.Pop i x d) p e pr (effect (N.Pop i x d))
  unfolding apply pop_top land applied_of pop_of symbols_from
  pop-is i x d zero h =
      ap (λ (X : List Symbol). and_then (pop_top t x (without_scopes t (stacks_of f last)) X) stands) (ap (symbols_of f) h)
      ∙ ap (λ (m : ℕ). outcome f k (N.Pop i x d) p e pr (pick (eqb m 0) (Err (EmptySymbolStack (node_id t))) (pick (eqb (maker_of f last.symbols).symbol x) (pick (eqb (maker_of f last.symbols).attached 0) (Ok (plain_step e t (maker_of f last.symbols).below last.scopes)) (Err (UnexpectedAttachedScopes (node_id t)))) (Err (IncorrectPoppedSymbol (node_id t)))))) (sym h)
  pop-is i x d (suc c) h =
      ap (λ (X : List Symbol). and_then (pop_top t x (without_scopes t (stacks_of f last)) X) stands) (top-is c h)
      ∙ pop-cell i x c d h (eqb (f c).symbol x) (f c).attached refl
      ∙ ap (λ (y : Step). outcome f k (N.Pop i x d) p e pr (pick (eqb y.symbol x) (pick (eqb y.attached 0) (Ok (plain_step e t y.below last.scopes)) (Err (UnexpectedAttachedScopes (node_id t)))) (Err (IncorrectPoppedSymbol (node_id t))))) (sym (maker-is c h))
      ∙ ap (λ (b : Bool). outcome f k (N.Pop i x d) p e pr (pick b (Err (EmptySymbolStack (node_id t))) (pick (eqb (maker_of f last.symbols).symbol x) (pick (eqb (maker_of f last.symbols).attached 0) (Ok (plain_step e t (maker_of f last.symbols).below last.scopes)) (Err (UnexpectedAttachedScopes (node_id t)))) (Err (IncorrectPoppedSymbol (node_id t)))))) (sym (some-cell c h))

  -- POP-SCOPED
  pop-scoped-cell : (i : FileId) (x c : ℕ) (d : Bool) → last.symbols ≡ suc c → (b : Bool) (a : ℕ) → (f c).attached ≡ a
      → and_then (pop_equal b t (with_scopes t (stacks_of f last) (symbols_of f (f c).below) (attached_of f a))) stands
      ≡ outcome f k (N.PopScoped i x d) p e pr (pick b (pick (eqb a 0) (Err (MissingAttachedScopes (node_id t))) (Ok (plain_step e t (f c).below a))) (Err (IncorrectPoppedSymbol (node_id t))))
  unfolding pop_equal with_scopes
  pop-scoped-cell i x c d h true zero q = refl
  pop-scoped-cell i x c d h true (suc a) q = let m = low c (omega (arith, h, tops.symbols)) in rw (some-cell a {n = suc a} refl) (settles (f c).below (suc a) (omega (arith, m.below, h, tops.symbols)) (omega (arith, m.attached, q, h, tops.symbols)))
  pop-scoped-cell i x c d h false a q = refl

  pop-scoped-is : (i : FileId) (x : ℕ) (d : Bool) (n : ℕ) → last.symbols ≡ n → rules (N.PopScoped i x d) ≡ outcome f k (N.PopScoped i x d) p e pr (effect (N.PopScoped i x d))
  unfolding apply pop_top land applied_of pop_scoped_of symbols_from
  pop-scoped-is i x d zero h =
      ap (λ (X : List Symbol). and_then (pop_top t x (with_scopes t (stacks_of f last)) X) stands) (ap (symbols_of f) h)
      ∙ ap (λ (m : ℕ).
      outcome f k (N.PopScoped i x d) p e pr (pick (eqb m 0) (Err (EmptySymbolStack (node_id t)))
      (pick (eqb (maker_of f last.symbols).symbol x) (pick (eqb (maker_of f last.symbols).attached 0)
      (Err (MissingAttachedScopes (node_id t))) (Ok (plain_step e t (maker_of f last.symbols).below (maker_of f last.symbols).attached)))
      (Err (IncorrectPoppedSymbol (node_id t)))))) (sym h)
  pop-scoped-is i x d (suc c) h =
      ap (λ (X : List Symbol). and_then (pop_top t x (with_scopes t (stacks_of f last)) X) stands) (top-is c h)
      ∙ pop-scoped-cell i x c d h (eqb (f c).symbol x) (f c).attached refl
      ∙ ap (λ (y : Step).
      outcome f k (N.PopScoped i x d) p e pr (pick (eqb y.symbol x)
      (pick (eqb y.attached 0) (Err (MissingAttachedScopes (node_id t))) (Ok (plain_step e t y.below y.attached)))
      (Err (IncorrectPoppedSymbol (node_id t))))) (sym (maker-is c h))
      ∙ ap (λ (b : Bool).
      outcome f k (N.PopScoped i x d) p e pr (pick b (Err (EmptySymbolStack (node_id t)))
      (pick (eqb (maker_of f last.symbols).symbol x) (pick (eqb (maker_of f last.symbols).attached 0)
      (Err (MissingAttachedScopes (node_id t))) (Ok (plain_step e t (maker_of f last.symbols).below (maker_of f last.symbols).attached)))
      (Err (IncorrectPoppedSymbol (node_id t)))))) (sym (some-cell c h))

  -- JUMP
  jump-cell : (c : ℕ) → last.scopes ≡ suc c → (b : Bool)
      → jump_to b (f c).scope (scopes_of f (f c).scopes) (behind (stacks_of f last))
      ≡ outcome f k N.JumpToScope p e pr (pick b (Ok (plain_step e (f c).scope last.symbols (f c).scopes)) (Err (UnknownAttachedScope (node_id (f c).scope))))
  unfolding jump_to
  jump-cell c h true =
      let m = low c (omega (arith, h, tops.scopes)) in
      let z = sym (plain-stacks f (k + 1) low (plain_step e (f c).scope last.symbols (f c).scopes) tops.symbols (omega (arith, m.scopes, h, tops.scopes))) in
      λ i. ok (record { start = p.start; end = (f c).scope; edges = p.edges ++ (e ∷ []); steps = p.steps ++ (along e p.end pr ∷ []) ++ (jumped (f c).scope ∷ []); stacks = z i })
  jump-cell c h false = refl

  jump-is : (n : ℕ) → last.scopes ≡ n → rules N.JumpToScope ≡ outcome f k N.JumpToScope p e pr (effect N.JumpToScope)
  unfolding apply land jump_top applied_of jump_of scopes_from
  jump-is zero h =
      ap (λ (Y : List ℕ). jump_top g t Y (behind (stacks_of f last))) (ap (scopes_of f) h)
      ∙ ap (λ (m : ℕ). outcome f k N.JumpToScope p e pr (pick (eqb m 0) (Err (EmptyScopeStack (node_id t))) (pick (is_exported (g.node (maker_of f last.scopes).scope)) (Ok (plain_step e (maker_of f last.scopes).scope last.symbols (maker_of f last.scopes).scopes)) (Err (UnknownAttachedScope (node_id (maker_of f last.scopes).scope)))))) (sym h)
  jump-is (suc c) h =
      ap (λ (Y : List ℕ). jump_top g t Y (behind (stacks_of f last))) (over-is c h)
      ∙ jump-cell c h (is_exported (g.node (f c).scope))
      ∙ ap (λ (y : Step). outcome f k N.JumpToScope p e pr (pick (is_exported (g.node y.scope)) (Ok (plain_step e y.scope last.symbols y.scopes)) (Err (UnknownAttachedScope (node_id y.scope))))) (sym (maker-is c h))
      ∙ ap (λ (b : Bool). outcome f k N.JumpToScope p e pr (pick b (Err (EmptyScopeStack (node_id t))) (pick (is_exported (g.node (maker_of f last.scopes).scope)) (Ok (plain_step e (maker_of f last.scopes).scope last.symbols (maker_of f last.scopes).scopes)) (Err (UnknownAttachedScope (node_id (maker_of f last.scopes).scope)))))) (sym (some-cell c h))

  -- PUSH-SCOPED
  push-scoped-is : (i : FileId) (x : ℕ) (a : NodeId) (r b : Bool)
      → and_then (push_attached b x a.0 (stacks_of f last)) stands ≡ outcome f k (N.PushScoped i x a r) p e pr (pick b (Ok (pushed_step x (k + 1 + 1) a.0)) (Err (UnknownAttachedScope (node_id a.0))))
  unfolding push_attached
  push-scoped-is i x a r true = pushes-scoped x a.0
  push-scoped-is i x a r false = refl

  -- every kind of node
  node-is : (n : Node) → rules n ≡ outcome f k n p e pr (effect n)
  unfolding apply land applied_of push_scoped_of
  node-is N.Removed = refl
  node-is N.Root = plain
  node-is N.JumpToScope = jump-is last.scopes refl
  node-is (N.Scope i x) = plain
  node-is (N.Push i x r) = pushes x
  node-is (N.Pop i x d) = pop-is i x d last.symbols refl
  node-is (N.PushScoped i x a r) = push-scoped-is i x a r (is_exported (g.node a.0))
  node-is (N.PopScoped i x d) = pop-scoped-is i x d last.symbols refl
  node-is (N.DropScopes i) = dropped

  -- an edge from the path's end to t, when the cells stand for the path's stacks
  pub extend-is : p.stacks ≡ stacks_of f last → extend g p e t pr ≡ outcome f k (g.node t) p e pr (effect (g.node t))
  unfolding extend
  extend-is h = ap (λ (S : Stacks). and_then (apply g t (g.node t) S) (λ st. land g t (g.node t) (behind st))) h ∙ node-is (g.node t)

-- A STEP THAT WAS MADE ONCE: what is not refused leads to the step that is made again
done_inj : (x y : Step) → ◌≡◌ {A = Effect} (Ok x) (Ok y) → y ≡ x
done_inj x y h = cc

pub refused-done : (r : PathRefusal) (s : Step) → ◌≡◌ {A = Effect} (Err r) (Ok s) → ⊥
refused-done r s h = let z : ◌≡◌ {A = ℕ} 0 1 = cc in omega arith

pub unless-done : (b : Bool) (x : Effect) (r : PathRefusal) (s : Step) → pick b x (Err r) ≡ Ok s → x ≡ Ok s
unless-done true x r s h = h
unless-done false x r s h = absurd (refused-done r s h)

if-done : (b : Bool) (r : PathRefusal) (x : Effect) (s : Step) → pick b (Err r) x ≡ Ok s → x ≡ Ok s
if-done true r x s h = absurd (refused-done r s h)
if-done false r x s h = h

pub applied-remade : (x : Bool) (n : Node) (t e k : ℕ) (last top over s : Step) → applied_of x n t e k last top over ≡ Ok s → s ≡ remade_of n t e k last top over
unfolding applied_of remade_of pop_of pop_scoped_of jump_of push_scoped_of
applied-remade x N.Removed t e k last top over s h = absurd (refused-done _ s h)
applied-remade x N.Root t e k last top over s h = done_inj _ s h
applied-remade x N.JumpToScope t e k last top over s h = done_inj _ s (unless-done x _ _ s (if-done (eqb last.scopes 0) _ _ s h))
applied-remade x (N.Scope f y) t e k last top over s h = done_inj _ s h
applied-remade x (N.Push f y r) t e k last top over s h = done_inj _ s h
applied-remade x (N.Pop f y d) t e k last top over s h = done_inj _ s (unless-done (eqb top.attached 0) _ _ s (unless-done (eqb top.symbol y) _ _ s (if-done (eqb last.symbols 0) _ _ s h)))
applied-remade x (N.PushScoped f y a r) t e k last top over s h = done_inj _ s (unless-done x _ _ s h)
applied-remade x (N.PopScoped f y d) t e k last top over s h = done_inj _ s (if-done (eqb top.attached 0) _ _ s (unless-done (eqb top.symbol y) _ _ s (if-done (eqb last.symbols 0) _ _ s h)))
applied-remade x (N.DropScopes f) t e k last top over s h = done_inj _ s h

pub applied-there : (x : Bool) {n : Node} (t e k : ℕ) (last top over s : Step) → applied_of x n t e k last top over ≡ Ok s → n ≡ N.Removed → ⊥
unfolding applied_of
applied-there x t e k last top over s h z = refused-done (UnknownNode (node_id t)) s (ap (λ (m : Node). applied_of x m t e k last top over) (sym z) ∙ h)

-- a plain node leaves both tops as they are
pub plain-remade : (n : Node) (t e k : ℕ) (last top over : Step) → is_plain n ≡ true → remade_of n t e k last top over ≡ plain_step e t last.symbols last.scopes
unfolding remade_of
plain-remade N.Removed t e k last top over h = refl
plain-remade N.Root t e k last top over h = refl
plain-remade N.JumpToScope t e k last top over h = absurd (true≢false (sym h))
plain-remade (N.Scope f y) t e k last top over h = refl
plain-remade (N.Push f y r) t e k last top over h = absurd (true≢false (sym h))
plain-remade (N.Pop f y d) t e k last top over h = absurd (true≢false (sym h))
plain-remade (N.PushScoped f y a r) t e k last top over h = absurd (true≢false (sym h))
plain-remade (N.PopScoped f y d) t e k last top over h = absurd (true≢false (sym h))
plain-remade (N.DropScopes f) t e k last top over h = absurd (true≢false (sym h))

-- a node whose kind is none of those that change a stack does so too
pub other-remade : (l : List ℕ) (n e k : ℕ) (last top over : Step) → (cell l KIND n ≡ 2 → ⊥) → (cell l KIND n ≡ 4 → ⊥) → (cell l KIND n ≡ 5 → ⊥) → (cell l KIND n ≡ 6 → ⊥) → (cell l KIND n ≡ 7 → ⊥) → (cell l KIND n ≡ 8 → ⊥)
    → remade_of (node_row l n) n e k last top over ≡ plain_step e n last.symbols last.scopes
unfolding remade_of
other-remade l n e k last top over =
    by_kind (λ kind x. (kind ≡ 2 → ⊥) → (kind ≡ 4 → ⊥) → (kind ≡ 5 → ⊥) → (kind ≡ 6 → ⊥) → (kind ≡ 7 → ⊥) → (kind ≡ 8 → ⊥) → remade_of x n e k last top over ≡ plain_step e n last.symbols last.scopes) l n
    (λ _ _ _ _ _ _. refl) (λ _ _ _ _ _ _. refl) (λ no _ _ _ _ _. absurd (no refl)) (λ _ _ _ _ _ _. refl) (λ _ no _ _ _ _. absurd (no refl)) (λ _ _ no _ _ _. absurd (no refl))
    (λ _ _ _ no _ _. absurd (no refl)) (λ _ _ _ _ no _. absurd (no refl)) (λ _ _ _ _ _ no. absurd (no refl)) (λ _ _ _ _ _ _ _ _. refl)
