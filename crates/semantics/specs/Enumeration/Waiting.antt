-- The waiting figure is the least number of waiting slots with which an enumeration is not 31.
-- Document 02, order 2: the greatest number of items that ever waited together. With as many slots nothing changes, and with fewer the answer is 31.
use Prim.Native.Nat.{ℕ, zero, suc, ◌+◌, ◌≤◌, ◌<◌}
use Rattle.std.proofs.Common.{arith, sym, ◌∙◌, inl, inr, ⊎_elim, ltb-false}
use Rattle.std.specs.Prelude.{◌≡◌, ◌⊎◌, Bool, length}
use Rattle.std.proofs.Math.Path.{refl, ap, subst}
use Rattle.std.proofs.Math.Bool.{true, false}
use mathlib.Core.List.{List, [], ◌∷◌}
use Rattle.std.proofs.Math.Dec.{ltb, ltb→lt}
use Rattle.semantics.specs.declared.search.SearchOrder.{SearchOrder}
use Rattle.semantics.specs.declared.search.SearchOrder.TheVariants.{BreadthFirst, DepthFirst}
use Rattle.semantics.specs.Lists.{pick}
use Rattle.semantics.specs.Lists.Laws.{eq→T}
use Rattle.semantics.specs.Limits.{below}
use Rattle.semantics.specs.Answer.{Answer, ok, refuse, and_then, ok_if}
use Rattle.semantics.specs.Answer.Laws.{ok-inj, refuse-ok, ok-refuse, and_then-ok}
use Rattle.semantics.specs.Enumeration.{Try, cut, overlong, reject, stop, go, Area, unlimited, slots, Setting, State, Turn, over, expand, greater, waiting, one, each, merge, turn, run, enumerate, blank, with_stats, with_tally, with_pending, with_kept}
use Rattle.semantics.specs.Enumeration.{judged, add_looked, place, push_item, keep_if, keep, add_complete, admit, popped, final, follow, seed}
use Rattle.semantics.specs.Enumeration.Laws.{place_ok}

-- the same search with other waiting slots
abbrev pub lent : {R : Type 0} → Area R → Setting R → Setting R
lent a c = record { order = c.order; max_count = c.max_count; max_complete = c.max_complete; waiting = a; results = c.results; too_many = c.too_many }

-- the figure
abbrev pub waited : {W : Type 0} → State W → ℕ
waited s = s.tally.waited

-- ---- the greater of two

pub greater-case : (m n : ℕ) → ((m < n) × (greater m n ≡ n)) ⊎ ((n ≤ m) × (greater m n ≡ m))
greater-case m n = on (ltb m n) refl
  where
    on : (b : Bool) → ltb m n ≡ b → ((m < n) × (pick b n m ≡ n)) ⊎ ((n ≤ m) × (pick b n m ≡ m))
    on true h = inl (ltb→lt m n (eq→T _ h), refl)
    on false h = inr (ltb-false m n h, refl)

pub greater-left : (m n : ℕ) → m ≤ greater m n
greater-left m n = ⊎_elim (λ (k : (m < n) × (greater m n ≡ n)). omega (arith, k.0, k.1)) (λ (k : (n ≤ m) × (greater m n ≡ m)). omega (arith, k.0, k.1)) (greater-case m n)

pub greater-right : (m n : ℕ) → n ≤ greater m n
greater-right m n = ⊎_elim (λ (k : (m < n) × (greater m n ≡ n)). omega (arith, k.0, k.1)) (λ (k : (n ≤ m) × (greater m n ≡ m)). omega (arith, k.0, k.1)) (greater-case m n)

pub greater-most : (m n w : ℕ) → m ≤ w → n ≤ w → greater m n ≤ w
greater-most m n w a b = ⊎_elim (λ (k : (m < n) × (greater m n ≡ n)). omega (arith, k.1, b)) (λ (k : (n ≤ m) × (greater m n ≡ m)). omega (arith, k.1, a)) (greater-case m n)

module _ {W : Type 0} where
  merge-waited : (o : SearchOrder) (s : State W) → waited (merge o s) ≡ waited s
  unfolding merge
  merge-waited BreadthFirst s = refl
  merge-waited DepthFirst s = refl

  -- a pop does not change the figure
  abbrev TurnWaited : ℕ → Turn W → Type 0
  TurnWaited n (over u) = waited u ≡ n
  TurnWaited n (expand x u) = waited u ≡ n

module _ {R W : Type 0} where
  turn-waited : (c : Setting R) (s : State W) → TurnWaited (waited s) (turn c s)
  unfolding turn popped admit
  turn-waited c s = on s.rest
    where
      admitted : (b : Bool) (x : W) (xs : List W) → TurnWaited (waited s) (admit b s x xs)
      admitted true x xs = refl
      admitted false x xs = refl

      on : (l : List W) → TurnWaited (waited s) (popped c s l)
      on [] = refl
      on (x ∷ xs) = admitted (below s.stats.expanded c.max_count) x xs

-- ---- from enough slots to w of them

-- what a search that ends in u with enough slots answers with w of them: the same, or 31 where the figure is above w
abbrev pub WithSlots : {R W : Type 0} → ℕ → R → State W → Answer R (State W) → Type 0
WithSlots w r u a = ((waited u ≤ w) × (a ≡ ok u)) ⊎ ((w < waited u) × (a ≡ refuse r))

module _ {R W : Type 0} (c : Setting R) (w : ℕ) (r : R) where
  -- from s to u the figure grows, and with w slots that were enough up to s it goes on alike
  abbrev Parts : State W → State W → Answer R (State W) → Type 0
  Parts s u a = (waited s ≤ waited u) × (waited s ≤ w → WithSlots w r u a)

  -- nothing was pushed
  stays-part : (s u : State W) (a : Answer R (State W)) → waited s ≡ waited u → a ≡ ok u → Parts s u a
  stays-part s u a k e = (omega (arith, k), λ h. inl (omega (arith, h, k), e))

  -- one after the other
  then-part : (s x u : State W) (a : Answer R (State W)) (f : State W → Answer R (State W)) → Parts s x a → Parts x u (f x) → Parts s u (and_then a f)
  then-part s x u a f p q = (
    omega (arith, p.0, q.0),
    λ h. ⊎_elim
        (λ (k : (waited x ≤ w) × (a ≡ ok x)). ⊎_elim
        (λ (j : (waited u ≤ w) × (f x ≡ ok u)). inl (j.0, ap (λ y. and_then y f) k.1 ∙ j.1))
        (λ (j : (w < waited u) × (f x ≡ refuse r)). inr (j.0, ap (λ y. and_then y f) k.1 ∙ j.1))
        (q.1 k.0))
        (λ (k : (w < waited x) × (a ≡ refuse r)). inr (omega (arith, k.0, q.0), ap (λ y. and_then y f) k.1))
        (p.1 h),
  )

  push-part : (s u : State W) (x : W) → push_item (lent unlimited c) x s ≡ ok u → Parts s u (push_item (lent (slots w r) c) x s)
  unfolding push_item place ok_if
  push-part s u x e = subst (λ (y : State W). Parts s y (ok_if (ltb (waiting s) w) r (with_pending x s))) (ok-inj (with_pending x s) u e) (grows, split)
    where
      grows : waited s ≤ waited (with_pending x s)
      grows = greater-left (waited s) (waiting s + 1)

      at : (b : Bool) → ltb (waiting s) w ≡ b → waited s ≤ w → WithSlots w r (with_pending x s) (ok_if b r (with_pending x s))
      at true k h = let z = ltb→lt (waiting s) w (eq→T _ k) in inl (greater-most (waited s) (waiting s + 1) w h (omega (arith, z)), refl)
      at false k h = let z = ltb-false (waiting s) w k in let y = greater-right (waited s) (waiting s + 1) in inr (omega (arith, z, y), refl)

      split : waited s ≤ w → WithSlots w r (with_pending x s) (ok_if (ltb (waiting s) w) r (with_pending x s))
      split h = at (ltb (waiting s) w) refl h

  keep_if-part : (b : Bool) (s u : State W) (x : W) → keep_if b (lent unlimited c) s x ≡ ok u → Parts s u (keep_if b (lent (slots w r) c) s x)
  unfolding keep_if
  keep_if-part true s u x e = stays-part s u _ (ap waited (place_ok c.results (length s.kept) (with_kept x s) u e)) e
  keep_if-part false s u x e = stays-part s u _ (ap waited (ok-inj _ u e)) e

  keep-part : (b : Bool) (s u : State W) (x : W) → keep b (lent unlimited c) s x ≡ ok u → Parts s u (keep b (lent (slots w r) c) s x)
  unfolding keep
  keep-part true s u x e = keep_if-part (below (length s.kept) c.max_complete) (with_stats s (add_complete s.stats)) u x e
  keep-part false s u x e = stays-part s u _ (ap waited (ok-inj s u e)) e

  judged-part : (s u : State W) (t : Try R W) → judged (lent unlimited c) s t ≡ ok u → Parts s u (judged (lent (slots w r) c) s t)
  unfolding judged
  judged-part s u cut e = stays-part s u _ (ap waited (ok-inj _ u e)) e
  judged-part s u overlong e = stays-part s u _ (ap waited (ok-inj _ u e)) e
  judged-part s u reject e = stays-part s u _ (ap waited (ok-inj _ u e)) e
  judged-part s u (stop q) e = absurd (refuse-ok q u e)
  judged-part s u (go b x) e =
      let k = and_then-ok (keep b (lent unlimited c) s x) (push_item (lent unlimited c) x) u e in
      then-part s k.0 u (keep b (lent (slots w r) c) s x) (push_item (lent (slots w r) c) x) (keep-part b s k.0 x k.1) (push-part k.0 u x k.2)

  each_part : (s u : State W) (ts : List (Try R W)) → each (lent unlimited c) s ts ≡ ok u → Parts s u (each (lent (slots w r) c) s ts)
  unfolding each one
  each_part s u [] e = stays-part s u _ (ap waited (ok-inj s u e)) e
  each_part s u (t ∷ ts) e =
      let k = and_then-ok (one (lent unlimited c) s t) (λ x. each (lent unlimited c) x ts) u e in
      then-part s k.0 u (one (lent (slots w r) c) s t) (λ x. each (lent (slots w r) c) x ts) (judged-part (with_tally s (add_looked s.tally)) k.0 t k.1) (each_part k.0 u ts k.2)

  turn-same : (s : State W) → turn (lent (slots w r) c) s ≡ turn (lent unlimited c) s
  unfolding turn popped
  turn-same s = on s.rest
    where
      on : (l : List W) → popped (lent (slots w r) c) s l ≡ popped (lent unlimited c) s l
      on [] = refl
      on (x ∷ xs) = refl

  module _ (tries : W → List (Try R W)) (u : State W) where
    final-part : (s : State W) (t : Turn W) → TurnWaited (waited s) t → final (lent unlimited c) t ≡ ok u → Parts s u (final (lent (slots w r) c) t)
    unfolding final
    final-part s (over x) k e = stays-part s u _ (sym k ∙ ap waited (ok-inj x u e)) e
    final-part s (expand x y) k e = absurd (refuse-ok c.too_many u e)

    follow-part : (f g : State W → Answer R (State W)) → ((x : State W) → f x ≡ ok u → Parts x u (g x)) → (s : State W) (t : Turn W) → TurnWaited (waited s) t
        → follow (lent unlimited c) tries f t ≡ ok u → Parts s u (follow (lent (slots w r) c) tries g t)
    unfolding follow
    follow-part f g ih s (over x) k e = stays-part s u _ (sym k ∙ ap waited (ok-inj x u e)) e
    follow-part f g ih s (expand x y) k e =
        let a = and_then-ok (each (lent unlimited c) y (tries x)) (λ v. f (merge c.order v)) u e in
        let m = merge-waited c.order a.0 in
        let q = ih (merge c.order a.0) a.2 in
        let p = then-part y a.0 u (each (lent (slots w r) c) y (tries x)) (λ v. g (merge c.order v)) (each_part y a.0 (tries x) a.1) (omega (arith, q.0, m), λ h. q.1 (omega (arith, h, m))) in
        (omega (arith, p.0, k), λ h. p.1 (omega (arith, h, k)))

    run-part : (n : ℕ) (s : State W) → run (lent unlimited c) tries n s ≡ ok u → Parts s u (run (lent (slots w r) c) tries n s)
    unfolding run
    run-part zero s e = subst (λ (t : Turn W). Parts s u (final (lent (slots w r) c) t)) (sym (turn-same s)) (final-part s (turn (lent unlimited c) s) (turn-waited (lent unlimited c) s) e)
    run-part (suc n) s e = subst (λ (t : Turn W). Parts s u (follow (lent (slots w r) c) tries (run (lent (slots w r) c) tries n) t)) (sym (turn-same s)) (follow-part (run (lent unlimited c) tries n) (run (lent (slots w r) c) tries n) (run-part n) s (turn (lent unlimited c) s) (turn-waited (lent unlimited c) s) e)

  seed-part : (s u : State W) (xs : List W) → seed (lent unlimited c) s xs ≡ ok u → Parts s u (seed (lent (slots w r) c) s xs)
  unfolding seed
  seed-part s u [] e = stays-part s u _ (ap waited (ok-inj s u e)) e
  seed-part s u (x ∷ xs) e =
      let k = and_then-ok (push_item (lent unlimited c) x s) (λ y. seed (lent unlimited c) y xs) u e in
      then-part s k.0 u (push_item (lent (slots w r) c) x s) (λ y. seed (lent (slots w r) c) y xs) (push-part s k.0 x k.1) (seed-part k.0 u xs k.2)

  module _ (tries : W → List (Try R W)) (fuel : ℕ) (xs : List W) (u : State W) where
    enumerate-part : enumerate (lent unlimited c) tries fuel xs ≡ ok u → WithSlots w r u (enumerate (lent (slots w r) c) tries fuel xs)
    unfolding enumerate
    enumerate-part e =
        let k = and_then-ok (seed (lent unlimited c) blank xs) (λ s. run (lent unlimited c) tries fuel (merge c.order s)) u e in
        let m = merge-waited c.order k.0 in
        let q = run-part tries u fuel (merge c.order k.0) k.2 in
        let p = then-part blank k.0 u (seed (lent (slots w r) c) blank xs) (λ s. run (lent (slots w r) c) tries fuel (merge c.order s)) (seed-part blank k.0 xs k.1) (omega (arith, q.0, m), λ h. q.1 (omega (arith, h, m))) in
        p.1 (omega arith)

    -- ENOUGH: with as many slots as the figure the search is the same
    pub waiting-enough : enumerate (lent unlimited c) tries fuel xs ≡ ok u → waited u ≤ w → enumerate (lent (slots w r) c) tries fuel xs ≡ ok u
    waiting-enough e h = ⊎_elim (λ (k : (waited u ≤ w) × (enumerate (lent (slots w r) c) tries fuel xs ≡ ok u)). k.1)
        (λ (k : (w < waited u) × (enumerate (lent (slots w r) c) tries fuel xs ≡ refuse r)). absurd (let z = k.0 in omega (arith, z, h))) (enumerate-part e)

    -- SHORT: with fewer it is refused with 31
    pub waiting-short : enumerate (lent unlimited c) tries fuel xs ≡ ok u → w < waited u → enumerate (lent (slots w r) c) tries fuel xs ≡ refuse r
    waiting-short e h = ⊎_elim (λ (k : (waited u ≤ w) × (enumerate (lent (slots w r) c) tries fuel xs ≡ ok u)). absurd (let z = k.0 in omega (arith, z, h)))
        (λ (k : (w < waited u) × (enumerate (lent (slots w r) c) tries fuel xs ≡ refuse r)). k.1) (enumerate-part e)

    -- so 31 tells that the figure is above the slots
    pub waiting-refused : enumerate (lent unlimited c) tries fuel xs ≡ ok u → enumerate (lent (slots w r) c) tries fuel xs ≡ refuse r → w < waited u
    waiting-refused e h = ⊎_elim (λ (k : (waited u ≤ w) × (enumerate (lent (slots w r) c) tries fuel xs ≡ ok u)). absurd (ok-refuse r u (sym k.1 ∙ h)))
        (λ (k : (w < waited u) × (enumerate (lent (slots w r) c) tries fuel xs ≡ refuse r)). k.0) (enumerate-part e)

-- ---- from w slots to enough of them

module _ {R W : Type 0} (c : Setting R) (w : ℕ) (r : R) where
  -- what w slots hold is the same with more of them, and never more than w wait
  abbrev Most : State W → State W → Answer R (State W) → Type 0
  Most s u a = (a ≡ ok u) × (waited s ≤ w → waited u ≤ w)

  stays-most : (s u : State W) (a : Answer R (State W)) → waited s ≡ waited u → a ≡ ok u → Most s u a
  stays-most s u a k e = (e, λ h. omega (arith, h, k))

  then-most : (s x u : State W) (a : Answer R (State W)) (f : State W → Answer R (State W)) → Most s x a → Most x u (f x) → Most s u (and_then a f)
  then-most s x u a f p q = (ap (λ y. and_then y f) p.0 ∙ q.0, λ h. q.1 (p.1 h))

  push-most : (s u : State W) (x : W) → push_item (lent (slots w r) c) x s ≡ ok u → Most s u (push_item (lent unlimited c) x s)
  unfolding push_item place ok_if
  push-most s u x e = on (ltb (waiting s) w) refl e
    where
      on : (b : Bool) → ltb (waiting s) w ≡ b → ok_if b r (with_pending x s) ≡ ok u → Most s u (ok (with_pending x s))
      on true k e = let z = ltb→lt (waiting s) w (eq→T _ k) in (e, λ h. subst (λ (y : State W). waited y ≤ w) (ok-inj (with_pending x s) u e) (greater-most (waited s) (waiting s + 1) w h (omega (arith, z))))
      on false k e = absurd (refuse-ok r u e)

  keep_if-most : (b : Bool) (s u : State W) (x : W) → keep_if b (lent (slots w r) c) s x ≡ ok u → Most s u (keep_if b (lent unlimited c) s x)
  unfolding keep_if
  keep_if-most true s u x e = stays-most s u _ (ap waited (place_ok c.results (length s.kept) (with_kept x s) u e)) e
  keep_if-most false s u x e = stays-most s u _ (ap waited (ok-inj _ u e)) e

  keep-most : (b : Bool) (s u : State W) (x : W) → keep b (lent (slots w r) c) s x ≡ ok u → Most s u (keep b (lent unlimited c) s x)
  unfolding keep
  keep-most true s u x e = keep_if-most (below (length s.kept) c.max_complete) (with_stats s (add_complete s.stats)) u x e
  keep-most false s u x e = stays-most s u _ (ap waited (ok-inj s u e)) e

  judged-most : (s u : State W) (t : Try R W) → judged (lent (slots w r) c) s t ≡ ok u → Most s u (judged (lent unlimited c) s t)
  unfolding judged
  judged-most s u cut e = stays-most s u _ (ap waited (ok-inj _ u e)) e
  judged-most s u overlong e = stays-most s u _ (ap waited (ok-inj _ u e)) e
  judged-most s u reject e = stays-most s u _ (ap waited (ok-inj _ u e)) e
  judged-most s u (stop q) e = absurd (refuse-ok q u e)
  judged-most s u (go b x) e =
      let k = and_then-ok (keep b (lent (slots w r) c) s x) (push_item (lent (slots w r) c) x) u e in
      then-most s k.0 u (keep b (lent unlimited c) s x) (push_item (lent unlimited c) x) (keep-most b s k.0 x k.1) (push-most k.0 u x k.2)

  each-most : (s u : State W) (ts : List (Try R W)) → each (lent (slots w r) c) s ts ≡ ok u → Most s u (each (lent unlimited c) s ts)
  unfolding each one
  each-most s u [] e = stays-most s u _ (ap waited (ok-inj s u e)) e
  each-most s u (t ∷ ts) e =
      let k = and_then-ok (one (lent (slots w r) c) s t) (λ x. each (lent (slots w r) c) x ts) u e in
      then-most s k.0 u (one (lent unlimited c) s t) (λ x. each (lent unlimited c) x ts) (judged-most (with_tally s (add_looked s.tally)) k.0 t k.1) (each-most k.0 u ts k.2)

  module _ (tries : W → List (Try R W)) (u : State W) where
    final-most : (s : State W) (t : Turn W) → TurnWaited (waited s) t → final (lent (slots w r) c) t ≡ ok u → Most s u (final (lent unlimited c) t)
    unfolding final
    final-most s (over x) k e = stays-most s u _ (sym k ∙ ap waited (ok-inj x u e)) e
    final-most s (expand x y) k e = absurd (refuse-ok c.too_many u e)

    follow-most : (f g : State W → Answer R (State W)) → ((x : State W) → f x ≡ ok u → Most x u (g x)) → (s : State W) (t : Turn W) → TurnWaited (waited s) t
        → follow (lent (slots w r) c) tries f t ≡ ok u → Most s u (follow (lent unlimited c) tries g t)
    unfolding follow
    follow-most f g ih s (over x) k e = stays-most s u _ (sym k ∙ ap waited (ok-inj x u e)) e
    follow-most f g ih s (expand x y) k e =
        let a = and_then-ok (each (lent (slots w r) c) y (tries x)) (λ v. f (merge c.order v)) u e in
        let m = merge-waited c.order a.0 in
        let q = ih (merge c.order a.0) a.2 in
        let p = then-most y a.0 u (each (lent unlimited c) y (tries x)) (λ v. g (merge c.order v)) (each-most y a.0 (tries x) a.1) (q.0, λ h. q.1 (omega (arith, h, m))) in
        (p.0, λ h. p.1 (omega (arith, h, k)))

    run-most : (n : ℕ) (s : State W) → run (lent (slots w r) c) tries n s ≡ ok u → Most s u (run (lent unlimited c) tries n s)
    unfolding run
    run-most zero s e = let t = turn-same {W = W} c w r s in subst (λ (t : Turn W). Most s u (final (lent unlimited c) t)) t (final-most s (turn (lent (slots w r) c) s) (turn-waited (lent (slots w r) c) s) e)
    run-most (suc n) s e = let t = turn-same {W = W} c w r s in
        subst (λ (t : Turn W). Most s u (follow (lent unlimited c) tries (run (lent unlimited c) tries n) t)) t
        (follow-most (run (lent (slots w r) c) tries n) (run (lent unlimited c) tries n) (run-most n) s (turn (lent (slots w r) c) s) (turn-waited (lent (slots w r) c) s) e)

  seed-most : (s u : State W) (xs : List W) → seed (lent (slots w r) c) s xs ≡ ok u → Most s u (seed (lent unlimited c) s xs)
  unfolding seed
  seed-most s u [] e = stays-most s u _ (ap waited (ok-inj s u e)) e
  seed-most s u (x ∷ xs) e =
      let k = and_then-ok (push_item (lent (slots w r) c) x s) (λ y. seed (lent (slots w r) c) y xs) u e in
      then-most s k.0 u (push_item (lent unlimited c) x s) (λ y. seed (lent unlimited c) y xs) (push-most s k.0 x k.1) (seed-most k.0 u xs k.2)

  module _ (tries : W → List (Try R W)) (fuel : ℕ) (xs : List W) (u : State W) where
    -- MOST: no more wait than there are slots, and the search is the same with enough of them
    pub waiting-most : enumerate (lent (slots w r) c) tries fuel xs ≡ ok u → (waited u ≤ w) × (enumerate (lent unlimited c) tries fuel xs ≡ ok u)
    unfolding enumerate
    waiting-most e =
        let k = and_then-ok (seed (lent (slots w r) c) blank xs) (λ s. run (lent (slots w r) c) tries fuel (merge c.order s)) u e in
        let m = merge-waited c.order k.0 in
        let q = run-most tries u fuel (merge c.order k.0) k.2 in
        let p = then-most blank k.0 u (seed (lent unlimited c) blank xs) (λ s. run (lent unlimited c) tries fuel (merge c.order s)) (seed-most blank k.0 xs k.1) (q.0, λ h. q.1 (omega (arith, h, m))) in
        (p.1 (omega arith), p.0)

-- SO AN OPERATOR LENDS EXACTLY THE FIGURE: of a search that was not refused with w slots it is known how it is with any other number of them
module _ {R W : Type 0} (c : Setting R) (w v : ℕ) (r : R) (tries : W → List (Try R W)) (fuel : ℕ) (xs : List W) (u : State W) where
  pub waiting-other : enumerate (lent (slots w r) c) tries fuel xs ≡ ok u → WithSlots v r u (enumerate (lent (slots v r) c) tries fuel xs)
  waiting-other e = enumerate-part c v r tries fuel xs u (waiting-most c w r tries fuel xs u e).1
