-- What an enumeration keeps: the items that its tries lead to from the starting ones, and no others.
-- Serves demand 3; every search of document 01 is an instance.
use Prim.Native.Nat.{ℕ, zero, suc}
use Rattle.std.proofs.Math.Path.{◌≡◌, refl, sym, subst}
use Rattle.std.proofs.Common.{◌∙◌, ap}
use Rattle.std.specs.Prelude.{◌⊎◌, Bool, ltb, length, None}
use Rattle.std.proofs.Math.Logic.{inl, inr, ⊎_elim}
use Rattle.std.proofs.Math.Bool.{true, false, true≢false}
use mathlib.Core.List.{List, [], ◌∷◌, ◌++◌, append-nil, append_assoc, Memᴰ}
use Rattle.semantics.specs.declared.search.SearchOrder.{SearchOrder}
use Rattle.semantics.specs.declared.search.SearchOrder.TheVariants.{BreadthFirst, DepthFirst}
use Rattle.semantics.specs.declared.search.SearchStats.{SearchStats}
use Rattle.semantics.specs.Limits.{below}
use Rattle.semantics.specs.Answer.{Answer, ok, ok_if}
use Rattle.semantics.specs.Answer.Laws.{ok-inj, refuse-ok, and_then-ok}
use Rattle.semantics.specs.Enumeration.{Try, cut, overlong, reject, stop, go, tested, Area, unlimited, slots, Setting, State, Turn, over, expand, one, each, merge, turn, run, enumerate, blank, with_stats, with_tally, judged, add_looked, place, push_item, keep_if, keep, add_complete, admit, popped, final, follow, seed}

-- what goes on has passed the tests
module _ {R W : Type 0} where
  pub tested-go : (cycle short room : Bool) (too_long : R) (next : Try R W) (b : Bool) (w : W) → tested cycle short room too_long next ≡ go b w → (cycle ≡ false) × (short ≡ true) × (room ≡ true) × (next ≡ go b w)
  unfolding tested
  tested-go true short room too_long next b w e = absurd (let z : ◌≡◌ {A = Bool} true false = cc in true≢false z)
  tested-go false false room too_long next b w e = absurd (let z : ◌≡◌ {A = Bool} true false = cc in true≢false z)
  tested-go false true false too_long next b w e = absurd (let z : ◌≡◌ {A = Bool} true false = cc in true≢false z)
  tested-go false true true too_long next b w e = (refl, refl, refl, e)

pub place_ok {ℓ} : {R : Type 0} {A : Type ℓ} (a : Area R) (n : ℕ) (x u : A) → place a n x ≡ ok u → x ≡ u
unfolding place ok_if
place_ok unlimited n x u e = ok-inj x u e
place_ok (slots size r) n x u e = on (ltb n size) e
  where
    on : (b : Bool) → ok_if b r x ≡ ok u → x ≡ u
    on true k = ok-inj x u k
    on false k = absurd (refuse-ok r u k)

module _ {R W : Type 0} where
  -- what a try adds to the kept ones, and to the waiting ones
  abbrev pub new_of : Try R W → List W
  new_of cut = []
  new_of overlong = []
  new_of reject = []
  new_of (stop r) = []
  new_of (go true w) = w ∷ []
  new_of (go false w) = []

  abbrev pub pushed_of : Try R W → List W
  pushed_of cut = []
  pushed_of overlong = []
  pushed_of reject = []
  pushed_of (stop r) = []
  pushed_of (go b w) = w ∷ []

  abbrev pub news : List (Try R W) → List W
  news [] = []
  news (t ∷ ts) = new_of t ++ news ts

  abbrev pub pushes : List (Try R W) → List W
  pushes [] = []
  pushes (t ∷ ts) = pushed_of t ++ pushes ts

module _ {W : Type 0} where
  pub record After (s u : State W) (new pushed : List W) : Type 0 where
    pub rest : u.rest ≡ s.rest
    pub pending : u.pending ≡ s.pending ++ pushed
    pub sound : (v : W) → Memᴰ v u.kept → Memᴰ v s.kept ⊎ Memᴰ v new
    pub full : u.stats.complete_limited ≡ false → (s.stats.complete_limited ≡ false) × (u.kept ≡ s.kept ++ new)

  after_none : (s : State W) → After s s [] []
  after_none s = record { rest = refl; pending = sym (append-nil s.pending); sound = λ v m. inl m; full = λ e. (e, sym (append-nil s.kept)) }

  after_then : (s u x : State W) (a b p q : List W) → After s u a p → After u x b q → After s x (a ++ b) (p ++ q)
  after_then s u x a b p q f g = record {
    rest = g.rest ∙ f.rest;
    pending = rw (g.pending, f.pending, append_assoc);
    sound = λ v m. ⊎_elim (λ k. ⊎_elim inl (λ n. inr (mathlib.Core.List.Memᴰ.append_left b n)) (f.sound v k)) (λ n. inr (mathlib.Core.List.Memᴰ.append_right a n)) (g.sound v m);
    full = λ e. let h = g.full e in let k = f.full h.0 in (k.0, h.1 ∙ ap (λ l. l ++ b) k.1 ∙ append_assoc s.kept a b);
  }

  after-at : (s u x : State W) (a p : List W) → u ≡ x → After s u a p → After s x a p
  after-at s u x a p e h = subst (λ y. After s y a p) e h

module _ {R W : Type 0} where
  push-after : (c : Setting R) (s u : State W) (w : W) → push_item c w s ≡ ok u → After s u [] (w ∷ [])
  unfolding push_item
  push-after c s u w e = after-at s _ u [] (w ∷ []) (place_ok c.waiting _ _ u e) (record { rest = refl; pending = refl; sound = λ v m. inl m; full = λ f. (f, sym (append-nil s.kept)) })

  keep_if-after : (b : Bool) (c : Setting R) (s u : State W) (w : W) → keep_if b c s w ≡ ok u → After s u (w ∷ []) []
  unfolding keep_if
  keep_if-after true c s u w e = after-at s _ u (w ∷ []) [] (place_ok c.results _ _ u e) (record { rest = refl; pending = sym (append-nil s.pending); sound = λ v m. mathlib.Core.List.Memᴰ.append_cases s.kept m; full = λ f. (f, refl) })
  keep_if-after false c s u w e = after-at s _ u (w ∷ []) [] (ok-inj _ u e) (record { rest = refl; pending = sym (append-nil s.pending); sound = λ v m. inl m; full = λ f. absurd (true≢false f) })

module _ {W : Type 0} where
  after-count : (s u : State W) (t : SearchStats) (a p : List W) → t.complete_limited ≡ s.stats.complete_limited → After (with_stats s t) u a p → After s u a p
  after-count s u t a p e h = record { rest = h.rest; pending = h.pending; sound = h.sound; full = λ f. (sym e ∙ (h.full f).0, (h.full f).1) }

module _ {R W : Type 0} where
  keep-after : (b : Bool) (c : Setting R) (s u : State W) (w : W) → keep b c s w ≡ ok u → After s u (new_of {R = R} (go b w)) []
  unfolding keep
  keep-after true c s u w e = after-count s u (add_complete s.stats) (w ∷ []) [] refl (keep_if-after (below (length s.kept) c.max_complete) c (with_stats s (add_complete s.stats)) u w e)
  keep-after false c s u w e = after-at s s u [] [] (ok-inj s u e) (after_none s)

  after_same : (s x u : State W) → x.rest ≡ s.rest → x.pending ≡ s.pending → x.kept ≡ s.kept → x.stats.complete_limited ≡ s.stats.complete_limited → ◌≡◌ {A = Answer R (State W)} (ok x) (ok u) → After s u [] []
  after_same s x u a b d e f = after-at s x u [] [] (ok-inj x u f) (record { rest = a; pending = b ∙ sym (append-nil s.pending); sound = λ v m. inl (subst (Memᴰ v) d m); full = λ h. (sym e ∙ h, d ∙ sym (append-nil s.kept)) })

  judged-after : (c : Setting R) (s u : State W) (t : Try R W) → judged c s t ≡ ok u → After s u (new_of t) (pushed_of t)
  unfolding judged
  judged-after c s u cut e = after_same s _ u refl refl refl refl e
  judged-after c s u overlong e = after_same s _ u refl refl refl refl e
  judged-after c s u reject e = after_same s _ u refl refl refl refl e
  judged-after c s u (stop r) e = absurd (refuse-ok r u e)
  judged-after c s u (go b w) e =
      let k = and_then-ok (keep b c s w) (push_item c w) u e in
      subst (λ l. After s u l (w ∷ [])) (append-nil (new_of {R = R} (go b w))) (after_then s k.0 u (new_of {R = R} (go b w)) [] [] (w ∷ []) (keep-after b c s k.0 w k.1) (push-after c k.0 u w k.2))

  one-after : (c : Setting R) (s u : State W) (t : Try R W) → one c s t ≡ ok u → After s u (new_of t) (pushed_of t)
  unfolding one
  one-after c s u t e = let k = judged-after c (with_tally s (add_looked s.tally)) u t e in record { rest = k.rest; pending = k.pending; sound = k.sound; full = k.full }

  pub each_after : (c : Setting R) (s u : State W) (ts : List (Try R W)) → each c s ts ≡ ok u → After s u (news ts) (pushes ts)
  unfolding each
  each_after c s u [] e = after-at s s u [] [] (ok-inj s u e) (after_none s)
  each_after c s u (t ∷ ts) e =
      let k = and_then-ok (one c s t) (λ x. each c x ts) u e in
      after_then s k.0 u (new_of t) (news ts) (pushed_of t) (pushes ts) (one-after c s k.0 t k.1) (each_after c k.0 u ts k.2)
  -- a turn that ends the search: nothing waits, or the limit on expansions is reached

module _ {W : Type 0} where
  pub data Over (s u : State W) : Type 0 where
    empty : s.rest ≡ [] → s ≡ u → Over s u
    limited : u.stats.count_limited ≡ true → u.kept ≡ s.kept → Over s u

  pub record Popped (s u : State W) (w : W) : Type 0 where
    pub waited : s.rest ≡ w ∷ u.rest
    pub pending : u.pending ≡ []
    pub kept : u.kept ≡ s.kept
    pub flag : u.stats.complete_limited ≡ s.stats.complete_limited

  over-inj : (s u : State W) → over s ≡ over u → s ≡ u
  over-inj s u e = cc

  over-expand : (s u : State W) (w : W) → over s ≡ expand w u → ⊥
  over-expand s u w e = let z : ◌≡◌ {A = Bool} true false = cc in true≢false z

  -- both ways a turn can come out, for any turn equal to t
  abbrev pub TurnIs : State W → Turn W → Type 0
  TurnIs s (over u) = Over s u
  TurnIs s (expand w u) = Popped s u w

module _ {R W : Type 0} where
  pub turn_is : (c : Setting R) (s : State W) → TurnIs s (turn c s)
  unfolding turn admit popped
  turn_is c s = go_on s.rest refl
    where
      admitted : (b : Bool) (w : W) (ws : List W) → s.rest ≡ w ∷ ws → TurnIs s (admit b s w ws)
      admitted true w ws e = record { waited = e; pending = refl; kept = refl; flag = refl }
      admitted false w ws e = limited refl refl

      go_on : (l : List W) → s.rest ≡ l → TurnIs s (popped c s l)
      go_on [] e = empty e refl
      go_on (w ∷ ws) e = admitted (below s.stats.expanded c.max_count) w ws e

module _ {W : Type 0} where
  merge-kept : (o : SearchOrder) (s : State W) → (merge o s).kept ≡ s.kept
  unfolding merge
  merge-kept BreadthFirst s = refl
  merge-kept DepthFirst s = refl

  merge-flag : (o : SearchOrder) (s : State W) → (merge o s).stats.complete_limited ≡ s.stats.complete_limited
  unfolding merge
  merge-flag BreadthFirst s = refl
  merge-flag DepthFirst s = refl

  merge-old : (o : SearchOrder) (s : State W) (w : W) → Memᴰ w s.rest → Memᴰ w (merge o s).rest
  unfolding merge
  merge-old BreadthFirst s w m = mathlib.Core.List.Memᴰ.append_left s.pending m
  merge-old DepthFirst s w m = mathlib.Core.List.Memᴰ.append_right s.pending m

  merge-new : (o : SearchOrder) (s : State W) (w : W) → Memᴰ w s.pending → Memᴰ w (merge o s).rest
  unfolding merge
  merge-new BreadthFirst s w m = mathlib.Core.List.Memᴰ.append_right s.rest m
  merge-new DepthFirst s w m = mathlib.Core.List.Memᴰ.append_left s.rest m

  merge-cases : (o : SearchOrder) (s : State W) (w : W) → Memᴰ w (merge o s).rest → Memᴰ w s.rest ⊎ Memᴰ w s.pending
  unfolding merge
  merge-cases BreadthFirst s w m = mathlib.Core.List.Memᴰ.append_cases s.rest m
  merge-cases DepthFirst s w m = ⊎_elim inr inl (mathlib.Core.List.Memᴰ.append_cases s.pending m)

module _ {R W : Type 0} where
  -- an item among the tries is among what they push, and a complete one among what they keep; and the other way round
  pushes-of : (b : Bool) (w : W) (ts : List (Try R W)) → Memᴰ (go b w) ts → Memᴰ w (pushes ts)
  pushes-of b w [] x' = elim x' [ ]
  pushes-of b w (t ∷ ts) (mathlib.Core.List.Memᴰ.head e) = subst (λ x. Memᴰ w (pushed_of x ++ pushes ts)) e (mathlib.Core.List.Memᴰ.head refl)
  pushes-of b w (t ∷ ts) (mathlib.Core.List.Memᴰ.tail m) = mathlib.Core.List.Memᴰ.append_right (pushed_of t) (pushes-of b w ts m)

  news-of : (w : W) (ts : List (Try R W)) → Memᴰ (go true w) ts → Memᴰ w (news ts)
  news-of w [] x' = elim x' [ ]
  news-of w (t ∷ ts) (mathlib.Core.List.Memᴰ.head e) = subst (λ x. Memᴰ w (new_of x ++ news ts)) e (mathlib.Core.List.Memᴰ.head refl)
  news-of w (t ∷ ts) (mathlib.Core.List.Memᴰ.tail m) = mathlib.Core.List.Memᴰ.append_right (new_of t) (news-of w ts m)

  new-one : (w : W) (t : Try R W) → Memᴰ w (new_of t) → t ≡ go true w
  new-one w cut m = absurd (mathlib.Core.List.Memᴰ.not-nil m)
  new-one w overlong m = absurd (mathlib.Core.List.Memᴰ.not-nil m)
  new-one w reject m = absurd (mathlib.Core.List.Memᴰ.not-nil m)
  new-one w (stop r) m = absurd (mathlib.Core.List.Memᴰ.not-nil m)
  new-one w (go true x) m = ⊎_elim (λ (e : w ≡ x). ap (go true) (sym e)) (λ n. absurd (mathlib.Core.List.Memᴰ.not-nil n)) (mathlib.Core.List.Memᴰ.cases_cons m)
  new-one w (go false x) m = absurd (mathlib.Core.List.Memᴰ.not-nil m)

  of-news : (w : W) (ts : List (Try R W)) → Memᴰ w (news ts) → Memᴰ (go true w) ts
  of-news w [] m = absurd (mathlib.Core.List.Memᴰ.not-nil m)
  of-news w (t ∷ ts) m = ⊎_elim (λ k. mathlib.Core.List.Memᴰ.head (sym (new-one w t k))) (λ k. mathlib.Core.List.Memᴰ.tail (of-news w ts k)) (mathlib.Core.List.Memᴰ.append_cases (new_of t) m)

  pushed-one : (w : W) (t : Try R W) → Memᴰ w (pushed_of t) → (b : Bool) × (t ≡ go b w)
  pushed-one w cut m = absurd (mathlib.Core.List.Memᴰ.not-nil m)
  pushed-one w overlong m = absurd (mathlib.Core.List.Memᴰ.not-nil m)
  pushed-one w reject m = absurd (mathlib.Core.List.Memᴰ.not-nil m)
  pushed-one w (stop r) m = absurd (mathlib.Core.List.Memᴰ.not-nil m)
  pushed-one w (go b x) m = ⊎_elim (λ (e : w ≡ x). (b, ap (go b) (sym e))) (λ n. absurd (mathlib.Core.List.Memᴰ.not-nil n)) (mathlib.Core.List.Memᴰ.cases_cons m)

  of-pushes : (w : W) (ts : List (Try R W)) → Memᴰ w (pushes ts) → (b : Bool) × Memᴰ (go b w) ts
  of-pushes w [] m = absurd (mathlib.Core.List.Memᴰ.not-nil m)
  of-pushes w (t ∷ ts) m = ⊎_elim (λ k. let h = pushed-one w t k in (h.0, mathlib.Core.List.Memᴰ.head (sym h.1))) (λ k. let h = of-pushes w ts k in (h.0, mathlib.Core.List.Memᴰ.tail h.1)) (mathlib.Core.List.Memᴰ.append_cases (pushed_of t) m)

  -- from w the tries lead to the complete item v
  pub data Leads (tries : W → List (Try R W)) : W → W → Type 0 where
    here : {w v : W} → Memᴰ (go true v) (tries w) → Leads tries w v
    on : {w u v : W} (b : Bool) → Memᴰ (go b u) (tries w) → Leads tries u v → Leads tries w v

  pub record Full (tries : W → List (Try R W)) (s u : State W) : Type 0 where
    pub flag : s.stats.complete_limited ≡ false
    pub kept : (v : W) → Memᴰ v s.kept → Memᴰ v u.kept
    pub reached : (w v : W) → Memᴰ w s.rest → Leads tries w v → Memᴰ v u.kept

  module _ (c : Setting R) (tries : W → List (Try R W)) (u : State W) (no_count : u.stats.count_limited ≡ false) (no_complete : u.stats.complete_limited ≡ false) where
    over-full : (s x : State W) → Over s x → x ≡ u → Full tries s u
    over-full s x (empty e f) g = subst (λ y. Full tries s y) (f ∙ g) (record { flag = ap (λ (y : State W). y.stats.complete_limited) (f ∙ g) ∙ no_complete; kept = λ v m. m; reached = λ w v m l. absurd (mathlib.Core.List.Memᴰ.not-nil (rw e at m)) })
    over-full s x (limited e f) g = absurd (true≢false (sym e ∙ ap (λ (y : State W). y.stats.count_limited) g ∙ no_count))

    final-full : (s : State W) (t : Turn W) → TurnIs s t → final c t ≡ ok u → Full tries s u
    unfolding final
    final-full s (over x) h e = over-full s x h (ok-inj x u e)
    final-full s (expand w x) h e = absurd (refuse-ok c.too_many u e)

    expand-full : (s x y : State W) (w : W) → Popped s x w → After x y (news (tries w)) (pushes (tries w)) → Full tries (merge c.order y) u → Full tries s u
    expand-full s x y w h a f = record {
      flag = sym h.flag ∙ whole.0;
      kept = λ v m. f.kept v (rw (merge-kept c.order y, whole.1) (mathlib.Core.List.Memᴰ.append_left {s = x.kept} (news (tries w)) (rw h.kept m)));
      reached = λ w' v m l. ⊎_elim (λ (e : w' ≡ w). from_first v (rw e at l)) (λ k. f.reached w' v (merge-old c.order y w' (rw a.rest k)) l) (mathlib.Core.List.Memᴰ.cases_cons (rw h.waited at m));
    }
      where
        whole : (x.stats.complete_limited ≡ false) × (y.kept ≡ x.kept ++ news (tries w))
        whole = a.full (sym (merge-flag c.order y) ∙ f.flag)

        is-new : (v : W) → Memᴰ v (news (tries w)) → Memᴰ v u.kept
        is-new v m = f.kept v (rw (merge-kept c.order y, whole.1) (mathlib.Core.List.Memᴰ.append_right x.kept m))

        from_first : (v : W) → Leads tries w v → Memᴰ v u.kept
        from_first v (here m) = is-new v (news-of v (tries w) m)
        from_first v (on {u = z} b m l) = f.reached z v (merge-new c.order y z (rw a.pending (mathlib.Core.List.Memᴰ.append_right x.pending (pushes-of b z (tries w) m)))) l

    follow-full : (k : State W → Answer R (State W)) (ih : (x : State W) → k x ≡ ok u → Full tries x u) (s : State W) (t : Turn W) → TurnIs s t → follow c tries k t ≡ ok u → Full tries s u
    unfolding follow
    follow-full k ih s (over x) h e = over-full s x h (ok-inj x u e)
    follow-full k ih s (expand w x) h e =
        let a = and_then-ok (each c x (tries w)) (λ y. k (merge c.order y)) u e in
        expand-full s x a.0 w h (each_after c x a.0 (tries w) a.1) (ih (merge c.order a.0) a.2)

    pub run-full : (n : ℕ) (s : State W) → run c tries n s ≡ ok u → Full tries s u
    unfolding run
    run-full zero s e = final-full s (turn c s) (turn_is c s) e
    run-full (suc n) s e = follow-full (run c tries n) (run-full n) s (turn c s) (turn_is c s) e

  -- v was kept at the start, or is led to from a waiting item
  abbrev pub Sound : (W → List (Try R W)) → State W → W → Type 0
  Sound tries s v = Memᴰ v s.kept ⊎ ((w : W) × Memᴰ w s.rest × Leads tries w v)

  module _ (c : Setting R) (tries : W → List (Try R W)) (u : State W) (v : W) (m : Memᴰ v u.kept) where
    over-sound : (s x : State W) → Over s x → x ≡ u → Sound tries s v
    over-sound s x (empty e f) g = inl (rw (f ∙ g) m)
    over-sound s x (limited e f) g = inl (rw (sym f ∙ ap (λ (y : State W). y.kept) g) m)

    final-sound : (s : State W) (t : Turn W) → TurnIs s t → final c t ≡ ok u → Sound tries s v
    unfolding final
    final-sound s (over x) h e = over-sound s x h (ok-inj x u e)
    final-sound s (expand w x) h e = absurd (refuse-ok c.too_many u e)

    expand-sound : (s x y : State W) (w : W) → Popped s x w → After x y (news (tries w)) (pushes (tries w)) → Sound tries (merge c.order y) v → Sound tries s v
    expand-sound s x y w h a (inl k) = ⊎_elim (λ n. inl (rw h.kept at n)) (λ n. inr (w, rw h.waited (mathlib.Core.List.Memᴰ.head refl), here (of-news v (tries w) n))) (a.sound v (rw (merge-kept c.order y) at k))
    expand-sound s x y w h a (inr r) = inr (⊎_elim older newer (merge-cases c.order y r.0 r.1))
      where
        older : Memᴰ r.0 y.rest → (z : W) × Memᴰ z s.rest × Leads tries z v
        older n = (r.0, rw h.waited (mathlib.Core.List.Memᴰ.tail (rw a.rest at n)), r.2)

        newer : Memᴰ r.0 y.pending → (z : W) × Memᴰ z s.rest × Leads tries z v
        newer n =
            let p : Memᴰ r.0 (pushes (tries w)) = rw (a.pending, h.pending) at n in
            let k = of-pushes r.0 (tries w) p in
            (w, rw h.waited (mathlib.Core.List.Memᴰ.head refl), on k.0 k.1 r.2)

    follow-sound : (k : State W → Answer R (State W)) (ih : (x : State W) → k x ≡ ok u → Sound tries x v) (s : State W) (t : Turn W) → TurnIs s t → follow c tries k t ≡ ok u → Sound tries s v
    unfolding follow
    follow-sound k ih s (over x) h e = over-sound s x h (ok-inj x u e)
    follow-sound k ih s (expand w x) h e =
        let a = and_then-ok (each c x (tries w)) (λ y. k (merge c.order y)) u e in
        expand-sound s x a.0 w h (each_after c x a.0 (tries w) a.1) (ih (merge c.order a.0) a.2)

    pub run_sound : (n : ℕ) (s : State W) → run c tries n s ≡ ok u → Sound tries s v
    unfolding run
    run_sound zero s e = final-sound s (turn c s) (turn_is c s) e
    run_sound (suc n) s e = follow-sound (run c tries n) (run_sound n) s (turn c s) (turn_is c s) e

  seed-after : (c : Setting R) (s u : State W) (ws : List W) → seed c s ws ≡ ok u → After s u [] ws
  unfolding seed push_item
  seed-after c s u [] e = after-at s s u [] [] (ok-inj s u e) (after_none s)
  seed-after c s u (w ∷ ws) e =
      let k = and_then-ok (push_item c w s) (λ x. seed c x ws) u e in
      after_then s k.0 u [] [] (w ∷ []) ws (push-after c s k.0 w k.1) (seed-after c k.0 u ws k.2)

  -- the two halves of what a search keeps
  pub enumerate-full : (c : Setting R) (tries : W → List (Try R W)) (fuel : ℕ) (ws : List W) (u : State W) → enumerate c tries fuel ws ≡ ok u → u.stats.count_limited ≡ false → u.stats.complete_limited ≡ false
      → (w v : W) → Memᴰ w ws → Leads tries w v → Memᴰ v u.kept
  unfolding enumerate
  enumerate-full c tries fuel ws u e n f w v m l =
      let k = and_then-ok (seed c blank ws) (λ s. run c tries fuel (merge c.order s)) u e in
      let a = seed-after c blank k.0 ws k.1 in
      (run-full c tries u n f fuel (merge c.order k.0) k.2).reached w v (merge-new c.order k.0 w (rw a.pending m)) l

  pub enumerate-sound : (c : Setting R) (tries : W → List (Try R W)) (fuel : ℕ) (ws : List W) (u : State W) → enumerate c tries fuel ws ≡ ok u
      → (v : W) → Memᴰ v u.kept → (w : W) × Memᴰ w ws × Leads tries w v
  unfolding enumerate
  enumerate-sound c tries fuel ws u e v m = ⊎_elim was-kept led (run_sound c tries u v m fuel (merge c.order k.0) k.2)
    where
      k : (s : State W) × (seed c blank ws ≡ ok s) × (run c tries fuel (merge c.order s) ≡ ok u)
      k = and_then-ok (seed c blank ws) (λ s. run c tries fuel (merge c.order s)) u e

      a : After blank k.0 [] ws
      a = seed-after c blank k.0 ws k.1

      was-kept : Memᴰ v (merge c.order k.0).kept → (w : W) × Memᴰ w ws × Leads tries w v
      was-kept n = absurd (⊎_elim mathlib.Core.List.Memᴰ.not-nil mathlib.Core.List.Memᴰ.not-nil (a.sound v (rw (merge-kept c.order k.0) at n)))

      led : ((w : W) × Memᴰ w (merge c.order k.0).rest × Leads tries w v) → (w : W) × Memᴰ w ws × Leads tries w v
      led r = ⊎_elim (λ n. absurd (mathlib.Core.List.Memᴰ.not-nil (rw a.rest at n))) (λ n. (r.0, rw a.pending at n, r.2)) (merge-cases c.order k.0 r.0 r.1)

  -- a search without limits sets no flag
  pub record Quiet (c : Setting R) (s u : State W) : Type 0 where
    pub count : u.stats.count_limited ≡ s.stats.count_limited
    pub complete : c.max_complete ≡ None → u.stats.complete_limited ≡ s.stats.complete_limited

  quiet_then : (c : Setting R) (s u x : State W) → Quiet c s u → Quiet c u x → Quiet c s x
  quiet_then c s u x a b = record { count = b.count ∙ a.count; complete = λ e. b.complete e ∙ a.complete e }

  quiet_same : (c : Setting R) (s x u : State W) → x.stats.count_limited ≡ s.stats.count_limited → x.stats.complete_limited ≡ s.stats.complete_limited → ◌≡◌ {A = Answer R (State W)} (ok x) (ok u) → Quiet c s u
  quiet_same c s x u a b e = subst (Quiet c s) (ok-inj x u e) (record { count = a; complete = λ f. b })

  push-quiet : (c : Setting R) (s u : State W) (w : W) → push_item c w s ≡ ok u → Quiet c s u
  unfolding push_item
  push-quiet c s u w e = quiet_same c s _ u refl refl (ap ok (place_ok c.waiting _ _ u e))

  keep_if-quiet : (b : Bool) (n : ℕ) (c : Setting R) (s u : State W) (w : W) → below n c.max_complete ≡ b → keep_if b c s w ≡ ok u → Quiet c s u
  unfolding keep_if
  keep_if-quiet true n c s u w f e = quiet_same c s _ u refl refl (ap ok (place_ok c.results _ _ u e))
  keep_if-quiet false n c s u w f e = subst (Quiet c s) (ok-inj _ u e) (record { count = refl; complete = λ k. absurd (true≢false (sym (ap (below n) k) ∙ f)) })

  keep-quiet : (b : Bool) (c : Setting R) (s u : State W) (w : W) → keep b c s w ≡ ok u → Quiet c s u
  unfolding keep
  keep-quiet true c s u w e = let q = keep_if-quiet (below (length s.kept) c.max_complete) (length s.kept) c (with_stats s (add_complete s.stats)) u w refl e in record { count = q.count; complete = q.complete }
  keep-quiet false c s u w e = quiet_same c s s u refl refl e

  judged-quiet : (c : Setting R) (s u : State W) (t : Try R W) → judged c s t ≡ ok u → Quiet c s u
  unfolding judged
  judged-quiet c s u cut e = quiet_same c s _ u refl refl e
  judged-quiet c s u overlong e = quiet_same c s _ u refl refl e
  judged-quiet c s u reject e = quiet_same c s _ u refl refl e
  judged-quiet c s u (stop r) e = absurd (refuse-ok r u e)
  judged-quiet c s u (go b w) e =
      let k = and_then-ok (keep b c s w) (push_item c w) u e in
      quiet_then c s k.0 u (keep-quiet b c s k.0 w k.1) (push-quiet c k.0 u w k.2)

  one-quiet : (c : Setting R) (s u : State W) (t : Try R W) → one c s t ≡ ok u → Quiet c s u
  unfolding one
  one-quiet c s u t e = let q = judged-quiet c (with_tally s (add_looked s.tally)) u t e in record { count = q.count; complete = q.complete }

  pub each-quiet : (c : Setting R) (s u : State W) (ts : List (Try R W)) → each c s ts ≡ ok u → Quiet c s u
  unfolding each
  each-quiet c s u [] e = quiet_same c s s u refl refl e
  each-quiet c s u (t ∷ ts) e =
      let k = and_then-ok (one c s t) (λ x. each c x ts) u e in
      quiet_then c s k.0 u (one-quiet c s k.0 t k.1) (each-quiet c k.0 u ts k.2)

  merge-quiet : (c : Setting R) (o : SearchOrder) (s : State W) → Quiet c s (merge o s)
  unfolding merge
  merge-quiet c BreadthFirst s = record { count = refl; complete = λ e. refl }
  merge-quiet c DepthFirst s = record { count = refl; complete = λ e. refl }

  abbrev TurnQuiet : Setting R → State W → Turn W → Type 0
  TurnQuiet c s (over u) = Quiet c s u
  TurnQuiet c s (expand w u) = Quiet c s u

  turn-quiet : (c : Setting R) (s : State W) → c.max_count ≡ None → TurnQuiet c s (turn c s)
  unfolding turn popped
  turn-quiet c s z = go_on s.rest
    where
      admitted : (b : Bool) (w : W) (ws : List W) → below s.stats.expanded c.max_count ≡ b → TurnQuiet c s (admit b s w ws)
      admitted true w ws f = record { count = refl; complete = λ e. refl }
      admitted false w ws f = absurd (true≢false (sym (ap (below s.stats.expanded) z) ∙ f))

      go_on : (l : List W) → TurnQuiet c s (popped c s l)
      go_on [] = record { count = refl; complete = λ e. refl }
      go_on (w ∷ ws) = admitted (below s.stats.expanded c.max_count) w ws refl

  module _ (c : Setting R) (tries : W → List (Try R W)) (u : State W) (z : c.max_count ≡ None) where
    final-quiet : (s : State W) (t : Turn W) → TurnQuiet c s t → final c t ≡ ok u → Quiet c s u
    unfolding final
    final-quiet s (over x) q e = subst (Quiet c s) (ok-inj x u e) q
    final-quiet s (expand w x) q e = absurd (refuse-ok c.too_many u e)

    follow-quiet : (k : State W → Answer R (State W)) (ih : (x : State W) → k x ≡ ok u → Quiet c x u) (s : State W) (t : Turn W) → TurnQuiet c s t → follow c tries k t ≡ ok u → Quiet c s u
    unfolding follow
    follow-quiet k ih s (over x) q e = subst (Quiet c s) (ok-inj x u e) q
    follow-quiet k ih s (expand w x) q e =
        let a = and_then-ok (each c x (tries w)) (λ y. k (merge c.order y)) u e in
        quiet_then c s x u q (quiet_then c x a.0 u (each-quiet c x a.0 (tries w) a.1) (quiet_then c a.0 (merge c.order a.0) u (merge-quiet c c.order a.0) (ih (merge c.order a.0) a.2)))

    run-quiet : (n : ℕ) (s : State W) → run c tries n s ≡ ok u → Quiet c s u
    unfolding run
    run-quiet zero s e = final-quiet s (turn c s) (turn-quiet c s z) e
    run-quiet (suc n) s e = follow-quiet (run c tries n) (run-quiet n) s (turn c s) (turn-quiet c s z) e

  seed-quiet : (c : Setting R) (s u : State W) (ws : List W) → seed c s ws ≡ ok u → Quiet c s u
  unfolding seed push_item
  seed-quiet c s u [] e = quiet_same c s s u refl refl e
  seed-quiet c s u (w ∷ ws) e =
      let k = and_then-ok (push_item c w s) (λ x. seed c x ws) u e in
      quiet_then c s k.0 u (push-quiet c s k.0 w k.1) (seed-quiet c k.0 u ws k.2)

  pub enumerate-unlimited : (c : Setting R) (tries : W → List (Try R W)) (fuel : ℕ) (ws : List W) (u : State W) → enumerate c tries fuel ws ≡ ok u → c.max_count ≡ None → c.max_complete ≡ None → (u.stats.count_limited ≡ false) × (u.stats.complete_limited ≡ false)
  unfolding enumerate
  enumerate-unlimited c tries fuel ws u e z y =
      let k = and_then-ok (seed c blank ws) (λ s. run c tries fuel (merge c.order s)) u e in
      let q = quiet_then c blank k.0 u (seed-quiet c blank k.0 ws k.1) (quiet_then c k.0 (merge c.order k.0) u (merge-quiet c c.order k.0) (run-quiet c tries u z fuel (merge c.order k.0) k.2)) in
      (q.count, q.complete y)

  -- in a search that is not refused, and that set no path-count flag, no item reached has a try that stops
  pub data Reach (tries : W → List (Try R W)) : W → W → Type 0 where
    itself : {w v : W} → w ≡ v → Reach tries w v
    by : {w x v : W} (b : Bool) → Memᴰ (go b x) (tries w) → Reach tries x v → Reach tries w v

  pub reach-then : (tries : W → List (Try R W)) (w x v : W) (b : Bool) → Reach tries w x → Memᴰ (go b v) (tries x) → Reach tries w v
  reach-then tries w x v b (itself e) m = by {w = w} {x = v} b (rw e m) (itself refl)
  reach-then tries w x v b (by {x = y} d k r) m = by d k (reach-then tries y x v b r m)

  pub each-stopless : (c : Setting R) (s u : State W) (ts : List (Try R W)) → each c s ts ≡ ok u → (r : R) → Memᴰ (stop r) ts → ⊥
  unfolding each one judged
  each-stopless c s u [] e r x'' = elim x'' [ ]
  each-stopless c s u (t ∷ ts) e r (mathlib.Core.List.Memᴰ.head f) =
      let k = and_then-ok (one c s t) (λ x. each c x ts) u e in
      refuse-ok r k.0 (ap (one c s) f ∙ k.1)
  each-stopless c s u (t ∷ ts) e r (mathlib.Core.List.Memᴰ.tail m) =
      let k = and_then-ok (one c s t) (λ x. each c x ts) u e in
      each-stopless c k.0 u ts k.2 r m

  abbrev Stopless : (W → List (Try R W)) → State W → Type 0
  Stopless tries s = (w v : W) (r : R) → Memᴰ w s.rest → Reach tries w v → Memᴰ (stop r) (tries v) → ⊥

  module _ (c : Setting R) (tries : W → List (Try R W)) (u : State W) (no_count : u.stats.count_limited ≡ false) where
    over-stopless : (s x : State W) → Over s x → x ≡ u → Stopless tries s
    over-stopless s x (empty e f) g w v r m l k = mathlib.Core.List.Memᴰ.not-nil (rw e at m)
    over-stopless s x (limited e f) g w v r m l k = true≢false (sym e ∙ ap (λ (y : State W). y.stats.count_limited) g ∙ no_count)

    expand-stopless : (s x y : State W) (w : W) → Popped s x w → each c x (tries w) ≡ ok y → Stopless tries (merge c.order y) → Stopless tries s
    expand-stopless s x y w h e f w' v r m l k = ⊎_elim (λ (z : w' ≡ w). from_first (rw z at l)) (λ n. f w' v r (merge-old c.order y w' (rw a.rest n)) l k) (mathlib.Core.List.Memᴰ.cases_cons (rw h.waited at m))
      where
        a : After x y (news (tries w)) (pushes (tries w))
        a = each_after c x y (tries w) e

        from_first : Reach tries w v → ⊥
        from_first (itself z) = each-stopless c x y (tries w) e r (rw z k)
        from_first (by {x = z} b n q) = f z v r (merge-new c.order y z (rw a.pending (mathlib.Core.List.Memᴰ.append_right x.pending (pushes-of b z (tries w) n)))) q k

    final-stopless : (s : State W) (t : Turn W) → TurnIs s t → final c t ≡ ok u → Stopless tries s
    unfolding final
    final-stopless s (over x) h e = over-stopless s x h (ok-inj x u e)
    final-stopless s (expand w x) h e = absurd (refuse-ok c.too_many u e)

    follow-stopless : (k : State W → Answer R (State W)) (ih : (x : State W) → k x ≡ ok u → Stopless tries x) (s : State W) (t : Turn W) → TurnIs s t → follow c tries k t ≡ ok u → Stopless tries s
    unfolding follow
    follow-stopless k ih s (over x) h e = over-stopless s x h (ok-inj x u e)
    follow-stopless k ih s (expand w x) h e =
        let a = and_then-ok (each c x (tries w)) (λ y. k (merge c.order y)) u e in
        expand-stopless s x a.0 w h a.1 (ih (merge c.order a.0) a.2)

    run-stopless : (n : ℕ) (s : State W) → run c tries n s ≡ ok u → Stopless tries s
    unfolding run
    run-stopless zero s e = final-stopless s (turn c s) (turn_is c s) e
    run-stopless (suc n) s e = follow-stopless (run c tries n) (run-stopless n) s (turn c s) (turn_is c s) e

  pub enumerate-stopless : (c : Setting R) (tries : W → List (Try R W)) (fuel : ℕ) (ws : List W) (u : State W) → enumerate c tries fuel ws ≡ ok u → u.stats.count_limited ≡ false
      → (w v : W) (r : R) → Memᴰ w ws → Reach tries w v → Memᴰ (stop r) (tries v) → ⊥
  unfolding enumerate
  enumerate-stopless c tries fuel ws u e n w v r m l k =
      let a = and_then-ok (seed c blank ws) (λ s. run c tries fuel (merge c.order s)) u e in
      let b = seed-after c blank a.0 ws a.1 in
      run-stopless c tries u n fuel (merge c.order a.0) a.2 w v r (merge-new c.order a.0 w (rw b.pending m)) l k
