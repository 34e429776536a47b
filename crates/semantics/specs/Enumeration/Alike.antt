-- What is done with a complete item changes nothing else: two enumerations that differ in their result area and in their limit on complete items alone
-- count, push and expand alike, and meet the same refusals but for that of a full result area.
-- Serves document 02, order 9: "Refusals are those of that search in depth-first order, except 32".
use Prim.Native.Nat.{ℕ, zero, suc, ◌<◌}
use Rattle.std.proofs.Common.{arith, sym, ◌∙◌, ap, ltb→lt}
use Rattle.std.specs.Prelude.{◌≡◌, ◌⊎◌, Bool, T, ltb, Some}
use Rattle.std.proofs.Math.Path.{refl, subst}
use Rattle.std.proofs.Math.Logic.{inl, inr}
use Rattle.std.proofs.Math.Bool.{true, false}
use mathlib.Core.List.{List, [], ◌∷◌}
use Rattle.std.proofs.Math.ListN.{length}
use Rattle.semantics.specs.declared.search.SearchOrder.{SearchOrder}
use Rattle.semantics.specs.declared.search.SearchOrder.TheVariants.{BreadthFirst, DepthFirst}
use Rattle.semantics.specs.Limits.{below}
use Rattle.semantics.specs.Answer.{Answer, ok, refuse, and_then, ok_if}
use Rattle.semantics.specs.Answer.Laws.{ok-inj, refuse-inj, refuse-ok, ok-refuse}
use Rattle.semantics.specs.Enumeration.{Try, cut, overlong, reject, stop, go, Area, unlimited, slots, Setting, State, Turn, over, expand, place, blank, with_stats, with_tally, with_pending, with_kept, flag_complete, add_complete, add_looked, waiting, push_item, keep_if, keep, judged, one, each, merge, turn, popped, admit, final, follow, run, seed, enumerate}

-- a state without what is kept, and with the flag that something was not
abbrev pub bare : {W : Type 0} → State W → State W
bare s = record { rest = s.rest; pending = s.pending; kept = []; stats = flag_complete s.stats; tally = s.tally }

-- the setting that keeps nothing
abbrev pub counting : {R : Type 0} → Setting R → Setting R
counting c = record { order = c.order; max_count = c.max_count; max_complete = Some 0; waiting = c.waiting; results = unlimited; too_many = c.too_many }

-- this is what a full result area is refused with, and the limit lets an item through to it
pub record Full {R : Type 0} (c : Setting R) (x : R) : Type 0 where
  pub size : ℕ
  pub area : c.results ≡ slots size x
  pub count : ℕ
  pub allowed : below count c.max_complete ≡ true

module _ {W : Type 0} where
  -- the same at the top of a round
  abbrev pub bare_turn : Turn W → Turn W
  bare_turn (over u) = over (bare u)
  bare_turn (expand w u) = expand w (bare u)

  pub merge-bare : (o : SearchOrder) (s : State W) → merge o (bare s) ≡ bare (merge o s)
  unfolding merge
  merge-bare BreadthFirst s = refl
  merge-bare DepthFirst s = refl

module _ {R W : Type 0} (c : Setting R) where
  -- what the setting answers, beside what the one that keeps nothing answers
  abbrev pub Beside : Answer R (State W) → Answer R (State W) → Type 0
  Beside (ok u) b = b ≡ ok (bare u)
  Beside (refuse x) b = (b ≡ refuse x) ⊎ Full c x

  then-beside : (a b : Answer R (State W)) (k l : State W → Answer R (State W)) → Beside a b → ((u : State W) → Beside (k u) (l (bare u))) → Beside (and_then a k) (and_then b l)
  then-beside (ok u) b k l e h = subst (λ (y : Answer R (State W)). Beside (k u) (and_then y l)) (sym e) (h u)
  then-beside (refuse x) b k l (inl e) h = inl (ap (λ (y : Answer R (State W)). and_then y l) e)
  then-beside (refuse x) b k l (inr f) h = inr f

  push-beside : (w : W) (s : State W) → Beside (push_item c w s) (push_item (counting c) w (bare s))
  unfolding push_item place ok_if
  push-beside w s = on c.waiting
    where
      by : (b : Bool) (r : R) → Beside (ok_if b r (with_pending w s)) (ok_if b r (with_pending w (bare s)))
      by true r = refl
      by false r = inl refl

      on : (a : Area R) → Beside (place a (waiting s) (with_pending w s)) (place a (waiting s) (with_pending w (bare s)))
      on unlimited = refl
      on (slots size r) = by (ltb (waiting s) size) r

  keep-beside : (complete : Bool) (s : State W) (w : W) → Beside (keep complete c s w) (keep complete (counting c) (bare s) w)
  unfolding keep keep_if place ok_if
  keep-beside false s w = refl
  keep-beside true s w = limited (below (length s.kept) c.max_complete) refl
    where
      kept : (a : Area R) → c.results ≡ a → below (length s.kept) c.max_complete ≡ true → Beside (place a (length s.kept) (with_kept w (with_stats s (add_complete s.stats)))) (ok (bare (with_stats s (add_complete s.stats))))
      kept unlimited is h = refl
      kept (slots size r) is h = by (ltb (length s.kept) size)
        where
          by : (b : Bool) → Beside (ok_if b r (with_kept w (with_stats s (add_complete s.stats)))) (ok (bare (with_stats s (add_complete s.stats))))
          by true = refl
          by false = inr (record { size = size; area = is; count = length s.kept; allowed = h })

      limited : (b : Bool) → below (length s.kept) c.max_complete ≡ b → Beside (keep_if b c (with_stats s (add_complete s.stats)) w) (ok (bare (with_stats s (add_complete s.stats))))
      limited true h = kept c.results refl h
      limited false h = refl

  judged-beside : (s : State W) (t : Try R W) → Beside (judged c s t) (judged (counting c) (bare s) t)
  unfolding judged
  judged-beside s cut = refl
  judged-beside s overlong = refl
  judged-beside s reject = refl
  judged-beside s (stop r) = inl refl
  judged-beside s (go complete w) = then-beside (keep complete c s w) (keep complete (counting c) (bare s) w) (push_item c w) (push_item (counting c) w) (keep-beside complete s w) (push-beside w)

  pub each-beside : (s : State W) (ts : List (Try R W)) → Beside (each c s ts) (each (counting c) (bare s) ts)
  unfolding each one
  each-beside s [] = refl
  each-beside s (t ∷ ts) =
      then-beside (one c s t) (one (counting c) (bare s) t) (λ u. each c u ts) (λ u. each (counting c) u ts) (judged-beside (with_tally s (add_looked s.tally)) t) (λ u. each-beside u ts)

  pub turn-beside : (s : State W) → turn (counting c) (bare s) ≡ bare_turn (turn c s)
  unfolding turn popped admit
  turn-beside s = on s.rest
    where
      by : (b : Bool) (w : W) (ws : List W) → admit b (bare s) w ws ≡ bare_turn (admit b s w ws)
      by true w ws = refl
      by false w ws = refl

      on : (l : List W) → popped (counting c) (bare s) l ≡ bare_turn (popped c s l)
      on [] = refl
      on (w ∷ ws) = by (below s.stats.expanded c.max_count) w ws

  module _ (tries : W → List (Try R W)) where
    follow-beside : (k l : State W → Answer R (State W)) → ((s : State W) → Beside (k s) (l (bare s))) → (t : Turn W) → Beside (follow c tries k t) (follow (counting c) tries l (bare_turn t))
    unfolding follow
    follow-beside k l ih (over u) = refl
    follow-beside k l ih (expand w u) =
        then-beside (each c u (tries w)) (each (counting c) (bare u) (tries w)) (λ y. k (merge c.order y)) (λ y. l (merge c.order y)) (each-beside u (tries w))
        (λ y. subst (λ (z : State W). Beside (k (merge c.order y)) (l z)) (sym (merge-bare c.order y)) (ih (merge c.order y)))

    final-beside : (t : Turn W) → Beside (final c t) (final (counting c) (bare_turn t))
    unfolding final
    final-beside (over u) = refl
    final-beside (expand w u) = inl refl

    pub run-beside : (n : ℕ) (s : State W) → Beside (run c tries n s) (run (counting c) tries n (bare s))
    unfolding run
    run-beside zero s = subst (λ (t : Turn W). Beside (final c (turn c s)) (final (counting c) t)) (sym (turn-beside s)) (final-beside (turn c s))
    run-beside (suc n) s =
        subst (λ (t : Turn W). Beside (follow c tries (run c tries n) (turn c s)) (follow (counting c) tries (run (counting c) tries n) t)) (sym (turn-beside s))
        (follow-beside (run c tries n) (run (counting c) tries n) (run-beside n) (turn c s))

    seed-beside : (s : State W) (ws : List W) → Beside (seed c s ws) (seed (counting c) (bare s) ws)
    unfolding seed
    seed-beside s [] = refl
    seed-beside s (w ∷ ws) = then-beside (push_item c w s) (push_item (counting c) w (bare s)) (λ u. seed c u ws) (λ u. seed (counting c) u ws) (push-beside w s) (λ u. seed-beside u ws)

    -- the enumeration that keeps nothing, its flag raised from the start
    abbrev pub counted : ℕ → List W → Answer R (State W)
    counted fuel ws = and_then (seed (counting c) (bare blank) ws) (λ s. run (counting c) tries fuel (merge c.order s))

    pub enumerate-beside : (fuel : ℕ) (ws : List W) → Beside (enumerate c tries fuel ws) (counted fuel ws)
    unfolding enumerate
    enumerate-beside fuel ws =
        then-beside (seed c blank ws) (seed (counting c) (bare blank) ws) (λ s. run c tries fuel (merge c.order s)) (λ s. run (counting c) tries fuel (merge c.order s)) (seed-beside blank ws)
        (λ s. subst (λ (z : State W). Beside (run c tries fuel (merge c.order s)) (run (counting c) tries fuel z)) (sym (merge-bare c.order s)) (run-beside fuel (merge c.order s)))

-- TWO ANSWERS BESIDE THE SAME ONE, where the other result area is never full
module _ {R W : Type 0} (c d : Setting R) (never : (y : R) → Full d y → ⊥) where
  pub ok-beside : (u : State W) (b e : Answer R (State W)) → Beside c (ok u) e → Beside d b e → (v : State W) × (b ≡ ok v) × (bare v ≡ bare u)
  ok-beside u (ok v) e h k = (v, refl, ok-inj (bare v) (bare u) (sym k ∙ h))
  ok-beside u (refuse y) e h (inl k) = absurd (refuse-ok y (bare u) (sym k ∙ h))
  ok-beside u (refuse y) e h (inr f) = absurd (never y f)

  pub refuse-beside : (x : R) (b e : Answer R (State W)) → Beside c (refuse x) e → Beside d b e → (b ≡ refuse x) ⊎ Full c x
  refuse-beside x (ok v) e (inl h) k = absurd (ok-refuse x (bare v) (sym k ∙ h))
  refuse-beside x (refuse y) e (inl h) (inl k) = inl (ap (λ (z : R). refuse z) (refuse-inj {A = State W} y x (sym k ∙ h)))
  refuse-beside x (refuse y) e (inl h) (inr f) = absurd (never y f)
  refuse-beside x b e (inr f) k = inr f

abbrev IsUnlimited : {R : Type 0} → Area R → Type 0
IsUnlimited unlimited = Unit {0}
IsUnlimited (slots size r) = ⊥

-- a result area without end is never full
pub unlimited-never : {R : Type 0} (c : Setting R) → c.results ≡ unlimited → (y : R) → Full c y → ⊥
unlimited-never c e y f = subst IsUnlimited (sym e ∙ f.area) tt

-- nor one that nothing is let through to
pub none_never : {R : Type 0} (c : Setting R) → c.max_complete ≡ Some 0 → (y : R) → Full c y → ⊥
none_never c e y f = not-below f.count (subst (λ l. below f.count l ≡ true) e f.allowed)
  where
    not-below : (n : ℕ) → ltb n 0 ≡ true → ⊥
    not-below n h = let k : n < 0 = ltb→lt n 0 (subst T (sym h) tt) in omega (arith, k)
