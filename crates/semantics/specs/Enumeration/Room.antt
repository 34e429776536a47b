-- A slot is refused exactly when all are taken; no more items are kept than there are result slots.
-- Document 01, 31 and 32 of "Turned back"; serves the words of a result area.
use Prim.Native.Nat.{ℕ, zero, suc, ◌+◌, ◌≤◌, ◌<◌}
use Rattle.std.proofs.Common.{arith, sym, ltb→lt}
use Rattle.std.specs.Prelude.{◌≡◌, Bool, T}
use Rattle.std.proofs.Math.Path.{refl, subst}
use Rattle.std.proofs.Math.Bool.{true, false}
use mathlib.Core.List.{List, [], ◌∷◌, ◌++◌}
use Rattle.std.proofs.Math.Dec.{ltb}
use Rattle.std.proofs.Math.ListN.{length, length-append}
use borrow.Author.Tests.{le-ltb, ltb-false}
use Rattle.semantics.specs.declared.search.SearchOrder.{SearchOrder}
use Rattle.semantics.specs.declared.search.SearchOrder.TheVariants.{BreadthFirst, DepthFirst}
use Rattle.semantics.specs.Limits.{below}
use Rattle.semantics.specs.Answer.{Answer, ok, refuse, ok_if}
use Rattle.semantics.specs.Answer.Laws.{ok-inj, refuse-ok, ok-refuse, and_then-ok}
use Rattle.semantics.specs.Enumeration.{Try, cut, overlong, reject, stop, go, slots, Setting, State, Turn, over, expand, one, each, merge, turn, run, enumerate, blank, with_stats, with_tally, with_pending, with_kept, judged, add_looked, place, push_item, keep_if, keep, add_complete, admit, popped, final, follow, seed}
use Rattle.semantics.specs.Enumeration.Laws.{place_ok}

-- with n of the slots taken, one more is refused exactly when there are no more than n
module _ {ℓ} {R : Type 0} {A : Type ℓ} (size n : ℕ) (r : R) (x : A) where
  pub place-full : size ≤ n → place (slots size r) n x ≡ refuse r
  unfolding place ok_if
  place-full h = rw (le-ltb n size h)

  pub place-refused : (q : R) → place (slots size r) n x ≡ refuse q → size ≤ n
  unfolding place ok_if
  place-refused q e = on (ltb n size) refl e
    where
      on : (b : Bool) → ltb n size ≡ b → ok_if b r x ≡ refuse q → size ≤ n
      on true h k = absurd (ok-refuse q x k)
      on false h k = ltb-false n size h

-- 31 is given at a push when the waiting slots are all taken, and at no other push
module _ {R W : Type 0} (size : ℕ) (r : R) (c : Setting R) (area : c.waiting ≡ slots size r) (w : W) (s : State W) where
  pub push-full : size ≤ length s.rest + length s.pending → push_item c w s ≡ refuse r
  unfolding push_item
  push-full h = rw area (place-full size (length s.rest + length s.pending) r (with_pending w s) h)

  pub push-refused : (q : R) → push_item c w s ≡ refuse q → size ≤ length s.rest + length s.pending
  unfolding push_item
  push-refused q e = place-refused size (length s.rest + length s.pending) r (with_pending w s) q (rw area at e)

place-below {ℓ} : {R : Type 0} {A : Type ℓ} (size n : ℕ) (r : R) (x u : A) → place (slots size r) n x ≡ ok u → n < size
unfolding place ok_if
place-below size n r x u e = on (ltb n size) refl e
  where
    on : (b : Bool) → ltb n size ≡ b → ok_if b r x ≡ ok u → n < size
    on true h k = ltb→lt n size (subst T (sym h) tt)
    on false h k = absurd (refuse-ok r u k)

module _ {R W : Type 0} (size : ℕ) (r : R) (c : Setting R) (is : c.results ≡ slots size r) where
  push-room : (s u : State W) (w : W) → push_item c w s ≡ ok u → length s.kept ≤ size → length u.kept ≤ size
  unfolding push_item
  push-room s u w e h = subst (λ (x : State W). length x.kept ≤ size) (place_ok c.waiting _ (with_pending w s) u e) h

  keep_if-room : (b : Bool) (s u : State W) (w : W) → keep_if b c s w ≡ ok u → length s.kept ≤ size → length u.kept ≤ size
  unfolding keep_if
  keep_if-room true s u w e h =
      let k : length s.kept < size = place-below size (length s.kept) r (with_kept w s) u (subst (λ a. place a (length s.kept) (with_kept w s) ≡ ok u) is e) in
      let n : length (s.kept ++ (w ∷ [])) ≡ length s.kept + 1 = length-append s.kept (w ∷ []) in
      subst (λ (x : State W). length x.kept ≤ size) (place_ok c.results (length s.kept) (with_kept w s) u e) (omega (arith, k, n))
  keep_if-room false s u w e h = subst (λ (x : State W). length x.kept ≤ size) (ok-inj _ u e) h

  keep-room : (b : Bool) (s u : State W) (w : W) → keep b c s w ≡ ok u → length s.kept ≤ size → length u.kept ≤ size
  unfolding keep
  keep-room true s u w e h = keep_if-room (below (length s.kept) c.max_complete) (with_stats s (add_complete s.stats)) u w e h
  keep-room false s u w e h = subst (λ (x : State W). length x.kept ≤ size) (ok-inj s u e) h

  judged-room : (s u : State W) (t : Try R W) → judged c s t ≡ ok u → length s.kept ≤ size → length u.kept ≤ size
  unfolding judged
  judged-room s u cut e h = subst (λ (x : State W). length x.kept ≤ size) (ok-inj _ u e) h
  judged-room s u overlong e h = subst (λ (x : State W). length x.kept ≤ size) (ok-inj _ u e) h
  judged-room s u reject e h = subst (λ (x : State W). length x.kept ≤ size) (ok-inj _ u e) h
  judged-room s u (stop q) e h = absurd (refuse-ok q u e)
  judged-room s u (go b w) e h =
      let k = and_then-ok (keep b c s w) (push_item c w) u e in
      push-room k.0 u w k.2 (keep-room b s k.0 w k.1 h)

  each-room : (s u : State W) (ts : List (Try R W)) → each c s ts ≡ ok u → length s.kept ≤ size → length u.kept ≤ size
  unfolding each one
  each-room s u [] e h = subst (λ (x : State W). length x.kept ≤ size) (ok-inj s u e) h
  each-room s u (t ∷ ts) e h =
      let k = and_then-ok (one c s t) (λ x. each c x ts) u e in
      each-room k.0 u ts k.2 (judged-room (with_tally s (add_looked s.tally)) k.0 t k.1 h)

  merge-room : (o : SearchOrder) (s : State W) → length s.kept ≤ size → length (merge o s).kept ≤ size
  unfolding merge
  merge-room BreadthFirst s h = h
  merge-room DepthFirst s h = h

  abbrev TurnRoom : Turn W → Type 0
  TurnRoom (over u) = length u.kept ≤ size
  TurnRoom (expand w u) = length u.kept ≤ size

  turn-room : (s : State W) → length s.kept ≤ size → TurnRoom (turn c s)
  unfolding turn popped admit
  turn-room s h = on s.rest
    where
      admitted : (b : Bool) (w : W) (ws : List W) → TurnRoom (admit b s w ws)
      admitted true w ws = h
      admitted false w ws = h

      on : (l : List W) → TurnRoom (popped c s l)
      on [] = h
      on (w ∷ ws) = admitted (below s.stats.expanded c.max_count) w ws

  module _ (tries : W → List (Try R W)) (u : State W) where
    final-room : (t : Turn W) → TurnRoom t → final c t ≡ ok u → length u.kept ≤ size
    unfolding final
    final-room (over x) h e = subst (λ (y : State W). length y.kept ≤ size) (ok-inj x u e) h
    final-room (expand w x) h e = absurd (refuse-ok c.too_many u e)

    follow-room : (k : State W → Answer R (State W)) → ((x : State W) → length x.kept ≤ size → k x ≡ ok u → length u.kept ≤ size) → (t : Turn W) → TurnRoom t → follow c tries k t ≡ ok u → length u.kept ≤ size
    unfolding follow
    follow-room k ih (over x) h e = subst (λ (y : State W). length y.kept ≤ size) (ok-inj x u e) h
    follow-room k ih (expand w x) h e =
        let a = and_then-ok (each c x (tries w)) (λ y. k (merge c.order y)) u e in
        ih (merge c.order a.0) (merge-room c.order a.0 (each-room x a.0 (tries w) a.1 h)) a.2

    run_room : (n : ℕ) (s : State W) → length s.kept ≤ size → run c tries n s ≡ ok u → length u.kept ≤ size
    unfolding run
    run_room zero s h e = final-room (turn c s) (turn-room s h) e
    run_room (suc n) s h e = follow-room (run c tries n) (run_room n) (turn c s) (turn-room s h) e

  seed-room : (s u : State W) (ws : List W) → seed c s ws ≡ ok u → length s.kept ≤ size → length u.kept ≤ size
  unfolding seed
  seed-room s u [] e h = subst (λ (x : State W). length x.kept ≤ size) (ok-inj s u e) h
  seed-room s u (w ∷ ws) e h =
      let k = and_then-ok (push_item c w s) (λ x. seed c x ws) u e in
      seed-room k.0 u ws k.2 (push-room s k.0 w k.1 h)

  pub enumerate-room : (tries : W → List (Try R W)) (fuel : ℕ) (ws : List W) (u : State W) → enumerate c tries fuel ws ≡ ok u → length u.kept ≤ size
  unfolding enumerate
  enumerate-room tries fuel ws u e =
      let k = and_then-ok (seed c blank ws) (λ s. run c tries fuel (merge c.order s)) u e in
      run_room tries u fuel (merge c.order k.0) (merge-room c.order k.0 (seed-room blank k.0 ws k.1 (omega arith))) k.2
