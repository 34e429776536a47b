-- Where a refusal of an enumeration comes from: a full area, a try that stops it, or an expansion too many.
-- Serves document 02, order 9: a tally is never refused with 32.
use Prim.Native.Nat.{ℕ, zero, suc}
use Rattle.std.specs.Prelude.{◌≡◌, refl, Bool, ltb, length}
use Rattle.std.proofs.Common.{sym}
use Rattle.std.proofs.Math.Path.{subst}
use Rattle.std.proofs.Math.Logic.{⊎_elim}
use Rattle.std.proofs.Math.Bool.{true, false}
use mathlib.Core.List.{List, [], ◌∷◌, Memᴰ}
use Rattle.semantics.specs.Limits.{below}
use Rattle.semantics.specs.Answer.{Answer, refuse, ok_if}
use Rattle.semantics.specs.Answer.Laws.{refuse-inj, ok-refuse, and_then-refuse}
use Rattle.semantics.specs.Enumeration.{Try, cut, overlong, reject, stop, go, Area, unlimited, slots, Setting, State, Turn, over, expand, place, blank, with_stats, with_tally, with_pending, with_kept, add_complete, add_looked, waiting, push_item, keep_if, keep, judged, one, each, merge, turn, final, follow, run, seed, enumerate}

-- this is what an area is refused with where it is full
abbrev pub RefusedBy : {R : Type 0} → Area R → R → Type 0
RefusedBy a x = (size : ℕ) × (a ≡ slots size x)

module _ {R W : Type 0} (c : Setting R) (P : R → Type 0) (waits : (x : R) → RefusedBy c.waiting x → P x) (keeps : (x : R) → RefusedBy c.results x → P x) (many : P c.too_many) where
  placed : (a : Area R) → ((y : R) → RefusedBy a y → P y) → (n : ℕ) (s : State W) (x : R) → place a n s ≡ refuse x → P x
  unfolding place ok_if
  placed unlimited h n s x e = absurd (ok-refuse x s e)
  placed (slots size r) h n s x e = on (ltb n size) e
    where
      on : (b : Bool) → ok_if b r s ≡ refuse x → P x
      on true k = absurd (ok-refuse x s k)
      on false k = subst P (refuse-inj {A = State W} r x k) (h r (size, refl))

  pushed : (w : W) (s : State W) (x : R) → push_item c w s ≡ refuse x → P x
  unfolding push_item
  pushed w s x e = placed c.waiting waits (waiting s) (with_pending w s) x e

  kept : (b : Bool) (s : State W) (w : W) (x : R) → keep b c s w ≡ refuse x → P x
  unfolding keep keep_if
  kept false s w x e = absurd (ok-refuse x s e)
  kept true s w x e = on (below (length s.kept) c.max_complete) e
    where
      on : (b : Bool) → keep_if b c (with_stats s (add_complete s.stats)) w ≡ refuse x → P x
      on true k = placed c.results keeps (length s.kept) (with_kept w (with_stats s (add_complete s.stats))) x k
      on false k = absurd (ok-refuse x _ k)

  tried : (s : State W) (t : Try R W) (x : R) → ((r : R) → t ≡ stop r → P r) → judged c s t ≡ refuse x → P x
  unfolding judged
  tried s cut x h e = absurd (ok-refuse x _ e)
  tried s overlong x h e = absurd (ok-refuse x _ e)
  tried s reject x h e = absurd (ok-refuse x _ e)
  tried s (stop r) x h e = subst P (refuse-inj {A = State W} r x e) (h r refl)
  tried s (go b w) x h e = ⊎_elim (λ k. kept b s w x k) (λ k. pushed w k.0 x k.2) (and_then-refuse (keep b c s w) (push_item c w) x e)

  each-refused : (s : State W) (ts : List (Try R W)) (x : R) → ((r : R) → Memᴰ (stop r) ts → P r) → each c s ts ≡ refuse x → P x
  unfolding each one
  each-refused s [] x h e = absurd (ok-refuse x s e)
  each-refused s (t ∷ ts) x h e =
      ⊎_elim (λ k. tried (with_tally s (add_looked s.tally)) t x (λ r q. h r (Memᴰ.head (sym q))) k) (λ k. each-refused k.0 ts x (λ r m. h r (Memᴰ.tail m)) k.2)
      (and_then-refuse (one c s t) (λ u. each c u ts) x e)

  seed-refused : (s : State W) (ws : List W) (x : R) → seed c s ws ≡ refuse x → P x
  unfolding seed
  seed-refused s [] x e = absurd (ok-refuse x s e)
  seed-refused s (w ∷ ws) x e = ⊎_elim (λ k. pushed w s x k) (λ k. seed-refused k.0 ws x k.2) (and_then-refuse (push_item c w s) (λ u. seed c u ws) x e)

  module _ (tries : W → List (Try R W)) (stops : (w : W) (r : R) → Memᴰ (stop r) (tries w) → P r) where
    follow-refused : (k : State W → Answer R (State W)) → ((s : State W) (x : R) → k s ≡ refuse x → P x) → (t : Turn W) (x : R) → follow c tries k t ≡ refuse x → P x
    unfolding follow
    follow-refused k ih (over s) x e = absurd (ok-refuse x s e)
    follow-refused k ih (expand w s) x e =
        ⊎_elim (λ q. each-refused s (tries w) x (stops w) q) (λ q. ih (merge c.order q.0) x q.2) (and_then-refuse (each c s (tries w)) (λ u. k (merge c.order u)) x e)

    final-refused : (t : Turn W) (x : R) → final c t ≡ refuse x → P x
    unfolding final
    final-refused (over s) x e = absurd (ok-refuse x s e)
    final-refused (expand w s) x e = subst P (refuse-inj {A = State W} c.too_many x e) many

    run-refused : (n : ℕ) (s : State W) (x : R) → run c tries n s ≡ refuse x → P x
    unfolding run
    run-refused zero s x e = final-refused (turn c s) x e
    run-refused (suc n) s x e = follow-refused (run c tries n) (run-refused n) (turn c s) x e

    pub enumerate-refused : (fuel : ℕ) (ws : List W) (x : R) → enumerate c tries fuel ws ≡ refuse x → P x
    unfolding enumerate
    enumerate-refused fuel ws x e =
        ⊎_elim (λ k. seed-refused blank ws x k) (λ k. run-refused fuel (merge c.order k.0) x k.2) (and_then-refuse (seed c blank ws) (λ s. run c tries fuel (merge c.order s)) x e)
