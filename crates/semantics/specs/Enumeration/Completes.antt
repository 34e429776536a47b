-- Where the limit on complete paths refused none, as many are kept as are counted complete.
-- Serves document 02, order 9: "Their sum is the complete count".
use Prim.Native.Nat.{ℕ, zero, suc}
use Rattle.std.proofs.Common.{arith, sym, ◌∙◌, ap, true≢false}
use Rattle.std.specs.Prelude.{◌≡◌, Bool, length, None}
use Rattle.std.proofs.Math.Path.{refl, subst}
use Rattle.std.proofs.Math.Bool.{true, false}
use mathlib.Core.List.{List, [], ◌∷◌, ◌++◌}
use Rattle.std.proofs.Math.ListN.{length-append}
use Rattle.semantics.specs.declared.search.SearchOrder.{SearchOrder}
use Rattle.semantics.specs.declared.search.SearchOrder.TheVariants.{BreadthFirst, DepthFirst}
use Rattle.semantics.specs.Limits.{below}
use Rattle.semantics.specs.Answer.{Answer, ok}
use Rattle.semantics.specs.Answer.Laws.{ok-inj, refuse-ok, and_then-ok}
use Rattle.semantics.specs.Enumeration.{Try, cut, overlong, reject, stop, go, Setting, State, Turn, over, expand, blank, with_stats, with_tally, with_pending, with_kept, add_complete, add_looked, push_item, keep_if, keep, judged, one, each, merge, turn, popped, admit, final, follow, run, seed, enumerate}
use Rattle.semantics.specs.Enumeration.Laws.{place_ok, news, each_after, each-quiet}

-- FORWARDS: the count grows with what is kept
module _ {R W : Type 0} (c : Setting R) where
  abbrev pub Counted : State W → Type 0
  Counted s = s.stats.complete_limited ≡ false → s.stats.complete ≡ length s.kept

  abbrev pub Keeps : State W → State W → Type 0
  Keeps s u = (u.stats.complete_limited ≡ false → s.stats.complete_limited ≡ false) × (Counted s → Counted u)

  keeps_then : (s u x : State W) → Keeps s u → Keeps u x → Keeps s x
  keeps_then s u x a b = ((λ h. a.0 (b.0 h)), (λ h. b.1 (a.1 h)))

  same-keeps : (s x u : State W) → x.kept ≡ s.kept → x.stats.complete ≡ s.stats.complete → x.stats.complete_limited ≡ s.stats.complete_limited → ◌≡◌ {A = Answer R (State W)} (ok x) (ok u) → Keeps s u
  same-keeps s x u k d f e = subst (λ (y : State W). Keeps s y) (ok-inj x u e) ((λ h. sym f ∙ h), (λ q h. d ∙ q (sym f ∙ h) ∙ ap length (sym k)))

  push-keeps : (s u : State W) (w : W) → push_item c w s ≡ ok u → Keeps s u
  unfolding push_item
  push-keeps s u w e = subst (λ (y : State W). Keeps s y) (place_ok c.waiting _ (with_pending w s) u e) ((λ h. h), (λ q h. q h))

  keep_if-keeps : (b : Bool) (s u : State W) (w : W) → keep_if b c (with_stats s (add_complete s.stats)) w ≡ ok u → Keeps s u
  unfolding keep_if
  keep_if-keeps true s u w e = subst (λ (y : State W). Keeps s y) (place_ok c.results _ (with_kept w (with_stats s (add_complete s.stats))) u e)
      ((λ h. h), (λ q h. let z = q h in omega (arith, z, length-append s.kept (w ∷ []))))
  keep_if-keeps false s u w e = subst (λ (y : State W). Keeps s y) (ok-inj _ u e) ((λ h. absurd (true≢false h)), (λ q h. absurd (true≢false h)))

  keep-keeps : (b : Bool) (s u : State W) (w : W) → keep b c s w ≡ ok u → Keeps s u
  unfolding keep
  keep-keeps true s u w e = keep_if-keeps (below (length s.kept) c.max_complete) s u w e
  keep-keeps false s u w e = same-keeps s s u refl refl refl e

  judged-keeps : (s u : State W) (t : Try R W) → judged c s t ≡ ok u → Keeps s u
  unfolding judged
  judged-keeps s u cut e = same-keeps s _ u refl refl refl e
  judged-keeps s u overlong e = same-keeps s _ u refl refl refl e
  judged-keeps s u reject e = same-keeps s _ u refl refl refl e
  judged-keeps s u (stop r) e = absurd (refuse-ok r u e)
  judged-keeps s u (go b w) e = let k = and_then-ok (keep b c s w) (push_item c w) u e in keeps_then s k.0 u (keep-keeps b s k.0 w k.1) (push-keeps k.0 u w k.2)

  each_keeps : (s u : State W) (ts : List (Try R W)) → each c s ts ≡ ok u → Keeps s u
  unfolding each one
  each_keeps s u [] e = same-keeps s s u refl refl refl e
  each_keeps s u (t ∷ ts) e =
      let k = and_then-ok (one c s t) (λ x. each c x ts) u e in
      let a = judged-keeps (with_tally s (add_looked s.tally)) k.0 t k.1 in
      keeps_then s k.0 u ((λ h. a.0 h), (λ q. a.1 q)) (each_keeps k.0 u ts k.2)

  -- an expansion without a limit on complete items keeps every new one, and as many as it counts
  pub each_counts : (s u : State W) (ts : List (Try R W)) → c.max_complete ≡ None → each c s ts ≡ ok u → s.stats.complete_limited ≡ false → s.stats.complete ≡ length s.kept
      → (u.stats.complete_limited ≡ false) × (u.kept ≡ s.kept ++ news ts) × (u.stats.complete ≡ length u.kept)
  each_counts s u ts z e f n =
      let q : u.stats.complete_limited ≡ false = (each-quiet c s u ts e).complete z ∙ f in
      (q, ((each_after c s u ts e).full q).1, (each_keeps s u ts e).1 (λ h. n) q)

  merge_keeps : (o : SearchOrder) (s : State W) → Keeps s (merge o s)
  unfolding merge
  merge_keeps BreadthFirst s = ((λ h. h), (λ q h. q h))
  merge_keeps DepthFirst s = ((λ h. h), (λ q h. q h))

  abbrev pub TurnKeeps : State W → Turn W → Type 0
  TurnKeeps s (over u) = Keeps s u
  TurnKeeps s (expand w u) = Keeps s u

  pub turn-keeps : (s : State W) → TurnKeeps s (turn c s)
  unfolding turn popped admit
  turn-keeps s = on s.rest
    where
      admitted : (b : Bool) (w : W) (ws : List W) → TurnKeeps s (admit b s w ws)
      admitted true w ws = ((λ h. h), (λ q h. q h))
      admitted false w ws = ((λ h. h), (λ q h. q h))

      on : (l : List W) → TurnKeeps s (popped c s l)
      on [] = ((λ h. h), (λ q h. q h))
      on (w ∷ ws) = admitted (below s.stats.expanded c.max_count) w ws

  module _ (tries : W → List (Try R W)) (u : State W) where
    follow-keeps : (k : State W → Answer R (State W)) → ((x : State W) → k x ≡ ok u → Keeps x u) → (s : State W) (t : Turn W) → TurnKeeps s t → follow c tries k t ≡ ok u → Keeps s u
    unfolding follow
    follow-keeps k ih s (over x) h e = subst (λ (y : State W). Keeps s y) (ok-inj x u e) h
    follow-keeps k ih s (expand w x) h e =
        let a = and_then-ok (each c x (tries w)) (λ y. k (merge c.order y)) u e in
        keeps_then s x u h (keeps_then x a.0 u (each_keeps x a.0 (tries w) a.1) (keeps_then a.0 (merge c.order a.0) u (merge_keeps c.order a.0) (ih (merge c.order a.0) a.2)))

    run-keeps : (n : ℕ) (s : State W) → run c tries n s ≡ ok u → Keeps s u
    unfolding run
    run-keeps zero s e = last (turn c s) (turn-keeps s) e
      where
        last : (t : Turn W) → TurnKeeps s t → final c t ≡ ok u → Keeps s u
        last (over x) h k = subst (λ (y : State W). Keeps s y) (ok-inj x u (unfold final in k)) h
        last (expand w x) h k = absurd (refuse-ok c.too_many u (unfold final in k))
    run-keeps (suc n) s e = follow-keeps (run c tries n) (run-keeps n) s (turn c s) (turn-keeps s) e

    pub enumerate-counts : (fuel : ℕ) (w : W) → enumerate c tries fuel (w ∷ []) ≡ ok u → u.stats.complete_limited ≡ false → u.stats.complete ≡ length u.kept
    unfolding enumerate seed push_item
    enumerate-counts fuel w e f =
        let a = and_then-ok (seed c blank (w ∷ [])) (λ s. run c tries fuel (merge c.order s)) u e in
        let b = and_then-ok (push_item c w blank) (λ s. seed c s []) a.0 a.1 in
        let p : Keeps blank a.0 = keeps_then blank b.0 a.0 (push-keeps blank b.0 w b.1) (same-keeps b.0 b.0 a.0 refl refl refl b.2) in
        (keeps_then blank a.0 u p (keeps_then a.0 (merge c.order a.0) u (merge_keeps c.order a.0) (run-keeps fuel (merge c.order a.0) a.2))).1 (λ h. refl) f
