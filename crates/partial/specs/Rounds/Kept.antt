-- What holds of the kept items, and goes on holding when one more is kept behind them, holds of those kept at the end of a run.
-- Serves document 01, "Partial paths": once as many partial paths are found as there is room for, the rest of a computation files none.
use Prim.Native.Nat.{ℕ, zero, suc}
use Rattle.std.specs.Prelude.{◌≡◌, Bool, length}
use Rattle.std.proofs.Math.Path.{subst}
use Rattle.std.proofs.Math.Bool.{true, false}
use mathlib.Core.List.{List, [], ◌∷◌, ◌++◌}
use Rattle.semantics.specs.declared.search.SearchOrder.{SearchOrder}
use Rattle.semantics.specs.declared.search.SearchOrder.TheVariants.{BreadthFirst, DepthFirst}
use Rattle.semantics.specs.Limits.{below}
use Rattle.semantics.specs.Answer.{Answer, ok}
use Rattle.semantics.specs.Answer.Laws.{ok-inj, refuse-ok, and_then-ok}
use Rattle.semantics.specs.Enumeration.{Try, cut, overlong, reject, stop, go, Setting, State, Turn, over, expand, one, each, merge, turn, run, with_stats, with_tally, with_pending, with_kept, judged, add_looked, push_item, keep_if, keep, add_complete, admit, popped, final, follow}
use Rattle.semantics.specs.Enumeration.Laws.{place_ok}

module _ {R W : Type 0} (c : Setting R) (P : List W → Type 0) (more : (l : List W) (w : W) → P l → P (l ++ (w ∷ []))) where
  abbrev KeptSo : State W → Type 0
  KeptSo s = P s.kept

  push_kept : (s u : State W) (w : W) → push_item c w s ≡ ok u → KeptSo s → KeptSo u
  unfolding push_item
  push_kept s u w e h = subst KeptSo (place_ok c.waiting _ (with_pending w s) u e) h

  keep_if-kept : (b : Bool) (s u : State W) (w : W) → keep_if b c s w ≡ ok u → KeptSo s → KeptSo u
  unfolding keep_if
  keep_if-kept true s u w e h = subst KeptSo (place_ok c.results (length s.kept) (with_kept w s) u e) (more s.kept w h)
  keep_if-kept false s u w e h = subst KeptSo (ok-inj _ u e) h

  keep-kept : (b : Bool) (s u : State W) (w : W) → keep b c s w ≡ ok u → KeptSo s → KeptSo u
  unfolding keep
  keep-kept true s u w e h = keep_if-kept (below (length s.kept) c.max_complete) (with_stats s (add_complete s.stats)) u w e h
  keep-kept false s u w e h = subst KeptSo (ok-inj s u e) h

  judged-kept : (s u : State W) (t : Try R W) → judged c s t ≡ ok u → KeptSo s → KeptSo u
  unfolding judged
  judged-kept s u cut e h = subst KeptSo (ok-inj _ u e) h
  judged-kept s u overlong e h = subst KeptSo (ok-inj _ u e) h
  judged-kept s u reject e h = subst KeptSo (ok-inj _ u e) h
  judged-kept s u (stop q) e h = absurd (refuse-ok q u e)
  judged-kept s u (go b w) e h =
      let k = and_then-ok (keep b c s w) (push_item c w) u e in
      push_kept k.0 u w k.2 (keep-kept b s k.0 w k.1 h)

  each-kept : (s u : State W) (ts : List (Try R W)) → each c s ts ≡ ok u → KeptSo s → KeptSo u
  unfolding each one
  each-kept s u [] e h = subst KeptSo (ok-inj s u e) h
  each-kept s u (t ∷ ts) e h =
      let k = and_then-ok (one c s t) (λ x. each c x ts) u e in
      each-kept k.0 u ts k.2 (judged-kept (with_tally s (add_looked s.tally)) k.0 t k.1 h)

  merge-kept : (o : SearchOrder) (s : State W) → KeptSo s → KeptSo (merge o s)
  unfolding merge
  merge-kept BreadthFirst s h = h
  merge-kept DepthFirst s h = h

  abbrev TurnKeptSo : Turn W → Type 0
  TurnKeptSo (over u) = KeptSo u
  TurnKeptSo (expand w u) = KeptSo u

  turn-kept : (s : State W) → KeptSo s → TurnKeptSo (turn c s)
  unfolding turn popped admit
  turn-kept s h = on s.rest
    where
      admitted : (b : Bool) (w : W) (ws : List W) → TurnKeptSo (admit b s w ws)
      admitted true w ws = h
      admitted false w ws = h

      on : (l : List W) → TurnKeptSo (popped c s l)
      on [] = h
      on (w ∷ ws) = admitted (below s.stats.expanded c.max_count) w ws

  module _ (tries : W → List (Try R W)) (u : State W) where
    final-kept : (t : Turn W) → TurnKeptSo t → final c t ≡ ok u → KeptSo u
    unfolding final
    final-kept (over x) h e = subst KeptSo (ok-inj x u e) h
    final-kept (expand w x) h e = absurd (refuse-ok c.too_many u e)

    follow-kept : (k : State W → Answer R (State W)) → ((x : State W) → KeptSo x → k x ≡ ok u → KeptSo u) → (t : Turn W) → TurnKeptSo t → follow c tries k t ≡ ok u → KeptSo u
    unfolding follow
    follow-kept k ih (over x) h e = subst KeptSo (ok-inj x u e) h
    follow-kept k ih (expand w x) h e =
        let a = and_then-ok (each c x (tries w)) (λ y. k (merge c.order y)) u e in
        ih (merge c.order a.0) (merge-kept c.order a.0 (each-kept x a.0 (tries w) a.1 h)) a.2

    pub run-kept : (n : ℕ) (s : State W) → KeptSo s → run c tries n s ≡ ok u → KeptSo u
    unfolding run
    run-kept zero s h e = final-kept (turn c s) (turn-kept s h) e
    run-kept (suc n) s h e = follow-kept (run c tries n) (run-kept n) (turn c s) (turn-kept s h) e

    pub merged-kept : (n : ℕ) (s : State W) → KeptSo s → run c tries n (merge c.order s) ≡ ok u → KeptSo u
    merged-kept n s h e = run-kept n (merge c.order s) (merge-kept c.order s h) e
