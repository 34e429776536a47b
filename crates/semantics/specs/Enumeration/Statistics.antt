-- The two identities between the statistics of an enumeration that is not refused.
-- Document 01, "Budget and frontier", second paragraph; for every search, with the number of its starting items.
use Prim.Native.Nat.{ℕ, zero, suc, ◌+◌, ◌≤◌}
use Rattle.std.proofs.Common.{arith, ◌∙◌}
use Rattle.std.specs.Prelude.{◌≡◌, Bool}
use Rattle.std.proofs.Math.Path.{refl, ap, subst}
use Rattle.std.proofs.Math.Bool.{true, false}
use mathlib.Core.List.{List, [], ◌∷◌}
use Rattle.std.proofs.Math.ListN.{length, length-append}
use Rattle.semantics.specs.declared.search.SearchOrder.{SearchOrder}
use Rattle.semantics.specs.declared.search.SearchOrder.TheVariants.{BreadthFirst, DepthFirst}
use Rattle.semantics.specs.Limits.{below}
use Rattle.semantics.specs.Answer.{Answer, ok}
use Rattle.semantics.specs.Answer.Laws.{ok-inj, refuse-ok, and_then-ok}
use Rattle.semantics.specs.Enumeration.{Try, cut, overlong, reject, stop, go, Setting, State, Turn, over, expand, one, each, merge, turn, run, enumerate, blank, with_stats, with_tally, judged, add_looked, push_item, keep_if, keep, add_complete, admit, popped, final, follow, seed}
use Rattle.semantics.specs.Enumeration.Laws.{place_ok}

module _ {W : Type 0} where
  -- what became of the edges looked at
  abbrev pub outcomes : State W → ℕ
  outcomes s = s.stats.cycles + s.tally.overlong + s.stats.rejected + s.tally.pushed

abbrev pub bit : Bool → ℕ
bit true = 1
bit false = 0

module _ {W : Type 0} where
  -- n outcomes, l edges looked at and p pushes more
  pub record Moved (n l p : ℕ) (s u : State W) : Type 0 where
    pub outcome : outcomes u ≡ outcomes s + n
    pub looks : u.tally.looked ≡ s.tally.looked + l
    pub pushes : u.tally.pushed ≡ s.tally.pushed + p
    pub waits : length u.pending ≡ length s.pending + p
    pub expansions : u.stats.expanded ≡ s.stats.expanded
    pub rest : length u.rest ≡ length s.rest
    pub flag : u.stats.count_limited ≡ s.stats.count_limited

  moved_then : (n l p n' l' p' : ℕ) (s u x : State W) → Moved n l p s u → Moved n' l' p' u x → Moved (n + n') (l + l') (p + p') s x
  moved_then n l p n' l' p' s u x a b = record { outcome = omega arith; looks = omega arith; pushes = omega arith; waits = omega arith; expansions = omega arith; rest = omega arith; flag = b.flag ∙ a.flag }

  moved_none : (s : State W) → Moved 0 0 0 s s
  moved_none s = record { outcome = omega arith; looks = omega arith; pushes = omega arith; waits = omega arith; expansions = refl; rest = refl; flag = refl }

module _ {R W : Type 0} where
  -- the statistics that are no counts of edges may change
  moved_by : (s x u : State W) (n l p : ℕ) → Moved n l p s x → ◌≡◌ {A = Answer R (State W)} (ok x) (ok u) → Moved n l p s u
  moved_by s x u n l p m e = subst (Moved n l p s) (ok-inj x u e) m

  push-moved : (c : Setting R) (s u : State W) (w : W) → push_item c w s ≡ ok u → Moved 1 0 1 s u
  unfolding push_item
  push-moved c s u w e = subst (Moved 1 0 1 s) (place_ok c.waiting _ _ u e) (record { outcome = omega arith; looks = omega arith; pushes = omega arith; waits = length-append s.pending (w ∷ []); expansions = refl; rest = refl; flag = refl })

  keep_if-moved : (b : Bool) (c : Setting R) (s u : State W) (w : W) → keep_if b c s w ≡ ok u → Moved 0 0 0 s u
  unfolding keep_if
  keep_if-moved true c s u w e = subst (Moved 0 0 0 s) (place_ok c.results _ _ u e) (record { outcome = omega arith; looks = omega arith; pushes = omega arith; waits = omega arith; expansions = refl; rest = refl; flag = refl })
  keep_if-moved false c s u w e = moved_by s _ u 0 0 0 (record { outcome = omega arith; looks = omega arith; pushes = omega arith; waits = omega arith; expansions = refl; rest = refl; flag = refl }) e

  keep-moved : (b : Bool) (c : Setting R) (s u : State W) (w : W) → keep b c s w ≡ ok u → Moved 0 0 0 s u
  unfolding keep
  keep-moved true c s u w e =
      let m = keep_if-moved (below (length s.kept) c.max_complete) c (with_stats s (add_complete s.stats)) u w e in
      record { outcome = m.outcome; looks = m.looks; pushes = m.pushes; waits = m.waits; expansions = m.expansions; rest = m.rest; flag = m.flag }
  keep-moved false c s u w e = moved_by s s u 0 0 0 (moved_none s) e

  abbrev pub pushes_of : Try R W → ℕ
  pushes_of cut = 0
  pushes_of overlong = 0
  pushes_of reject = 0
  pushes_of (stop r) = 0
  pushes_of (go b w) = 1

  judged-moved : (c : Setting R) (s u : State W) (t : Try R W) → judged c s t ≡ ok u → Moved 1 0 (pushes_of t) s u
  unfolding judged
  judged-moved c s u cut e = moved_by s _ u 1 0 0 (record { outcome = omega arith; looks = omega arith; pushes = omega arith; waits = omega arith; expansions = refl; rest = refl; flag = refl }) e
  judged-moved c s u overlong e = moved_by s _ u 1 0 0 (record { outcome = omega arith; looks = omega arith; pushes = omega arith; waits = omega arith; expansions = refl; rest = refl; flag = refl }) e
  judged-moved c s u reject e = moved_by s _ u 1 0 0 (record { outcome = omega arith; looks = omega arith; pushes = omega arith; waits = omega arith; expansions = refl; rest = refl; flag = refl }) e
  judged-moved c s u (stop r) e = absurd (refuse-ok r u e)
  judged-moved c s u (go b w) e =
      let k = and_then-ok (keep b c s w) (push_item c w) u e in
      moved_then 0 0 0 1 0 1 s k.0 u (keep-moved b c s k.0 w k.1) (push-moved c k.0 u w k.2)

  pub one-moved : (c : Setting R) (s u : State W) (t : Try R W) → one c s t ≡ ok u → Moved 1 1 (pushes_of t) s u
  unfolding one
  one-moved c s u t e =
      let m = judged-moved c (with_tally s (add_looked s.tally)) u t e in
      record { outcome = m.outcome; looks = omega arith; pushes = m.pushes; waits = m.waits; expansions = m.expansions; rest = m.rest; flag = m.flag }

  -- how many of the tries are pushed
  abbrev pub count_pushes : List (Try R W) → ℕ
  count_pushes [] = 0
  count_pushes (t ∷ ts) = pushes_of t + count_pushes ts

  pub each-moved : (c : Setting R) (s u : State W) (ts : List (Try R W)) → each c s ts ≡ ok u → Moved (length ts) (length ts) (count_pushes ts) s u
  unfolding each
  each-moved c s u [] e = moved_by s s u 0 0 0 (moved_none s) e
  each-moved c s u (t ∷ ts) e =
      let k = and_then-ok (one c s t) (λ x. each c x ts) u e in
      let m = moved_then 1 1 (pushes_of t) (length ts) (length ts) (count_pushes ts) s k.0 u (one-moved c s k.0 t k.1) (each-moved c k.0 u ts k.2) in
      record { outcome = omega (arith, m.outcome); looks = omega (arith, m.looks); pushes = m.pushes; waits = m.waits; expansions = m.expansions; rest = m.rest; flag = m.flag }

module _ {W : Type 0} where
  -- with k starting items, which are among the pushes: outcomes are edges looked at and the k pushes; pushes are expansions, waiting items, and one more where the path-count flag is set
  pub record Balanced (k : ℕ) (s : State W) : Type 0 where
    pub begun : k ≤ s.tally.pushed
    pub outcome : outcomes s ≡ s.tally.looked + k
    pub pushes : s.tally.pushed ≡ s.stats.expanded + length s.rest + length s.pending + bit s.stats.count_limited

  merge-balanced : (k : ℕ) (o : SearchOrder) (s : State W) → Balanced k s → Balanced k (merge o s)
  unfolding merge
  merge-balanced k BreadthFirst s b = record { begun = b.begun; outcome = b.outcome; pushes = omega (arith, b.pushes, length-append s.rest s.pending) }
  merge-balanced k DepthFirst s b = record { begun = b.begun; outcome = b.outcome; pushes = omega (arith, b.pushes, length-append s.pending s.rest) }

  -- at the top of a round: nothing pending, no path-count flag
  record Ready (k : ℕ) (s : State W) : Type 0 where
    pub balanced : Balanced k s
    pub none-pending : s.pending ≡ []
    pub unflagged : s.stats.count_limited ≡ false

module _ {R W : Type 0} where
  each-balanced : (k : ℕ) (c : Setting R) (s u : State W) (ts : List (Try R W)) → Balanced k s → each c s ts ≡ ok u → Balanced k u
  each-balanced k c s u ts b e =
      let m = each-moved c s u ts e in
      record { begun = omega (arith, m.pushes, b.begun); outcome = omega (arith, m.outcome, m.looks, b.outcome); pushes = rw m.flag (omega (arith, m.pushes, m.waits, m.expansions, m.rest, b.pushes)) }

module _ {W : Type 0} where
  abbrev TurnBalanced : ℕ → Turn W → Type 0
  TurnBalanced k (over u) = Balanced k u
  TurnBalanced k (expand w u) = Ready k u

module _ {R W : Type 0} where
  turn-balanced : (k : ℕ) (c : Setting R) (s : State W) → Ready k s → TurnBalanced k (turn c s)
  unfolding turn popped
  turn-balanced k c s r = go_on s.rest refl
    where
      total : s.tally.pushed ≡ s.stats.expanded + length s.rest
      total = omega (arith, r.balanced.pushes, ap length r.none-pending, ap bit r.unflagged)

      admitted : (b : Bool) (w : W) (ws : List W) → s.rest ≡ w ∷ ws → TurnBalanced k (admit b s w ws)
      admitted true w ws e = record { balanced = record { begun = r.balanced.begun; outcome = r.balanced.outcome; pushes = rw r.unflagged (omega (arith, total, ap length e)) }; none-pending = refl; unflagged = r.unflagged }
      admitted false w ws e = record { begun = r.balanced.begun; outcome = r.balanced.outcome; pushes = omega (arith, total, ap length e) }

      go_on : (l : List W) → s.rest ≡ l → TurnBalanced k (popped c s l)
      go_on [] e = r.balanced
      go_on (w ∷ ws) e = admitted (below s.stats.expanded c.max_count) w ws e

module _ {W : Type 0} where
  merge-ready : (k : ℕ) (o : SearchOrder) (s : State W) → Balanced k s → s.stats.count_limited ≡ false → Ready k (merge o s)
  merge-ready k o s b f = record { balanced = merge-balanced k o s b; none-pending = nothing o; unflagged = same o ∙ f }
    where
      nothing : (o : SearchOrder) → (merge o s).pending ≡ []
      nothing BreadthFirst = unfold merge in refl
      nothing DepthFirst = unfold merge in refl

      same : (o : SearchOrder) → (merge o s).stats.count_limited ≡ s.stats.count_limited
      same BreadthFirst = unfold merge in refl
      same DepthFirst = unfold merge in refl

module _ {R W : Type 0} where
  module _ (k : ℕ) (c : Setting R) (tries : W → List (Try R W)) (u : State W) where
    final-balanced : (t : Turn W) → TurnBalanced k t → final c t ≡ ok u → Balanced k u
    unfolding final
    final-balanced (over x) b e = subst (Balanced k) (ok-inj x u e) b
    final-balanced (expand w x) b e = absurd (refuse-ok c.too_many u e)

    follow-balanced : (f : State W → Answer R (State W)) (ih : (x : State W) → Ready k x → f x ≡ ok u → Balanced k u) (t : Turn W) → TurnBalanced k t → follow c tries f t ≡ ok u → Balanced k u
    unfolding follow
    follow-balanced f ih (over x) b e = subst (Balanced k) (ok-inj x u e) b
    follow-balanced f ih (expand w x) b e =
        let a = and_then-ok (each c x (tries w)) (λ y. f (merge c.order y)) u e in
        let m = each-moved c x a.0 (tries w) a.1 in
        ih (merge c.order a.0) (merge-ready k c.order a.0 (each-balanced k c x a.0 (tries w) b.balanced a.1) (m.flag ∙ b.unflagged)) a.2

    run-balanced : (n : ℕ) (s : State W) → Ready k s → run c tries n s ≡ ok u → Balanced k u
    unfolding run
    run-balanced zero s r e = final-balanced (turn c s) (turn-balanced k c s r) e
    run-balanced (suc n) s r e = follow-balanced (run c tries n) (run-balanced n) (turn c s) (turn-balanced k c s r) e

  seed-moved : (c : Setting R) (s u : State W) (ws : List W) → seed c s ws ≡ ok u → Moved (length ws) 0 (length ws) s u
  unfolding seed push_item
  seed-moved c s u [] e = moved_by s s u 0 0 0 (moved_none s) e
  seed-moved c s u (w ∷ ws) e =
      let a = and_then-ok (push_item c w s) (λ x. seed c x ws) u e in
      let m = moved_then 1 0 1 (length ws) 0 (length ws) s a.0 u (push-moved c s a.0 w a.1) (seed-moved c a.0 u ws a.2) in
      record { outcome = omega (arith, m.outcome); looks = omega (arith, m.looks); pushes = omega (arith, m.pushes); waits = omega (arith, m.waits); expansions = m.expansions; rest = m.rest; flag = m.flag }

  -- THE TWO IDENTITIES, for a search from k starting items
  pub enumerate-balanced : (c : Setting R) (tries : W → List (Try R W)) (fuel : ℕ) (ws : List W) (u : State W) → enumerate c tries fuel ws ≡ ok u → Balanced (length ws) u
  unfolding enumerate
  enumerate-balanced c tries fuel ws u e =
      let a = and_then-ok (seed c blank ws) (λ s. run c tries fuel (merge c.order s)) u e in
      let m = seed-moved c blank a.0 ws a.1 in
      let b : Balanced (length ws) a.0 = record { begun = omega (arith, m.pushes); outcome = omega (arith, m.outcome, m.looks); pushes = rw m.flag (omega (arith, m.pushes, m.waits, m.expansions, m.rest)) } in
      run-balanced (length ws) c tries u fuel (merge c.order a.0) (merge-ready (length ws) c.order a.0 b m.flag) a.2
