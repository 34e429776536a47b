-- `trend`: the sum and the greatest of the entries passed. Each is below 2^32, so the sum fits.
use Rattle.std.proofs.Common.{◌≡◌, ℕ, ◌<◌, refl, sym, ap, ◌∙◌, get_or, Bool, max, arith, lt-ltb, le-ltb}
use Rattle.std.proofs.Math.Decide.{dec_lt}
use Rattle.std.proofs.Math.Seq.{take_all}
use Rattle.semantics.specs.Window as Window
use Rattle.semantics.specs.Enumeration.{greater}
use Rattle.semantics.specs.Window.{trend_of}
use Rattle.semantics.specs.Lists.{pick, total}
use Rattle.semantics.proofs.Theorems.Window.Laws.{total-more, greatest-more}
use Rattle.window.proofs.counts.trend.Goals as goal

max-greater : (m n : ℕ) → max m n ≡ greater m n
max-greater m n = on (dec_lt m n)
  where
    on : Dec (m < n) → max m n ≡ greater m n
    on (yes h) = (let e : max m n ≡ n = omega arith in e) ∙ sym (ap (λ (t : Bool). pick t n m) (lt-ltb m n h))
    on (no h) = (let e : max m n ≡ m = omega arith in e) ∙ sym (ap (λ (t : Bool). pick t n m) (le-ltb m n (omega arith)))

pub loop-entry-init : goal.loop-entry-init
unfolding total Window.greatest
loop-entry-init c = (omega arith, refl, refl)

pub loop-entry-preserved : goal.loop-entry-preserved
loop-entry-preserved c =
    let l = c.loop-entry in
    let es = c.args.entries.now in
    let h = c.loop-entry-test.true in
    (omega (arith, c.from-sum.ensures, c.type_inv.entries l.entry-index), omega (arith, total-more es l.entry-index h, c.from-sum.ensures, l.invariant.1), c.max-greatest.ensures ∙ max-greater _ _ ∙ ap (λ (m : ℕ). greater m (get_or es l.entry-index 0)) l.invariant.2 ∙ sym (greatest-more es l.entry-index h))

pub returns : goal.returns
unfolding trend_of
returns c =
    let l = c.loop-entry in
    let es = c.args.entries.now in
    let e = take_all l.entry-index es (omega (arith, c.loop-entry-test.false)) in
    λ j. record { sum = (l.invariant.1 ∙ ap total e) j; greatest = (l.invariant.2 ∙ ap Window.greatest e) j }
