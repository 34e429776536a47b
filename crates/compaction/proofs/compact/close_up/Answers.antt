-- `close_up`: of the first i records the live ones stand in front, and their numbers in the list.
use mathlib.Core.Path.{◌≡◌, refl, sym, ◌∙◌, subst}
use Prim.Native.Nat.{ℕ, ◌+◌, ◌*◌, ◌≤◌, ◌<◌}
use native.Mathlib.Omega.{arith}
use Rattle.semantics.specs.Limits.{base}
use Rattle.semantics.specs.Database.{used_in}
use Rattle.database.specs.Records.Laws.{within}
use Rattle.compaction.specs.Moves.Laws.{closed_none, closed-room, closed-more, all-count, all_held, all_listed}
use Rattle.compaction.proofs.compact.close_up.Goals as goal

pub loop-i-init : goal.loop-i-init
loop-i-init c = let a = c.args in (omega arith, c.number-used.ensures.0, refl, refl, closed_none base a.words.now a.list.now)

pub keep-to-requires : goal.keep-to-requires
keep-to-requires c =
    let a = c.args in
    let p = c.requires in
    let l = c.loop-i in
    let h = within base l.i a.words.now (omega (arith, l.invariant.1, c.loop-i-test.true)) p.0 in
    (omega (arith, h, l.invariant.2), l.invariant.4.most, omega (arith, c.number-used.ensures.1, c.loop-i-test.true), λ o. subst (λ (n : ℕ). 2 * l.to + 2 ≤ n) (sym l.invariant.3) (closed-room base l.i l.to a.words.now a.list.now l.words l.list l.invariant.4 h (omega (arith, l.invariant.1, c.loop-i-test.true)) p.1 o))

pub loop-i-preserved : goal.loop-i-preserved
loop-i-preserved c =
    let a = c.args in
    let p = c.requires in
    let l = c.loop-i in
    let t : l.i < used_in a.words.now = omega (arith, l.invariant.1, c.loop-i-test.true) in
    let h = within base l.i a.words.now t p.0 in
    (omega (arith, c.loop-i-test.true), l.invariant.1, c.keep-to.ensures.0 ∙ l.invariant.2, c.keep-to.ensures.1 ∙ l.invariant.3, closed-more base l.i l.to a.words.now a.list.now l.words l.list l.invariant.4 h c.keep-to.result c.keep-to.new.words c.keep-to.new.list t p.1 c.keep-to.ensures)

pub returns : goal.returns
returns c =
    let a = c.args in
    let l = c.loop-i in
    let e : l.i ≡ used_in a.words.now = omega (arith, l.invariant.0, l.invariant.1, c.loop-i-test.false) in
    let k = l.invariant.4 in
    record { value = (all-count base l.i l.to a.words.now a.list.now l.words l.list k e, omega (arith, e, k.most), omega (arith, e, l.invariant.1, k.most, c.number-used.ensures.1)); words_after = all_held base l.i l.to a.words.now a.list.now l.words l.list k e; list_after = all_listed base l.i l.to a.words.now a.list.now l.words l.list k e }
