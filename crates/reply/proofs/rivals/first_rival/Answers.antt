-- `first_rival` meets its contract: the edges before this place have no rival.
use mathlib.Core.Path.{◌≡◌}
use Prim.Native.Nat.{ℕ, ◌+◌, ◌*◌, ◌≤◌, ◌<◌}
use native.Mathlib.Omega.{arith}
use lib.ListN.{get_or}
use Rattle.semantics.specs.Limits.{slot_length}
use Rattle.reply.specs.ResultSlots.{count_of}
use Rattle.reply.specs.Rivals.Laws.{unrivalled-more}
use borrow.Author.Rules.{rules}
use Rattle.reply.proofs.rivals.first_rival.Goals as goal

pub loop-at-init : goal.loop-at-init
loop-at-init c =
    let a = c.args in
    (search rules, search rules, search rules, λ (p : ℕ) (h : slot_length * a.i + 1 ≤ p) (l : p < slot_length * a.i + 1). absurd (omega (arith, h, l)))

pub rival-place-requires : goal.rival-place-requires
rival-place-requires c =
    let l = c.loop-at in
    let p = c.requires.fitting in
    record { blocks = c.requires.blocks; at_nonzero = (omega (arith, l.invariant.1), omega (arith, c.loop-at-test.true, l.invariant.0, p.0.inside, p.0.fits), p.1) }

pub returns-then-place-gt0 : goal.returns-then-place-gt0
returns-then-place-gt0 c =
    let a = c.args in
    let l = c.loop-at in
    let p = c.requires.fitting in
    let r = c.rival-place.result in
    (λ (z : r ≡ 0). absurd (omega (arith, z, c.if-place-gt0.true)), λ (m : ℕ) i (h : slot_length * a.i + slot_length ≤ m). c.rival-place.ensures.1 m i (omega (arith, h, c.loop-at-test.true, l.invariant.0, p.0.fits)))

pub loop-at-preserved : goal.loop-at-preserved
loop-at-preserved c =
    let a = c.args in
    let l = c.loop-at in
    (l.invariant.0, search rules, search rules, unrivalled-more a.index.now a.res.now a.best.now (slot_length * a.i + 1) l.at l.invariant.3 (c.rival-place.ensures.0 (omega (arith, c.if-place-gt0.false))))

pub returns : goal.returns
returns c =
    let a = c.args in
    let l = c.loop-at in
    (λ z (p : ℕ) (h : slot_length * a.i + 1 ≤ p) (k : p < slot_length * a.i + 1 + count_of slot_length (get_or a.res.now (slot_length * a.i) 0)). l.invariant.3 p h (omega (arith, k, c.loop-at-test.false, l.invariant.0)), λ (m : ℕ) i (h : slot_length * a.i + slot_length ≤ m). omega (arith, h))
