-- `is_ascending` meets its contract: the first i slots ascend.
use mathlib.Core.Path.{sym}
use mathlib.Core.Bool.{true≢false}
use native.Mathlib.Omega.{arith}
use Rattle.semantics.specs.Limits.{slot_length}
use Rattle.reply.specs.Ascending.Laws.{ascending-on}
use Rattle.reply.proofs.ascending.is_ascending.Goals as goal

pub loop-i-init : goal.loop-i-init
loop-i-init c = (omega arith, λ j h. absurd (omega (arith, h)))

pub returns-then-not-comes_before_next : goal.returns-then-not-comes_before_next
returns-then-not-comes_before_next c = λ e. absurd (true≢false (sym e))

pub loop-i-preserved : goal.loop-i-preserved
loop-i-preserved c =
    let l = c.loop-i in
    let a = c.args in (
      omega (arith, l.invariant.0),
      ascending-on slot_length l.i a.res.now l.invariant.0 l.invariant.1
          (c.comes_before_next.ensures (c.if-not-comes_before_next.false)),
    )

pub returns : goal.returns
returns c = let l = c.loop-i in λ e j h. l.invariant.1 j (omega (arith, c.loop-i-test.false, h))
