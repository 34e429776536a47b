-- `move_down` meets its contract: a slot that stands right is its own copy.
use native.Mathlib.Omega.{arith}
use Rattle.semantics.specs.Limits.{slot_length}
use Rattle.reply.specs.ResultSlots.ClosingUp.{put-stays}
use Rattle.reply.proofs.closing_up.move_down.Goals as goal

pub returns-else-to-i : goal.returns-else-to-i
returns-else-to-i c =
    let a = c.args in
    put-stays slot_length a.i a.to a.res.now c.requires.1 (omega (arith, c.if-to-i.false))
