-- `mark_if` meets its contract: by the test, a word is written or none.
use mathlib.Core.Path.{sym, ap}
use mathlib.Core.Bool.{Bool}
use Rattle.semantics.specs.Limits.{slot_length}
use Rattle.reply.specs.ResultSlots.{mark_if}
use Rattle.reply.proofs.shadowed.mark_if.Goals as goal

pub returns-then-test : goal.returns-then-test
unfolding mark_if
returns-then-test c =
    let a = c.args in
    sym (ap (λ (b : Bool). mark_if slot_length a.i b a.res.now) c.if-test.true)

pub returns-else-test : goal.returns-else-test
unfolding mark_if
returns-else-test c =
    let a = c.args in
    sym (ap (λ (b : Bool). mark_if slot_length a.i b a.res.now) c.if-test.false)
