-- `clear` meets its contract: the part that is lent comes back as zeros.
use Rattle.semantics.specs.Limits.{slot_length}
use Rattle.reply.specs.ResultSlots.ClosingUp.{clear-part}
use Rattle.reply.proofs.closing_up.clear.Goals as goal

pub returns : goal.returns
returns c =
    let a = c.args in
    clear-part slot_length a.from a.to a.res.now c.zero.new.area c.requires.1 c.requires.0 c.zero.ensures
