-- `read_slot` meets its contract: what is copied is the slot.
use Rattle.std.proofs.Common.{◌∙◌}
use Rattle.words.specs.Slots.Laws.{part-slot}
use Rattle.words.proofs.slots.read_slot.Goals as goal

pub returns : goal.returns
returns c = c.copy_from_slice.ensures.after ∙ part-slot c.args.length c.args.i c.args.area.now
