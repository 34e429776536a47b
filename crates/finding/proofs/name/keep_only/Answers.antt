-- `finding::name::keep_only`: the slot is moved, then the others are cleared.
use mathlib.Core.Path.{ap, ◌∙◌}
use Rattle.semantics.specs.Limits.{slot_length}
use Rattle.reply.specs.ResultSlots.{clear_slots}
use Rattle.finding.specs.Names.{only_slot}
use Rattle.finding.proofs.name.keep_only.Goals as goal

pub returns : goal.returns
unfolding only_slot
returns c =
    let move_down = c.move_down in
    let a = c.args in
    c.clear.ensures ∙ ap (clear_slots slot_length 1 a.kept) move_down.ensures
