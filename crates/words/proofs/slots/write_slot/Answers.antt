-- `write_slot` meets its contract: the part that is lent comes back as the words.
use Rattle.std.proofs.Common.{ℕ, List, ap, ◌∙◌}
use Rattle.words.specs.Slots.{put_slot}
use Rattle.words.specs.Slots.Laws.{put-part}
use Rattle.words.proofs.slots.write_slot.Goals as goal

pub returns : goal.returns
returns c =
    let a = c.args in
    put-part a.length a.i c.copy_from_slice.new.self a.area.now ∙ ap (λ (s : List ℕ). put_slot a.length a.i s a.area.now) c.copy_from_slice.ensures.after
