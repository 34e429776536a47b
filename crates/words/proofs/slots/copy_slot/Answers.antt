-- `copy_slot` meets its contract: what is copied within the area is the slot.
use Rattle.std.proofs.Common.{◌≡◌, ◌+◌, ◌-◌, ◌*◌, drop, ap, ◌∙◌, arith}
use Rattle.std.proofs.Math.Seq.{paste}
use Rattle.words.specs.Slots.{slot_at, put_slot}
use Rattle.words.proofs.slots.copy_slot.Goals as goal

pub returns : goal.returns
unfolding slot_at put_slot
returns c =
    let a = c.args in
    let e : a.length * a.from + a.length - a.length * a.from ≡ a.length = omega arith in
    c.copy_within.ensures.after ∙ ap (paste a.area.now (a.length * a.to) (drop (a.length * a.from) a.area.now)) e
