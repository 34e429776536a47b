-- `zero_slot` meets its contract: the part that is lent comes back as zeros.
use Rattle.std.proofs.Common.{ℕ, List, ap, ◌∙◌}
use Rattle.semantics.specs.Words.{zeros}
use Rattle.words.specs.Slots.{put_slot}
use Rattle.words.specs.Slots.Laws.{length_part, put-part}
use Rattle.words.proofs.slots.zero_slot.Goals as goal

pub returns : goal.returns
returns c =
    let a = c.args in
    put-part a.length a.i c.fill.new.self a.area.now ∙ ap (λ (s : List ℕ). put_slot a.length a.i s a.area.now) (c.fill.ensures.after (λ y h. h) ∙ ap zeros (length_part a.length a.i a.area.now c.requires))
