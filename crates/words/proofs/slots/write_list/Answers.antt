-- `write_list` meets its contract: the part that is lent comes back as the list, encoded.
use mathlib.Core.Path.{ap, ◌∙◌}
use mathlib.Core.List.{List}
use Prim.Native.Nat.{ℕ}
use Rattle.semantics.specs.Words.{encode}
use Rattle.words.specs.Slots.{put_slot}
use Rattle.words.specs.Slots.Laws.{length_part, put-part}
use Rattle.words.proofs.slots.write_list.Goals as goal

pub returns : goal.returns
returns c =
    let a = c.args in
    let n = length_part a.length a.i a.area.now c.requires.0 in
    put-part a.length a.i c.lay_out.new.slot a.area.now
    ∙ ap (λ (s : List ℕ). put_slot a.length a.i s a.area.now) (c.lay_out.ensures ∙ ap (λ (k : ℕ). encode k a.edges.now) n)
