-- `swap_slots` meets its contract: the words before k are exchanged, the others as they were.
use Rattle.std.proofs.Common.{◌≡◌, refl, sym, ap, ◌∙◌, ◌+◌, ◌*◌, arith}
use Rattle.std.proofs.lemmas.List.Edits.{swap_is}
use Rattle.words.specs.Copies.{exchanged, exchanged-none, swap-within}
use Rattle.words.specs.Slots.{slot_at, put_slot, swap_slots}
use Rattle.words.specs.Slots.Laws.{slots_apart}
use Rattle.words.proofs.slots.swap_slots.Goals as goal

pub loop-k-init : goal.loop-k-init
loop-k-init c =
    let a = c.args in
    (refl, exchanged-none a.area.now (a.length * a.i) (a.length * a.j))

pub loop-k-preserved : goal.loop-k-preserved
loop-k-preserved c =
    let l = c.loop-k in
    let a = c.args in
    let left = a.length * a.i in
    let right = a.length * a.j in
    let e = swap-within a.length l.area a.area.now left right l.k l.invariant.1 (slots_apart a.length a.i a.j) (slots_apart a.length a.j a.i) (omega arith) (omega arith) (omega arith) in
    (omega (arith, c.swap.ensures.len), c.swap.ensures.after ∙ sym (swap_is l.area (left + l.k) (right + l.k) 0 (omega arith) (omega arith)) ∙ e)

pub returns : goal.returns
unfolding slot_at put_slot swap_slots
returns c =
    let l = c.loop-k in
    let a = c.args in
    let e : l.k ≡ a.length = omega arith in
    l.invariant.1 ∙ ap (exchanged a.area.now (a.length * a.i) (a.length * a.j)) e
