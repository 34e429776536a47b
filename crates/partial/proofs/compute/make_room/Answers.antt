-- `make_room` meets its contract: there is room, or the slots become longer, and the rest of the item becomes zeros.
use mathlib.Core.Path.{refl}
use mathlib.Core.Logic.{inl, inr}
use native.Mathlib.Omega.{arith}
use Rattle.semantics.specs.Limits.{slot_length}
use Rattle.path_frontier.specs.Frontier.Widening.{wider-yet}
use Rattle.search_state.specs.Items.Laws.{rest_back}
use Rattle.partial.proofs.compute.make_room.Goals as goal

pub returns-then-k-slot : goal.returns-then-k-slot
returns-then-k-slot c = inl (refl, refl, refl, inl (omega (arith, c.if-k-slot.true)))

pub widen-requires : goal.widen-requires
widen-requires c =
    let p = c.requires in
    let n = c.longer.ensures in
    (p.0, wider-yet c.longer.result slot_length n.0 n.2 p.1, n.2)

pub returns-then-slot-lt-SLOT_WORDS : goal.returns-then-slot-lt-SLOT_WORDS
returns-then-slot-lt-SLOT_WORDS c =
    let zero' = c.zero in
    let if2 = c.if-slot-lt-SLOT_WORDS in
    let a = c.args in
    let p = c.requires in
    let n = c.longer.ensures in
    inr (record {
      words = c.longer.result;
      longer = omega (arith, n.1);
      most = n.2;
      grows = c.widen.ensures;
      rest = rest_back a.frame.slot a.item.now p.2 (omega (arith, if2.true)) zero'.ensures;
    })

pub returns : goal.returns
returns c = inl (refl, refl, refl, inr (omega (arith, c.if-slot-lt-SLOT_WORDS.false, c.requires.1.longer)))
