-- `round_front` meets its contract: the front of the item is lent.
use Rattle.partial.specs.Rounds.Laws.{front-lent, round_same}
use Rattle.partial.proofs.compute.round_front.Goals as goal

pub round-requires : goal.round-requires
round-requires c =
    let a = c.args in
    round_same (front-lent a.frame.slot a.item.now) c.requires.0

pub returns : goal.returns
unfolding round_same
returns c =
    let a = c.args in
    λ v. c.round.ensures (round_same (front-lent a.frame.slot a.item.now) v)
