use Rattle.partial_state.specs.Extractions.{going_at}
use native.Mathlib.Omega.{arith}
use Rattle.partial.specs.Rounds.Laws.{round-long, round-inside, round-given, rounded}
use Rattle.partial.proofs.compute.round.Goals as goal

pub ends_of-ends-requires : goal.ends_of-ends-requires
ends_of-ends-requires c = let p = c.requires in (p.loaded.long, round-long p, round-inside p)

pub bounds-item-0 : goal.bounds-item-0
bounds-item-0 c = let p = c.requires in let h = round-long p in omega (arith, h)

pub expand-requires : goal.expand-requires
expand-requires c = let p = c.requires in round-given p c.ends_of-ends.ensures

pub returns : goal.returns
returns c =
    let expand = c.expand in
    let ends_of = c.ends_of-ends in
    let a = c.args in
    λ v.
    rounded v ends_of.ensures (going_at a.frame expand.result) expand.new.work expand.new.words
    (expand.ensures (round-given v ends_of.ensures))
