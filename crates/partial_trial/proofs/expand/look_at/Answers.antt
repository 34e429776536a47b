-- `partial_trial::expand::look_at`: an edge of another file is not looked at.
use Rattle.partial_state.specs.Extractions.{going_at}
use Rattle.partial_trial.specs.Expansions.Laws.{looking-inside, looking-tries, looked-tried, looked-not}
use Rattle.partial_trial.proofs.expand.look_at.Goals as goal

pub belongs-requires : goal.belongs-requires
belongs-requires c = let p = c.requires in (p.looking.given.loaded.long, looking-inside p)

pub try_edge-requires : goal.try_edge-requires
try_edge-requires c =
    let p = c.requires in
    looking-tries p c.belongs.ensures c.if-belongs.true

pub returns-then-belongs : goal.returns-then-belongs
returns-then-belongs c =
    let try-edge = c.try_edge in
    let if1 = c.if-belongs in
    let belongs = c.belongs in
    let a = c.args in
    λ o.
    looked-tried o belongs.ensures if1.true (going_at a.frame try-edge.result) try-edge.new.item
    try-edge.new.work try-edge.new.words
    (try-edge.ensures (looking-tries o belongs.ensures if1.true))

pub returns : goal.returns
returns c = λ o. looked-not o c.belongs.ensures c.if-belongs.false
