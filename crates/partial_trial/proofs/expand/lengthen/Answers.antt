-- `partial_trial::expand::lengthen`: the edge's target is the new end, filed where it is an endpoint, then pushed.
use native.Mathlib.Omega.{arith}
use Rattle.partial_state.specs.Extractions.{going_at}
use Rattle.partial_trial.specs.Expansions.Laws.{longer-room, longer-inside, longer-given, lengthened}
use Rattle.partial_trial.proofs.expand.lengthen.Goals as goal

pub with_edge-requires : goal.with_edge-requires
with_edge-requires c =
    let p = c.requires in
    let r = longer-room p.0 p.1 in
    (omega (arith, p.0.looking.given.carries.long, r), omega (arith, p.1))

pub target-end-requires : goal.target-end-requires
target-end-requires c =
    let p = c.requires in
    record { blocks = p.0.looking.given.loaded.long; e_in_bounds = longer-inside p.0 }

pub is_endpoint-endpoint-requires : goal.is_endpoint-endpoint-requires
is_endpoint-endpoint-requires c = c.requires.0.looking.given.loaded.long

pub extend-requires : goal.extend-requires
extend-requires c =
    let w = c.with_edge in
    let p = c.requires in
    longer-given p.0 p.1 w.ensures (omega arith) w.auto.item

pub returns : goal.returns
returns c =
    let x = c.extend in
    let i = c.is_endpoint-endpoint in
    let n = c.target-end in
    let w = c.with_edge in
    let a = c.args in
    let p = c.requires in
    λ v.
    lengthened v p.1 w.ensures n.ensures i.ensures (going_at a.frame x.result) x.new.work
    x.new.words x.ensures
