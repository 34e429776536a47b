-- `path::replay::replay_onto`: the value from here on is the value from the start.
use native.Mathlib.Omega.{arith}
use mathlib.Core.Path.{ap, ◌∙◌}
use borrow.Author.Rules.{rules}
use Rattle.path.specs.Replays.{outcome_of, replayed}
use Rattle.path.specs.Replays.Laws.{begun-stops, begun-goes, more-stops, more-goes, all-replayed}
use Rattle.path.proofs.replay.replay_onto.Goals as goal

pub returns-in_default : goal.returns-in_default
returns-in_default c =
    let a = c.args in
    begun-stops a.index.now a.reference a.edges.now (replayed c.outcome-begun.result c.outcome-begun.new.path)
    (c.outcome-begun.ensures ∙ ap outcome_of c.from_reference-effect.ensures)
    (c.in_default.not-Ok tt)

pub loop-edge-init : goal.loop-edge-init
loop-edge-init c =
    let a = c.args in
    begun-goes a.index.now a.reference a.edges.now (replayed c.outcome-begun.result c.outcome-begun.new.path)
    (c.outcome-begun.ensures ∙ ap outcome_of c.from_reference-effect.ensures)
    c.in-Ok.is

pub one_more-grown-requires : goal.one_more-grown-requires
one_more-grown-requires c = (search rules, c.loop-edge.invariant.1)

pub returns-in_default-grown : goal.returns-in_default-grown
returns-in_default-grown c =
    let a = c.args in
    let l = c.loop-edge in
    more-stops a.index.now a.reference a.edges.now l.path l.edge-index l.invariant c.loop-edge-test.true (replayed c.one_more-grown.result c.one_more-grown.new.path) c.one_more-grown.ensures (c.in_default-grown.not-Ok tt)

pub loop-edge-preserved : goal.loop-edge-preserved
loop-edge-preserved c =
    let a = c.args in
    let l = c.loop-edge in
    more-goes a.index.now a.reference a.edges.now l.path l.edge-index l.invariant c.loop-edge-test.true (replayed c.one_more-grown.result c.one_more-grown.new.path) c.one_more-grown.ensures c.in-Ok-grown.is

pub returns : goal.returns
returns c =
    let a = c.args in
    let l = c.loop-edge in
    all-replayed a.index.now a.reference a.edges.now l.path l.edge-index l.invariant (omega (arith, c.loop-edge-test.false))
