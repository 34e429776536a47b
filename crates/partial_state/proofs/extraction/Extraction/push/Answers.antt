use Rattle.partial_state.specs.Extractions.Laws.{push_goes, push-stops, frontier-given}
use Rattle.partial_state.proofs.extraction.Extraction.push.Goals as goal

pub push-pushed-requires : goal.push-pushed-requires
push-pushed-requires c = let a = c.args in frontier-given a.frame a.self c.frontier.ensures a.work.now a.item.now c.requires

pub returns-in_default : goal.returns-in_default
returns-in_default c = let a = c.args in push-stops a.frame a.self c.frontier.ensures c.push-pushed.ensures c.in_default.is

pub returns : goal.returns
returns c =
    let frontier = c.frontier in
    let a = c.args in
    push_goes a.frame a.self frontier.ensures c.push-pushed.ensures
    c.in-Some.next c.in-Some.is c.with_frontier.ensures
