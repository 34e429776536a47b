-- `widen` meets its contract: the frontier's slots become longer, and the frame says so.
use Rattle.partial_state.specs.Extractions.Laws.{widen-given, widened-grows}
use Rattle.partial_state.proofs.extraction.ExtractionFrame.widen.Goals as goal

pub widen-requires : goal.widen-requires
widen-requires c =
    let a = c.args in
    let p = c.requires in
    let w = widen-given a.self a.extraction c.frontier.ensures p.1 p.0 in
    (w.0, w.1, p.2)

pub returns : goal.returns
returns c =
    let a = c.args in
    widened-grows a.self a.extraction c.frontier.ensures c.widen.ensures c.with_slot.ensures
