-- `path::shadows::shadows`: one pair of edges, and what is left behind it.
use Rattle.std.proofs.Common.{◌∙◌}
use Rattle.std.proofs.lemmas.Slice.Zip.{Zip-more, either_empty_from_Zip}
use Rattle.storage.specs.Index.{edge_row}
use Rattle.path.specs.Shadows.Laws.{walk-decided, walk-onward, walk-over}
use Rattle.path.proofs.shadows.shadows.Goals as goal

pub returns-in-Some-meet_edges : goal.returns-in-Some-meet_edges
returns-in-Some-meet_edges c =
    let z = Zip-more c.loop-x.x-iterator c.next.new.self c.next.result (c.in-Some.x, c.in-Some.y) c.in-Some.is c.next.ensures.steps in
    walk-decided (edge_row c.args.index.now) z.0 z.1 c.meet_edges.ensures c.in-Some-meet_edges.decided c.in-Some-meet_edges.is ∙ c.loop-x.invariant

pub loop-x-preserved : goal.loop-x-preserved
loop-x-preserved c =
    let z = Zip-more c.loop-x.x-iterator c.next.new.self c.next.result (c.in-Some.x, c.in-Some.y) c.in-Some.is c.next.ensures.steps in
    walk-onward (edge_row c.args.index.now) z.0 z.1 c.meet_edges.ensures c.in_default.is ∙ c.loop-x.invariant

pub returns : goal.returns
returns c = walk-over (edge_row c.args.index.now) (either_empty_from_Zip c.loop-x.x-iterator c.next.new.self c.next.result c.in-None.is c.next.ensures.steps) ∙ c.loop-x.invariant
