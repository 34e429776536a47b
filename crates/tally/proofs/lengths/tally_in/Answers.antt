-- `tally::lengths::tally_in`: the refusal of the image, or the tally on the graph that it holds.
use Rattle.semantics.specs.Entries.{graph_in}
use Rattle.semantics.specs.Hidden.{sees, seen}
use Rattle.storage.specs.Index.Use.{answer-accepted, refused-seen, accepted-seen}
use Rattle.tally.specs.Tallies.Laws.{image-refused, image_does}
use Rattle.tally.proofs.lengths.tally_in.Goals as goal

pub tally_loaded-requires : goal.tally_loaded-requires
tally_loaded-requires c =
    let a = c.args in
    let z = answer-accepted (graph_in a.image.now) c.in-Ok.field-0 c.load_seen.ensures.value c.in-Ok.is in
    record { graph = seen (sees a.visible.now) z.graph; loaded = c.load_seen.ensures.loaded z.graph z.is }

pub returns-in-Err : goal.returns-in-Err
returns-in-Err c =
    let a = c.args in
    image-refused a.work.now a.reference c.refused.result c.zero.new.area c.in-Err.r (refused-seen (sees a.visible.now) (graph_in a.image.now) c.in-Err.r c.load_seen.ensures.value c.in-Err.is)
    c.refused.ensures.0 c.refused.ensures.1 c.zero.ensures

pub returns-in-Ok : goal.returns-in-Ok
returns-in-Ok c =
    let a = c.args in
    let z = answer-accepted (graph_in a.image.now) c.in-Ok.field-0 c.load_seen.ensures.value c.in-Ok.is in
    let see = sees a.visible.now in
    image_does a.work.now a.reference c.tally_loaded.result c.tally_loaded.new.work (seen see z.graph) (accepted-seen see z.is) (c.tally_loaded.ensures (seen see z.graph) (c.load_seen.ensures.loaded z.graph z.is))
