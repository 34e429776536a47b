-- `flow_directory::directory::resolve_in`: the refusal of the image, or the flow on the graph that it holds.
use Rattle.semantics.specs.Entries.{graph_in, seen_in, key_of, flow_request_of}
use Rattle.semantics.specs.Image.{symbol_bytes}
use Rattle.semantics.specs.Hidden.{sees, seen}
use Rattle.storage.specs.Index.Use.{answer-accepted, refused-seen, accepted-seen}
use Rattle.path.specs.Replays.Calls.{seen-jump}
use Rattle.flow_directory.specs.Flows.Laws.{image-refused, image_does}
use Rattle.flow_directory.proofs.directory.resolve_in.Goals as goal

pub resolve_loaded-requires : goal.resolve_loaded-requires
resolve_loaded-requires c = let a = c.args in
    let z = answer-accepted (graph_in a.image.now) c.in-Ok.field-0 c.load_seen.ensures.value c.in-Ok.is in
    let see = sees a.visible.now in
    record { graph = seen see z.graph; loaded = c.load_seen.ensures.loaded z.graph z.is; jump = seen-jump see symbol_bytes a.image.now z.graph z.is }

pub returns-in-Err : goal.returns-in-Err
returns-in-Err c = let a = c.args in
    image-refused a.asked.rows.now (flow_request_of (key_of a.asked.key.isin.now a.asked.key.tranche a.asked.key.leg) a.asked.order a.asked.limits a.work.now a.res.now) (seen_in a.image.now a.visible.now) c.in-Err.r
    (refused-seen (sees a.visible.now) (graph_in a.image.now) c.in-Err.r c.load_seen.ensures.value c.in-Err.is)
    c.turn_back.result c.turn_back.ensures.0 c.turn_back.new.work c.turn_back.new.res c.turn_back.ensures.1 c.turn_back.ensures.2

pub returns-in-Ok : goal.returns-in-Ok
returns-in-Ok c = let a = c.args in
    let z = answer-accepted (graph_in a.image.now) c.in-Ok.field-0 c.load_seen.ensures.value c.in-Ok.is in
    let see = sees a.visible.now in
    image_does a.asked.rows.now (flow_request_of (key_of a.asked.key.isin.now a.asked.key.tranche a.asked.key.leg) a.asked.order a.asked.limits a.work.now a.res.now) (seen_in a.image.now a.visible.now) (seen see z.graph) (accepted-seen see z.is) c.resolve_loaded.result
    c.resolve_loaded.new.work c.resolve_loaded.new.res
    (c.resolve_loaded.ensures (record { graph = seen see z.graph; loaded = c.load_seen.ensures.loaded z.graph z.is; jump = seen-jump see symbol_bytes a.image.now z.graph z.is }))
