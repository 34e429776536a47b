-- `finding::name::find_in`: the refusal of the image, or the name on the graph that it holds.
use mathlib.Core.Path.{sym, ◌∙◌}
use Rattle.semantics.specs.Entries.{graph_in, seen_in, name_request_of}
use Rattle.semantics.proofs.Theorems.Hidden.Laws.{seen-nodes}
use Rattle.semantics.specs.Hidden.{sees, seen}
use Rattle.storage.specs.Index.Use.{answer-accepted, refused-seen, accepted-seen}
use Rattle.finding.specs.Names.Laws.{image-refused, image_does}
use Rattle.finding.proofs.name.find_in.Goals as goal

pub find_loaded-requires : goal.find_loaded-requires
find_loaded-requires c =
    let load-seen = c.load_seen in
    let a = c.args in
    let z = answer-accepted (graph_in a.image.now) c.in-Ok.counts
    load-seen.ensures.value c.in-Ok.is in
    record { holds = record { graph = seen (sees a.visible.now) z.graph; loaded = load-seen.ensures.loaded z.graph z.is }; node-count = z.node-count ∙ sym (seen-nodes (sees a.visible.now) z.graph) }

pub returns-in-Err : goal.returns-in-Err
returns-in-Err c =
    let zero2 = c.zero-in-Err in
    let zero = c.zero in
    let load-seen = c.load_seen in
    let a = c.args in
    image-refused (name_request_of a.limit a.work.now a.res.now a.node) (seen_in a.image.now a.visible.now) c.in-Err.r
    (refused-seen (sees a.visible.now) (graph_in a.image.now) c.in-Err.r load-seen.ensures.value c.in-Err.is) zero.new.area
    zero2.new.area zero.ensures zero2.ensures

pub returns-in-Ok : goal.returns-in-Ok
returns-in-Ok c =
    let find-loaded = c.find_loaded in
    let load-seen = c.load_seen in
    let a = c.args in
    let z = answer-accepted (graph_in a.image.now) c.in-Ok.counts
    load-seen.ensures.value c.in-Ok.is in
    let see = sees a.visible.now in
    image_does (name_request_of a.limit a.work.now a.res.now a.node) (seen_in a.image.now a.visible.now) (seen see z.graph) (accepted-seen see z.is) find-loaded.result
    find-loaded.new.work find-loaded.new.res
    (find-loaded.ensures (seen see z.graph) (load-seen.ensures.loaded z.graph z.is) (z.node-count ∙ sym (seen-nodes see z.graph)))
