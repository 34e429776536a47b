-- `direct_search::direct::search_in`: the refusal of the image, or the search on the graph that it holds.
use Rattle.semantics.specs.Entries.{graph_in, request_of}
use Rattle.semantics.specs.Image.{symbol_bytes}
use Rattle.semantics.specs.Hidden.{sees, seen}
use Rattle.storage.specs.Index.Use.{answer-accepted, refused-seen, accepted-seen}
use Rattle.path.specs.Replays.Calls.{seen-jump}
use Rattle.direct_search.specs.DirectAnswers.Laws.{image-refused, image_does}
use Rattle.direct_search.proofs.direct.search_in.Goals as goal

pub search_loaded-requires : goal.search_loaded-requires
search_loaded-requires c =
    let load-seen = c.load_seen in
    let a = c.args in
    let z = answer-accepted (graph_in a.image.now) c.in-Ok.field-0
    load-seen.ensures.value c.in-Ok.is in
    record { graph = seen (sees a.visible.now) z.graph; loaded = load-seen.ensures.loaded z.graph z.is }

pub returns-in-Err : goal.returns-in-Err
returns-in-Err c =
    let load-seen = c.load_seen in
    let a = c.args in
    image-refused a.reply (request_of a.order a.limits a.work.now a.res.now a.reference) c.in-Err.r
    (refused-seen (sees a.visible.now) (graph_in a.image.now) c.in-Err.r load-seen.ensures.value c.in-Err.is)
    c.zero.ensures c.zero-in-Err.ensures

pub returns-in-Ok : goal.returns-in-Ok
returns-in-Ok c =
    let search-loaded = c.search_loaded in
    let load-seen = c.load_seen in
    let a = c.args in
    let z = answer-accepted (graph_in a.image.now) c.in-Ok.field-0
    load-seen.ensures.value c.in-Ok.is in
    let see = sees a.visible.now in
    image_does a.reply (request_of a.order a.limits a.work.now a.res.now a.reference) (seen see z.graph) (accepted-seen see z.is) search-loaded.result
    search-loaded.new.work search-loaded.new.res
    (search-loaded.ensures (seen see z.graph) (load-seen.ensures.loaded z.graph z.is) (seen-jump see symbol_bytes a.image.now z.graph z.is))
