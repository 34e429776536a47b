-- `stitching::stitched::search_in`: the refusal of the image, or the search on the graph that it holds.
use mathlib.Core.Path.{sym, ◌∙◌}
use Rattle.semantics.specs.Entries.{graph_in, request_of}
use Rattle.semantics.specs.Image.{symbol_bytes}
use Rattle.semantics.specs.Hidden.{sees, seen}
use Rattle.semantics.proofs.Theorems.Hidden.Laws.{seen-nodes, seen-files}
use Rattle.storage.specs.Index.Use.{answer-accepted, refused-seen, accepted-seen}
use Rattle.path.specs.Replays.Calls.{seen-jump}
use Rattle.stitching.specs.StitchedAnswers.Laws.{image-refused, image_does}
use Rattle.stitching.proofs.stitched.search_in.Goals as goal

pub search_database-requires : goal.search_database-requires
search_database-requires c =
    let load-seen = c.load_seen in
    let a = c.args in
    let z = answer-accepted (graph_in a.image.now) c.in-Ok.counts load-seen.ensures.value
    c.in-Ok.is in
    record {
      holds = record { graph = seen (sees a.visible.now) z.graph; loaded = load-seen.ensures.loaded z.graph z.is };
      node-count = z.node-count ∙ sym (seen-nodes (sees a.visible.now) z.graph);
      file-count = z.file-count ∙ sym (seen-files (sees a.visible.now) z.graph);
    }

pub returns-in-Err : goal.returns-in-Err
returns-in-Err c =
    let load-seen = c.load_seen in
    let a = c.args in
    image-refused (sees a.visible.now) a.asked.reply a.words.now (request_of a.asked.order a.asked.limits a.work.now a.res.now a.asked.reference) c.in-Err.r
    (refused-seen (sees a.visible.now) (graph_in a.image.now) c.in-Err.r load-seen.ensures.value c.in-Err.is)
    c.zero.ensures c.zero-in-Err.ensures

pub returns-in-Ok : goal.returns-in-Ok
returns-in-Ok c =
    let search-database = c.search_database in
    let load-seen = c.load_seen in
    let a = c.args in
    let z = answer-accepted (graph_in a.image.now) c.in-Ok.counts load-seen.ensures.value
    c.in-Ok.is in
    let see = sees a.visible.now in
    image_does see a.asked.reply a.words.now (request_of a.asked.order a.asked.limits a.work.now a.res.now a.asked.reference) (seen see z.graph) (accepted-seen see z.is)
    search-database.result search-database.new.work search-database.new.res
    (search-database.ensures (seen see z.graph) (load-seen.ensures.loaded z.graph z.is) (seen-jump see symbol_bytes a.image.now z.graph z.is)
    (z.node-count ∙ sym (seen-nodes see z.graph)) (z.file-count ∙ sym (seen-files see z.graph)))
