use Rattle.semantics.specs.Entries.{request_of}
use Rattle.semantics.specs.Hidden.{sees}
use Rattle.stitching.specs.StitchedAnswers.Laws.{checked-readable, database-refused, database-does}
use Rattle.stitching.proofs.stitched.search_database.Goals as goal

pub search_loaded-requires : goal.search_loaded-requires
search_loaded-requires c =
    let a = c.args in
    let p = c.requires in (
      p.holds,
      checked-readable p.holds.graph a.words.now
          (c.check.ensures p.holds.graph p.node-count p.file-count) p.holds.loaded
          c.in-Ok.is,
    )

pub returns-in-Err : goal.returns-in-Err
returns-in-Err c =
    let check = c.check in
    let a = c.args in
    λ g l j n f.
    database-refused g a.words.now (check.ensures g n f) (sees a.visible.now) a.asked.reply
    (request_of a.asked.order a.asked.limits a.work.now a.res.now a.asked.reference) c.in-Err.r c.in-Err.is
    c.zero.ensures c.zero-in-Err.ensures

pub returns-in-Ok : goal.returns-in-Ok
returns-in-Ok c =
    let search-loaded = c.search_loaded in
    let check = c.check in
    let a = c.args in
    λ g l j n f.
    database-does g a.words.now (check.ensures g n f) (sees a.visible.now) a.asked.reply
    (request_of a.asked.order a.asked.limits a.work.now a.res.now a.asked.reference) c.in-Ok.is search-loaded.result
    search-loaded.new.work search-loaded.new.res (search-loaded.ensures g l j)
