-- `stitching::stitched::search_kept`: the start, then the links and the rounds.
use mathlib.Core.Path.{◌≡◌, refl}
use lib.ListN.{replicate}
use Rattle.semantics.specs.Limits.{slot_length}
use Rattle.semantics.specs.Entries.{request_of}
use borrow.Author.Rules.{rules}
use Rattle.std.specs.Prelude.{Err}
use Rattle.search_rounds.specs.Starts.{started-driving, started-driven, started-refused}
use Rattle.semantics.specs.Hidden.{sees}
use Rattle.stitching.specs.StitchedAnswers.{tries_in}
use Rattle.stitching.specs.StitchedAnswers.Laws.{stitched-ends}
use Rattle.stitching.proofs.stitched.search_kept.Goals as goal

pub start-requires : goal.start-requires
start-requires c = let p = c.requires in (p.0, refl, refl, p.2)

pub link-requires : goal.link-requires
link-requires c = (c.requires.1, refl)

pub drive-requires : goal.drive-requires
drive-requires c =
    let start = c.start in
    let a = c.args in
    let p = c.requires in (
      record { see = sees a.visible.now; linked = c.link.ensures },
      started-driving (tries_in (sees a.visible.now) a.words.now) a.index.now p.0.graph a.asked.order a.asked.limits a.work.now a.res.now a.asked.reference
          (replicate slot_length 0) start.new.steps start.new.work a.res.now
          (start.ensures.started (tries_in (sees a.visible.now) a.words.now) p.0.graph p.0.loaded) c.in_ok-begun.begun c.in_ok-begun.was,
    )

pub returns : goal.returns
returns c =
    let drive = c.drive in
    let start = c.start in
    let a = c.args in
    λ g l.
    let words = start.ensures.started (tries_in (sees a.visible.now) a.words.now) g l in
    stitched-ends (sees a.visible.now) g a.words.now (request_of a.asked.order a.asked.limits a.work.now a.res.now a.asked.reference) drive.result
    drive.new.res (started-driven (tries_in (sees a.visible.now) a.words.now) a.index.now g a.asked.order a.asked.limits a.work.now
    a.res.now a.asked.reference (replicate slot_length 0) start.new.steps start.new.work a.res.now words
    c.in_ok-begun.begun c.in_ok-begun.was drive.result drive.new.res
    (drive.ensures (sees a.visible.now) c.link.ensures (started-driving (tries_in (sees a.visible.now) a.words.now) a.index.now g a.asked.order a.asked.limits a.work.now a.res.now a.asked.reference
    (replicate slot_length 0) start.new.steps start.new.work a.res.now words c.in_ok-begun.begun
    c.in_ok-begun.was)))

pub returns-in_err-begun : goal.returns-in_err-begun
returns-in_err-begun c =
    let start = c.start in
    let a = c.args in
    let y = c.in_err-begun.field-0.0 in
    let e : c.from_residual.result ≡ Err y = search rules in
    λ g l.
    rw e
    (stitched-ends (sees a.visible.now) g a.words.now (request_of a.asked.order a.asked.limits a.work.now a.res.now a.asked.reference)
    (Err y) a.res.now
    (started-refused (tries_in (sees a.visible.now) a.words.now) a.index.now g a.asked.order a.asked.limits a.work.now a.res.now a.asked.reference
    (replicate slot_length 0) start.new.steps start.new.work a.res.now
    (start.ensures.started (tries_in (sees a.visible.now) a.words.now) g l) y c.in_err-begun.was a.res.now))
