use Rattle.semantics.specs.Entries.{request_of}
use Rattle.semantics.specs.Hidden.{sees}
use Rattle.stitching.specs.StitchedAnswers.{stitched_of}
use Rattle.stitching.specs.StitchedAnswers.Laws.{kept-replays}
use Rattle.stitching.proofs.stitched.search_loaded.Goals as goal

pub conclude-requires : goal.conclude-requires
conclude-requires c =
    let a = c.args in
    let request_of' = request_of a.asked.order a.asked.limits a.work.now a.res.now a.asked.reference in
    let p = c.requires in
    (record {
      graph = p.0.graph;
      loaded = p.0.loaded;
      answer = stitched_of (sees a.visible.now) p.0.graph a.words.now request_of';
      ends = c.attempt-driven.ensures p.0.graph p.0.loaded;
      good = kept-replays (sees a.visible.now) p.0.graph a.words.now request_of';
    })

pub returns : goal.returns
returns c =
    let attempt = c.attempt-driven in
    let a = c.args in
    let request_of' = request_of a.asked.order a.asked.limits a.work.now a.res.now a.asked.reference in
    λ g l j.
    c.conclude.ensures (record {
      graph = g;
      loaded = l;
      answer = stitched_of (sees a.visible.now) g a.words.now request_of';
      ends = attempt.ensures g l;
      good = kept-replays (sees a.visible.now) g a.words.now request_of';
    }) j request_of' attempt.auto.work attempt.auto.res
