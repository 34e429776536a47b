use Rattle.semantics.specs.Entries.{request_of}
use Rattle.direct_search.specs.DirectAnswers.{direct_of}
use Rattle.direct_search.specs.DirectAnswers.Laws.{kept-replays}
use Rattle.direct_search.proofs.direct.search_loaded.Goals as goal

pub conclude-requires : goal.conclude-requires
conclude-requires c =
    let a = c.args in
    let request_of' = request_of a.order a.limits a.work.now a.res.now a.reference in
    let p = c.requires in
    (record {
      graph = p.graph;
      loaded = p.loaded;
      answer = direct_of p.graph request_of';
      ends = c.attempt-driven.ensures p.graph p.loaded;
      good = kept-replays p.graph request_of';
    })

pub returns : goal.returns
returns c =
    let attempt = c.attempt-driven in
    let a = c.args in
    let request_of' = request_of a.order a.limits a.work.now a.res.now a.reference in
    λ g l j.
    c.conclude.ensures
    (record { graph = g; loaded = l; answer = direct_of g request_of'; ends = attempt.ensures g l; good = kept-replays g request_of' }) j request_of'
    attempt.auto.work attempt.auto.res
