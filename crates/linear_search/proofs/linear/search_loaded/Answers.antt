use Rattle.linear_search.specs.LinearAnswers.Laws.{over-lists, over-does, refused-does}
use Rattle.linear_search.proofs.linear.search_loaded.Goals as goal

pub finish-paths-requires : goal.finish-paths-requires
finish-paths-requires c =
    let attempt = c.attempt in
    let a = c.args in
    let p = c.requires in record {
      holds_graph = p;
      lists = over-lists a.reply a.limits a.res.now a.reference attempt.new.res attempt.auto.res p.loaded
          (attempt.ensures p.graph p.loaded) c.in-Ok.state c.in-Ok.is;
    }

pub returns-in-Ok : goal.returns-in-Ok
returns-in-Ok c =
    let finish = c.finish-paths in
    let attempt = c.attempt in
    let a = c.args in
    λ g l j.
    over-does a.reply a.limits a.res.now a.reference attempt.new.res attempt.auto.res l
    (attempt.ensures g l) c.in-Ok.state c.in-Ok.is j finish.result finish.new.res finish.auto.res
    finish.ensures c.stats.ensures

pub returns-in-Err : goal.returns-in-Err
returns-in-Err c =
    let attempt = c.attempt in
    let a = c.args in
    λ g l j.
    refused-does a.reply a.limits a.res.now a.reference attempt.new.res attempt.auto.res l
    (attempt.ensures g l) c.in-Err.r c.in-Err.is c.zero.ensures
