use Rattle.partial_trial.specs.Seeds.Laws.{start-begins, start-pushes, started}
use Rattle.partial_trial.proofs.seed.push_start.Goals as goal

pub begin-requires : goal.begin-requires
begin-requires c = let p = c.requires in start-begins p

pub push-requires : goal.push-requires
push-requires c =
    let begin = c.begin in
    let p = c.requires in
    start-pushes p begin.new.item begin.auto.item

pub returns : goal.returns
returns c = let a = c.args in λ v. started v a.n c.begin.ensures c.push.ensures
