-- `Frontier::pop` meets its contract: each order takes from its own end.
use Rattle.path_frontier.specs.Frontier.Laws.{pops-front, pops-back}
use Rattle.path_frontier.proofs.frontier.Frontier.pop.Goals as goal

pub returns-in-BreadthFirst : goal.returns-in-BreadthFirst
returns-in-BreadthFirst c =
    let a = c.args in
    let taken = c.pop_front in
    pops-front a.self a.work.now taken.new.into taken.result c.in-BreadthFirst.is taken.ensures

pub returns-in-DepthFirst : goal.returns-in-DepthFirst
returns-in-DepthFirst c =
    let a = c.args in
    let taken = c.pop_back in
    pops-back a.self a.work.now taken.new.into taken.result taken.new.work c.in-DepthFirst.is taken.ensures
