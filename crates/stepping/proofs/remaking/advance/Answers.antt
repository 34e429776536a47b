-- `stepping::remaking::advance`: the step that was judged is made again.
use Rattle.stepping.specs.Judged.Remaking.{behind-ready, accepted-edge, accepted-node, accepted-again}
use Rattle.stepping.proofs.remaking.advance.Goals as goal

pub remake-requires : goal.remake-requires
remake-requires c =
    let a = c.args in
    let p = c.requires in
    (p.0, accepted-edge a.index.now a.steps.now a.k a.edge p.3, accepted-node a.index.now a.steps.now a.k a.edge p.3, behind-ready a.steps.now a.k p.1 p.2 c.get_step-last.result c.get_step-last.ensures)

pub returns : goal.returns
returns c =
    let remake = c.remake in
    let get-step = c.get_step-last in
    let a = c.args in
    λ v.
    accepted-again a.index.now a.steps.now a.k a.edge v get-step.result get-step.ensures remake.result remake.ensures.0
    remake.new.steps remake.ensures.1
