-- `Frontier::pop_front` meets its contract: the first slot is read, and the ring goes on behind it.
use mathlib.Core.Path.{sym, subst}
use Rattle.path_frontier.specs.declared.frontier.Frontier.{Frontier}
use Rattle.path_frontier.specs.Frontier.{Front}
use Rattle.path_frontier.specs.Frontier.Held.{front-is}
use Rattle.path_frontier.proofs.frontier.Frontier.pop_front.Goals as goal

pub returns : goal.returns
returns c =
    let a = c.args in
    let p = c.requires in
    let next = c.around in
    let read = c.read_slot in
    subst (λ (r : Frontier). Front a.self a.work.now read.new.into r) (sym c.taken-next.ensures)
    (front-is a.self a.work.now p.0 next.result read.new.into p.3 p.2 next.ensures.0 next.ensures.1 read.ensures)
