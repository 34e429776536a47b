-- `Frontier::pop_back` meets its contract: the newest are turned round, and the last slot is read.
use mathlib.Core.Path.{sym, subst}
use Rattle.path_frontier.specs.declared.frontier.Frontier.{Frontier}
use Rattle.path_frontier.specs.Frontier.{Back}
use Rattle.path_frontier.specs.Frontier.Held.{back_is}
use Rattle.path_frontier.proofs.frontier.Frontier.pop_back.Goals as goal

pub returns : goal.returns
returns c =
    let a = c.args in
    let p = c.requires in
    let turned = c.reverse_slots in
    let read = c.read_slot in
    subst (λ (r : Frontier). Back a.self a.work.now read.new.into r turned.new.area) (sym c.taken-next.ensures)
    (back_is a.self a.work.now p.0 read.new.into turned.new.area p.3 p.2 turned.ensures read.ensures)
