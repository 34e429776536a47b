-- `Frontier::push` meets its contract: the slot behind those that wait is written, where one is free.
use native.Mathlib.Omega.{arith}
use Rattle.path_frontier.specs.Frontier.Laws.{pushes-done}
use Rattle.path_frontier.proofs.frontier.Frontier.push.Goals as goal

pub returns-then-self : goal.returns-then-self
returns-then-self c =
    let a = c.args in
    let p = c.requires in
    let place = c.around-at in
    let written = c.write_slot in
    pushes-done a.self a.work.now p.0 a.words.now p.1 place.result written.new.area (omega (arith, c.if-self.true)) place.ensures.0 place.ensures.1 written.ensures
