-- `widen_by` meets its contract: the slots are laid out anew, and what waits stays.
use mathlib.Core.Path.{refl}
use Rattle.path_frontier.specs.Frontier.{widened}
use Rattle.path_frontier.specs.Frontier.Widening.{widens}
use Rattle.path_frontier.proofs.frontier.Frontier.widen_by.Goals as goal

pub returns : goal.returns
returns c =
    let widen-slots = c.widen_slots in
    let in_use = c.in_use-used in
    let a = c.args in
    let p = c.requires in
    widens p.0 p.1 in_use.result in_use.ensures.0 in_use.ensures.1 widen-slots.new.area widen-slots.auto.area
    widen-slots.ensures {r = widened a.self a.words} refl
