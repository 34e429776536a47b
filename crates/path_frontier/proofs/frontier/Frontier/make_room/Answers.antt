-- `make_room` meets its contract: the slots stay as they are, or are laid out anew.
use native.Mathlib.Omega.{arith}
use Rattle.path_frontier.specs.Frontier.Widening.{widens-none}
use Rattle.path_frontier.proofs.frontier.Frontier.make_room.Goals as goal

pub returns-then-words-self : goal.returns-then-words-self
returns-then-words-self c =
    let p = c.requires in
    record { longer = omega arith; enough = omega (arith, c.if-words-self.true); most = p.1.longer; widens = widens-none p.0 }
