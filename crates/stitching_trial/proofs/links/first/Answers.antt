use native.Mathlib.Omega.{arith}
use mathlib.Core.Path.{refl}
use Rattle.stitching_trial.specs.Links.Laws.{first-known, first-none}
use Rattle.stitching_trial.proofs.links.first.Goals as goal

pub returns-then-node-lt-NODES : goal.returns-then-node-lt-NODES
returns-then-node-lt-NODES c = let a = c.args in first-known a.links.now a.node {v = _} (omega (arith, c.if-node-lt-NODES.true)) refl

pub returns-else-node-lt-NODES : goal.returns-else-node-lt-NODES
returns-else-node-lt-NODES c = let a = c.args in first-none a.links.now a.node (omega (arith, c.if-node-lt-NODES.false))
