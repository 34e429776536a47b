use native.Mathlib.Omega.{arith}
use Rattle.stitching_trial.specs.Links.Laws.{next_known}
use Rattle.stitching_trial.proofs.links.next.Goals as goal

pub returns : goal.returns
returns c = let a = c.args in next_known a.links.now a.i (omega arith)
