use mathlib.Core.Path.{◌≡◌}
use lib.ListN.{drop}
use Rattle.semantics.specs.Lists.{shares}
use Rattle.stitching_trial.proofs.trial.shares.Given as goal

abbrev pub invariant-loop-edge : goal.invariant-loop-edge
invariant-loop-edge l = shares (drop l.edge-index l.edges) l.path ≡ shares l.edges l.path
