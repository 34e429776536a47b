use mathlib.Core.Path.{◌≡◌}
use lib.ListN.{length}
use Rattle.stitching_trial.specs.Trials.{Appends}
use Rattle.stitching_trial.specs.Trials.Laws.{Mid}
use Rattle.stitching_trial.proofs.trial.append_all.Given as goal

abbrev pub invariant-loop-i : goal.invariant-loop-i
invariant-loop-i l = (length l.steps ≡ length l.initial.steps) × ((t : Appends l.index l.initial.steps l.k l.edges) → Mid t l.steps l.i)
