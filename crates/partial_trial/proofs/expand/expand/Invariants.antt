-- `partial_trial::expand::expand`: edge by edge.
use mathlib.Core.Path.{◌≡◌}
use lib.ListN.{length}
use Rattle.semantics.specs.Limits.{looked_before}
use Rattle.storage.specs.Index.{node_row}
use Rattle.storage.specs.Index.Use.{left}
use Rattle.partial_state.specs.Extractions.{at}
use Rattle.partial_trial.specs.Expansions.{sought_from, Expanding}
use Rattle.partial_trial.specs.Expansions.Edges.{Mid}
use Rattle.partial_trial.proofs.expand.expand.Given as goal

abbrev pub invariant-loop-link : goal.invariant-loop-link
invariant-loop-link l = (length l.item ≡ length l.initial.item)
    × (length l.work ≡ length l.initial.work)
    × (length l.words ≡ length l.initial.words)
    × (l.own ≡ sought_from l.filing.file (node_row l.index l.ends.end))
    × ((v : Expanding looked_before l.index l.filing l.ends l.k l.initial.item (at l.frame l.initial.on) l.initial.work l.initial.words) → Mid v (at l.frame l.on) l.item l.work l.words l.link)

abbrev pub decreases-loop-link : goal.decreases-loop-link
decreases-loop-link l = left l.index l.link
