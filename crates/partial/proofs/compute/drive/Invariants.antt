-- `drive` meets its contract: the run from here is the run from the start, whatever words a slot has.
use Prim.Native.Nat.{◌-◌}
use mathlib.Core.Path.{◌≡◌}
use lib.ListN.{length}
use Rattle.semantics.specs.Limits.{max_expansions}
use Rattle.partial_state.specs.Extractions.{at, slotted_by}
use Rattle.partial.specs.Rounds.{Driving}
use Rattle.partial.specs.Rounds.Laws.{Turning}
use Rattle.partial.proofs.compute.drive.Given as goal

abbrev pub invariant-loop-filing : goal.invariant-loop-filing
invariant-loop-filing l = (length l.item ≡ length l.initial.item) × (length l.work ≡ length l.initial.work) × (length l.words ≡ length l.initial.words)
    × ((v : Driving l.index l.filing l.initial.item (at l.frame l.initial.on) l.initial.work l.initial.words) → Turning v (at (slotted_by l.slot l.frame) l.on) l.work l.words)

abbrev pub decreases-loop-filing : goal.decreases-loop-filing
decreases-loop-filing l = max_expansions - l.on.expanded
