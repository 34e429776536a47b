use Rattle.std.proofs.Common.{◌≤◌, length}
use Rattle.cases.proofs.replay.Given as goal

abbrev pub invariant-loop-tag : goal.invariant-loop-tag
invariant-loop-tag g l = (l.lent.bytes ≤ length l.image) × (l.lent.words ≤ length l.words)

abbrev pub decreases-loop-tag : goal.decreases-loop-tag
decreases-loop-tag g l = length l.rest
