-- `close_up`: of the first i records the live ones stand in front, and their numbers in the list.
use mathlib.Core.Path.{◌≡◌}
use Prim.Native.Nat.{◌≤◌}
use lib.ListN.{length}
use Rattle.semantics.specs.Limits.{base}
use Rattle.semantics.specs.Database.{used_in}
use Rattle.compaction.specs.Moves.{Closed}
use Rattle.compaction.proofs.compact.close_up.Given as goal

abbrev pub invariant-loop-i : goal.invariant-loop-i
invariant-loop-i l = (l.i ≤ l.used) × (l.used ≡ used_in l.initial.words) × (length l.words ≡ length l.initial.words) × (length l.list ≡ length l.initial.list) × Closed base l.i l.to l.initial.words l.initial.list l.words l.list
