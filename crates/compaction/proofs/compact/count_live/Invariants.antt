-- `count_live`: so many of the first i records are live.
use mathlib.Core.Path.{◌≡◌}
use Prim.Native.Nat.{◌≤◌}
use lib.ListN.{length}
use Rattle.semantics.specs.Limits.{base}
use Rattle.semantics.specs.Database.{used_in}
use Rattle.semantics.specs.Database.Compaction.{live_of}
use Rattle.compaction.specs.Moves.{first_records}
use Rattle.compaction.proofs.compact.count_live.Given as goal

abbrev pub invariant-loop-i : goal.invariant-loop-i
invariant-loop-i l = (l.i ≤ l.used) × (l.n ≤ l.i) × (l.used ≡ used_in l.words) × (l.n ≡ length (live_of (first_records base l.i l.words)))
