-- `flow_directory::rows::look_up`: the first i rows ascend, and which of them has the key.
use Prim.Native.Nat.{◌≤◌, ◌/◌}
use mathlib.Core.Path.{◌≡◌}
use mathlib.Core.Bool.{true}
use lib.ListN.{length}
use Rattle.semantics.specs.Limits.{row_bytes}
use Rattle.semantics.specs.Entries.{key_of}
use Rattle.semantics.specs.Directory.{ascends, found_in}
use Rattle.flow_directory.specs.Keys.{given}
use Rattle.flow_directory.proofs.rows.look_up.Given as goal

abbrev pub invariant-loop-i : goal.invariant-loop-i
invariant-loop-i l = (l.i ≤ length l.rows / row_bytes) × (ascends l.rows l.i ≡ true) × (l.found ≡ given (found_in l.rows (key_of l.sought.isin.now l.sought.tranche l.sought.leg) l.i))
