-- `is_ascending` meets its contract: the first i slots ascend.
use Prim.Native.Nat.{◌≤◌}
use Rattle.semantics.specs.Limits.{slot_length}
use Rattle.reply.specs.Ascending.{Ascending}
use Rattle.reply.proofs.ascending.is_ascending.Given as goal

abbrev pub invariant-loop-i : goal.invariant-loop-i
invariant-loop-i l = (1 ≤ l.i) × Ascending slot_length l.i l.res
