-- `is_copy` meets its contract: what is left to look at decides.
use mathlib.Core.Path.{◌≡◌}
use Prim.Native.Nat.{◌≤◌}
use lib.ListN.{drop}
use Rattle.semantics.specs.Limits.{slot_length}
use Rattle.reply.specs.EdgeLists.{has_list}
use Rattle.reply.specs.ResultSlots.{edges_at, lists_at}
use Rattle.reply.proofs.copies.is_copy.Given as goal

abbrev pub invariant-loop-j : goal.invariant-loop-j
invariant-loop-j l = (l.j ≤ l.seen) × (has_list (edges_at slot_length l.i l.res) (drop l.j (lists_at slot_length l.seen l.res)) ≡ has_list (edges_at slot_length l.i l.res) (lists_at slot_length l.seen l.res))
