-- `drop_compared` meets its contract: the first i lists without their copies stand in front.
use mathlib.Core.Path.{◌≡◌}
use mathlib.Core.List.{[]}
use Prim.Native.Nat.{◌≤◌}
use lib.ListN.{length, take}
use Rattle.semantics.specs.Limits.{slot_length}
use Rattle.reply.specs.EdgeLists.{distinct_lists}
use Rattle.reply.specs.ResultSlots.{Lists, Closing}
use Rattle.reply.proofs.copies.drop_compared.Given as goal

abbrev pub invariant-loop-i : goal.invariant-loop-i
invariant-loop-i l = (l.i ≤ l.kept) × (length l.res ≡ length l.initial.res) × ((k : Lists slot_length l.kept l.initial.res) → Closing slot_length l.kept l.i l.seen (distinct_lists [] (take l.i k.lists)) l.initial.res l.res)
