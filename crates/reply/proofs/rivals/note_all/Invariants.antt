-- `note_all` meets its contract: the edges of the first i slots are reached.
use mathlib.Core.Path.{◌≡◌}
use Prim.Native.Nat.{◌*◌, ◌≤◌}
use lib.ListN.{length}
use Rattle.semantics.specs.Limits.{slot_length}
use Rattle.reply.specs.Rivals.{Best}
use Rattle.reply.proofs.rivals.note_all.Given as goal

abbrev pub invariant-loop-i : goal.invariant-loop-i
invariant-loop-i l = (l.i ≤ l.n) × (length l.best ≡ length l.initial.best) × Best slot_length l.index l.res (slot_length * l.i) l.best
