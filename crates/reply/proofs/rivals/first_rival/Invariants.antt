-- `first_rival` meets its contract: the edges before this place have no rival.
use mathlib.Core.Path.{◌≡◌}
use Prim.Native.Nat.{◌+◌, ◌*◌, ◌≤◌}
use lib.ListN.{get_or}
use Rattle.semantics.specs.Limits.{slot_length}
use Rattle.reply.specs.ResultSlots.{count_of}
use Rattle.reply.specs.Rivals.{UnrivalledFrom}
use Rattle.reply.proofs.rivals.first_rival.Given as goal

abbrev pub invariant-loop-at : goal.invariant-loop-at
invariant-loop-at l = (l.end ≡ slot_length * l.i + 1 + count_of slot_length (get_or l.res (slot_length * l.i) 0)) × (slot_length * l.i + 1 ≤ l.at) × (l.at ≤ l.end) × UnrivalledFrom l.index l.res l.best (slot_length * l.i + 1) l.at
