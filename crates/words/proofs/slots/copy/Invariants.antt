-- `copy` meets its contract: the words before i are copied, the others as they were.
use mathlib.Core.Path.{◌≡◌}
use mathlib.Core.List.{◌++◌}
use Prim.Native.Nat.{◌≤◌}
use lib.ListN.{length, take, drop}
use Rattle.words.proofs.slots.copy.Given as goal

abbrev pub invariant-loop-i : goal.invariant-loop-i
invariant-loop-i l = (l.i ≤ length l.words) × (l.i-end ≡ length l.words) × (length l.into ≡ length l.initial.into) × (l.into ≡ take l.i l.words ++ drop l.i l.initial.into)
