-- `swap_slots` meets its contract: the words before k are exchanged, the others as they were.
use Rattle.std.proofs.Common.{◌≡◌, ◌*◌, length}
use Rattle.words.specs.Copies.{exchanged}
use Rattle.words.proofs.slots.swap_slots.Given as goal

abbrev pub invariant-loop-k : goal.invariant-loop-k
invariant-loop-k l = (length l.area ≡ length l.initial.area) × (l.area ≡ exchanged l.initial.area (l.length * l.i) (l.length * l.j) l.k)
