-- `reverse_slots` meets its contract: what is left to turn round, turned round, is what was asked.
use Rattle.std.proofs.Common.{◌≡◌, ◌+◌, ◌*◌, ◌-◌, length}
use Rattle.words.specs.Slots.{reverse_slots}
use Rattle.words.proofs.slots.reverse_slots.Given as goal

abbrev pub invariant-loop-k : goal.invariant-loop-k
invariant-loop-k l = (length l.area ≡ length l.initial.area) × (reverse_slots l.length (l.lo + l.k) (l.n - 2 * l.k) l.area ≡ reverse_slots l.length l.lo l.n l.initial.area)
