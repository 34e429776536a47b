-- the numbers before i are written, the others as they were
use Rattle.std.proofs.Common.{◌≡◌, ◌++◌, ◌≤◌, length, take, drop}
use Rattle.semantics.specs.Written.{written}
use Rattle.pozhdaghi.proofs.numbers.write.Given as goal

abbrev pub invariant-loop-i : goal.invariant-loop-i
invariant-loop-i l = (l.i ≤ length l.initial.answer) × (l.i-end ≡ length l.initial.answer) × (length l.answer ≡ length l.initial.answer) × (l.answer ≡ take l.i (written (length l.initial.answer) l.numbers) ++ drop l.i l.initial.answer)
