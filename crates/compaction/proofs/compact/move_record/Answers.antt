-- `move_record`: a record that stands right is its own copy.
use native.Mathlib.Omega.{arith}
use Rattle.semantics.specs.Limits.{base}
use Rattle.compaction.specs.Moves.Laws.{put-stays, copied}
use Rattle.compaction.proofs.compact.move_record.Goals as goal

pub returns-then-to-i : goal.returns-then-to-i
returns-then-to-i c = let a = c.args in copied base a.i a.to a.words.now c.copy_slot.new.area (omega (arith, c.requires.0)) c.copy_slot.ensures

pub returns-else-to-i : goal.returns-else-to-i
returns-else-to-i c = let a = c.args in put-stays base a.i a.to a.words.now c.requires.1 (omega (arith, c.if-to-i.false))
