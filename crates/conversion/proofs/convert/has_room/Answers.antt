-- `has_room`: 3 words, then the capacity.
use native.Mathlib.Omega.{arith}
use Rattle.semantics.specs.Limits.{base}
use Rattle.semantics.specs.Database.{used_in}
use Rattle.conversion.specs.Slots.Laws.{room-short, room-slots}
use Rattle.conversion.proofs.convert.has_room.Goals as goal

pub returns-then-new-lt-FIRST_RECORD : goal.returns-then-new-lt-FIRST_RECORD
returns-then-new-lt-FIRST_RECORD c = let a = c.args in room-short base (used_in a.old.now) a.new.now (omega (arith, c.if-new-lt-FIRST_RECORD.true))

pub returns : goal.returns
returns c = let a = c.args in room-slots base (used_in a.old.now) a.new.now c.number.result c.capacity.result (omega (arith, c.if-new-lt-FIRST_RECORD.false)) c.number.ensures.0 c.capacity.ensures
