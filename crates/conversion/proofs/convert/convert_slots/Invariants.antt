-- `convert_slots`: the first i slots are written.
use mathlib.Core.Path.{◌≡◌}
use Prim.Native.Nat.{◌≤◌}
use lib.ListN.{length}
use Rattle.semantics.specs.Limits.{base, former}
use Rattle.semantics.specs.Database.{used_in, slots_in}
use Rattle.database.specs.Filing.{with_records}
use Rattle.conversion.specs.Slots.Laws.{written}
use Rattle.conversion.proofs.convert.convert_slots.Given as goal

abbrev pub invariant-loop-i : goal.invariant-loop-i
invariant-loop-i l = (l.i ≤ l.used) × (l.used ≡ used_in l.old) × (length l.new ≡ length l.initial.new) × (l.new ≡ with_records base (written base l.i (slots_in former l.old)) l.initial.new)
