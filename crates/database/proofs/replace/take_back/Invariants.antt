-- `replace::take_back`: the records from i on are zeros.
use Prim.Native.Nat.{◌-◌, ◌≤◌}
use mathlib.Core.Path.{◌≡◌}
use lib.ListN.{length}
use Rattle.semantics.specs.Limits.{base}
use Rattle.semantics.specs.Database.{used_in}
use Rattle.database.specs.Filing.{freed_from}
use Rattle.database.proofs.replace.take_back.Given as goal

abbrev pub invariant-loop-i : goal.invariant-loop-i
invariant-loop-i l = (l.used ≡ used_in l.initial.words) × (used_in l.initial.words - l.i ≤ used_in l.initial.words - l.first) × (length l.words ≡ length l.initial.words) × (l.words ≡ freed_from base l.i (used_in l.initial.words - l.i) l.initial.words)
