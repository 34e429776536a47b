-- `replace::clear_file`: the first i records are cleared.
use mathlib.Core.Path.{◌≡◌}
use Prim.Native.Nat.{◌≤◌}
use lib.ListN.{length}
use Rattle.semantics.specs.Limits.{base}
use Rattle.semantics.specs.Database.{used_in}
use Rattle.database.specs.Filing.{cleared_to}
use Rattle.database.proofs.replace.clear_file.Given as goal

abbrev pub invariant-loop-i : goal.invariant-loop-i
invariant-loop-i l = (l.i ≤ l.used) × (l.used ≡ used_in l.initial.words) × (length l.words ≡ length l.initial.words) × (l.words ≡ cleared_to base l.file l.i l.initial.words)
