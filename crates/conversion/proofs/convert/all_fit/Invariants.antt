-- `all_fit`: what is left to test decides as all slots do.
use mathlib.Core.Path.{◌≡◌}
use Prim.Native.Nat.{◌≤◌}
use lib.ListN.{drop}
use Rattle.semantics.specs.Limits.{base, former}
use Rattle.semantics.specs.Database.{used_in, slots_in}
use Rattle.semantics.specs.Database.Conversion.{all_fit}
use Rattle.conversion.proofs.convert.all_fit.Given as goal

abbrev pub invariant-loop-i : goal.invariant-loop-i
invariant-loop-i l = (l.i ≤ l.used) × (l.used ≡ used_in l.old) × (all_fit base (drop l.i (slots_in former l.old)) ≡ all_fit base (slots_in former l.old))
