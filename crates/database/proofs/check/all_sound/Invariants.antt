-- `check::all_sound`: what is left to test decides as all records do.
use mathlib.Core.Path.{◌≡◌}
use Prim.Native.Nat.{◌≤◌}
use lib.ListN.{drop}
use Rattle.database.specs.Records.{bounded}
use Rattle.semantics.specs.Database.{known_owners, every, records}
use Rattle.database.specs.Checks.{tests}
use Rattle.database.proofs.check.all_sound.Given as goal

abbrev pub invariant-loop-i : goal.invariant-loop-i
invariant-loop-i l = (l.i ≤ l.used) × (every (tests (bounded l.most) known_owners l.words) (drop l.i (records (bounded l.most) l.words)) ≡ every (tests (bounded l.most) known_owners l.words) (records (bounded l.most) l.words))
