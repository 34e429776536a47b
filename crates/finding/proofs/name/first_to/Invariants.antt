-- `finding::name::first_to`: none of the slots before this one does.
use Prim.Native.Nat.{ℕ, ◌≤◌, ◌<◌}
use mathlib.Core.Path.{◌≡◌}
use mathlib.Core.Bool.{false}
use Rattle.finding.specs.Names.{slot_to}
use Rattle.finding.proofs.name.first_to.Given as goal

abbrev pub invariant-loop-i : goal.invariant-loop-i
invariant-loop-i l = (l.i ≤ l.kept) × ((j : ℕ) → j < l.i → slot_to l.index l.res l.node j ≡ false)
