-- `flow_directory::ends::definitions`: all ends so far are the first.
use Prim.Native.Nat.{ℕ, ◌≤◌, ◌<◌}
use mathlib.Core.Path.{◌≡◌}
use Rattle.flow_directory.specs.Ends.{slot_end}
use Rattle.flow_directory.proofs.ends.definitions.Given as goal

abbrev pub invariant-loop-i : goal.invariant-loop-i
invariant-loop-i l = (l.i ≤ l.paths) × ((j : ℕ) → j < l.i → slot_end l.index l.res j ≡ l.first)
