-- what is left of the chain is still to be written
use Prim.Native.Nat.{◌-◌}
use mathlib.Core.Path.{◌≡◌}
use lib.ListN.{length}
use Rattle.semantics.specs.ReplayedPaths.{step_at, scopes_from, scopes_of}
use Rattle.semantics.specs.PathWords.{scope_words}
use Rattle.path_words.specs.PathWords.Laws.{Left}
use Rattle.path_words.proofs.stacks.write_scopes.Given as goal

abbrev pub invariant-loop : goal.invariant-loop
invariant-loop l = (length l.area ≡ length l.initial.area) × Left l.initial.area l.from (scope_words (scopes_of (step_at l.steps) l.top)) l.area l.at (scope_words (scopes_from (step_at l.steps) (l.top - l.counter) l.cell))
