-- the steps of the edges before i are written
use mathlib.Core.Path.{◌≡◌}
use lib.ListN.{length}
use Rattle.semantics.specs.ReplayedPaths.{passages_to}
use Rattle.path_words.specs.Written.{Adds}
use Rattle.semantics.specs.PathWords.{step_words}
use Rattle.path_words.proofs.steps.write_steps.Given as goal

abbrev pub invariant-loop-i : goal.invariant-loop-i
invariant-loop-i l = (length l.area ≡ length l.initial.area) × (l.edges ≡ l.fn.path.edges) × (l.jumps ≡ l.fn.path.jumps) × (l.steps ≡ l.fn.path.steps)
    × Adds l.initial.area l.from l.area l.at (step_words (passages_to l.fn.path l.i))
