-- The steps of a path in a list of words, 9 for each: what is read and what is written.
-- Document 01, "Path"; the cells' meaning stands in Steps.
use Rattle.std.specs.Prelude.{ℕ, ◌+◌, ◌-◌, ◌*◌, List, set}
use Rattle.semantics.specs.Limits.{step_length}
use Rattle.semantics.specs.Halves.{low_word, high_word}
use Rattle.semantics.specs.ReplayedPaths.{step_at}
use Rattle.semantics.specs.declared.replayed.Step.{Step}
pub mod Laws

abbrev pub with_step : List ℕ → ℕ → Step → List ℕ
with_step l k s =
    set (set (set (set (set (set (set (set (set l (step_length * k) s.edge) (step_length * k + 1) s.end) (step_length * k + 2) s.symbols) (step_length * k + 3) s.scopes)
    (step_length * k + 4) (low_word s.symbol)) (step_length * k + 5) (high_word s.symbol)) (step_length * k + 6) s.attached) (step_length * k + 7) s.below) (step_length * k + 8) s.scope

-- the step that made a cell; step 0 for none
abbrev pub maker_in : List ℕ → ℕ → Step
maker_in l c = step_at l (c - 1)
