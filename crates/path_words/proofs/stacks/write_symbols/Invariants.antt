-- what is left of the chain is still to be written
use Prim.Native.Nat.{◌-◌}
use mathlib.Core.Path.{◌≡◌}
use lib.ListN.{length}
use Rattle.semantics.specs.ReplayedPaths.{step_at, symbols_from, symbols_of}
use Rattle.semantics.specs.PathWords.{symbol_words}
use Rattle.path_words.specs.PathWords.Laws.{Left}
use Rattle.path_words.proofs.stacks.write_symbols.Given as goal

abbrev pub invariant-loop : goal.invariant-loop
invariant-loop l = (length l.area ≡ length l.initial.area) × Left l.initial.area l.from (symbol_words (symbols_of (step_at l.steps) l.top)) l.area l.at (symbol_words (symbols_from (step_at l.steps) (l.top - l.counter) l.cell))
