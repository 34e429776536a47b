use native.Mathlib.Omega.{arith}
use mathlib.Core.Path.{◌≡◌}
use lib.ListN.{length}
use Rattle.semantics.specs.Limits.{steps_length}
use Rattle.stepping.specs.StepWords.Laws.{no_step}
use borrow.Author.Rules.{rules}
use Rattle.path.proofs.path.step.Goals as goal

pub returns-then-k-gt-MAX_EDGES : goal.returns-then-k-gt-MAX_EDGES
returns-then-k-gt-MAX_EDGES c = let n : length c.args.path.steps ≡ steps_length = search rules in no_step c.args.path.steps c.args.k (omega (arith, n, c.if-k-gt-MAX_EDGES.true))

pub get_step-requires : goal.get_step-requires
get_step-requires c = let n : length c.args.path.steps ≡ steps_length = search rules in omega (arith, n, c.if-k-gt-MAX_EDGES.false)
