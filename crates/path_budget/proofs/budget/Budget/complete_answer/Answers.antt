-- `Budget::complete_answer` meets its contract: the path is counted, and the answer is the test of the limit on complete paths.
use mathlib.Core.Path.{sym, ◌∙◌}
use Rattle.path_budget.specs.Budget.{completion}
use Rattle.path_budget.proofs.budget.Budget.complete_answer.Goals as goal

pub returns-then-is_below : goal.returns-then-is_below
unfolding completion
returns-then-is_below c = simp (sym c.is_below.ensures ∙ c.if-is_below.true) c.new.ensures

pub returns : goal.returns
unfolding completion
returns c = simp (sym c.is_below.ensures ∙ c.if-is_below.false) c.new-2.ensures
