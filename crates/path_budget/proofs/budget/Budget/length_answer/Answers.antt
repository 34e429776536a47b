-- `Budget::length_answer` meets its contract: the answer is the test of the limit on lengths.
use mathlib.Core.Path.{sym, ◌∙◌}
use Rattle.path_budget.specs.Budget.{lengthening}
use Rattle.path_budget.proofs.budget.Budget.length_answer.Goals as goal

pub returns-then-is_within : goal.returns-then-is_within
unfolding lengthening
returns-then-is_within c = simp (sym c.is_within.ensures ∙ c.if-is_within.true) c.new.ensures

pub returns : goal.returns
unfolding lengthening
returns c = simp (sym c.is_within.ensures ∙ c.if-is_within.false) c.new-2.ensures
