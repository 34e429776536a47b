-- `Budget::expansion_answer` meets its contract: the answer is the test of the limit on expansions.
use mathlib.Core.Path.{sym, ◌∙◌}
use Rattle.path_budget.specs.Budget.{expansion}
use Rattle.path_budget.proofs.budget.Budget.expansion_answer.Goals as goal

pub returns-then-is_below : goal.returns-then-is_below
unfolding expansion
returns-then-is_below c = simp (sym c.is_below.ensures ∙ c.if-is_below.true) c.new.ensures

pub returns : goal.returns
unfolding expansion
returns c = simp (sym c.is_below.ensures ∙ c.if-is_below.false) c.new-2.ensures
