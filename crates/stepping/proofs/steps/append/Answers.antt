use mathlib.Core.Path.{sym, ◌∙◌}
use Rattle.stepping.specs.Judged.{words_after}
use borrow.Author.Rules.{rules}
use Rattle.stepping.proofs.steps.append.Goals as goal

pub returns-in_default : goal.returns-in_default
unfolding words_after
returns-in_default c = search rules

pub returns : goal.returns
unfolding words_after
returns c = record { value = sym c.in-Ok.is ∙ c.judge-effect.ensures; steps_after = c.put_step.ensures }
