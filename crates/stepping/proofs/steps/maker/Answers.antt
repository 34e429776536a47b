-- `stepping::steps::maker`: the step of that number.
use mathlib.Core.Path.{ap, ◌∙◌}
use Rattle.semantics.specs.ReplayedPaths.{step_at}
use Rattle.stepping.proofs.steps.maker.Goals as goal

pub returns : goal.returns
returns c = c.get_step.ensures ∙ ap (step_at c.args.steps.now) c.made_by.ensures
