use mathlib.Core.Path.{sym, ap, ◌∙◌}
use Rattle.edge_trial.specs.Trials.{tried_by}
use Rattle.edge_trial.proofs.trial.tried.Goals as goal

pub returns-in_default : goal.returns-in_default
returns-in_default c = sym (ap tried_by (sym c.judge-judged.ensures.value_2 ∙ c.in_default.is))

pub returns : goal.returns
returns c = sym (ap tried_by (sym c.judge-judged.ensures.value_2 ∙ c.in-Ok.is))
