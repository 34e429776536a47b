use mathlib.Core.Path.{ap}
use Rattle.semantics.specs.Told.{told_replacement}
use Rattle.partial.proofs.replace.replace_aliases.Goals as goal
use Rattle.semantics.specs.PublicAnswers.{Replacement}

pub returns : goal.returns
returns c = record { result_value = ap (λ (x : Replacement). told_replacement x) c.replace_for.ensures.0; work_after = c.replace_for.ensures.1; words_after = c.replace_for.ensures.2 }
