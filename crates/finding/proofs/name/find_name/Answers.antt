-- `finding::name::find_name`: the answer as it is told.
use mathlib.Core.Path.{ap}
use Rattle.semantics.specs.Told.{told_finding}
use Rattle.finding.proofs.name.find_name.Goals as goal
use Rattle.semantics.specs.PublicAnswers.{Finding}

pub returns : goal.returns
returns c = record { result_value = ap (λ (x : Finding). told_finding x) c.find_image.ensures.0; work_after = c.find_image.ensures.1; res_after = c.find_image.ensures.2 }
