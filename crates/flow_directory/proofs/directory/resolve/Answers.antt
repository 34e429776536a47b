-- `flow_directory::directory::resolve`: the answer as it is told.
use mathlib.Core.Path.{ap}
use Rattle.semantics.specs.Told.{told_flow}
use Rattle.flow_directory.proofs.directory.resolve.Goals as goal
use Rattle.semantics.specs.PublicAnswers.{Flow}

pub returns : goal.returns
returns c = record { result_value = ap (λ (x : Flow). told_flow x) c.resolve_image.ensures.0; work_after = c.resolve_image.ensures.1; res_after = c.resolve_image.ensures.2 }
