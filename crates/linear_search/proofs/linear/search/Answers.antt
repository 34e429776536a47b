use mathlib.Core.Path.{ap}
use Rattle.semantics.specs.Told.{told_linear_resolution}
use Rattle.linear_search.proofs.linear.search.Goals as goal
use Rattle.semantics.specs.PublicAnswers.{LinearResolution}

pub returns : goal.returns
returns c = record { result_value = ap (λ (x : LinearResolution). told_linear_resolution x) c.search_image.ensures.0; res_after = c.search_image.ensures.1 }
