use mathlib.Core.Path.{ap}
use Rattle.semantics.specs.Told.{told_resolution}
use Rattle.stitching.proofs.stitched.search_recorded.Goals as goal
use Rattle.semantics.specs.PublicAnswers.{Resolution}

pub returns : goal.returns
returns c = record { result_value = ap (λ (x : Resolution). told_resolution x) c.search_image.ensures.0; work_after = c.search_image.ensures.1; res_after = c.search_image.ensures.2 }
