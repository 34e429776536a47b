-- `tally::lengths::tally`: its answer as it is told.
use mathlib.Core.Path.{ap}
use Rattle.semantics.specs.Told.{told_tallying}
use Rattle.tally.proofs.lengths.tally.Goals as goal

pub returns : goal.returns
returns c = let e = c.tally_image.ensures in record { answer_value = ap told_tallying e.0; numbers_value = e.1; work_after = e.2 }
