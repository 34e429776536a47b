-- `readers::listing::references_with`: the index takes the image.
use mathlib.Core.Path.{ap}
use Rattle.semantics.specs.Told.{told_listing}
use Rattle.readers.proofs.listing.references_with.Goals as goal

pub returns : goal.returns
returns g c = let done = c.references_in.ensures in record { result_value = ap told_listing done.0; res_after = done.1 }
