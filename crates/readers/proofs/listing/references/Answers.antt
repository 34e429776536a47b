-- `readers::listing::references`: the index that the image asks for.
use native.Mathlib.Omega.{arith}
use Rattle.storage.specs.Index.Laws.{few-records, small-takes, large-takes}
use Rattle.readers.proofs.listing.references.Goals as goal

pub references_with-requires : goal.references_with-requires
references_with-requires c = (small-takes c.args.image.now (few-records _ c.is_small.ensures c.if-is_small.true), omega arith)

pub references_with-requires-2 : goal.references_with-requires-2
references_with-requires-2 c = (large-takes c.args.image.now, omega arith)
