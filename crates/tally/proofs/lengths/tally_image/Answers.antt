-- `tally::lengths::tally_image`: the index that the image asks for.
use Rattle.storage.specs.Index.Laws.{few-records, small-takes, large-takes}
use Rattle.tally.proofs.lengths.tally_image.Goals as goal

pub tally_in-requires : goal.tally_in-requires
tally_in-requires c = small-takes c.args.image.now (few-records _ c.is_small.ensures c.if-is_small.true)

pub tally_in-requires-2 : goal.tally_in-requires-2
tally_in-requires-2 c = large-takes c.args.image.now
