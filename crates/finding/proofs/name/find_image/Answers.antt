-- `finding::name::find_image`: the index that the image asks for.
use Rattle.storage.specs.Index.Laws.{few-records, small-takes, large-takes}
use Rattle.finding.proofs.name.find_image.Goals as goal

pub find_in-requires : goal.find_in-requires
find_in-requires c = small-takes c.args.image.now (few-records _ c.is_small.ensures c.if-is_small.true)

pub find_in-requires-2 : goal.find_in-requires-2
find_in-requires-2 c = large-takes c.args.image.now
