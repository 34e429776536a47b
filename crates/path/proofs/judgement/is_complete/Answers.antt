-- `path::judgement::is_complete`: the index that the image asks for.
use Rattle.storage.specs.Index.Laws.{few-records, small-takes, large-takes}
use Rattle.path.proofs.judgement.is_complete.Goals as goal

pub is_complete_in-requires : goal.is_complete_in-requires
is_complete_in-requires c = small-takes c.args.image.now (few-records _ c.is_small.ensures c.if-is_small.true)

pub is_complete_in-requires-2 : goal.is_complete_in-requires-2
is_complete_in-requires-2 c = large-takes c.args.image.now
