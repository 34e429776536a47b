-- `path::judgement::shadows`: the index that the image asks for.
use Rattle.storage.specs.Index.Laws.{few-records, small-takes, large-takes}
use Rattle.path.proofs.judgement.shadows.Goals as goal

pub shadows_in-requires : goal.shadows_in-requires
shadows_in-requires c = small-takes c.args.image.now (few-records _ c.is_small.ensures c.if-is_small.true)

pub shadows_in-requires-2 : goal.shadows_in-requires-2
shadows_in-requires-2 c = large-takes c.args.image.now
