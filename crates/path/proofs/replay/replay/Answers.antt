-- `path::replay::replay`: the index that the image asks for.
use Rattle.storage.specs.Index.Laws.{few-records, small-takes, large-takes}
use Rattle.path.proofs.replay.replay.Goals as goal

pub replay_in-requires : goal.replay_in-requires
replay_in-requires c = small-takes c.args.image.now (few-records _ c.is_small.ensures c.if-is_small.true)

pub replay_in-requires-2 : goal.replay_in-requires-2
replay_in-requires-2 c = large-takes c.args.image.now
