-- `flow_directory::directory::resolve_image`: the index that the image asks for.
use Rattle.storage.specs.Index.Laws.{few-records, small-takes, large-takes}
use Rattle.flow_directory.proofs.directory.resolve_image.Goals as goal

pub resolve_in-requires : goal.resolve_in-requires
resolve_in-requires c = small-takes c.args.image.now (few-records _ c.is_small.ensures c.if-is_small.true)

pub resolve_in-requires-2 : goal.resolve_in-requires-2
resolve_in-requires-2 c = large-takes c.args.image.now
