-- `direct_search::direct::search_image`: the index that the image asks for.
use Rattle.storage.specs.Index.Laws.{few-records, small-takes, large-takes}
use Rattle.direct_search.proofs.direct.search_image.Goals as goal

pub search_in-requires : goal.search_in-requires
search_in-requires c = small-takes c.args.image.now (few-records _ c.is_small.ensures c.if-is_small.true)

pub search_in-requires-2 : goal.search_in-requires-2
search_in-requires-2 c = large-takes c.args.image.now
