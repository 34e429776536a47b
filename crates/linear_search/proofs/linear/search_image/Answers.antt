-- `linear_search::linear::search_image`: the index that the image asks for.
use native.Mathlib.Omega.{arith}
use Rattle.storage.specs.Index.Laws.{few-records, small-takes, large-takes}
use Rattle.linear_search.proofs.linear.search_image.Goals as goal

pub search_with-requires : goal.search_with-requires
search_with-requires c = (small-takes c.args.image.now (few-records _ c.is_small.ensures c.if-is_small.true), omega arith)

pub search_with-requires-2 : goal.search_with-requires-2
search_with-requires-2 c = (large-takes c.args.image.now, omega arith)
