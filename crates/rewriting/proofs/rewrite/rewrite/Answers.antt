-- `rewriting::rewrite::rewrite`: either index takes the image.
use Rattle.std.proofs.Common.{arith}
use Rattle.storage.specs.Index.Laws.{few-records, small-takes, large-takes}
use Rattle.rewriting.proofs.rewrite.rewrite.Goals as goal

pub rewrite_in-requires : goal.rewrite_in-requires
rewrite_in-requires c = record { n_bound = omega arith; takes = small-takes c.args.image.now (few-records _ c.is_small.ensures c.if-is_small.true); area_value = c.requires }

pub rewrite_in-requires-2 : goal.rewrite_in-requires-2
rewrite_in-requires-2 c = record { n_bound = omega arith; takes = large-takes c.args.image.now; area_value = c.requires }
