-- `storage::check::check`: either index takes the image.
use Rattle.std.proofs.Common.{arith}
use Rattle.storage.specs.Index.Laws.{few-records, small-takes, large-takes}
use Rattle.storage.proofs.check.check.Goals as goal

pub check_in-requires : goal.check_in-requires
check_in-requires c = record { n_bound = omega arith; takes = small-takes c.args.image.now (few-records _ c.is_small.ensures c.if-is_small.true) }

pub check_in-requires-2 : goal.check_in-requires-2
check_in-requires-2 c = record { n_bound = omega arith; takes = large-takes c.args.image.now }
