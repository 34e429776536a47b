-- `replace::replace_for`: the index that the image asks for takes it.
use native.Mathlib.Omega.{arith}
use Rattle.storage.specs.Index.Laws.{few-records, small-takes, large-takes}
use Rattle.partial.proofs.replace.replace_for.Goals as goal

pub replace_with-requires : goal.replace_with-requires
replace_with-requires c = (small-takes c.args.image.now (few-records _ c.is_small.ensures c.if-is_small.true), omega arith)

pub replace_with-requires-2 : goal.replace_with-requires-2
replace_with-requires-2 c = (large-takes c.args.image.now, omega arith)
