-- `rewriting::record::begin`: the file stands behind the head.
use Rattle.rewriting.specs.Records.{begin-written}
use Rattle.rewriting.proofs.record.begin.Goals as goal

pub returns : goal.returns
returns c = let a = c.args in begin-written a.at a.area.now a.count a.kind a.file c.requires.at_in_bounds c.write_head.ensures c.put_short.ensures
