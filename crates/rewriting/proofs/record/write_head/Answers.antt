-- `rewriting::record::write_head`: two bytes, one behind the other.
use borrow.Author.Rules.{rules}
use Rattle.rewriting.specs.Records.{head-written}
use Rattle.rewriting.proofs.record.write_head.Goals as goal

pub returns : goal.returns
returns c = let a = c.args in head-written a.at a.area.now a.count a.kind (search rules) (search rules) c.requires.at_in_bounds c.put_byte.ensures c.put_byte-2.ensures
