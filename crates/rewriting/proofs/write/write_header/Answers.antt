-- `rewriting::write::write_header`: five numbers, one behind the other.
use Rattle.rewriting.specs.Whole.{header-written}
use Rattle.rewriting.proofs.write.write_header.Goals as goal

pub returns : goal.returns
returns c =
    let a = c.args in
    header-written a.area.now a.version a.follow a.counts c.requires.version_bound
    c.requires.in_bounds
    c.put_byte.ensures c.put_long.ensures
    c.put_short.ensures c.put_short-2.ensures c.put_short-3.ensures
