-- `rewriting::record::write_scope`: the flag stands behind the file.
use native.Mathlib.Omega.{arith}
use Rattle.rewriting.specs.Records.{scope-written}
use Rattle.rewriting.proofs.record.write_scope.Goals as goal

pub returns : goal.returns
returns c = let a = c.args in
    record { value = omega arith; area_after = scope-written a.at a.area.now 4 3 a.file c.flag.result a.exported c.requires c.begin.ensures c.put_byte.ensures c.flag.ensures }
