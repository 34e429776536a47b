-- `replace::lay_out`: the three words in front of a record, and the slot of its edges.
use native.Mathlib.Omega.{arith}
use lib.ListN.{length-set}
use Rattle.database.specs.Filing.Laws.{laid-out-for}
use Rattle.database.proofs.replace.lay_out.Goals as goal

pub bounds-into-1 : goal.bounds-into-1
bounds-into-1 c = simp length-set (omega arith)

pub bounds-into-2 : goal.bounds-into-2
bounds-into-2 c = simp length-set (omega arith)

pub returns : goal.returns
returns c =
    let a = c.args in
    laid-out-for a.most a.file a.start a.end a.edges.now a.into.now c.write_list.new.area c.requires.0 c.write_list.ensures
