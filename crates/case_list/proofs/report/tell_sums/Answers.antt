use Rattle.std.proofs.Common.{◌++◌, subst}
use Rattle.std.specs.Prelude.{OnOk, codes}
use Rattle.std.specs.Io.KnownBytes.{Appends}
use Rattle.case_list.specs.Lines.{named}
use Rattle.case_list.proofs.Lines.{name_of}
use Rattle.case_list.proofs.report.tell_sums.Goals as goal

pub returns : goal.returns
returns g c =
    subst (λ name. OnOk c.print_sums.result (Appends (g.W.Write.contents c.args.out.now) (g.W.Write.contents c.print_sums.new.out)
    (name ++ named (codes " ") c.args.cases ++ named (codes " different ") c.args.differences ++ codes "\n")))
    (name_of c.args.kind c.from.result c.from.ensures) c.print_sums.ensures
