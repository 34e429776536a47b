use Rattle.std.proofs.Common.{◌++◌, subst}
use Rattle.std.specs.Prelude.{codes}
use Rattle.std.specs.Io.KnownBytes.{Appends}
use Rattle.std.proofs.KnownBytes.{Appends-trans}
use Rattle.case_list.specs.Lines.{named}
use Rattle.case_list.proofs.Lines.{name_of, last_written}
use Rattle.case_list.proofs.report.tell_difference.Goals as goal

pub returns : goal.returns
returns g c =
    let kind = subst (λ name. Appends (g.W.Write.contents c.args.out.now) (g.W.Write.contents c.print_case.new.out) (name ++ named (codes " case ") c.args.number ++ codes " expected"))
    (name_of c.args.kind c.from.result c.from.ensures) c.in_ok-print_case.ensures in
    let expected = Appends-trans _ _ _ _ _ kind c.in_ok-print_expected.ensures in
    let given = Appends-trans _ _ _ _ _ (Appends-trans _ _ _ _ _ expected c.in_ok-write.ensures.bytes) c.in_ok-print_given.ensures in
    last_written _ _ _ _ _ _ given c.writeln.ensures.bytes
