use Rattle.std.proofs.Common.{subst}
use Rattle.std.specs.Io.KnownBytes.{Appends}
use Rattle.std.proofs.KnownBytes.{Appends-trans}
use Rattle.case_list.proofs.Lines.{expected_more}
use Rattle.case_list.proofs.report.print_expected.Goals as goal

pub loop-i-preserved : goal.loop-i-preserved
loop-i-preserved g c =
    subst (Appends _ _) (expected_more c.args.case.now c.args.expected.from c.loop-i.i _ c.long.ensures)
    (Appends-trans _ _ _ _ _ c.loop-i.invariant c.in_ok-print_one.ensures)
