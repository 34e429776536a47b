use Rattle.std.specs.Io.KnownBytes.{Appends}
use Rattle.case_list.specs.Lines.{expected_words}
use Rattle.case_list.proofs.report.print_expected.Given as goal

-- what stands before this place was printed
abbrev pub invariant-loop-i : goal.invariant-loop-i
invariant-loop-i g l = Appends (g.W.Write.contents l.fn.out) (g.W.Write.contents l.out) (expected_words l.case l.from l.i)
