use Rattle.std.specs.Io.KnownBytes.{Appends}
use Rattle.case_list.specs.Lines.{sums_lines}
use Rattle.case_list.proofs.compared.tell.Given as goal

-- what stands before this place was printed
abbrev pub invariant-loop-kind : goal.invariant-loop-kind
invariant-loop-kind g l = Appends (g.W.Write.contents l.fn.out) (g.W.Write.contents l.out) (sums_lines l.sums l.kind)
