use Rattle.std.proofs.Common.{length}
use Rattle.std.specs.Io.KnownBytes.{Appends}
use Rattle.printing.specs.Lines.{path_lines}
use Rattle.printing.proofs.Lines.{Printed}
use Rattle.printing.proofs.paths.print_paths.Given as goal

-- the lines of the slots before this one were printed
abbrev pub invariant-loop-slot : goal.invariant-loop-slot
invariant-loop-slot g l =
    Printed l.res l.slot-iterator.iter.rest.now l.slot-iterator.iter.size l.slot-iterator.n l.paths (length l.yielded)
    × Appends (g.W.Write.contents l.fn.out) (g.W.Write.contents l.out) (path_lines l.name l.res (length l.yielded))
