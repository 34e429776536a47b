use Rattle.std.proofs.Common.{◌++◌, take}
use Rattle.std.specs.Io.KnownBytes.{Appends}
use Rattle.printing.specs.Lines.{spaced}
use Rattle.printing.proofs.paths.print_path.Given as goal

-- the name and the first edges were printed
abbrev pub invariant-loop-edge : goal.invariant-loop-edge
invariant-loop-edge g l =
    Appends (g.W.Write.contents l.fn.out) (g.W.Write.contents l.out) (l.name ++ spaced (take l.edge-index l.edges))
