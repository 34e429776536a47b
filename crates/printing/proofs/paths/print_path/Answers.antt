use Rattle.std.proofs.Common.{subst}
use Rattle.std.specs.Io.KnownBytes.{Appends}
use Rattle.std.proofs.KnownBytes.{Appends-trans}
use Rattle.printing.proofs.Lines.{spaced_more}
use Rattle.printing.proofs.paths.print_path.Goals as goal

pub loop-edge-preserved : goal.loop-edge-preserved
loop-edge-preserved g c =
    subst (Appends _ _) (spaced_more c.args.name.now _ c.loop-edge.edge-index c.loop-edge-test.true)
    (Appends-trans _ _ _ _ _ c.loop-edge.invariant c.in_ok-print_word.ensures)
