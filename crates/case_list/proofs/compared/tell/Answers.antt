use Rattle.std.proofs.Common.{refl, subst}
use Rattle.std.specs.Io.KnownBytes.{Appends}
use Rattle.std.proofs.KnownBytes.{Appends-trans}
use Rattle.case_list.proofs.Lines.{sums_more}
use Rattle.case_list.proofs.compared.tell.Goals as goal

pub loop-kind-preserved : goal.loop-kind-preserved
loop-kind-preserved g c =
    subst (Appends _ _) (sums_more c.args.sums.now c.loop-kind.kind _ _ _ refl c.sum.ensures c.sum-in-loop-kind.ensures)
    (Appends-trans _ _ _ _ _ c.loop-kind.invariant c.in_ok-tell_sums.ensures)
