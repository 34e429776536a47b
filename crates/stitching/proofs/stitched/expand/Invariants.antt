use Prim.Native.Nat.{ℕ}
use mathlib.Core.Bool.{Bool}
use mathlib.Core.Path.{◌≡◌}
use lib.ListN.{length}
use Rattle.semantics.specs.Limits.{looked_before}
use Rattle.stitching_trial.specs.Links.{Linked}
use Rattle.stitching_trial.specs.Links.Laws.{left}
use Rattle.stitching.specs.Expansions.{Given}
use Rattle.stitching.specs.Expansions.Partials.{Mid}
use Rattle.stitching.proofs.stitched.expand.Given as goal

abbrev pub invariant-loop-link : goal.invariant-loop-link
invariant-loop-link l = (length l.steps ≡ length l.initial.steps)
    × (length l.item ≡ length l.initial.item)
    × (length l.work ≡ length l.initial.work)
    × (length l.res ≡ length l.initial.res)
    × ((see : ℕ → Bool) (d : Linked see l.words l.links) (v : Given looked_before l.index l.initial.steps l.initial.item l.k l.initial.on l.initial.work l.initial.res)
    → Mid d looked_before l.index l.initial.steps l.initial.item l.k l.initial.on l.initial.work l.initial.res v l.on l.steps l.item l.work l.res l.link)

abbrev pub decreases-loop-link : goal.decreases-loop-link
decreases-loop-link l = left l.links l.link
