use Prim.Native.Nat.{ℕ, ◌-◌}
use mathlib.Core.Bool.{Bool}
use mathlib.Core.Path.{◌≡◌}
use lib.ListN.{length}
use Rattle.semantics.specs.Limits.{max_expansions}
use Rattle.semantics.specs.Graph.{view_of}
use Rattle.stitching_trial.specs.Links.{Linked}
use Rattle.search_rounds.specs.Drives.{Driving}
use Rattle.search_rounds.specs.Drives.Laws.{Turning}
use Rattle.stitching.specs.StitchedAnswers.{tries_in}
use Rattle.stitching.specs.Expansions.Rounds.{tries-few}
use Rattle.stitching.proofs.stitched.drive.Given as goal

abbrev pub invariant-loop-finished : goal.invariant-loop-finished
invariant-loop-finished l = (length l.steps ≡ length l.initial.steps)
    × (length l.item ≡ length l.initial.item)
    × (length l.work ≡ length l.initial.work)
    × (length l.res ≡ length l.initial.res)
    × ((see : ℕ → Bool) (d : Linked see l.words l.links) (v : Driving l.index l.initial.steps l.initial.item l.initial.on l.initial.work l.initial.res)
    → Turning (tries_in see l.words) v (λ lim q. tries-few see d.readable lim (view_of v.graph) q) l.on l.steps l.item l.work l.res l.laid)

abbrev pub decreases-loop-finished : goal.decreases-loop-finished
decreases-loop-finished l = max_expansions - l.on.state.budget.expanded
