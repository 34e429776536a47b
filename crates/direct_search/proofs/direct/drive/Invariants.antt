-- `direct_search::direct::drive`: the run from here is the run from the start; behind each round the numbers are those of the paths that were found so far.
use Prim.Native.Nat.{◌-◌}
use mathlib.Core.Path.{◌≡◌}
use lib.ListN.{length}
use Rattle.semantics.specs.Limits.{max_expansions}
use Rattle.search_rounds.specs.Drives.Laws.{Turning}
use Rattle.direct_search.specs.DirectAnswers.{edge_tries}
use Rattle.direct_search.specs.Expansions.Rounds.{tries-few}
use Rattle.search_state.specs.Progresses.{at}
use Rattle.search_rounds.specs.Drives.{Driving}
use Rattle.direct_search.specs.Counting.{Low, Counting}
use Rattle.direct_search.specs.Counting.Laws.{Standing}
use Rattle.direct_search.proofs.direct.drive.Given as goal

abbrev pub invariant-loop-finished : goal.invariant-loop-finished
invariant-loop-finished l = (length l.steps ≡ length l.initial.steps)
    × (length l.item ≡ length l.initial.item)
    × (length l.work ≡ length l.initial.work)
    × (length l.res ≡ length l.initial.res)
    × (length l.numbers ≡ length l.initial.numbers)
    × ((v : Driving l.index l.initial.steps l.initial.item (at l.frame l.initial.on) l.initial.work l.initial.res)
    → Turning edge_tries v (tries-few v.loaded) (at l.frame l.on) l.steps l.item l.work l.res l.laid)
    × Low l.numbers (at l.frame l.on)
    × ((x : Counting l.index l.initial.steps l.initial.item (at l.frame l.initial.on) l.initial.work l.initial.res l.initial.numbers)
    → Standing x (at l.frame l.on) l.steps l.item l.work l.res l.laid l.numbers)

abbrev pub decreases-loop-finished : goal.decreases-loop-finished
decreases-loop-finished l = max_expansions - l.on.expanded
