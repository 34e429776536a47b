-- `direct_search::direct::expand`: from one edge that lengthens the path to the next.
use mathlib.Core.Path.{◌≡◌}
use lib.ListN.{length}
use Rattle.semantics.specs.Limits.{looked_before}
use Rattle.storage.specs.Index.Use.{left}
use Rattle.direct_search.specs.Expansions.{Given}
use Rattle.direct_search.specs.Expansions.Edges.{Mid}
use Rattle.search_state.specs.Progresses.{at}
use Rattle.direct_search.proofs.direct.expand.Given as goal

abbrev pub invariant-loop-link : goal.invariant-loop-link
invariant-loop-link l = (length l.item ≡ length l.initial.item)
    × (length l.work ≡ length l.initial.work)
    × (length l.res ≡ length l.initial.res)
    × (l.budget.max_length ≡ l.frame.limits.length)
    × ((v : Given looked_before l.index l.steps l.initial.item l.k (at l.frame l.initial.on) l.initial.work l.initial.res)
    → Mid looked_before l.index l.steps l.initial.item l.k (at l.frame l.initial.on) l.initial.work l.initial.res v (at l.frame l.on) l.item l.work l.res l.link)

abbrev pub decreases-loop-link : goal.decreases-loop-link
decreases-loop-link l = left l.index l.link
