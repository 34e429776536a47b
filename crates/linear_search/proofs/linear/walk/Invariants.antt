use Prim.Native.Nat.{◌-◌}
use mathlib.Core.Path.{◌≡◌}
use lib.ListN.{length}
use Rattle.semantics.specs.Limits.{slot_length}
use Rattle.storage.specs.Index.Use.{left}
use Rattle.linear_search.specs.Walks.{Walking}
use Rattle.linear_search.specs.Walks.Edges.{Opening, Mid}
use Rattle.linear_search.specs.Walks.Rounds.{Turning}
use Rattle.linear_search.proofs.linear.walk.Given as goal

abbrev pub invariant-loop-link : goal.invariant-loop-link
invariant-loop-link l = (length l.item ≡ length l.initial.item) × (length l.res ≡ length l.initial.res) × ((v : Opening l.index l.steps l.initial.item l.k l.end l.initial.on l.initial.res) → Mid v l.on l.item l.res l.link)

abbrev pub decreases-loop-link : goal.decreases-loop-link
decreases-loop-link l = left l.index l.link

abbrev pub invariant-expansions : goal.invariant-expansions
invariant-expansions l = (length l.steps ≡ length l.initial.steps) × (length l.item ≡ length l.initial.item) × (length l.res ≡ length l.initial.res) × ((v : Walking l.index l.initial.steps l.initial.item l.initial.state l.initial.res) → Turning v l.state l.k l.steps l.item l.res)

abbrev pub decreases-expansions : goal.decreases-expansions
decreases-expansions l = slot_length - l.k
