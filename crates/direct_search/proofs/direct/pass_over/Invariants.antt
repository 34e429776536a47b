-- `direct_search::direct::pass_over`: edge by edge, what is counted is what the enumeration counts.
use Prim.Native.Nat.{◌≤◌}
use Rattle.storage.specs.Index.Use.{left}
use Rattle.direct_search.specs.Passes.{Passing}
use Rattle.direct_search.specs.Passes.Laws.{Over}
use Rattle.direct_search.proofs.direct.pass_over.Given as goal

abbrev pub invariant-loop-link : goal.invariant-loop-link
invariant-loop-link l = (left l.index l.link ≤ left l.index l.first) × ((x : Passing l.index l.steps l.edges l.budget l.first) → Over x l.passed l.link)

abbrev pub decreases-loop-link : goal.decreases-loop-link
decreases-loop-link l = left l.index l.link
