-- `search_state::retrace::retrace`: from the edges that stand there already, step by step.
use Prim.Native.Nat.{◌≤◌}
use mathlib.Core.Path.{◌≡◌}
use lib.ListN.{length}
use Rattle.semantics.specs.ReplayedPaths.{step_at}
use Rattle.search_state.specs.Retraces.{Retraces, Mid}
use Rattle.search_state.specs.Retraces.Laws.{way_of}
use Rattle.search_state.proofs.retrace.retrace.Given as goal

abbrev pub invariant-loop-i : goal.invariant-loop-i
invariant-loop-i l = (l.i ≤ length l.edges) × (length l.steps ≡ length l.initial.steps) × (l.last ≡ step_at l.steps l.i) × ((t : Retraces l.index l.initial.steps l.edges l.n) → Mid l.index l.edges (way_of t) l.steps l.i)
