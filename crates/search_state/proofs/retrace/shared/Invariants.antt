use Rattle.search_state.specs.Retraces.{Shared}
use Rattle.search_state.proofs.retrace.shared.Given as goal

abbrev pub invariant-loop-i : goal.invariant-loop-i
invariant-loop-i l = Shared l.steps l.edges l.n l.i
