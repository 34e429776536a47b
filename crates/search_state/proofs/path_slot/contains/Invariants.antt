use mathlib.Core.Path.{◌≡◌}
use lib.ListN.{drop}
use Rattle.semantics.specs.Lists.{or, has}
use Rattle.search_state.proofs.path_slot.contains.Given as goal

abbrev pub invariant-loop-other : goal.invariant-loop-other
invariant-loop-other l = or l.found (has l.edge (drop l.other-index l.edges)) ≡ has l.edge l.edges
