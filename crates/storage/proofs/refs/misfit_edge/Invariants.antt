-- `storage::refs::misfit_edge`: every edge passed so far fits.
use Rattle.std.proofs.Common.{◌≡◌, ℕ, ◌<◌, true}
use Rattle.semantics.specs.Graph.{Graph}
use Rattle.image.specs.Filling.{Held}
use Rattle.storage.specs.References.{edge_test}
use Rattle.storage.proofs.refs.misfit_edge.Given as goal

abbrev pub invariant-loop-e : goal.invariant-loop-e
invariant-loop-e l = (g : Graph) → Held g l.index → (j : ℕ) → j < l.e → edge_test g j ≡ true
