-- `storage::refs::misfit_node`: every node passed so far fits.
use Rattle.std.proofs.Common.{◌≡◌, ℕ, ◌<◌, true}
use Rattle.semantics.specs.Graph.{Graph}
use Rattle.image.specs.Filling.{Held}
use Rattle.storage.specs.References.{node_test}
use Rattle.storage.proofs.refs.misfit_node.Given as goal

abbrev pub invariant-loop-n : goal.invariant-loop-n
invariant-loop-n l = (g : Graph) → Held g l.index → (j : ℕ) → j < l.n → node_test g j ≡ true
