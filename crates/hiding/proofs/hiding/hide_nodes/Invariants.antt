-- `hiding::hiding::hide_nodes`: the nodes below `n` are as the desk sees them.
use Prim.Native.Nat.{ℕ}
use mathlib.Core.Path.{◌≡◌}
use lib.ListN.{length}
use Rattle.semantics.specs.declared.graph.Node.{Node}
use Rattle.semantics.specs.declared.graph.Edge.{Edge}
use Rattle.image.specs.Filling.{Filled}
use Rattle.semantics.specs.Hidden.{sees}
use Rattle.hiding.specs.Hiding.{seen_to}
use Rattle.hiding.proofs.hiding.hide_nodes.Given as goal

abbrev pub invariant-loop-n : goal.invariant-loop-n
invariant-loop-n l = (length l.index ≡ length l.initial.index) × ((f : ℕ → Node) (D : ℕ → Edge) → Filled f D l.initial.index → Filled (seen_to (sees l.visible) l.n f) D l.index)
