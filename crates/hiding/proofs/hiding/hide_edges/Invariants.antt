-- `hiding::hiding::hide_edges`: the edges below `e` are pruned.
use Prim.Native.Nat.{ℕ}
use mathlib.Core.Path.{◌≡◌}
use lib.ListN.{length}
use Rattle.semantics.specs.declared.graph.Node.{Node}
use Rattle.semantics.specs.declared.graph.Edge.{Edge}
use Rattle.image.specs.Filling.{Filled}
use Rattle.hiding.specs.Hiding.{pruned_to}
use Rattle.hiding.proofs.hiding.hide_edges.Given as goal

abbrev pub invariant-loop-e : goal.invariant-loop-e
invariant-loop-e l = (length l.index ≡ length l.initial.index) × ((F : ℕ → Node) (f : ℕ → Edge) → Filled F f l.initial.index → Filled F (pruned_to F l.e f) l.index)
