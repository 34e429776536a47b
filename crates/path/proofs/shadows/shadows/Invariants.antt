-- `path::shadows::shadows`: what is left of both lists decides what both decide.
use Rattle.std.proofs.Common.{◌≡◌}
use Rattle.storage.specs.Index.{edge_row}
use Rattle.path.specs.Shadows.{shadows_edges}
use Rattle.path.proofs.shadows.shadows.Given as goal

abbrev pub invariant-loop-x : goal.invariant-loop-x
invariant-loop-x l = shadows_edges (edge_row l.index) l.x-iterator.a.rest.now l.x-iterator.b.rest.now ≡ shadows_edges (edge_row l.index) l.left l.right
