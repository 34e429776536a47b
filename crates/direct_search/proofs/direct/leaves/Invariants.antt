-- `direct_search::direct::leaves`: none of the edges before this one does.
use mathlib.Core.Path.{◌≡◌}
use lib.ListN.{drop}
use Rattle.storage.specs.Index.{edge_row}
use Rattle.direct_search.specs.Passes.{leaves_by}
use Rattle.direct_search.proofs.direct.leaves.Given as goal

abbrev pub invariant-loop-edge : goal.invariant-loop-edge
invariant-loop-edge l = leaves_by (edge_row l.index) l.node (drop l.edge-index l.edges) ≡ leaves_by (edge_row l.index) l.node l.edges
