-- `is_shadowed` meets its contract: what is left to look at decides.
use mathlib.Core.Path.{◌≡◌}
use Prim.Native.Nat.{◌≤◌}
use lib.ListN.{drop}
use Rattle.semantics.specs.Limits.{slot_length}
use Rattle.storage.specs.Index.{edge_row}
use Rattle.path.specs.Shadows.{shadows_edges}
use Rattle.reply.specs.EdgeLists.{beaten_list}
use Rattle.reply.specs.ResultSlots.{edges_at, lists_at}
use Rattle.reply.proofs.shadowed.is_shadowed.Given as goal

abbrev pub invariant-loop-j : goal.invariant-loop-j
invariant-loop-j l = (l.j ≤ l.n) × (beaten_list (shadows_edges (edge_row l.index)) (edges_at slot_length l.i l.res) (drop l.j (lists_at slot_length l.n l.res)) ≡ beaten_list (shadows_edges (edge_row l.index)) (edges_at slot_length l.i l.res) (lists_at slot_length l.n l.res))
