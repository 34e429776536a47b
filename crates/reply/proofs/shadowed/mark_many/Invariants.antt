use Rattle.reply.specs.EdgeLists.{beaten_at}
use Rattle.path.specs.Shadows.{shadows_edges}
use Rattle.storage.specs.Index.{edge_row}
use Prim.Native.Nat.{ℕ}
use mathlib.Core.List.{List}
use mathlib.Core.Bool.{Bool}
-- `mark_many` meets its contract: the first i slots are judged, and every slot holds its list still.
use mathlib.Core.Path.{◌≡◌}
use Prim.Native.Nat.{◌≤◌}
use lib.ListN.{length}
use Rattle.semantics.specs.Limits.{slot_length}
use Rattle.reply.specs.ResultSlots.{Lists, Marked}
use Rattle.reply.specs.ResultSlots.Marking.{up_to}
use Rattle.reply.proofs.shadowed.mark_many.Given as goal

abbrev pub judged : List ℕ → List (List ℕ) → ℕ → Bool
judged index = beaten_at (shadows_edges (edge_row index))

abbrev pub invariant-loop-i : goal.invariant-loop-i
invariant-loop-i l = (l.i ≤ l.n) × (length l.res ≡ length l.initial.res) × ((k : Lists slot_length l.n l.initial.res) → Marked slot_length (up_to l.i (judged l.index k.lists)) k.lists l.res)
