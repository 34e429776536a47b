-- `close_up` meets its contract: of the first i lists those without a mark stand in front.
use mathlib.Core.Path.{◌≡◌}
use mathlib.Core.Bool.{Bool}
use mathlib.Core.List.{List, []}
use Prim.Native.Nat.{ℕ, ◌≤◌}
use lib.ListN.{length, get_or, take}
use Rattle.semantics.specs.Limits.{slot_length}
use Rattle.reply.specs.EdgeLists.{without}
use Rattle.reply.specs.ResultSlots.{Marked, Closing}
use Rattle.reply.proofs.shadowed.close_up.Given as goal

abbrev pub invariant-loop-i : goal.invariant-loop-i
invariant-loop-i l = (l.to ≤ l.i) × (l.i ≤ l.n) × (length l.res ≡ length l.initial.res) × ((drops : List ℕ → Bool) (ls : List (List ℕ)) → length ls ≡ l.n → Marked slot_length (λ (j : ℕ). drops (get_or ls j [])) ls l.initial.res → Closing slot_length l.n l.i l.to (without drops (take l.i ls)) l.initial.res l.res)
