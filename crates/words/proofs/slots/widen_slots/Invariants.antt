-- `widen_slots` meets its contract: the slots from i on are long, those below are as they were.
use mathlib.Core.Path.{◌≡◌}
use Prim.Native.Nat.{◌-◌, ◌≤◌}
use lib.ListN.{length, drop}
use Rattle.semantics.specs.Words.{zeros}
use Rattle.words.specs.Slots.{SlotsIn}
use Rattle.words.specs.Slots.Wider.{Widening}
use Rattle.words.proofs.slots.widen_slots.Given as goal

abbrev pub invariant-loop-i : goal.invariant-loop-i
invariant-loop-i l = (length l.area ≡ length l.initial.area) × (length l.slot ≡ length l.initial.slot) × (drop l.short l.slot ≡ zeros (l.length - l.short)) × ((h : l.short ≤ l.length) (f : SlotsIn l.length l.n l.initial.area) → Widening l.length l.short l.n h l.initial.area f l.area l.i)
