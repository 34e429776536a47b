-- Slots of L words in a word area: what the functions on slots do, as equations on words. For every slot length L.
-- Document 01, "Answer": a result slot has "edge count, edges, zeros .. Waiting paths are held likewise".
use Rattle.std.specs.Prelude.{◌≡◌, ℕ, ◌+◌, ◌-◌, ◌*◌, ◌≤◌, ◌<◌, length, take, drop}
use mathlib.Core.List.{List, ◌++◌, flatten}
use Rattle.semantics.specs.Words.{zeros, slots_of}
use Rattle.words.specs.Reversal.{rev_range}
pub mod Laws
pub mod Reversed
pub mod Wider

-- slot i lies in the area
abbrev pub InArea : ℕ → ℕ → List ℕ → Type 0
InArea L i ws = L * i + L ≤ length ws

-- the first n slots lie in the area
abbrev pub SlotsIn : ℕ → ℕ → List ℕ → Type 0
SlotsIn L n ws = L * n ≤ length ws

-- these words fill a slot
abbrev pub IsSlot : ℕ → List ℕ → Type 0
IsSlot L s = length s ≡ L

-- a list that has its place in a slot behind its count, which is a word of 32 bits
abbrev pub Room : ℕ → List ℕ → Type 0
Room L es = (length es < L) × (length es < 4294967296)

-- slot i of an area
unfoldable pub slot_at : ℕ → ℕ → List ℕ → List ℕ
slot_at L i ws = take L (drop (L * i) ws)

-- an area with slot i replaced by s
unfoldable pub put_slot : ℕ → ℕ → List ℕ → List ℕ → List ℕ
put_slot L i s ws = take (L * i) ws ++ s ++ drop (L * i + L) ws

-- an area with slots i and j exchanged
unfoldable pub swap_slots : ℕ → ℕ → ℕ → List ℕ → List ℕ
unfolding put_slot slot_at
swap_slots L i j ws = put_slot L j (slot_at L i ws) (put_slot L i (slot_at L j ws) ws)

-- an area with the n slots from slot lo on turned round
unfoldable pub reverse_slots : ℕ → ℕ → ℕ → List ℕ → List ℕ
unfolding slots_of rev_range flatten
reverse_slots L lo n ws = flatten (rev_range lo n (slots_of L (lo + n) ws)) ++ drop (L * (lo + n)) ws

-- the words of a slot in a longer one, with zeros behind
abbrev pub padded : ℕ → List ℕ → List ℕ
padded L s = s ++ zeros (L - length s)
