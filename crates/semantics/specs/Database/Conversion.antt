-- A database made under another bound rewritten in a lent area: every live path and every number survives.
-- Document 02, order 6: 35, 33 and 39 in this order.
use Rattle.std.specs.Prelude.{ℕ, ◌-◌, ◌*◌, Bool, true, not, leb, length, Err, Ok}
use mathlib.Core.List.{List, [], ◌∷◌, ◌++◌, map, flatten}
use Rattle.semantics.specs.Lists.{and, pick}
use Rattle.semantics.specs.Limits.{Bounds, record_words}
use Rattle.semantics.specs.PartialPaths.{Slot, dead, slot}
use Rattle.semantics.specs.Words.{zeros}
use Rattle.semantics.specs.Database.{used_in, nodes_in, files_in, capacity, encode_slot, slots_in, well_formed}
use Rattle.semantics.specs.PublicAnswers.{Conversion}
use Rattle.semantics.specs.declared.answer.ConversionRefusal.{ConversionRefusal}
pub mod Laws

-- a live path within the bound
unfoldable pub fits_in : Bounds → Slot → Bool
fits_in bd dead = true
fits_in bd (slot f s e es) = leb (length es) bd.edges

unfoldable pub all_fit : Bounds → List Slot → Bool
unfolding fits_in
all_fit bd [] = true
all_fit bd (s ∷ ss) = and (fits_in bd s) (all_fit bd ss)

-- the area of len words for the new bound: the three leading words, each slot under its number, zeros behind
unfoldable pub convert_words : Bounds → Bounds → List ℕ → ℕ → List ℕ
unfolding flatten encode_slot slots_in
convert_words old new ws len =
    used_in ws ∷ nodes_in ws ∷ files_in ws ∷ (flatten (map (encode_slot (record_words new)) (slots_in old ws)) ++ zeros (len - 3 - record_words new * used_in ws))

-- what the converter answers, and every word of the written area, which has len words
pub record Converted : Type 0 where
  pub answer : Conversion
  pub written : List ℕ

abbrev pub turned_back : Conversion → ℕ → Converted
turned_back why len = record { answer = why; written = zeros len }

unfoldable pub convert_call : Bounds → Bounds → (ℕ → ℕ → Bool) → List ℕ → ℕ → Converted
unfolding well_formed convert_words all_fit capacity
convert_call old new known ws len =
    pick (not (well_formed old known ws)) (turned_back (Err ConversionRefusal.Malformed) len)
    (pick (not (and (leb 3 len) (leb (used_in ws) (capacity new (zeros len))))) (turned_back (Err ConversionRefusal.Full) len)
    (pick (not (all_fit new (slots_in old ws))) (turned_back (Err ConversionRefusal.TooLong) len) (record { answer = Ok tt; written = convert_words old new ws len })))
