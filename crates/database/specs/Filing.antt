-- A file is replaced step by step: its records are cleared one after another, the new ones written behind, the words in front stored last.
-- Document 01, "Partial paths": "Replacing a file zeroes its slots, appends the new ones in order found and stores the graph's N and F".
use Rattle.std.specs.Prelude.{ℕ, zero, suc, ◌*◌, Bool, true, eqb, length, take, drop, set}
use mathlib.Core.List.{List, [], ◌∷◌, ◌++◌, map, flatten}
use Rattle.semantics.specs.Lists.{and}
use Rattle.semantics.specs.Limits.{Bounds, record_words}
use Rattle.semantics.specs.PartialPaths.{Route, slot_of}
use Rattle.semantics.specs.Words.{zeros, slots_of}
use Rattle.semantics.specs.Database.{encode_slot, records, clear_record}
use Rattle.database.specs.Records.{put_record}
pub mod Laws
pub mod Free

-- the words with these in the place of their first records
unfoldable pub with_records : Bounds → List (List ℕ) → List ℕ → List ℕ
unfolding flatten
with_records bd rs ws = take 3 ws ++ (flatten rs ++ drop (record_words bd * length rs) (drop 3 ws))

-- the words with all used records of an owner cleared
unfoldable pub cleared : Bounds → ℕ → List ℕ → List ℕ
unfolding with_records clear_record records
cleared bd f ws = with_records bd (map (clear_record f) (records bd ws)) ws

-- the words with those cleared that are among the first n records
unfoldable pub cleared_to : Bounds → ℕ → ℕ → List ℕ → List ℕ
unfolding with_records clear_record slots_of
cleared_to bd f n ws = with_records bd (map (clear_record f) (slots_of (record_words bd) n (drop 3 ws))) ws

-- a route as the record of an owner
abbrev pub record_of : Bounds → ℕ → Route → List ℕ
record_of bd f r = encode_slot (record_words bd) (slot_of f r)

-- the words with all of an owner's records cleared and these routes written behind the used records; the words in front are still the old ones
unfoldable pub filed : Bounds → ℕ → List Route → List ℕ → List ℕ
unfolding with_records clear_record records encode_slot
filed bd f rs ws = with_records bd (map (clear_record f) (records bd ws) ++ map (record_of bd f) rs) ws

-- routes written as records, one after another from record i on
unfoldable pub put_routes : Bounds → ℕ → ℕ → List Route → List ℕ → List ℕ
unfolding put_record encode_slot
put_routes bd f i [] ws = ws
put_routes bd f i (r ∷ rs) ws = put_routes bd f (suc i) rs (put_record bd i (record_of bd f r) ws)

-- the words with other words in front: slots used, N and F
abbrev pub headed : ℕ → ℕ → ℕ → List ℕ → List ℕ
headed used nodes files ws = used ∷ nodes ∷ files ∷ drop 3 ws

-- are all of these words zeros
unfoldable pub is_clean : List ℕ → Bool
is_clean [] = true
is_clean (w ∷ ws) = and (eqb w 0) (is_clean ws)

-- the words that say that so many slots are used
abbrev pub used_up_to : ℕ → List ℕ → List ℕ
used_up_to used ws = set ws 0 used

-- the words with k records from record i on made zeros
unfoldable pub freed_from : Bounds → ℕ → ℕ → List ℕ → List ℕ
unfolding put_record
freed_from bd i zero ws = ws
freed_from bd i (suc k) ws = put_record bd i (zeros (record_words bd)) (freed_from bd (suc i) k ws)
