-- A database without its dead slots: the live ones close up in their old order, and a list says each one's old and new number.
-- Document 02, order 7: 35 and 32 in this order.
use Rattle.std.specs.Prelude.{ℕ, zero, suc, ◌-◌, ◌*◌, Bool, true, false, not, ltb, length, take, drop, Err, Ok}
use mathlib.Core.List.{List, [], ◌∷◌, ◌++◌, flatten}
use Rattle.semantics.specs.Lists.{pick, cons_if}
use Rattle.semantics.specs.Limits.{Bounds, record_words}
use Rattle.semantics.specs.Words.{zeros}
use Rattle.semantics.specs.Database.{used_in, nodes_in, files_in, records, well_formed}
use Rattle.semantics.specs.PublicAnswers.{Compaction}
use Rattle.semantics.specs.declared.answer.CompactionRefusal.{CompactionRefusal}

unfoldable pub is_live : List ℕ → Bool
is_live [] = false
is_live (zero ∷ ws) = false
is_live (suc f ∷ ws) = true

-- the live records in their order, each word as it stands
unfoldable pub live_of : List (List ℕ) → List (List ℕ)
unfolding is_live
live_of [] = []
live_of (x ∷ xs) = cons_if (is_live x) x (live_of xs)

abbrev pub live_in : Bounds → List ℕ → List (List ℕ)
live_in bd ws = live_of (records bd ws)

abbrev pub live_count : Bounds → List ℕ → ℕ
live_count bd ws = length (live_in bd ws)

-- the new number of record i: how many live ones stand before it
abbrev pub new_number : Bounds → ℕ → List ℕ → ℕ
new_number bd i ws = length (live_of (take i (records bd ws)))

-- the old and the new number of each live record, ascending: i counts the records, k the live ones
unfoldable pub renumbered : ℕ → ℕ → List (List ℕ) → List ℕ
renumbered i k [] = []
renumbered i k ([] ∷ xs) = renumbered (suc i) k xs
renumbered i k ((zero ∷ x) ∷ xs) = renumbered (suc i) k xs
renumbered i k ((suc f ∷ x) ∷ xs) = i ∷ k ∷ renumbered (suc i) (suc k) xs

-- the freed slots are zero; N, F and the words behind the used slots stay
unfoldable pub compact_words : Bounds → List ℕ → List ℕ
unfolding live_of records flatten
compact_words bd ws =
    live_count bd ws ∷ nodes_in ws ∷ files_in ws
    ∷ (flatten (live_in bd ws) ++ (zeros (record_words bd * used_in ws - record_words bd * live_count bd ws) ++ drop (record_words bd * used_in ws) (drop 3 ws)))

-- what the call answers, every word of the database and every word of the list, which has len words
pub record Compacted : Type 0 where
  pub answer : Compaction
  pub database : List ℕ
  pub list : List ℕ

-- a refused call alters no word of the database and leaves the list zero
abbrev pub uncompacted : Compaction → List ℕ → ℕ → Compacted
uncompacted why ws len = record { answer = why; database = ws; list = zeros len }

unfoldable pub compact_call : Bounds → (ℕ → ℕ → Bool) → List ℕ → ℕ → Compacted
unfolding well_formed live_of records compact_words renumbered
compact_call bd known ws len =
    pick (not (well_formed bd known ws)) (uncompacted (Err CompactionRefusal.Malformed) ws len)
    (pick (ltb len (2 * live_count bd ws)) (uncompacted (Err CompactionRefusal.ListTooShort) ws len)
    (record { answer = Ok (live_count bd ws); database = compact_words bd ws; list = renumbered 0 0 (records bd ws) ++ zeros (len - 2 * live_count bd ws) }))
