-- A database as words: slots used, N, F, then records, each four words and its edges; its checks, a fresh one, a file replaced, a lookup.
-- Document 01, "Partial paths", second paragraph; 33, 34 and 35 of "Turned back".
use Rattle.std.specs.Prelude.{ℕ, zero, suc, ◌+◌, ◌-◌, ◌*◌, Bool, true, false, eqb, leb, ltb, length, get_or, take, drop}
use mathlib.Core.List.{List, [], ◌∷◌, ◌++◌, map, flatten}
use Rattle.std.proofs.Math.Seq.{slice}
use Rattle.semantics.specs.declared.refusal.DatabaseRefusal.{DatabaseRefusal}
use Rattle.semantics.specs.declared.refusal.DatabaseRefusal.TheVariants.{Malformed, Outgrown}
use Rattle.semantics.specs.Lists.{or, and, pick}
use Rattle.semantics.specs.Limits.{Bounds, record_words, nobody}
use Rattle.semantics.specs.Answer.{Answer, and_then, ok_if}
use Rattle.semantics.specs.Graph.{Graph}
use Rattle.semantics.specs.Enumeration.{State}
use Rattle.semantics.specs.PartialPaths.{Route, Slot, dead, slot, slot_of}
use Rattle.semantics.specs.Words.{zeros, whole_slots, slots_of}
pub mod Laws
pub mod Checked
pub mod Lookup
pub mod Conversion
pub mod Compaction

abbrev pub used_in : List ℕ → ℕ
used_in ws = get_or ws 0 0

abbrev pub nodes_in : List ℕ → ℕ
nodes_in ws = get_or ws 1 0

abbrev pub files_in : List ℕ → ℕ
files_in ws = get_or ws 2 0

-- the lesser of 4,096 and the whole slots lent
unfoldable pub capacity : Bounds → List ℕ → ℕ
capacity bd ws = pick (ltb (whole_slots (record_words bd) (length ws - 3)) 4096) (whole_slots (record_words bd) (length ws - 3)) 4096

-- owner + 1 or 0 for dead, start, end, edge count, edges
unfoldable pub decode : List ℕ → Slot
decode [] = dead
decode (zero ∷ ws) = dead
decode (suc f ∷ ws) = slot f (get_or ws 0 0) (get_or ws 1 0) (take (get_or ws 2 0) (drop 3 ws))

unfoldable pub encode_slot : ℕ → Slot → List ℕ
encode_slot L dead = zeros L
encode_slot L (slot f start end edges) = take L (suc f ∷ start ∷ end ∷ length edges ∷ (edges ++ zeros L))

unfoldable pub records : Bounds → List ℕ → List (List ℕ)
unfolding slots_of
records bd ws = slots_of (record_words bd) (used_in ws) (drop 3 ws)

unfoldable pub slots_in : Bounds → List ℕ → List Slot
unfolding records decode
slots_in bd ws = map decode (records bd ws)

-- which owners a database may name, given the stored F: the files, and nobody, whatever F is
abbrev pub known_owners : ℕ → ℕ → Bool
known_owners files f = or (ltb f files) (eqb f nobody)

-- a live record has a known owner, a start below N and 1 to as many edges as the bound says
unfoldable pub sound : Bounds → (ℕ → ℕ → Bool) → ℕ → ℕ → List ℕ → Bool
sound bd known nodes files [] = true
sound bd known nodes files (zero ∷ ws) = true
sound bd known nodes files (suc f ∷ ws) = and (known files f) (and (ltb (get_or ws 0 0) nodes) (and (leb 1 (get_or ws 2 0)) (leb (get_or ws 2 0) bd.edges)))

unfoldable pub every : (List ℕ → Bool) → List (List ℕ) → Bool
every test [] = true
every test (x ∷ xs) = and (test x) (every test xs)

unfoldable pub well_formed : Bounds → (ℕ → ℕ → Bool) → List ℕ → Bool
unfolding capacity every sound records
well_formed bd known ws = and (leb 3 (length ws)) (and (leb (used_in ws) (capacity bd ws)) (every (sound bd known (nodes_in ws) (files_in ws)) (records bd ws)))

-- 35, then 34, then the slots
unfoldable pub check_database : Bounds → (ℕ → ℕ → Bool) → Graph → List ℕ → Answer DatabaseRefusal (List Slot)
unfolding ok_if well_formed slots_in
check_database bd known g ws =
    and_then (ok_if (well_formed bd known ws) Malformed ws)
    (λ x. ok_if (and (leb (nodes_in ws) (length g.nodes)) (leb (files_in ws) g.files)) Outgrown (slots_in bd ws))

-- a fresh database holds 0, N, F and zeros
abbrev pub fresh_words : Graph → ℕ → List ℕ
fresh_words g len = 0 ∷ length g.nodes ∷ g.files ∷ zeros (len - 3)

-- a live record of the owner becomes zeros, any other stays as it is
unfoldable pub zero_if : Bool → List ℕ → List ℕ
zero_if true ws = zeros (length ws)
zero_if false ws = ws

unfoldable pub clear_record : ℕ → List ℕ → List ℕ
unfolding zero_if
clear_record f [] = []
clear_record f (zero ∷ ws) = zero ∷ ws
clear_record f (suc w ∷ ws) = zero_if (eqb w f) (suc w ∷ ws)

-- the words behind the new slots stay as they were
unfoldable pub replace_words : Bounds → Graph → ℕ → State Route → List ℕ → List ℕ
unfolding flatten clear_record encode_slot records
replace_words bd g f s ws =
    (used_in ws + length s.kept) ∷ length g.nodes ∷ g.files
    ∷ (flatten (map (clear_record f) (records bd ws)) ++ (flatten (map (λ r. encode_slot (record_words bd) (slot_of f r)) s.kept) ++ drop (record_words bd * (used_in ws + length s.kept)) (drop 3 ws)))

-- slots used plus new ones do not exceed capacity; else 33
unfoldable pub has_room : Bounds → State Route → List ℕ → Bool
unfolding capacity
has_room bd s ws = leb (used_in ws + length s.kept) (capacity bd ws)

-- A LOOKUP: the part of the words from one place up to another
pub record Part : Type 0 where
  pub from : ℕ
  pub up_to : ℕ

abbrev pub empty_part : Part
empty_part = record { from = 0; up_to = 0 }

-- the edges of a record that stands at a place, or none if it is dead
unfoldable pub edges_part : ℕ → List ℕ → Part
edges_part at [] = empty_part
edges_part at (zero ∷ ws) = empty_part
edges_part at (suc f ∷ ws) = record { from = at + 4; up_to = at + 4 + get_or ws 2 0 }

unfoldable pub part_if : Bool → Part → Part
part_if true p = p
part_if false p = empty_part

-- where record i stands
abbrev pub record_place : Bounds → ℕ → ℕ
record_place bd i = 3 + record_words bd * i

-- the part that holds a partial path's edges, or an empty one if it is dead, beyond use or in words that meet 35
unfoldable pub lookup_part : Bounds → (ℕ → ℕ → Bool) → ℕ → List ℕ → Part
unfolding part_if edges_part well_formed
lookup_part bd known i ws = part_if (and (well_formed bd known ws) (ltb i (used_in ws))) (edges_part (record_place bd i) (take (record_words bd) (drop (record_place bd i) ws)))

-- the words of a part
abbrev pub words_of : Part → List ℕ → List ℕ
words_of p ws = slice p.from p.up_to ws

-- where word i of a slice stands: in the slice's own memory, 4 bytes a word behind its start
abbrev pub word_place : ℕ × ℕ → ℕ → ℕ × ℕ
word_place p i = (p.0, i * 4 + p.1)
