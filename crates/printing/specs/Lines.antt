-- What the lines of a result area are, as bytes.
use Rattle.std.specs.Prelude.{ℕ, zero, suc, ◌+◌, ◌*◌, min, List, [], ◌∷◌, ◌++◌, take, drop, decimal, slice_index, slice_range}
use Rattle.semantics.specs.Limits.{slot_length, max_edges}

-- each number behind a space
abbrev pub spaced : List ℕ → List ℕ
spaced [] = []
spaced (x ∷ xs) = (32 ∷ decimal x) ++ spaced xs

-- the edges of a slot: its first word says how many there are
abbrev pub slot_edges : List ℕ → List ℕ
slot_edges slot = take (min (slice_index slot 0) max_edges) (drop 1 slot)

-- a name, the edges of a slot, and the line's end
abbrev pub path_line : List ℕ → List ℕ → List ℕ
path_line name slot = name ++ spaced (slot_edges slot) ++ (10 ∷ [])

-- the slot at a place of an area
abbrev pub slot_at : List ℕ → ℕ → List ℕ
slot_at area i = slice_range area (slot_length * i) (slot_length * i + slot_length)

-- the lines of the first slots of an area
abbrev pub path_lines : List ℕ → List ℕ → ℕ → List ℕ
path_lines name area zero = []
path_lines name area (suc n) = path_lines name area n ++ path_line name (slot_at area n)
