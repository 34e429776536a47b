-- One record of a database at its place: how it is read and written. For every bound on edges.
-- Document 01, "Partial paths": "slots used, N, F; then slots": "file + 1 (0 means dead), start, end, edge count" and edges.
use Rattle.std.specs.Prelude.{ℕ, ◌+◌, ◌≤◌, List, ◌++◌, length, get_or, take, drop}
use Rattle.semantics.specs.Limits.{Bounds, record_words, max_expansions}
use Rattle.semantics.specs.Database.{used_in, record_place}
pub mod Laws

-- the bounds with so many edges
abbrev pub bounded : ℕ → Bounds
bounded edges = record { edges = edges; expansions = max_expansions }

-- record i lies in the words
abbrev pub InWords : Bounds → ℕ → List ℕ → Type 0
InWords bd i ws = record_place bd i + record_words bd ≤ length ws

-- the words in front and all used records lie in the words
abbrev pub Whole : Bounds → List ℕ → Type 0
Whole bd ws = record_place bd (used_in ws) ≤ length ws

-- record i, as the words hold it
abbrev pub record_at : Bounds → ℕ → List ℕ → List ℕ
record_at bd i ws = take (record_words bd) (drop (record_place bd i) ws)

-- the words with other words in the place of record i
unfoldable pub put_record : Bounds → ℕ → List ℕ → List ℕ → List ℕ
put_record bd i r ws = take (record_place bd i) ws ++ (r ++ drop (record_place bd i + record_words bd) ws)

-- record i's owner + 1, or 0 if it is dead
abbrev pub owner_word : Bounds → ℕ → List ℕ → ℕ
owner_word bd i ws = get_or ws (record_place bd i) 0

abbrev pub start_word : Bounds → ℕ → List ℕ → ℕ
start_word bd i ws = get_or ws (record_place bd i + 1) 0

abbrev pub end_word : Bounds → ℕ → List ℕ → ℕ
end_word bd i ws = get_or ws (record_place bd i + 2) 0

abbrev pub count_word : Bounds → ℕ → List ℕ → ℕ
count_word bd i ws = get_or ws (record_place bd i + 3) 0

-- the edges that it counts
abbrev pub edge_words : Bounds → ℕ → List ℕ → List ℕ
edge_words bd i ws = take (count_word bd i ws) (drop (record_place bd i + 4) ws)
