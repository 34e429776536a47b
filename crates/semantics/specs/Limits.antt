-- Limits that are each a number or absent, and the two bounds that hold always.
-- Document 01, "Budget and frontier"; 30 and 36 of "Turned back".
use Rattle.std.specs.Prelude.{ℕ, suc, ◌+◌, ◌*◌, Bool, true, leb, ltb, None, Some}
use Rattle.std.specs.declared.option.Option.{Option}

-- a limit is a number or absent
abbrev pub Limit : Type 0
Limit = Option ℕ

-- a length is refused only above its limit
abbrev pub within : ℕ → Limit → Bool
within n None = true
within n (Some m) = leb n m

-- an expansion, and the keeping of a complete path, are refused when the count has reached its limit
abbrev pub below : ℕ → Limit → Bool
below n None = true
below n (Some m) = ltb n m

-- how many edges a path may hold, and how many expansions a search may make
pub record Bounds : Type 0 where
  pub edges : ℕ
  pub expansions : ℕ

abbrev pub base : Bounds
base = record { edges = 63; expansions = 16777216 }

-- the bound that databases were made under before document 02, order 6
abbrev pub former : Bounds
former = record { edges = 127; expansions = 16777216 }

-- THE NUMBERS THAT FOLLOW FROM THEM, each named once

abbrev pub max_edges : ℕ
max_edges = base.edges

abbrev pub max_expansions : ℕ
max_expansions = base.expansions

-- a result or waiting slot in words: the edge count and the edges
abbrev pub slot_words : Bounds → ℕ
slot_words bd = suc bd.edges

abbrev pub slot_length : ℕ
slot_length = slot_words base

-- a database slot, its record, in words: owner + 1, start, end, the edge count and the edges
abbrev pub record_words : Bounds → ℕ
record_words bd = bd.edges + 4

abbrev pub record_length : ℕ
record_length = record_words base

-- the owner of the alias set, which no file of a graph is: its slots have 65,535 as their first word, which is the owner plus 1
abbrev pub nobody : ℕ
nobody = 65534

-- a step of a path in words, of which its symbol has two, and all steps of a path: one for the reference and one for each edge
abbrev pub step_length : ℕ
step_length = 9

abbrev pub steps_length : ℕ
steps_length = step_length * slot_length

-- a window over the expanded counts of the last searches, document 02, order 10: how many entries it is over, and its words, of which the first is a place
abbrev pub window_entries : ℕ
window_entries = 1024

abbrev pub window_words : ℕ
window_words = suc window_entries

-- a row of a flow directory in bytes, document 02, order 11: the ISIN, the tranche, the leg and the reference, of which the first three are its key
abbrev pub isin_bytes : ℕ
isin_bytes = 12

abbrev pub key_bytes : ℕ
key_bytes = 16

abbrev pub row_bytes : ℕ
row_bytes = 18

-- at most so many edges or partial paths are looked at before an expansion, and at any time: 4,096 in each of the expansions that a search may make
abbrev pub looked_before : ℕ
looked_before = 549755813888

abbrev pub looked_ever : ℕ
looked_ever = 1099511627776
