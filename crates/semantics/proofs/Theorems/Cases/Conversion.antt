-- The converter by computation: every word of what it writes, the order of its refusals, each boundary, and an instance of its theorem on demand 3's premise.
-- Document 02, order 6.
use Rattle.std.specs.Prelude.{ℕ, ◌+◌, ◌-◌, ◌*◌, refl, List, [], ◌∷◌, ◌++◌, replicate}
use Rattle.semantics.specs.Limits.{Bounds, former, max_edges, record_length, record_words}
use Rattle.semantics.specs.Words.{zeros}
use Rattle.semantics.specs.Told.{told_conversion}
use Rattle.semantics.specs.Database.{known_owners}
use Rattle.semantics.specs.Database.Conversion.{Converted, convert_call}
use Rattle.semantics.specs.Entries.{convert_database}
use Rattle.semantics.specs.Cases.Rows.{Row, ◌gives◌, Agreed}
use Rattle.semantics.specs.Cases.Asked.{database_of, held, held_in}

-- what is answered, and every word of the written area
abbrev told : Converted → List (List ℕ)
told c = told_conversion c.answer ∷ c.written ∷ []

-- an area of so many words, of which each held 9
unfoldable converting : List ℕ → ℕ → List (List ℕ)
unfolding convert_call
converting old len = told (convert_database old (replicate len 9))

abbrev refused_in : ℕ → ℕ → List (List ℕ)
refused_in number len = (number ∷ []) ∷ zeros len ∷ []

-- a record of the old length, and words for so many slots of the new
abbrev held_before : ℕ → ℕ → ℕ → List ℕ → List ℕ
held_before = held_in former.edges

abbrev lent_for : ℕ → ℕ
lent_for slots = 3 + record_length * slots

-- one old slot: N, F, the first word, start, end, edge count, and a word 8 for each edge that it may have
abbrev one_before : ℕ → ℕ → ℕ → ℕ → ℕ → ℕ → List ℕ
one_before nodes files owner start end count = 1 ∷ nodes ∷ files ∷ owner ∷ start ∷ end ∷ count ∷ replicate former.edges 8

-- a dead slot in which words were left
abbrev rubbish : List ℕ
rubbish = 0 ∷ replicate (record_words former - 1) 9

pub conversions : List (Row (List (List ℕ)))
unfolding converting
conversions =
    -- under 3 words the old area is none; the empty one wants three words, and what lies behind it is not copied
    (converting [] 3 gives refused_in 35 3)
    ∷ (converting (0 ∷ 6 ∷ []) 3 gives refused_in 35 3)
    ∷ (converting (0 ∷ 6 ∷ 2 ∷ []) 3 gives (0 ∷ []) ∷ (0 ∷ 6 ∷ 2 ∷ []) ∷ [])
    ∷ (converting (0 ∷ 6 ∷ 2 ∷ 5 ∷ []) 5 gives (0 ∷ []) ∷ (0 ∷ 6 ∷ 2 ∷ 0 ∷ 0 ∷ []) ∷ [])
    ∷ (converting (0 ∷ 6 ∷ 2 ∷ []) 2 gives refused_in 33 2)
    ∷ (converting (0 ∷ 6 ∷ 2 ∷ []) 1 gives refused_in 33 1)
    ∷ (converting (0 ∷ 6 ∷ 2 ∷ []) 0 gives refused_in 33 0)
    -- a dead slot between live ones keeps its number and loses its words; N and F are not exchanged, and an end is not looked at
    ∷ (converting (database_of 3 6 2 (held_before 1 2 4000000000 (0 ∷ 7 ∷ []) ∷ rubbish ∷ held_before 2 4 5 (6 ∷ []) ∷ [])) (lent_for 3)
    gives (0 ∷ []) ∷ database_of 3 6 2 (held 1 2 4000000000 (0 ∷ 7 ∷ []) ∷ zeros record_length ∷ held 2 4 5 (6 ∷ []) ∷ []) ∷ [])
    -- words behind the last edge, unused slots of the old area and of the new one: zeros
    ∷ (converting (one_before 6 1 1 2 3 2) (lent_for 1) gives (0 ∷ []) ∷ database_of 1 6 1 (held 1 2 3 (8 ∷ 8 ∷ []) ∷ []) ∷ [])
    ∷ (converting (database_of 1 6 1 (held_before 1 2 3 (0 ∷ []) ∷ held_before 1 2 3 (1 ∷ []) ∷ [])) (lent_for 2 + 1)
    gives (0 ∷ []) ∷ (database_of 1 6 1 (held 1 2 3 (0 ∷ []) ∷ []) ++ zeros (record_length + 1)) ∷ [])
    -- the alias set's slots, whatever F is; neither the number before nor the one behind
    ∷ (converting (one_before 6 0 65535 0 0 1) (lent_for 1) gives (0 ∷ []) ∷ database_of 1 6 0 (held 65535 0 0 (8 ∷ []) ∷ []) ∷ [])
    ∷ (converting (one_before 6 1 65534 0 0 1) (lent_for 1) gives refused_in 35 (lent_for 1))
    ∷ (converting (one_before 6 1 65536 0 0 1) (lent_for 1) gives refused_in 35 (lent_for 1))
    -- 35 is that of the old slots: file 1 is F, start 6 is N, edge counts 0 and 128; used above the whole slots of 131 words
    ∷ (converting (one_before 6 1 2 2 3 1) (lent_for 1) gives refused_in 35 (lent_for 1))
    ∷ (converting (one_before 6 1 1 6 3 1) (lent_for 1) gives refused_in 35 (lent_for 1))
    ∷ (converting (one_before 6 1 1 2 3 0) (lent_for 1) gives refused_in 35 (lent_for 1))
    ∷ (converting (one_before 6 1 1 2 3 (former.edges + 1)) (lent_for 1) gives refused_in 35 (lent_for 1))
    ∷ (converting (1 ∷ 6 ∷ 1 ∷ zeros (record_words former - 1)) (lent_for 1) gives refused_in 35 (lent_for 1))
    ∷ (converting (1 ∷ 6 ∷ 1 ∷ zeros (record_words former)) (lent_for 1) gives (0 ∷ []) ∷ (1 ∷ 6 ∷ 1 ∷ zeros record_length) ∷ [])
    -- 39 from the 64th edge on, to the 127th; a dead slot may have any count
    ∷ (converting (one_before 6 1 1 2 3 max_edges) (lent_for 1) gives (0 ∷ []) ∷ database_of 1 6 1 (held 1 2 3 (replicate max_edges 8) ∷ []) ∷ [])
    ∷ (converting (one_before 6 1 1 2 3 (max_edges + 1)) (lent_for 1) gives refused_in 39 (lent_for 1))
    ∷ (converting (one_before 6 1 1 2 3 former.edges) (lent_for 1) gives refused_in 39 (lent_for 1))
    ∷ (converting (one_before 6 1 0 2 3 former.edges) (lent_for 1) gives (0 ∷ []) ∷ (1 ∷ 6 ∷ 1 ∷ zeros record_length) ∷ [])
    -- also where the last slot alone is too long
    ∷ (converting (database_of 2 6 1 (held_before 1 2 3 (0 ∷ []) ∷ held_before 1 2 3 (replicate (max_edges + 1) 5) ∷ [])) (lent_for 2) gives refused_in 39 (lent_for 2))
    -- 33: one word short of the used slots, dead ones among them; before 39, and behind 35
    ∷ (converting (one_before 6 1 1 2 3 2) (lent_for 1 - 1) gives refused_in 33 (lent_for 1 - 1))
    ∷ (converting (database_of 2 6 1 (held_before 1 2 3 (0 ∷ []) ∷ rubbish ∷ [])) (lent_for 2 - 1) gives refused_in 33 (lent_for 2 - 1))
    ∷ (converting (one_before 6 1 1 2 3 (max_edges + 1)) (lent_for 1 - 1) gives refused_in 33 (lent_for 1 - 1))
    ∷ (converting (one_before 6 1 1 2 3 0) 2 gives refused_in 35 2)
    ∷ []

pub conversion-cases : Agreed conversions
unfolding conversions
conversion-cases = refl

-- THE CAPACITY of either area is at most 4,096: with slots of two edges before and of one after, so that few words are needed
abbrev two : Bounds
two = record { edges = 2; expansions = 9 }

abbrev one : Bounds
one = record { edges = 1; expansions = 9 }

unfoldable answering : List ℕ → ℕ → List ℕ
unfolding convert_call
answering old len = told_conversion (convert_call two one known_owners old len).answer

pub capacities : List (Row (List ℕ))
unfolding answering
capacities =
    (answering (4096 ∷ 6 ∷ 1 ∷ zeros (4096 * record_words two)) (3 + 4096 * record_words one) gives 0 ∷ [])
    ∷ (answering (4096 ∷ 6 ∷ 1 ∷ zeros (4096 * record_words two)) (2 + 4096 * record_words one) gives 33 ∷ [])
    ∷ (answering (4097 ∷ 6 ∷ 1 ∷ zeros (4097 * record_words two)) (3 + 4097 * record_words one) gives 35 ∷ [])
    ∷ []

pub capacity-cases : Agreed capacities
unfolding capacities
capacity-cases = refl
