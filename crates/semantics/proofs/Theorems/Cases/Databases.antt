-- A database as words: which words are 35 and 34, a fresh one, every word of a replacement, a lookup.
-- Document 01, "Partial paths", second paragraph, and the rows 33, 34, 35 and 21 of "Turned back".
use Rattle.std.specs.Prelude.{ℕ, ◌+◌, ◌-◌, ◌*◌, refl, List, [], ◌∷◌, ◌++◌, take, replicate, None}
use Rattle.semantics.specs.declared.search.SearchOrder.TheVariants.{BreadthFirst}
use Rattle.semantics.specs.Limits.{Bounds, base, max_edges, slot_length, record_length}
use Rattle.semantics.specs.Told.{told_replacement}
use Rattle.semantics.specs.Enumeration.{State, no_stats, no_tally}
use Rattle.semantics.specs.PartialPaths.{Route, Slot, dead, slot, clear, replaced}
use Rattle.semantics.specs.Words.{zeros}
use Rattle.semantics.specs.Cases.Rows.{Row, ◌gives◌, Agreed, refused}
use Rattle.semantics.specs.Cases.Graphs.{image_a, image_of, scope, reference, definition, ◌⟶◌}
use Rattle.semantics.specs.Cases.Asked.{bounded, request, request_from, stitched_returned, database_of, held, creating, created_words, file_request, filing, changed_words, first_filed, slots_held, looking_up}

-- WORDS THAT ARE 35 OR 34, on A: F 1, N 6. File 9 is none, so words that are neither are answered by 21, which stands behind both
lent : Bounds → List ℕ → List ℕ
unfolding filing
lent bd words = told_replacement (filing bd (file_request bd BreadthFirst None None 8 9) image_a words).answer

-- the stored N and F, and one slot: file + 1, start, end, edge count, and a word 8 for each edge that it may have
abbrev one_slot : ℕ → ℕ → ℕ → ℕ → ℕ → ℕ → List ℕ
one_slot nodes files owner start end count = 1 ∷ nodes ∷ files ∷ owner ∷ start ∷ end ∷ count ∷ replicate max_edges 8

pub lendings : List (Row (List ℕ))
unfolding lent
lendings =
    -- under 3 words
    (lent base [] gives 35 ∷ [])
    ∷ (lent base (0 ∷ []) gives 35 ∷ [])
    ∷ (lent base (0 ∷ 6 ∷ []) gives 35 ∷ [])
    ∷ (lent base (0 ∷ 6 ∷ 1 ∷ []) gives 21 ∷ 9 ∷ [])
    -- slots used above the whole slots lent: 66 words are none, 67 are one
    ∷ (lent base (1 ∷ 6 ∷ 1 ∷ zeros (record_length - 1)) gives 35 ∷ [])
    ∷ (lent base (1 ∷ 6 ∷ 1 ∷ zeros record_length) gives 21 ∷ 9 ∷ [])
    ∷ (lent base (2 ∷ 6 ∷ 1 ∷ zeros (2 * record_length - 1)) gives 35 ∷ [])
    ∷ (lent base (2 ∷ 6 ∷ 1 ∷ zeros (2 * record_length)) gives 21 ∷ 9 ∷ [])
    -- capacity 4,096, whatever is lent: with slots of 5 words, so that few are needed
    ∷ (lent (bounded 1 9) (4096 ∷ 6 ∷ 1 ∷ zeros 20480) gives 21 ∷ 9 ∷ [])
    ∷ (lent (bounded 1 9) (4096 ∷ 6 ∷ 1 ∷ zeros 20485) gives 21 ∷ 9 ∷ [])
    ∷ (lent (bounded 1 9) (4097 ∷ 6 ∷ 1 ∷ zeros 20485) gives 35 ∷ [])
    -- file 0 is one, file 1 is F
    ∷ (lent base (one_slot 6 1 1 2 3 1) gives 21 ∷ 9 ∷ [])
    ∷ (lent base (one_slot 6 1 2 2 3 1) gives 35 ∷ [])
    -- start 5 is one, start 6 is N
    ∷ (lent base (one_slot 6 1 1 5 3 1) gives 21 ∷ 9 ∷ [])
    ∷ (lent base (one_slot 6 1 1 6 3 1) gives 35 ∷ [])
    -- edge counts 0, 63, 64
    ∷ (lent base (one_slot 6 1 1 2 3 0) gives 35 ∷ [])
    ∷ (lent base (one_slot 6 1 1 2 3 max_edges) gives 21 ∷ 9 ∷ [])
    ∷ (lent base (one_slot 6 1 1 2 3 slot_length) gives 35 ∷ [])
    -- the end is not looked at, and the edges are not
    ∷ (lent base (one_slot 6 1 1 2 4000000000 1) gives 21 ∷ 9 ∷ [])
    -- dead slots and slots beyond use are not looked at
    ∷ (lent base (one_slot 6 1 0 99 99 200) gives 21 ∷ 9 ∷ [])
    ∷ (lent base (0 ∷ 6 ∷ 1 ∷ 9 ∷ 99 ∷ 99 ∷ 0 ∷ zeros max_edges) gives 21 ∷ 9 ∷ [])
    -- each used slot is
    ∷ (lent base (database_of 2 6 1 (held 1 2 3 (0 ∷ []) ∷ held 1 6 3 (0 ∷ []) ∷ [])) gives 35 ∷ [])
    ∷ (lent base (database_of 2 6 1 (held 1 6 3 (0 ∷ []) ∷ held 1 2 3 (0 ∷ []) ∷ [])) gives 35 ∷ [])
    ∷ (lent base (database_of 1 6 1 (held 1 2 3 (0 ∷ []) ∷ held 1 6 3 (0 ∷ []) ∷ [])) gives 21 ∷ 9 ∷ [])
    -- the stored N and F count, not the graph's
    ∷ (lent base (one_slot 4 1 1 4 3 1) gives 35 ∷ [])
    ∷ (lent base (one_slot 6 0 1 2 3 1) gives 35 ∷ [])
    ∷ (lent base (one_slot 8 1 1 7 3 1) gives 34 ∷ [])
    ∷ (lent base (one_slot 6 3 3 2 3 1) gives 34 ∷ [])
    -- 34: the graph's N below the stored one, its F below the stored one; not above
    ∷ (lent base (0 ∷ 7 ∷ 1 ∷ []) gives 34 ∷ [])
    ∷ (lent base (0 ∷ 6 ∷ 2 ∷ []) gives 34 ∷ [])
    ∷ (lent base (0 ∷ 5 ∷ 0 ∷ []) gives 21 ∷ 9 ∷ [])
    -- 35 before 34: slots used above capacity, and a start outside, where N is above the graph's
    ∷ (lent base (9 ∷ 8 ∷ 1 ∷ 0 ∷ []) gives 35 ∷ [])
    ∷ (lent base (one_slot 8 1 1 8 3 1) gives 35 ∷ [])
    ∷ []

pub lending-cases : Agreed lendings
unfolding lendings
lending-cases = refl

-- in stitched search too: the image, 35, 34, then the node
pub stitchings : List (Row (List (List ℕ)))
unfolding stitched_returned
stitchings =
    (stitched_returned base (request_from 3 base BreadthFirst None None None 8 8) (take 76 image_a) [] gives refused (2 ∷ []))
    ∷ (stitched_returned base (request_from 3 base BreadthFirst None None None 8 8) image_a (9 ∷ 8 ∷ 1 ∷ 0 ∷ []) gives refused (35 ∷ []))
    ∷ (stitched_returned base (request_from 3 base BreadthFirst None None None 8 8) image_a (0 ∷ 7 ∷ 1 ∷ []) gives refused (34 ∷ []))
    ∷ (stitched_returned base (request_from 3 base BreadthFirst None None None 8 8) image_a (0 ∷ 6 ∷ 1 ∷ []) gives refused (11 ∷ 3 ∷ []))
    ∷ (stitched_returned base (request base BreadthFirst None None None 8 8) image_a (9 ∷ 8 ∷ 1 ∷ 0 ∷ []) gives refused (35 ∷ []))
    ∷ (stitched_returned base (request base BreadthFirst None None None 8 8) image_a (0 ∷ 6 ∷ 2 ∷ []) gives refused (34 ∷ []))
    ∷ []

pub stitching-cases : Agreed stitchings
unfolding stitchings
stitching-cases = refl

-- EVERY WORD OF A FRESH DATABASE: 0, N, F and zeros; refused, the words stay as they are
pub creations : List (Row (List (List ℕ)))
unfolding creating
creations =
    (created_words (creating image_a (9 ∷ 9 ∷ 9 ∷ 9 ∷ 9 ∷ [])) gives (0 ∷ []) ∷ [] ∷ (0 ∷ 6 ∷ 1 ∷ 0 ∷ 0 ∷ []) ∷ [])
    ∷ (created_words (creating image_a (9 ∷ 9 ∷ 9 ∷ [])) gives (0 ∷ []) ∷ [] ∷ (0 ∷ 6 ∷ 1 ∷ []) ∷ [])
    ∷ (created_words (creating image_a (9 ∷ 9 ∷ [])) gives (35 ∷ []) ∷ [] ∷ (9 ∷ 9 ∷ []) ∷ [])
    -- the image before 35
    ∷ (created_words (creating (take 76 image_a) (9 ∷ 9 ∷ [])) gives (2 ∷ []) ∷ [] ∷ (9 ∷ 9 ∷ []) ∷ [])
    ∷ (created_words (creating (take 76 image_a) (9 ∷ 9 ∷ 9 ∷ 9 ∷ [])) gives (2 ∷ []) ∷ [] ∷ (9 ∷ 9 ∷ 9 ∷ 9 ∷ []) ∷ [])
    ∷ []

pub creation-cases : Agreed creations
unfolding creations
creation-cases = refl

-- EVERY WORD OF A REPLACEMENT

-- three files: file 0 has the one partial path 2:[0], file 1 has 4:[1], file 2 has none
abbrev small : List ℕ
small = image_of 3 (reference 0 7 ∷ definition 0 7 ∷ reference 1 7 ∷ definition 1 7 ∷ scope 2 ∷ []) (2 ⟶ 3 ∷ 4 ⟶ 5 ∷ [])

-- slots of file 0 and of file 1, and between them a dead one, each with words 8 behind what it holds; then words 8
abbrev old0 : List ℕ
old0 = 1 ∷ 2 ∷ 3 ∷ 1 ∷ 0 ∷ replicate (max_edges - 1) 8

abbrev old_dead : List ℕ
old_dead = 0 ∷ 5 ∷ 6 ∷ 7 ∷ replicate max_edges 8

abbrev old1 : List ℕ
old1 = 2 ∷ 3 ∷ 9 ∷ 2 ∷ 4 ∷ 5 ∷ replicate (max_edges - 2) 8

-- the partial paths of A's file
abbrev filed_a : List (List ℕ)
filed_a =
    (1 ∷ 2 ∷ 3 ∷ 1 ∷ 0 ∷ zeros (max_edges - 1))
    ∷ (1 ∷ 3 ∷ 4 ∷ 1 ∷ 1 ∷ zeros (max_edges - 1))
    ∷ (1 ∷ 3 ∷ 5 ∷ 1 ∷ 2 ∷ zeros (max_edges - 1))
    ∷ (1 ∷ 2 ∷ 4 ∷ 2 ∷ 0 ∷ 1 ∷ zeros (max_edges - 2))
    ∷ (1 ∷ 2 ∷ 5 ∷ 2 ∷ 0 ∷ 2 ∷ zeros (max_edges - 2))
    ∷ []

refiled : ℕ → ℕ → List ℕ → List (List ℕ)
unfolding filing
refiled waiting file words = changed_words (filing base (file_request base BreadthFirst None None waiting file) small words)

pub replacements : List (Row (List (List ℕ)))
unfolding refiled filing
replacements =
    -- A's file among words 9, with room for just its 5 slots: used, N and F; file + 1, start, end, edge count, edges and zeros; the words behind stay
    (changed_words (filing base (file_request base BreadthFirst None None 4 0) image_a (0 ∷ 6 ∷ 1 ∷ replicate (5 * record_length + 2) 9)) gives (0 ∷ 8 ∷ 5 ∷ 0 ∷ 0 ∷ 0 ∷ 4 ∷ []) ∷ zeros (4 * slot_length) ∷ database_of 5 6 1 (filed_a ++ ((9 ∷ 9 ∷ []) ∷ [])) ∷ [])
    -- the file's slot becomes zeros, all its words; the dead one keeps its words, the other file's too; the new slot is the next; N and F are the graph's
    ∷ (refiled 2 0 (database_of 3 4 2 (old0 ∷ old_dead ∷ old1 ∷ replicate (record_length + 2) 8 ∷ [])) gives
    (0 ∷ 3 ∷ 1 ∷ 0 ∷ 0 ∷ 0 ∷ 2 ∷ []) ∷ zeros (2 * slot_length) ∷ database_of 4 7 3 (zeros record_length ∷ old_dead ∷ old1 ∷ (1 ∷ 2 ∷ 3 ∷ 1 ∷ 0 ∷ zeros (max_edges - 1)) ∷ (8 ∷ 8 ∷ []) ∷ []) ∷ [])
    ∷ (refiled 2 1 (database_of 3 4 2 (old0 ∷ old_dead ∷ old1 ∷ replicate (record_length + 2) 8 ∷ [])) gives
    (0 ∷ 3 ∷ 1 ∷ 0 ∷ 0 ∷ 0 ∷ 2 ∷ []) ∷ zeros (2 * slot_length) ∷ database_of 4 7 3 (old0 ∷ old_dead ∷ zeros record_length ∷ (2 ∷ 4 ∷ 5 ∷ 1 ∷ 1 ∷ zeros (max_edges - 1)) ∷ (8 ∷ 8 ∷ []) ∷ []) ∷ [])
    -- a file without partial paths needs no slot
    ∷ (refiled 2 2 (database_of 3 4 2 (old0 ∷ old_dead ∷ old1 ∷ [])) gives (0 ∷ 1 ∷ 0 ∷ 0 ∷ 0 ∷ 0 ∷ 1 ∷ []) ∷ zeros (2 * slot_length) ∷ database_of 3 7 3 (old0 ∷ old_dead ∷ old1 ∷ []) ∷ [])
    -- 3 words hold a database of no slots
    ∷ (refiled 2 2 (0 ∷ 1 ∷ 1 ∷ []) gives (0 ∷ 1 ∷ 0 ∷ 0 ∷ 0 ∷ 0 ∷ 1 ∷ []) ∷ zeros (2 * slot_length) ∷ (0 ∷ 7 ∷ 3 ∷ []) ∷ [])
    -- refused, every word stays, and the work area is zero: 33, 31, 21, 34, 35, the image
    ∷ (refiled 2 0 (database_of 3 7 3 (old0 ∷ old_dead ∷ old1 ∷ replicate (record_length - 1) 8 ∷ [])) gives (33 ∷ []) ∷ zeros (2 * slot_length) ∷ database_of 3 7 3 (old0 ∷ old_dead ∷ old1 ∷ replicate (record_length - 1) 8 ∷ []) ∷ [])
    ∷ (refiled 1 0 (database_of 1 7 3 (old0 ∷ replicate record_length 8 ∷ [])) gives (31 ∷ []) ∷ zeros slot_length ∷ database_of 1 7 3 (old0 ∷ replicate record_length 8 ∷ []) ∷ [])
    ∷ (refiled 2 3 (database_of 1 7 3 (old0 ∷ [])) gives (21 ∷ 3 ∷ []) ∷ zeros (2 * slot_length) ∷ database_of 1 7 3 (old0 ∷ []) ∷ [])
    ∷ (refiled 2 0 (database_of 1 8 3 (old0 ∷ [])) gives (34 ∷ []) ∷ zeros (2 * slot_length) ∷ database_of 1 8 3 (old0 ∷ []) ∷ [])
    ∷ (refiled 2 0 (database_of 2 7 3 (old0 ∷ [])) gives (35 ∷ []) ∷ zeros (2 * slot_length) ∷ database_of 2 7 3 (old0 ∷ []) ∷ [])
    ∷ (changed_words (filing base (file_request base BreadthFirst None None 1 9) (take 76 image_a) (9 ∷ [])) gives (2 ∷ []) ∷ zeros slot_length ∷ (9 ∷ []) ∷ [])
    ∷ []

pub replacement-cases : Agreed replacements
unfolding replacements
replacement-cases = refl

-- WHAT THE SLOTS HOLD, and a lookup: the place of the edges and the words there
pub lookups : List (Row (List (List ℕ)))
unfolding slots_held looking_up first_filed
lookups =
    -- file, start, end and edges; nothing for a dead slot
    (slots_held (database_of 3 6 2 (held 1 2 3 (0 ∷ []) ∷ old_dead ∷ held 2 4 5 (6 ∷ 7 ∷ []) ∷ [])) gives (0 ∷ 2 ∷ 3 ∷ 0 ∷ []) ∷ [] ∷ (1 ∷ 4 ∷ 5 ∷ 6 ∷ 7 ∷ []) ∷ [])
    ∷ (slots_held (first_filed image_a) gives (0 ∷ 2 ∷ 3 ∷ 0 ∷ []) ∷ (0 ∷ 3 ∷ 4 ∷ 1 ∷ []) ∷ (0 ∷ 3 ∷ 5 ∷ 2 ∷ []) ∷ (0 ∷ 2 ∷ 4 ∷ 0 ∷ 1 ∷ []) ∷ (0 ∷ 2 ∷ 5 ∷ 0 ∷ 2 ∷ []) ∷ [])
    -- the first slot, the last, one behind it, also where live words stand there
    ∷ (looking_up 0 (first_filed image_a) gives (7 ∷ 8 ∷ []) ∷ (0 ∷ []) ∷ [])
    ∷ (looking_up 4 (first_filed image_a) gives ((7 + 4 * record_length) ∷ (9 + 4 * record_length) ∷ []) ∷ (0 ∷ 2 ∷ []) ∷ [])
    ∷ (looking_up 5 (first_filed image_a) gives (0 ∷ 0 ∷ []) ∷ [] ∷ [])
    ∷ (looking_up 1 (database_of 1 6 1 (held 1 2 3 (0 ∷ []) ∷ held 1 3 4 (1 ∷ []) ∷ [])) gives (0 ∷ 0 ∷ []) ∷ [] ∷ [])
    -- a dead slot; all 63 edges; words that meet 35; words that only 34 would refuse
    ∷ (looking_up 1 (database_of 3 6 2 (held 1 2 3 (0 ∷ []) ∷ old_dead ∷ held 2 4 5 (6 ∷ 7 ∷ []) ∷ [])) gives (0 ∷ 0 ∷ []) ∷ [] ∷ [])
    ∷ (looking_up 0 (one_slot 6 1 1 2 3 max_edges) gives (7 ∷ (7 + max_edges) ∷ []) ∷ replicate max_edges 8 ∷ [])
    ∷ (looking_up 0 (one_slot 6 1 1 2 3 slot_length) gives (0 ∷ 0 ∷ []) ∷ [] ∷ [])
    ∷ (looking_up 0 (one_slot 6 1 1 6 3 1) gives (0 ∷ 0 ∷ []) ∷ [] ∷ [])
    ∷ (looking_up 0 (9 ∷ 8 ∷ 1 ∷ 0 ∷ []) gives (0 ∷ 0 ∷ []) ∷ [] ∷ [])
    ∷ (looking_up 0 [] gives (0 ∷ 0 ∷ []) ∷ [] ∷ [])
    ∷ (looking_up 0 (one_slot 6000 100 1 2 3 2) gives (7 ∷ 9 ∷ []) ∷ (8 ∷ 8 ∷ []) ∷ [])
    ∷ []

pub lookup-cases : Agreed lookups
unfolding lookups
lookup-cases = refl

-- THE SAME ON SLOTS, without words: those of a file become dead, others stay where they are, and the new ones come behind them in the order found
abbrev found : State Route
found = record { rest = record { start = 9; current = 9; edges = [] } ∷ []; pending = []; kept = record { start = 2; current = 3; edges = 0 ∷ [] } ∷ record { start = 2; current = 5; edges = 0 ∷ 1 ∷ [] } ∷ []; stats = no_stats; tally = no_tally }

pub slotted : List (Row (List Slot))
unfolding clear replaced
slotted =
    (clear 0 (dead ∷ slot 0 2 3 (0 ∷ []) ∷ slot 1 4 5 (6 ∷ []) ∷ slot 0 2 3 (1 ∷ []) ∷ []) gives dead ∷ dead ∷ slot 1 4 5 (6 ∷ []) ∷ dead ∷ [])
    ∷ (replaced 1 (slot 1 4 5 (6 ∷ []) ∷ slot 0 2 3 (0 ∷ []) ∷ []) found gives dead ∷ slot 0 2 3 (0 ∷ []) ∷ slot 1 2 3 (0 ∷ []) ∷ slot 1 2 5 (0 ∷ 1 ∷ []) ∷ [])
    ∷ []

pub slot_cases : Agreed slotted
unfolding slotted
slot_cases = refl
