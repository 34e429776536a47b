-- A database without its dead slots: every word of the database and of the list at each boundary, the order of the checks, and what other calls see.
-- Document 02, order 7.
use Rattle.std.specs.Prelude.{ℕ, ◌+◌, ◌-◌, ◌*◌, refl, List, [], ◌∷◌, ◌++◌, replicate, None}
use Rattle.semantics.specs.declared.search.SearchOrder.TheVariants.{BreadthFirst, DepthFirst}
use Rattle.semantics.specs.Limits.{Bounds, base, max_edges, record_length}
use Rattle.semantics.specs.Told.{told_replacement}
use Rattle.semantics.specs.Words.{zeros}
use Rattle.semantics.specs.Database.{known_owners}
use Rattle.semantics.specs.Database.Compaction.{compact_call}
use Rattle.semantics.specs.Calls.{Request}
use Rattle.semantics.specs.Entries.{compact_database}
use Rattle.semantics.specs.Cases.Rows.{Row, ◌gives◌, Agreed, refused, returned◌expanded◌complete◌rejected◌cycles◌flags◌paths◌, no_flag}
use Rattle.semantics.specs.Cases.Graphs.{image_a, image_of, joined, reference, definition, ◌⟶◌}
use Rattle.semantics.specs.Cases.Asked.{bounded, request_from, request, database_of, held, compacting, compacted_words, stitched_returned, stitched_recorded, file_request, filing, aliases_with, aliasing, looking_up}

-- EVERY WORD, with slots of two edges, so 6 words

abbrev two : Bounds
two = bounded 2 9

abbrev compact : List ℕ → ℕ → List (List ℕ)
compact = compacting two

-- live slots, each with an odd word behind its last edge; a dead one that is full of them; N is 4 and F 2 where they stand
abbrev l0 : List ℕ
l0 = 1 ∷ 3 ∷ 7 ∷ 1 ∷ 8 ∷ 51 ∷ []

abbrev l1 : List ℕ
l1 = 2 ∷ 0 ∷ 6 ∷ 1 ∷ 5 ∷ 52 ∷ []

abbrev l2 : List ℕ
l2 = 1 ∷ 2 ∷ 9 ∷ 2 ∷ 4 ∷ 3 ∷ []

-- of the alias set
abbrev set : List ℕ
set = 65535 ∷ 0 ∷ 4 ∷ 1 ∷ 2 ∷ 53 ∷ []

abbrev gone : List ℕ
gone = 0 ∷ 9 ∷ 9 ∷ 9 ∷ 9 ∷ 9 ∷ []

abbrev none : List ℕ
none = zeros 6

-- words behind the used slots: more than a slot, of which the first would be a live one
abbrev odd : List ℕ
odd = 1 ∷ 3 ∷ 7 ∷ 1 ∷ 8 ∷ 11 ∷ 12 ∷ []

unfoldable pub places : List (Row (List (List ℕ)))
unfolding compacting
places =
    -- EMPTY: three words; words behind, which stay; a list, which becomes zero
    (compact (0 ∷ 4 ∷ 2 ∷ []) 0 gives (0 ∷ 0 ∷ []) ∷ (0 ∷ 4 ∷ 2 ∷ []) ∷ [] ∷ [])
    ∷ (compact (database_of 0 4 2 (odd ∷ [])) 3 gives (0 ∷ 0 ∷ []) ∷ database_of 0 4 2 (odd ∷ []) ∷ (0 ∷ 0 ∷ 0 ∷ []) ∷ [])
    -- NONE DEAD: full, and with words behind; every word stays, and each number is its own
    ∷ (compact (database_of 3 4 2 (l0 ∷ l1 ∷ l2 ∷ [])) 6 gives (0 ∷ 3 ∷ []) ∷ database_of 3 4 2 (l0 ∷ l1 ∷ l2 ∷ []) ∷ (0 ∷ 0 ∷ 1 ∷ 1 ∷ 2 ∷ 2 ∷ []) ∷ [])
    ∷ (compact (database_of 1 4 2 (l0 ∷ odd ∷ [])) 2 gives (0 ∷ 1 ∷ []) ∷ database_of 1 4 2 (l0 ∷ odd ∷ []) ∷ (0 ∷ 0 ∷ []) ∷ [])
    -- ALL DEAD: no list is wanted; their words become zero, those behind stay
    ∷ (compact (database_of 2 4 2 (gone ∷ gone ∷ odd ∷ [])) 0 gives (0 ∷ 0 ∷ []) ∷ database_of 0 4 2 (none ∷ none ∷ odd ∷ []) ∷ [] ∷ [])
    ∷ (compact (database_of 2 4 2 (gone ∷ none ∷ [])) 1 gives (0 ∷ 0 ∷ []) ∷ database_of 0 4 2 (none ∷ none ∷ []) ∷ (0 ∷ []) ∷ [])
    -- ONE DEAD: the first, in the middle, the last. The live ones move whole and keep their order; the freed slot is the last
    ∷ (compact (database_of 3 4 2 (gone ∷ l0 ∷ l1 ∷ odd ∷ [])) 4 gives (0 ∷ 2 ∷ []) ∷ database_of 2 4 2 (l0 ∷ l1 ∷ none ∷ odd ∷ []) ∷ (1 ∷ 0 ∷ 2 ∷ 1 ∷ []) ∷ [])
    ∷ (compact (database_of 3 4 2 (l0 ∷ gone ∷ l1 ∷ odd ∷ [])) 4 gives (0 ∷ 2 ∷ []) ∷ database_of 2 4 2 (l0 ∷ l1 ∷ none ∷ odd ∷ []) ∷ (0 ∷ 0 ∷ 2 ∷ 1 ∷ []) ∷ [])
    ∷ (compact (database_of 3 4 2 (l0 ∷ l1 ∷ gone ∷ odd ∷ [])) 4 gives (0 ∷ 2 ∷ []) ∷ database_of 2 4 2 (l0 ∷ l1 ∷ none ∷ odd ∷ []) ∷ (0 ∷ 0 ∷ 1 ∷ 1 ∷ []) ∷ [])
    -- SEVERAL, where filling the gaps from the end would give another order; no words behind
    ∷ (compact (database_of 7 4 2 (gone ∷ l0 ∷ gone ∷ none ∷ l1 ∷ l2 ∷ gone ∷ [])) 6 gives (0 ∷ 3 ∷ []) ∷ database_of 3 4 2 (l0 ∷ l1 ∷ l2 ∷ none ∷ none ∷ none ∷ none ∷ []) ∷ (1 ∷ 0 ∷ 4 ∷ 1 ∷ 5 ∷ 2 ∷ []) ∷ [])
    ∷ (compact (database_of 4 4 2 (l2 ∷ gone ∷ l1 ∷ l0 ∷ [])) 6 gives (0 ∷ 3 ∷ []) ∷ database_of 3 4 2 (l2 ∷ l1 ∷ l0 ∷ none ∷ []) ∷ (0 ∷ 0 ∷ 2 ∷ 1 ∷ 3 ∷ 2 ∷ []) ∷ [])
    -- of the alias set, also where F is 0; two slots that are alike are both kept
    ∷ (compact (database_of 3 4 0 (set ∷ gone ∷ set ∷ [])) 4 gives (0 ∷ 2 ∷ []) ∷ database_of 2 4 0 (set ∷ set ∷ none ∷ []) ∷ (0 ∷ 0 ∷ 2 ∷ 1 ∷ []) ∷ [])
    ∷ (compact (database_of 4 4 2 (gone ∷ set ∷ l0 ∷ set ∷ [])) 6 gives (0 ∷ 3 ∷ []) ∷ database_of 3 4 2 (set ∷ l0 ∷ set ∷ none ∷ []) ∷ (1 ∷ 0 ∷ 2 ∷ 1 ∷ 3 ∷ 2 ∷ []) ∷ [])
    -- N and F stay, whatever graph they were of
    ∷ (compact (database_of 2 4096 256 (gone ∷ l0 ∷ [])) 2 gives (0 ∷ 1 ∷ []) ∷ database_of 1 4096 256 (l0 ∷ none ∷ []) ∷ (1 ∷ 0 ∷ []) ∷ [])
    ∷ []

pub place-cases : Agreed places
unfolding places
place-cases = refl

-- THE LIST: zeros behind the last pair, also a single one; one word short, two, and none at all, where no word of the database moves and the list is zero
abbrev holed : List ℕ
holed = database_of 3 4 2 (gone ∷ l0 ∷ l1 ∷ odd ∷ [])

abbrev closed : List ℕ
closed = database_of 2 4 2 (l0 ∷ l1 ∷ none ∷ odd ∷ [])

unfoldable pub lists : List (Row (List (List ℕ)))
unfolding compacting
lists =
    (compact holed 7 gives (0 ∷ 2 ∷ []) ∷ closed ∷ (1 ∷ 0 ∷ 2 ∷ 1 ∷ 0 ∷ 0 ∷ 0 ∷ []) ∷ [])
    ∷ (compact holed 5 gives (0 ∷ 2 ∷ []) ∷ closed ∷ (1 ∷ 0 ∷ 2 ∷ 1 ∷ 0 ∷ []) ∷ [])
    ∷ (compact holed 4 gives (0 ∷ 2 ∷ []) ∷ closed ∷ (1 ∷ 0 ∷ 2 ∷ 1 ∷ []) ∷ [])
    ∷ (compact holed 3 gives (32 ∷ []) ∷ holed ∷ (0 ∷ 0 ∷ 0 ∷ []) ∷ [])
    ∷ (compact holed 2 gives (32 ∷ []) ∷ holed ∷ (0 ∷ 0 ∷ []) ∷ [])
    ∷ (compact holed 0 gives (32 ∷ []) ∷ holed ∷ [] ∷ [])
    -- also where nothing would move, and where all that is missing is the pair of a slot that stays
    ∷ (compact (database_of 1 4 2 (l0 ∷ [])) 1 gives (32 ∷ []) ∷ database_of 1 4 2 (l0 ∷ []) ∷ (0 ∷ []) ∷ [])
    ∷ (compact (database_of 2 4 2 (l0 ∷ gone ∷ [])) 1 gives (32 ∷ []) ∷ database_of 2 4 2 (l0 ∷ gone ∷ []) ∷ (0 ∷ []) ∷ [])
    -- done twice, the second time nothing moves
    ∷ (compact closed 4 gives (0 ∷ 2 ∷ []) ∷ closed ∷ (0 ∷ 0 ∷ 1 ∷ 1 ∷ []) ∷ [])
    ∷ []

pub list_cases : Agreed lists
unfolding lists
list_cases = refl

-- 35, and before 32: under 3 words; slots used above the whole slots lent; an owner that is none, a start that is N, no edge, an edge too many.
-- No word moves, the list is zero. A dead slot and the words behind are not looked at
abbrev flawed : ℕ → ℕ → ℕ → List ℕ
flawed owner start count = database_of 2 4 2 (gone ∷ (owner ∷ start ∷ 7 ∷ count ∷ 8 ∷ 51 ∷ []) ∷ [])

unfoldable pub malformed : List (Row (List (List ℕ)))
unfolding compacting
malformed =
    (compact [] 2 gives (35 ∷ []) ∷ [] ∷ (0 ∷ 0 ∷ []) ∷ [])
    ∷ (compact (0 ∷ 4 ∷ []) 0 gives (35 ∷ []) ∷ (0 ∷ 4 ∷ []) ∷ [] ∷ [])
    ∷ (compact (2 ∷ 4 ∷ 2 ∷ (gone ++ (1 ∷ 3 ∷ 7 ∷ 1 ∷ 8 ∷ []))) 8 gives (35 ∷ []) ∷ (2 ∷ 4 ∷ 2 ∷ (gone ++ (1 ∷ 3 ∷ 7 ∷ 1 ∷ 8 ∷ []))) ∷ zeros 8 ∷ [])
    ∷ (compact (flawed 3 3 1) 2 gives (35 ∷ []) ∷ flawed 3 3 1 ∷ (0 ∷ 0 ∷ []) ∷ [])
    ∷ (compact (flawed 65536 3 1) 2 gives (35 ∷ []) ∷ flawed 65536 3 1 ∷ (0 ∷ 0 ∷ []) ∷ [])
    ∷ (compact (flawed 1 4 1) 2 gives (35 ∷ []) ∷ flawed 1 4 1 ∷ (0 ∷ 0 ∷ []) ∷ [])
    ∷ (compact (flawed 1 3 0) 2 gives (35 ∷ []) ∷ flawed 1 3 0 ∷ (0 ∷ 0 ∷ []) ∷ [])
    ∷ (compact (flawed 1 3 3) 2 gives (35 ∷ []) ∷ flawed 1 3 3 ∷ (0 ∷ 0 ∷ []) ∷ [])
    ∷ (compact (flawed 2 3 2) 2 gives (0 ∷ 1 ∷ []) ∷ database_of 1 4 2 ((2 ∷ 3 ∷ 7 ∷ 2 ∷ 8 ∷ 51 ∷ []) ∷ none ∷ []) ∷ (1 ∷ 0 ∷ []) ∷ [])
    -- where the list is too short as well
    ∷ (compact (flawed 1 4 1) 1 gives (35 ∷ []) ∷ flawed 1 4 1 ∷ (0 ∷ []) ∷ [])
    ∷ (compact (flawed 1 4 1) 0 gives (35 ∷ []) ∷ flawed 1 4 1 ∷ [] ∷ [])
    ∷ []

pub malformed-cases : Agreed malformed
unfolding malformed
malformed-cases = refl

-- CAPACITY 4,096, with slots of 5 words: the last one alone is live; one slot more is 35
abbrev many : ℕ → List ℕ
many dead = joined (replicate dead (0 ∷ 9 ∷ 9 ∷ 9 ∷ 9 ∷ []))

abbrev last : List ℕ
last = 1 ∷ 3 ∷ 7 ∷ 1 ∷ 8 ∷ []

unfoldable pub largest : List (Row (List (List ℕ)))
unfolding compacting
largest =
    (compacting (bounded 1 9) (database_of 4096 4 1 (many 4095 ∷ last ∷ [])) 2 gives (0 ∷ 1 ∷ []) ∷ database_of 1 4 1 (last ∷ zeros (5 * 4095) ∷ []) ∷ (4095 ∷ 0 ∷ []) ∷ [])
    ∷ (compacting (bounded 1 9) (database_of 4097 4 1 (zeros (5 * 4096) ∷ last ∷ [])) 2 gives (35 ∷ []) ∷ database_of 4097 4 1 (zeros (5 * 4096) ∷ last ∷ []) ∷ (0 ∷ 0 ∷ []) ∷ [])
    ∷ []

pub largest-cases : Agreed largest
unfolding largest
largest-cases = refl

-- THE ENTRY: slots of the present bound; of the list only its length counts, and what stood in it is gone
abbrev live : ℕ → List ℕ
live start = 1 ∷ start ∷ 3 ∷ 1 ∷ 0 ∷ replicate (max_edges - 1) 8

abbrev lost : List ℕ
lost = 0 ∷ replicate (record_length - 1) 8

unfoldable pub entered : List (Row (List (List ℕ)))
unfolding compact_call
entered =
    (compacted_words (compact_database (database_of 3 6 1 (lost ∷ live 2 ∷ live 5 ∷ replicate 5 8 ∷ [])) (7 ∷ 7 ∷ 7 ∷ 7 ∷ 7 ∷ [])) gives (0 ∷ 2 ∷ []) ∷ database_of 2 6 1 (live 2 ∷ live 5 ∷ zeros record_length ∷ replicate 5 8 ∷ []) ∷ (1 ∷ 0 ∷ 2 ∷ 1 ∷ 0 ∷ []) ∷ [])
    ∷ (compacted_words (compact_database (database_of 3 6 1 (lost ∷ live 2 ∷ live 5 ∷ [])) (7 ∷ 7 ∷ 7 ∷ [])) gives (32 ∷ []) ∷ database_of 3 6 1 (lost ∷ live 2 ∷ live 5 ∷ []) ∷ (0 ∷ 0 ∷ 0 ∷ []) ∷ [])
    ∷ (compacted_words (compact_database (database_of 3 6 1 (lost ∷ live 2 ∷ live 6 ∷ [])) (7 ∷ 7 ∷ 7 ∷ [])) gives (35 ∷ []) ∷ database_of 3 6 1 (lost ∷ live 2 ∷ live 6 ∷ []) ∷ (0 ∷ 0 ∷ 0 ∷ []) ∷ [])
    ∷ []

pub entry-cases : Agreed entered
unfolding entered
entry-cases = refl

-- WHAT OTHER CALLS SEE

-- the partial paths of A's file, and the words after it was filed twice in 10 slots, before and after a compaction
abbrev filed_a : List (List ℕ)
filed_a = held 1 2 3 (0 ∷ []) ∷ held 1 3 4 (1 ∷ []) ∷ held 1 3 5 (2 ∷ []) ∷ held 1 2 4 (0 ∷ 1 ∷ []) ∷ held 1 2 5 (0 ∷ 2 ∷ []) ∷ []

abbrev twice_filed : List ℕ
twice_filed = database_of 10 6 1 (zeros (5 * record_length) ∷ filed_a)

abbrev closed_up : List ℕ
closed_up = database_of 5 6 1 (filed_a ++ (zeros (5 * record_length) ∷ []))

unfoldable pub seen : List (Row (List (List ℕ)))
unfolding compacting looking_up
seen =
    (((filing base (file_request base BreadthFirst None None 8 0) image_a (database_of 5 6 1 (filed_a ++ (zeros (5 * record_length) ∷ [])))).database ∷ []) gives twice_filed ∷ [])
    ∷ (compacting base twice_filed 10 gives (0 ∷ 5 ∷ []) ∷ closed_up ∷ (5 ∷ 0 ∷ 6 ∷ 1 ∷ 7 ∷ 2 ∷ 8 ∷ 3 ∷ 9 ∷ 4 ∷ []) ∷ [])
    -- a lookup: 9 was the number, 4 is it now, and 9 has lapsed
    ∷ (looking_up 9 twice_filed gives ((7 + 9 * record_length) ∷ (9 + 9 * record_length) ∷ []) ∷ (0 ∷ 2 ∷ []) ∷ [])
    ∷ (looking_up 4 closed_up gives ((7 + 4 * record_length) ∷ (9 + 4 * record_length) ∷ []) ∷ (0 ∷ 2 ∷ []) ∷ [])
    ∷ (looking_up 9 closed_up gives (0 ∷ 0 ∷ []) ∷ [] ∷ [])
    ∷ []

pub seen-cases : Agreed seen
unfolding seen filing
seen-cases = refl

-- searches: done, recorded, refused for want of a waiting slot and for the node; before and after
abbrev waiting : ℕ → Request
waiting slots = request base BreadthFirst None None None slots 8

unfoldable pub searches : List (Row (List (List ℕ)))
unfolding stitched_returned stitched_recorded
searches =
    (stitched_returned base (waiting 8) image_a twice_filed gives returned 1 expanded 4 complete 2 rejected 2 cycles 0 flags no_flag paths (0 ∷ 1 ∷ []) ∷ [])
    ∷ (stitched_returned base (waiting 8) image_a closed_up gives returned 1 expanded 4 complete 2 rejected 2 cycles 0 flags no_flag paths (0 ∷ 1 ∷ []) ∷ [])
    ∷ (stitched_recorded base (request base DepthFirst None None None 8 8) image_a twice_filed gives returned 1 expanded 4 complete 2 rejected 2 cycles 0 flags no_flag paths (0 ∷ 1 ∷ []) ∷ [])
    ∷ (stitched_recorded base (request base DepthFirst None None None 8 8) image_a closed_up gives returned 1 expanded 4 complete 2 rejected 2 cycles 0 flags no_flag paths (0 ∷ 1 ∷ []) ∷ [])
    ∷ (stitched_returned base (waiting 1) image_a twice_filed gives refused (31 ∷ []))
    ∷ (stitched_returned base (waiting 1) image_a closed_up gives refused (31 ∷ []))
    ∷ (stitched_returned base (request_from 3 base BreadthFirst None None None 1 1) image_a closed_up gives refused (11 ∷ 3 ∷ []))
    ∷ []

pub search-cases : Agreed searches
unfolding searches
search-cases = refl

-- THE DAILY REFILING, of a file with the one partial path 2:[0], and of an alias set with the one list [1], which root to root has
abbrev daily : List ℕ
daily = image_of 1 (reference 0 7 ∷ definition 0 7 ∷ []) (2 ⟶ 3 ∷ 0 ⟶ 0 ∷ [])

abbrev filed : List ℕ
filed = held 1 2 3 (0 ∷ [])

abbrev set_filed : List ℕ
set_filed = held 65535 0 0 (1 ∷ [])

refiling : List ℕ → List ℕ
unfolding filing
refiling words = told_replacement (filing base (file_request base BreadthFirst None None 4 0) daily words).answer

realiasing : List ℕ → List ℕ
unfolding aliasing
realiasing words = told_replacement (aliasing base (aliases_with base BreadthFirst None None 4) daily words).answer

-- directly after a compaction
after : List ℕ → List ℕ
unfolding compact_call
after words = (compact_call base known_owners words 4).database

unfoldable pub days : List (Row (List ℕ))
unfolding refiling realiasing after
days =
    -- two slots, the first dead: 33; after the compaction the live one, which is being replaced, and the new one are just the capacity
    (refiling (database_of 2 4 1 (zeros record_length ∷ filed ∷ [])) gives 33 ∷ [])
    ∷ (refiling (after (database_of 2 4 1 (zeros record_length ∷ filed ∷ []))) gives 0 ∷ 3 ∷ 1 ∷ 0 ∷ 0 ∷ 0 ∷ 2 ∷ [])
    -- one slot: the new path would fit in the place of the old one, and yet 33, however often it is compacted
    ∷ (refiling (after (database_of 1 4 1 (filed ∷ []))) gives 33 ∷ [])
    ∷ (refiling (after (after (database_of 1 4 1 (filed ∷ [])))) gives 33 ∷ [])
    -- a dead slot alone is room
    ∷ (refiling (database_of 1 4 1 (zeros record_length ∷ [])) gives 33 ∷ [])
    ∷ (refiling (after (database_of 1 4 1 (zeros record_length ∷ []))) gives 0 ∷ 3 ∷ 1 ∷ 0 ∷ 0 ∷ 0 ∷ 2 ∷ [])
    -- the alias set likewise
    ∷ (realiasing (database_of 3 4 1 (zeros record_length ∷ set_filed ∷ filed ∷ [])) gives 33 ∷ [])
    ∷ (realiasing (after (database_of 3 4 1 (zeros record_length ∷ set_filed ∷ filed ∷ []))) gives 0 ∷ 2 ∷ 1 ∷ 1 ∷ 0 ∷ 0 ∷ 1 ∷ [])
    ∷ (realiasing (after (database_of 2 4 1 (set_filed ∷ filed ∷ []))) gives 33 ∷ [])
    -- a compaction that is refused frees nothing: five live slots want a list of 10 words
    ∷ (refiling (after (database_of 6 4 1 (zeros record_length ∷ filed ∷ filed ∷ filed ∷ filed ∷ filed ∷ []))) gives 33 ∷ [])
    ∷ []

pub day-cases : Agreed days
unfolding days
day-cases = refl
