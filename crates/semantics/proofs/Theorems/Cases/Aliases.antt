-- The alias set: which edges it takes, from where, in which order; its limits, figure and bounds; what 35 says of its slots; every word of its
-- replacement; what stitched search makes of it. Document 02, order 5.
use Rattle.std.specs.Prelude.{ℕ, ◌+◌, ◌-◌, ◌*◌, refl, List, [], ◌∷◌, take, replicate, None, Some}
use Rattle.semantics.specs.declared.search.SearchOrder.{SearchOrder}
use Rattle.semantics.specs.declared.search.SearchOrder.TheVariants.{BreadthFirst, DepthFirst}
use Rattle.semantics.specs.Limits.{base, max_edges, slot_length, record_length}
use Rattle.semantics.specs.Told.{told_replacement}
use Rattle.semantics.specs.Words.{zeros}
use Rattle.semantics.specs.Cases.Rows.{Row, ◌gives◌, Agreed, refused, returned◌expanded◌complete◌rejected◌cycles◌flags◌paths◌, no_flag, expansions◌partials◌cuts◌flagged◌slots◌, unflagged}
use Rattle.semantics.specs.Cases.Graphs.{image_a, image_c, image_of, reference, definition, exported, ◌⟶◌, hopping, aliases_all}
use Rattle.semantics.specs.Cases.Asked.{bounded, request, request_from, recording, stitched_recorded, stitched_returned, database_of, held, freshly, file_request, filing, replacing, first_filed, aliases_with, aliasing, aliases_in, aliases_beside, changed_words, slots_held, looking_up, waits_aliasing}

-- a graph without files
abbrev bare : List ℕ
bare = image_of 0 [] (0 ⟶ 0 ∷ 0 ⟶ 1 ∷ [])

-- WHAT IS COMPUTED
pub sets : List (Row (List (List ℕ)))
unfolding aliases_in
sets =
    -- THE EDGES whose ends both lack a file, 1, 3 and 8: neither those with one end in a file nor the removed one. From root alone, whatever references and
    -- exported scopes there are. Every list is one, as root and jump are both endpoints; each root-to-root edge at most once
    (aliases_in base BreadthFirst None None 8 9 aliases_all gives expansions 10 partials 9 cuts 6 flagged unflagged slots
    (0 ∷ 1 ∷ []) ∷ (0 ∷ 3 ∷ []) ∷ (0 ∷ 8 ∷ []) ∷ (0 ∷ 1 ∷ 3 ∷ []) ∷ (0 ∷ 1 ∷ 8 ∷ []) ∷ (0 ∷ 8 ∷ 1 ∷ []) ∷ (0 ∷ 8 ∷ 3 ∷ []) ∷ (0 ∷ 1 ∷ 8 ∷ 3 ∷ []) ∷ (0 ∷ 8 ∷ 1 ∷ 3 ∷ []) ∷ [])
    -- depth-first the same in another order
    ∷ (aliases_in base DepthFirst None None 8 9 aliases_all gives expansions 10 partials 9 cuts 6 flagged unflagged slots
    (0 ∷ 1 ∷ []) ∷ (0 ∷ 3 ∷ []) ∷ (0 ∷ 8 ∷ []) ∷ (0 ∷ 1 ∷ 3 ∷ []) ∷ (0 ∷ 1 ∷ 8 ∷ []) ∷ (0 ∷ 1 ∷ 8 ∷ 3 ∷ []) ∷ (0 ∷ 8 ∷ 1 ∷ []) ∷ (0 ∷ 8 ∷ 3 ∷ []) ∷ (0 ∷ 8 ∷ 1 ∷ 3 ∷ []) ∷ [])
    -- root to root alone, root to jump alone; none: on A the one expansion is root's, though it has a reference and an exported scope
    ∷ (aliases_in base BreadthFirst None None 8 8 image_c gives expansions 2 partials 1 cuts 1 flagged unflagged slots (0 ∷ 1 ∷ []) ∷ [])
    ∷ (aliases_in base BreadthFirst None None 8 8 hopping gives expansions 2 partials 1 cuts 0 flagged unflagged slots (0 ∷ 3 ∷ []) ∷ [])
    ∷ (aliases_in base BreadthFirst None None 8 8 image_a gives expansions 1 partials 0 cuts 0 flagged unflagged slots [])
    -- on a graph without files it is no 21
    ∷ (aliases_in base BreadthFirst None None 8 8 bare gives expansions 4 partials 3 cuts 1 flagged unflagged slots (0 ∷ 0 ∷ []) ∷ (0 ∷ 1 ∷ []) ∷ (0 ∷ 0 ∷ 1 ∷ []) ∷ [])
    -- LIMITS: on length, which an edge on the path does not meet; on the path count, told by the other flag
    ∷ (aliases_in base BreadthFirst (Some 1) None 8 8 aliases_all gives expansions 4 partials 3 cuts 2 flagged (1 ∷ 0 ∷ []) slots (0 ∷ 1 ∷ []) ∷ (0 ∷ 3 ∷ []) ∷ (0 ∷ 8 ∷ []) ∷ [])
    ∷ (aliases_in base BreadthFirst (Some 1) None 8 8 image_c gives expansions 2 partials 1 cuts 1 flagged unflagged slots (0 ∷ 1 ∷ []) ∷ [])
    ∷ (aliases_in base BreadthFirst (Some 0) None 8 8 image_c gives expansions 1 partials 0 cuts 0 flagged (1 ∷ 0 ∷ []) slots [])
    ∷ (aliases_in base BreadthFirst None (Some 0) 8 8 image_c gives expansions 0 partials 0 cuts 0 flagged (0 ∷ 1 ∷ []) slots [])
    ∷ (aliases_in base BreadthFirst None (Some 1) 8 8 image_c gives expansions 1 partials 1 cuts 0 flagged (0 ∷ 1 ∷ []) slots (0 ∷ 1 ∷ []) ∷ [])
    ∷ (aliases_in base BreadthFirst None (Some 2) 8 8 image_c gives expansions 2 partials 1 cuts 1 flagged unflagged slots (0 ∷ 1 ∷ []) ∷ [])
    ∷ (aliases_in base BreadthFirst None (Some 4) 8 8 aliases_all gives expansions 4 partials 7 cuts 2 flagged (0 ∷ 1 ∷ []) slots
    (0 ∷ 1 ∷ []) ∷ (0 ∷ 3 ∷ []) ∷ (0 ∷ 8 ∷ []) ∷ (0 ∷ 1 ∷ 3 ∷ []) ∷ (0 ∷ 1 ∷ 8 ∷ []) ∷ (0 ∷ 8 ∷ 1 ∷ []) ∷ (0 ∷ 8 ∷ 3 ∷ []) ∷ [])
    ∷ (aliases_in base DepthFirst None (Some 4) 8 8 aliases_all gives expansions 4 partials 6 cuts 3 flagged (0 ∷ 1 ∷ []) slots
    (0 ∷ 1 ∷ []) ∷ (0 ∷ 3 ∷ []) ∷ (0 ∷ 8 ∷ []) ∷ (0 ∷ 1 ∷ 3 ∷ []) ∷ (0 ∷ 1 ∷ 8 ∷ []) ∷ (0 ∷ 1 ∷ 8 ∷ 3 ∷ []) ∷ [])
    -- SLOTS AND BOUNDS: 31 without one for root, and as the figure says; 30 at the bound of edges, 36 at that of expansions, with a room of none, so before 33; 33
    ∷ (aliases_in base BreadthFirst None None 0 8 image_c gives refused (31 ∷ []))
    ∷ (aliases_in base BreadthFirst None None 0 0 image_c gives refused (31 ∷ []))
    ∷ (aliases_in base BreadthFirst None (Some 0) 0 8 image_c gives refused (31 ∷ []))
    ∷ (aliases_in (bounded 1 0) BreadthFirst None None 0 0 image_c gives refused (31 ∷ []))
    ∷ (aliases_in base BreadthFirst None None 1 8 image_c gives expansions 2 partials 1 cuts 1 flagged unflagged slots (0 ∷ 1 ∷ []) ∷ [])
    ∷ (aliases_in base BreadthFirst None None 3 9 aliases_all gives refused (31 ∷ []))
    ∷ (aliases_in (bounded 2 99) BreadthFirst None None 8 0 aliases_all gives refused (30 ∷ []))
    ∷ (aliases_in (bounded 2 99) BreadthFirst (Some 2) None 8 8 aliases_all gives expansions 8 partials 7 cuts 6 flagged (1 ∷ 0 ∷ []) slots
    (0 ∷ 1 ∷ []) ∷ (0 ∷ 3 ∷ []) ∷ (0 ∷ 8 ∷ []) ∷ (0 ∷ 1 ∷ 3 ∷ []) ∷ (0 ∷ 1 ∷ 8 ∷ []) ∷ (0 ∷ 8 ∷ 1 ∷ []) ∷ (0 ∷ 8 ∷ 3 ∷ []) ∷ [])
    ∷ (aliases_in (bounded 1 9) BreadthFirst None None 8 8 image_c gives expansions 2 partials 1 cuts 1 flagged unflagged slots (0 ∷ 1 ∷ []) ∷ [])
    ∷ (aliases_in (bounded 1 1) BreadthFirst None None 8 0 image_c gives refused (36 ∷ []))
    ∷ (aliases_in (bounded 1 2) BreadthFirst None None 8 8 image_c gives expansions 2 partials 1 cuts 1 flagged unflagged slots (0 ∷ 1 ∷ []) ∷ [])
    ∷ (aliases_in (bounded 1 1) BreadthFirst None (Some 1) 8 8 image_c gives expansions 1 partials 1 cuts 0 flagged (0 ∷ 1 ∷ []) slots (0 ∷ 1 ∷ []) ∷ [])
    ∷ (aliases_in base BreadthFirst None None 8 0 image_c gives refused (33 ∷ []))
    ∷ (aliases_in base BreadthFirst None None 8 0 image_a gives expansions 1 partials 0 cuts 0 flagged unflagged slots [])
    ∷ (aliases_in base BreadthFirst None None 8 8 aliases_all gives refused (33 ∷ []))
    ∷ []

pub set_cases : Agreed sets
unfolding sets
set_cases = refl

-- the waiting figure behind the statistics: root waits too, also where the path count stops it at once; as many slots are enough, one fewer is 31
pub figures : List (Row (List ℕ))
unfolding waits_aliasing
figures =
    (waits_aliasing BreadthFirst None 128 image_c gives 1 ∷ [])
    ∷ (waits_aliasing BreadthFirst (Some 0) 1 image_c gives 1 ∷ [])
    ∷ (waits_aliasing BreadthFirst None 2 bare gives 2 ∷ [])
    ∷ (waits_aliasing DepthFirst None 1 bare gives 31 ∷ [])
    ∷ (waits_aliasing BreadthFirst (Some 4) 4 aliases_all gives 4 ∷ [])
    ∷ (waits_aliasing BreadthFirst (Some 4) 3 aliases_all gives 31 ∷ [])
    ∷ (waits_aliasing BreadthFirst (Some 1) 3 aliases_all gives 3 ∷ [])
    ∷ []

pub figure-cases : Agreed figures
unfolding figures
figure-cases = refl

-- WHAT 35 SAYS OF SUCH SLOTS, on A: F 1, N 6. File 9 is none, so words that are neither 35 nor 34 are answered by 21, which stands behind both
lent : List ℕ → List ℕ
unfolding filing
lent words = told_replacement (filing base (file_request base BreadthFirst None None 8 9) image_a words).answer

-- the stored N and F, and one slot: the first word, start, end, edge count, and a word 8 for each edge that it may have
abbrev one_slot : ℕ → ℕ → ℕ → ℕ → ℕ → ℕ → List ℕ
one_slot nodes files first start end count = 1 ∷ nodes ∷ files ∷ first ∷ start ∷ end ∷ count ∷ replicate max_edges 8

pub lendings : List (Row (List ℕ))
unfolding lent
lendings =
    -- 65,535 is accepted, whatever the stored F is; the start need not be root, the edges need not lack files, and the end is not looked at
    (lent (one_slot 6 1 65535 0 0 1) gives 21 ∷ 9 ∷ [])
    ∷ (lent (one_slot 6 0 65535 2 4000000000 1) gives 21 ∷ 9 ∷ [])
    -- neither is the number before it nor the one behind it, unless the stored F says so; then it is 34, as F is above the graph's
    ∷ (lent (one_slot 6 1 65534 0 0 1) gives 35 ∷ [])
    ∷ (lent (one_slot 6 1 65536 0 0 1) gives 35 ∷ [])
    ∷ (lent (one_slot 6 65533 65534 0 0 1) gives 35 ∷ [])
    ∷ (lent (one_slot 6 65534 65534 0 0 1) gives 34 ∷ [])
    ∷ (lent (one_slot 6 65535 65536 0 0 1) gives 35 ∷ [])
    ∷ (lent (one_slot 6 65536 65536 0 0 1) gives 34 ∷ [])
    ∷ (lent (one_slot 6 65535 65535 0 0 1) gives 34 ∷ [])
    -- the edge count still is 1 to 63
    ∷ (lent (one_slot 6 1 65535 0 0 0) gives 35 ∷ [])
    ∷ (lent (one_slot 6 1 65535 0 0 max_edges) gives 21 ∷ 9 ∷ [])
    ∷ (lent (one_slot 6 1 65535 0 0 slot_length) gives 35 ∷ [])
    -- the start still is below the stored N, so that a stored N of 0 takes no live slot
    ∷ (lent (one_slot 6 1 65535 5 0 1) gives 21 ∷ 9 ∷ [])
    ∷ (lent (one_slot 6 1 65535 6 0 1) gives 35 ∷ [])
    ∷ (lent (one_slot 4 1 65535 4 0 1) gives 35 ∷ [])
    ∷ (lent (one_slot 0 0 65535 0 0 1) gives 35 ∷ [])
    ∷ (lent (one_slot 0 0 0 0 0 1) gives 21 ∷ 9 ∷ [])
    -- a stored N above the graph's is 34
    ∷ (lent (one_slot 7 1 65535 0 0 1) gives 34 ∷ [])
    -- each used slot is looked at, of the set or of a file; those beyond use are not
    ∷ (lent (database_of 2 6 1 (held 65535 0 0 (0 ∷ []) ∷ held 1 2 3 (0 ∷ []) ∷ [])) gives 21 ∷ 9 ∷ [])
    ∷ (lent (database_of 2 6 1 (held 65535 0 0 (0 ∷ []) ∷ held 2 2 3 (0 ∷ []) ∷ [])) gives 35 ∷ [])
    ∷ (lent (database_of 2 6 1 (held 1 2 3 (0 ∷ []) ∷ held 65535 0 0 [] ∷ [])) gives 35 ∷ [])
    ∷ (lent (database_of 1 6 1 (held 1 2 3 (0 ∷ []) ∷ held 65535 0 0 [] ∷ [])) gives 21 ∷ 9 ∷ [])
    ∷ []

pub lending-cases : Agreed lendings
unfolding lendings
lending-cases = refl

-- THE ORDER OF REFUSALS: the image, 35, 34, 31 (and 30, 36, as above), 33; what each row asks would be refused by those behind too
refusing : ℕ → List ℕ → List ℕ → List ℕ
unfolding aliasing
refusing waiting im words = told_replacement (aliasing base (aliases_with base BreadthFirst None None waiting) im words).answer

pub refusals : List (Row (List ℕ))
unfolding refusing filing
refusals =
    (refusing 0 (take 57 image_c) (9 ∷ []) gives 2 ∷ [])
    ∷ (refusing 0 image_c (9 ∷ []) gives 35 ∷ [])
    ∷ (refusing 0 image_c (9 ∷ 5 ∷ 1 ∷ []) gives 35 ∷ [])
    ∷ (refusing 0 image_c (0 ∷ 5 ∷ 1 ∷ []) gives 34 ∷ [])
    ∷ (refusing 0 image_c (0 ∷ 4 ∷ 2 ∷ []) gives 34 ∷ [])
    ∷ (refusing 0 image_c (0 ∷ 4 ∷ 1 ∷ []) gives 31 ∷ [])
    ∷ (refusing 1 image_c (0 ∷ 4 ∷ 1 ∷ []) gives 33 ∷ [])
    ∷ (refusing 1 image_c (0 ∷ 4 ∷ 1 ∷ zeros (record_length - 1)) gives 33 ∷ [])
    ∷ (refusing 1 image_c (0 ∷ 4 ∷ 1 ∷ zeros record_length) gives 0 ∷ 2 ∷ 1 ∷ 1 ∷ 0 ∷ 0 ∷ 1 ∷ [])
    -- the old set's slots are not used again
    ∷ (refusing 1 image_c (database_of 1 4 1 (held 65535 0 0 (1 ∷ []) ∷ [])) gives 33 ∷ [])
    -- never 21, on a graph without files; where the stored F is below the graph's; with slots of the set and of files
    ∷ (refusing 2 bare (0 ∷ 2 ∷ 0 ∷ zeros (3 * record_length)) gives 0 ∷ 4 ∷ 3 ∷ 1 ∷ 0 ∷ 0 ∷ 2 ∷ [])
    ∷ (refusing 1 image_c (0 ∷ 0 ∷ 0 ∷ zeros record_length) gives 0 ∷ 2 ∷ 1 ∷ 1 ∷ 0 ∷ 0 ∷ 1 ∷ [])
    ∷ (refusing 1 image_c (database_of 2 4 1 (held 65535 3 0 (9 ∷ []) ∷ held 1 2 3 (0 ∷ []) ∷ zeros record_length ∷ [])) gives 0 ∷ 2 ∷ 1 ∷ 1 ∷ 0 ∷ 0 ∷ 1 ∷ [])
    -- and the call that replaces a file has no way to it: 65,534 is a file that is none, also where the set is held
    ∷ (told_replacement (filing base (file_request base BreadthFirst None None 8 65534) image_c (0 ∷ 4 ∷ 1 ∷ zeros record_length)).answer gives 21 ∷ 65534 ∷ [])
    ∷ (told_replacement (filing base (file_request base BreadthFirst None None 8 65534) image_c (database_of 1 4 1 (held 65535 0 0 (1 ∷ []) ∷ zeros record_length ∷ []))).answer gives 21 ∷ 65534 ∷ [])
    ∷ (told_replacement (filing base (file_request base BreadthFirst None None 8 65535) image_c (0 ∷ 4 ∷ 1 ∷ zeros record_length)).answer gives 21 ∷ 65535 ∷ [])
    ∷ []

pub refusal-cases : Agreed refusals
unfolding refusals
refusal-cases = refl

-- EVERY WORD OF A REPLACEMENT

-- three files and an edge from root to jump: file 0 has the one partial path 2:[0], file 1 has 4:[1], file 2 has none, the set has 0:[2]
abbrev small : List ℕ
small = image_of 3 (reference 0 7 ∷ definition 0 7 ∷ reference 1 7 ∷ definition 1 7 ∷ exported 2 ∷ []) (2 ⟶ 3 ∷ 4 ⟶ 5 ∷ 0 ⟶ 1 ∷ [])

-- slots of file 0, of none, of the set and of file 1, each with words 8 behind what it holds
abbrev old0 : List ℕ
old0 = 1 ∷ 2 ∷ 3 ∷ 1 ∷ 0 ∷ replicate (max_edges - 1) 8

abbrev old_dead : List ℕ
old_dead = 0 ∷ 5 ∷ 6 ∷ 7 ∷ replicate max_edges 8

abbrev old_set : List ℕ
old_set = 65535 ∷ 3 ∷ 9 ∷ 2 ∷ 4 ∷ 5 ∷ replicate (max_edges - 2) 8

abbrev old1 : List ℕ
old1 = 2 ∷ 3 ∷ 9 ∷ 2 ∷ 4 ∷ 5 ∷ replicate (max_edges - 2) 8

abbrev new_set : List ℕ
new_set = 65535 ∷ 0 ∷ 1 ∷ 1 ∷ 2 ∷ zeros (max_edges - 1)

-- the answer, the work area and the database: of the alias call, and of a file's with two waiting slots
after_set : ℕ → List ℕ → List ℕ → List (List ℕ)
unfolding aliasing
after_set waiting im words = changed_words (aliasing base (aliases_with base BreadthFirst None None waiting) im words)

after_file : ℕ → List ℕ → List (List ℕ)
unfolding filing
after_file file words = changed_words (filing base (file_request base BreadthFirst None None 2 file) small words)

pub replacements : List (Row (List (List ℕ)))
unfolding after_set after_file
replacements =
    -- among words 9: used, N and F; 65,535, root, the end, edge count, edges and zeros; the words behind stay
    (after_set 1 small (0 ∷ 4 ∷ 2 ∷ replicate (record_length + 2) 9) gives (0 ∷ 2 ∷ 1 ∷ 0 ∷ 0 ∷ 0 ∷ 1 ∷ []) ∷ zeros slot_length ∷ database_of 1 7 3 (new_set ∷ (9 ∷ 9 ∷ []) ∷ []) ∷ [])
    -- the set's slot becomes zeros, all its words; the files' keep their words, the dead one too; the new slot is the next; N and F are the graph's
    ∷ (after_set 1 small (database_of 4 4 2 (old0 ∷ old_dead ∷ old_set ∷ old1 ∷ replicate (record_length + 2) 8 ∷ [])) gives
    (0 ∷ 2 ∷ 1 ∷ 0 ∷ 0 ∷ 0 ∷ 1 ∷ []) ∷ zeros slot_length ∷ database_of 5 7 3 (old0 ∷ old_dead ∷ zeros record_length ∷ old1 ∷ new_set ∷ (8 ∷ 8 ∷ []) ∷ []) ∷ [])
    -- every one of them does, and the words beyond use stay, whatever they are
    ∷ (after_set 1 small (database_of 2 4 2 (old_set ∷ new_set ∷ replicate record_length 8 ∷ old_set ∷ [])) gives
    (0 ∷ 2 ∷ 1 ∷ 0 ∷ 0 ∷ 0 ∷ 1 ∷ []) ∷ zeros slot_length ∷ database_of 3 7 3 (zeros record_length ∷ zeros record_length ∷ new_set ∷ old_set ∷ []) ∷ [])
    -- where the graph has no such edge the old ones still go
    ∷ (after_set 1 image_a (database_of 2 4 1 (old_set ∷ old0 ∷ [])) gives (0 ∷ 1 ∷ 0 ∷ 0 ∷ 0 ∷ 0 ∷ 1 ∷ []) ∷ zeros slot_length ∷ database_of 2 6 1 (zeros record_length ∷ old0 ∷ []) ∷ [])
    -- a file's replacement keeps the set's slots
    ∷ (after_file 0 (database_of 3 4 2 (old0 ∷ old_dead ∷ old_set ∷ replicate record_length 8 ∷ [])) gives
    (0 ∷ 3 ∷ 1 ∷ 0 ∷ 0 ∷ 0 ∷ 2 ∷ []) ∷ zeros (2 * slot_length) ∷ database_of 4 7 3 (zeros record_length ∷ old_dead ∷ old_set ∷ (1 ∷ 2 ∷ 3 ∷ 1 ∷ 0 ∷ zeros (max_edges - 1)) ∷ []) ∷ [])
    -- refused, every word stays, and the work area is zero: 33, 31, 34, 35, the image
    ∷ (after_set 1 small (database_of 2 7 3 (old_set ∷ old0 ∷ replicate (record_length - 1) 8 ∷ [])) gives (33 ∷ []) ∷ zeros slot_length ∷ database_of 2 7 3 (old_set ∷ old0 ∷ replicate (record_length - 1) 8 ∷ []) ∷ [])
    ∷ (after_set 0 small (database_of 1 7 3 (old_set ∷ replicate record_length 8 ∷ [])) gives (31 ∷ []) ∷ [] ∷ database_of 1 7 3 (old_set ∷ replicate record_length 8 ∷ []) ∷ [])
    ∷ (after_set 1 small (database_of 1 8 3 (old_set ∷ [])) gives (34 ∷ []) ∷ zeros slot_length ∷ database_of 1 8 3 (old_set ∷ []) ∷ [])
    ∷ (after_set 1 small (database_of 2 7 3 (old_set ∷ [])) gives (35 ∷ []) ∷ zeros slot_length ∷ database_of 2 7 3 (old_set ∷ []) ∷ [])
    ∷ (after_set 1 (take 57 image_c) (9 ∷ []) gives (2 ∷ []) ∷ zeros slot_length ∷ (9 ∷ []) ∷ [])
    ∷ []

pub replacement-cases : Agreed replacements
unfolding replacements
replacement-cases = refl

-- WHAT THE SLOTS HOLD, and a lookup
pub lookups : List (Row (List (List ℕ)))
unfolding slots_held looking_up aliases_beside first_filed freshly
lookups =
    -- owner 65,534, root, the end, the edges, behind those of file 0
    (slots_held (aliases_beside image_c (first_filed image_c)) gives (0 ∷ 0 ∷ 3 ∷ 2 ∷ []) ∷ (0 ∷ 2 ∷ 0 ∷ 0 ∷ []) ∷ (0 ∷ 2 ∷ 3 ∷ 0 ∷ 2 ∷ []) ∷ (65534 ∷ 0 ∷ 0 ∷ 1 ∷ []) ∷ [])
    ∷ (slots_held (aliases_beside hopping (freshly hopping)) gives (65534 ∷ 0 ∷ 1 ∷ 3 ∷ []) ∷ [])
    -- a lookup meets no 34; a word that no owner has is 35, for this slot and for any other
    ∷ (looking_up 0 (aliases_beside image_c (freshly image_c)) gives (7 ∷ 8 ∷ []) ∷ (1 ∷ []) ∷ [])
    ∷ (looking_up 3 (aliases_beside image_c (first_filed image_c)) gives ((7 + 3 * record_length) ∷ (8 + 3 * record_length) ∷ []) ∷ (1 ∷ []) ∷ [])
    ∷ (looking_up 0 (one_slot 6000 100 65535 5999 3 2) gives (7 ∷ 9 ∷ []) ∷ (8 ∷ 8 ∷ []) ∷ [])
    ∷ (looking_up 0 (one_slot 6000 100 65536 2 3 2) gives (0 ∷ 0 ∷ []) ∷ [] ∷ [])
    ∷ (looking_up 0 (one_slot 6 1 65535 0 0 0) gives (0 ∷ 0 ∷ []) ∷ [] ∷ [])
    ∷ (looking_up 1 (database_of 2 6 1 (held 65536 0 0 (1 ∷ []) ∷ held 65535 0 0 (1 ∷ []) ∷ [])) gives (0 ∷ 0 ∷ []) ∷ [] ∷ [])
    ∷ []

pub lookup-cases : Agreed lookups
unfolding lookups
lookup-cases = refl

-- STITCHED SEARCH WITH THE SET: the recorded paths
joining : SearchOrder → List ℕ → List ℕ → List (List ℕ)
unfolding stitched_recorded
joining order im words = stitched_recorded base (request base order None None None 8 8) im words

pub stitches : List (Row (List (List ℕ)))
unfolding joining recording aliases_beside replacing first_filed freshly stitched_returned
stitches =
    -- on C without the set [0 2] alone; with it what direct search records, in both orders; and where the set was replaced before the file
    (joining BreadthFirst image_c (first_filed image_c) gives returned 1 expanded 4 complete 2 rejected 0 cycles 0 flags no_flag paths (0 ∷ 2 ∷ []) ∷ [])
    ∷ (joining BreadthFirst image_c (aliases_beside image_c (first_filed image_c)) gives returned 2 expanded 6 complete 3 rejected 0 cycles 1 flags no_flag paths (0 ∷ 2 ∷ []) ∷ (0 ∷ 1 ∷ 2 ∷ []) ∷ [])
    ∷ (joining DepthFirst image_c (aliases_beside image_c (first_filed image_c)) gives returned 2 expanded 6 complete 3 rejected 0 cycles 1 flags no_flag paths (0 ∷ 2 ∷ []) ∷ (0 ∷ 1 ∷ 2 ∷ []) ∷ [])
    ∷ (joining BreadthFirst image_c (replacing image_c 0 (aliases_beside image_c (freshly image_c))).database gives returned 2 expanded 6 complete 3 rejected 0 cycles 1 flags no_flag paths (0 ∷ 2 ∷ []) ∷ (0 ∷ 1 ∷ 2 ∷ []) ∷ [])
    -- the set alone leads nowhere from a reference
    ∷ (joining BreadthFirst image_c (aliases_beside image_c (freshly image_c)) gives returned 0 expanded 1 complete 0 rejected 0 cycles 0 flags no_flag paths [])
    -- from root straight to jump: nothing without the set
    ∷ (recording BreadthFirst None None None hopping gives returned 1 expanded 6 complete 1 rejected 0 cycles 0 flags no_flag paths (0 ∷ 1 ∷ 2 ∷ 3 ∷ 4 ∷ []) ∷ [])
    ∷ (joining BreadthFirst hopping (first_filed hopping) gives returned 0 expanded 2 complete 0 rejected 0 cycles 0 flags no_flag paths [])
    ∷ (joining BreadthFirst hopping (aliases_beside hopping (first_filed hopping)) gives returned 1 expanded 4 complete 1 rejected 0 cycles 0 flags no_flag paths (0 ∷ 1 ∷ 2 ∷ 3 ∷ 4 ∷ []) ∷ [])
    -- of a slot of the set, as of any other, the start alone is asked
    ∷ (joining BreadthFirst image_a (database_of 1 6 1 (held 65535 2 9 (0 ∷ 1 ∷ []) ∷ [])) gives returned 1 expanded 2 complete 1 rejected 0 cycles 0 flags no_flag paths (0 ∷ 1 ∷ []) ∷ [])
    -- its 35 stands before the node
    ∷ (stitched_returned base (request_from 3 base BreadthFirst None None None 8 8) image_a (database_of 1 6 1 (held 65535 2 9 [] ∷ [])) gives refused (35 ∷ []))
    ∷ (stitched_returned base (request_from 3 base BreadthFirst None None None 8 8) image_a (database_of 1 6 1 (held 65535 2 9 (0 ∷ []) ∷ [])) gives refused (11 ∷ 3 ∷ []))
    ∷ []

pub stitch-cases : Agreed stitches
unfolding stitches
stitch-cases = refl
