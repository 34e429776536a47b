-- Direct search: its order of checks, its statistics and flags, both orders, limits, and every word of both areas.
-- Document 01, "Budget and frontier" and "Answer".
use Rattle.std.specs.Prelude.{ℕ, ◌+◌, ◌-◌, ◌*◌, refl, List, [], ◌∷◌, ◌++◌, take, None, Some}
use Rattle.semantics.specs.declared.search.SearchOrder.{SearchOrder}
use Rattle.semantics.specs.declared.search.SearchOrder.TheVariants.{BreadthFirst, DepthFirst}
use Rattle.semantics.specs.declared.refusal.ImageRefusal.{ImageRefusal}
use Rattle.semantics.specs.declared.refusal.SearchRefusal.{SearchRefusal}
use Rattle.semantics.specs.Limits.{Bounds, base, former, slot_words, record_words, max_edges, slot_length, Limit}
use Rattle.semantics.specs.Answer.{Answer, ok, refuse}
use Rattle.semantics.specs.Graph.{Graph, view_of}
use Rattle.semantics.specs.Path.{Path}
use Rattle.semantics.specs.Enumeration.{State}
use Rattle.semantics.specs.Direct.{direct, search_setting}
use Rattle.semantics.specs.Image.{symbol_bytes, check_image}
use Rattle.semantics.specs.Words.{zeros}
use Rattle.semantics.specs.Cases.Rows.{Row, ◌gives◌, Agreed, refused, returned◌expanded◌complete◌rejected◌cycles◌flags◌paths◌, no_flag, length_flag, count_flag, complete_flag}
use Rattle.semantics.specs.Cases.Graphs.{image_b, image_a, image_d, image_e, image_of, removed_node, scope, reference, definition, removed_edge, ◌⟶◌, twice_complete, going_on, looping}
use Rattle.semantics.specs.Cases.Asked.{bounded, request, request_from, request_in, returned_by, recorded_by, searching, recording, areas_after}

-- 3 has a loop, a definition that pops 7, and two ways to one that pops 8
abbrev branching : List ℕ
branching = image_of 1 (reference 0 7 ∷ scope 0 ∷ definition 0 7 ∷ definition 0 8 ∷ []) (2 ⟶ 3 ∷ 3 ⟶ 3 ∷ 3 ⟶ 4 ∷ 3 ⟶ 5 ∷ 3 ⟶ 5 ∷ [])

-- two such scopes, 3 and 6, the second with a second way to its definition
abbrev two_scopes : List ℕ
two_scopes =
    image_of 1 (reference 0 7 ∷ scope 0 ∷ definition 0 7 ∷ definition 0 8 ∷ scope 0 ∷ [])
    (2 ⟶ 3 ∷ 3 ⟶ 3 ∷ 3 ⟶ 4 ∷ 3 ⟶ 5 ∷ 2 ⟶ 6 ∷ 6 ⟶ 6 ∷ 6 ⟶ 4 ∷ 6 ⟶ 4 ∷ 6 ⟶ 5 ∷ 6 ⟶ 5 ∷ 6 ⟶ 5 ∷ [])

-- over 3 and 4 and back, which is too long for 2 edges; over 5 to a definition and to one of another symbol; over 7 round and round
abbrev after_length : List ℕ
after_length =
    image_of 1 (reference 0 7 ∷ scope 0 ∷ scope 0 ∷ scope 0 ∷ definition 0 7 ∷ scope 0 ∷ definition 0 8 ∷ [])
    (2 ⟶ 3 ∷ 3 ⟶ 4 ∷ 4 ⟶ 3 ∷ 2 ⟶ 5 ∷ 5 ⟶ 6 ∷ 5 ⟶ 8 ∷ 2 ⟶ 7 ∷ 7 ⟶ 7 ∷ [])

-- to a definition, to one of another symbol, and to a scope with a loop
abbrev after_complete : List ℕ
after_complete = image_of 1 (reference 0 7 ∷ definition 0 7 ∷ definition 0 8 ∷ scope 0 ∷ []) (2 ⟶ 3 ∷ 2 ⟶ 4 ∷ 2 ⟶ 5 ∷ 5 ⟶ 5 ∷ [])

-- a long way and a short way from 2 to a definition
abbrev two_ways : List ℕ
two_ways = image_of 1 (reference 0 7 ∷ scope 0 ∷ scope 0 ∷ scope 0 ∷ definition 0 7 ∷ []) (2 ⟶ 3 ∷ 3 ⟶ 4 ∷ 4 ⟶ 6 ∷ 2 ⟶ 5 ∷ 5 ⟶ 6 ∷ [])

-- with so many waiting and result slots
recording_in : SearchOrder → Limit → ℕ → ℕ → List ℕ → List (List ℕ)
unfolding recorded_by
recording_in order kept waiting results im = recorded_by base (request base order None None kept waiting results) im

-- under other bounds
recording_under : Bounds → Limit → Limit → List ℕ → List (List ℕ)
unfolding recorded_by
recording_under bd length count im = recorded_by bd (request bd BreadthFirst length count None 8 8) im

pub searches : List (Row (List (List ℕ)))
unfolding searching recording recording_in recording_under returned_by
searches =
    -- the four counts, each of its own value
    (searching BreadthFirst None None None branching gives returned 2 expanded 5 complete 2 rejected 4 cycles 1 flags no_flag paths (0 ∷ 2 ∷ []) ∷ (0 ∷ 1 ∷ 2 ∷ []) ∷ [])
    -- a node met again is no cycle, an edge is
    ∷ (searching BreadthFirst None None None looping gives returned 0 expanded 3 complete 0 rejected 0 cycles 1 flags no_flag paths [])
    -- cycle before length: the edge that would be too long is on the path
    ∷ (searching BreadthFirst (Some 2) None None looping gives returned 0 expanded 3 complete 0 rejected 0 cycles 1 flags no_flag paths [])
    -- length before append: edges that would be rejected are too long
    ∷ (searching BreadthFirst (Some 1) None None branching gives returned 0 expanded 2 complete 0 rejected 0 cycles 0 flags length_flag paths [])
    ∷ (searching BreadthFirst (Some 0) None None branching gives returned 0 expanded 1 complete 0 rejected 0 cycles 0 flags length_flag paths [])
    -- removed edges have their numbers, and are not looked at
    ∷ (searching BreadthFirst None None None (image_of 1 (reference 0 7 ∷ removed_node ∷ definition 0 7 ∷ []) (removed_edge ∷ 2 ⟶ 4 ∷ removed_edge ∷ [])) gives returned 1 expanded 2 complete 1 rejected 0 cycles 0 flags no_flag paths (1 ∷ []) ∷ [])
    -- through root into another file, and by jump back
    ∷ (searching BreadthFirst None None None image_d gives returned 1 expanded 6 complete 1 rejected 0 cycles 0 flags no_flag paths (0 ∷ 1 ∷ 2 ∷ 3 ∷ 4 ∷ []) ∷ [])
    ∷ (searching DepthFirst (Some 5) None None image_d gives returned 1 expanded 6 complete 1 rejected 0 cycles 0 flags no_flag paths (0 ∷ 1 ∷ 2 ∷ 3 ∷ 4 ∷ []) ∷ [])
    ∷ (searching DepthFirst (Some 4) None None image_d gives returned 0 expanded 5 complete 0 rejected 0 cycles 0 flags length_flag paths [])
    -- ORDER: breadth-first takes the oldest, depth-first the first pushed of the newest
    ∷ (searching BreadthFirst None (Some 3) None image_b gives returned 1 expanded 3 complete 4 rejected 0 cycles 0 flags count_flag paths (1 ∷ 3 ∷ []) ∷ [])
    ∷ (searching DepthFirst None (Some 3) None image_b gives returned 1 expanded 3 complete 2 rejected 0 cycles 0 flags count_flag paths (0 ∷ 3 ∷ []) ∷ [])
    ∷ (searching DepthFirst None (Some 4) None image_b gives returned 1 expanded 4 complete 2 rejected 0 cycles 0 flags count_flag paths (0 ∷ 3 ∷ []) ∷ [])
    ∷ (recording BreadthFirst None None None two_ways gives returned 2 expanded 6 complete 2 rejected 0 cycles 0 flags no_flag paths (3 ∷ 4 ∷ []) ∷ (0 ∷ 1 ∷ 2 ∷ []) ∷ [])
    ∷ (recording DepthFirst None None None two_ways gives returned 2 expanded 6 complete 2 rejected 0 cycles 0 flags no_flag paths (0 ∷ 1 ∷ 2 ∷ []) ∷ (3 ∷ 4 ∷ []) ∷ [])
    ∷ (recording BreadthFirst None None None image_b gives returned 4 expanded 7 complete 4 rejected 0 cycles 0 flags no_flag paths (0 ∷ 2 ∷ []) ∷ (0 ∷ 3 ∷ []) ∷ (1 ∷ 2 ∷ []) ∷ (1 ∷ 3 ∷ []) ∷ [])
    ∷ (recording DepthFirst None None None image_b gives returned 4 expanded 7 complete 4 rejected 0 cycles 0 flags no_flag paths (0 ∷ 2 ∷ []) ∷ (0 ∷ 3 ∷ []) ∷ (1 ∷ 2 ∷ []) ∷ (1 ∷ 3 ∷ []) ∷ [])
    -- RECORDED AND RETURNED: what is shadowed is recorded; a path and its beginning are two paths
    ∷ (recording BreadthFirst None None (Some 3) image_b gives returned 3 expanded 7 complete 4 rejected 0 cycles 0 flags complete_flag paths (0 ∷ 2 ∷ []) ∷ (0 ∷ 3 ∷ []) ∷ (1 ∷ 2 ∷ []) ∷ [])
    ∷ (searching BreadthFirst None None None going_on gives returned 2 expanded 4 complete 2 rejected 0 cycles 0 flags no_flag paths (0 ∷ []) ∷ (0 ∷ 1 ∷ 2 ∷ []) ∷ [])
    -- LIMITS: on complete paths, kept none, one and all; on the path count, with each
    ∷ (searching BreadthFirst None None (Some 0) branching gives returned 0 expanded 5 complete 2 rejected 4 cycles 1 flags complete_flag paths [])
    ∷ (searching BreadthFirst None None (Some 1) branching gives returned 1 expanded 5 complete 2 rejected 4 cycles 1 flags complete_flag paths (0 ∷ 2 ∷ []) ∷ [])
    ∷ (searching BreadthFirst None None (Some 2) branching gives returned 2 expanded 5 complete 2 rejected 4 cycles 1 flags no_flag paths (0 ∷ 2 ∷ []) ∷ (0 ∷ 1 ∷ 2 ∷ []) ∷ [])
    ∷ (searching BreadthFirst None (Some 4) None branching gives returned 2 expanded 4 complete 2 rejected 4 cycles 1 flags count_flag paths (0 ∷ 2 ∷ []) ∷ (0 ∷ 1 ∷ 2 ∷ []) ∷ [])
    ∷ (searching BreadthFirst None (Some 5) None branching gives returned 2 expanded 5 complete 2 rejected 4 cycles 1 flags no_flag paths (0 ∷ 2 ∷ []) ∷ (0 ∷ 1 ∷ 2 ∷ []) ∷ [])
    -- all three, with counts of their own value: a flag once set stays, and nothing else is altered by it
    ∷ (searching DepthFirst (Some 2) None None after_length gives returned 1 expanded 7 complete 1 rejected 1 cycles 1 flags length_flag paths (3 ∷ 4 ∷ []) ∷ [])
    ∷ (searching DepthFirst (Some 2) (Some 6) None after_length gives returned 1 expanded 6 complete 1 rejected 1 cycles 0 flags (1 ∷ 1 ∷ 0 ∷ []) paths (3 ∷ 4 ∷ []) ∷ [])
    ∷ (searching DepthFirst (Some 2) None (Some 0) after_length gives returned 0 expanded 7 complete 1 rejected 1 cycles 1 flags (1 ∷ 0 ∷ 1 ∷ []) paths [])
    ∷ (searching DepthFirst (Some 2) (Some 3) (Some 0) after_complete gives returned 0 expanded 3 complete 1 rejected 1 cycles 0 flags (0 ∷ 1 ∷ 1 ∷ []) paths [])
    ∷ (searching DepthFirst (Some 2) None (Some 0) after_complete gives returned 0 expanded 4 complete 1 rejected 1 cycles 1 flags complete_flag paths [])
    ∷ (searching DepthFirst (Some 1) None (Some 0) after_complete gives returned 0 expanded 3 complete 1 rejected 1 cycles 0 flags (1 ∷ 0 ∷ 1 ∷ []) paths [])
    ∷ (searching DepthFirst (Some 2) (Some 7) (Some 1) two_scopes gives returned 1 expanded 7 complete 3 rejected 4 cycles 2 flags (1 ∷ 1 ∷ 1 ∷ []) paths (0 ∷ 2 ∷ []) ∷ [])
    ∷ (searching DepthFirst (Some 2) (Some 8) (Some 1) two_scopes gives returned 1 expanded 8 complete 3 rejected 4 cycles 2 flags (1 ∷ 0 ∷ 1 ∷ []) paths (0 ∷ 2 ∷ []) ∷ [])
    ∷ (searching DepthFirst (Some 2) None (Some 1) two_scopes gives returned 1 expanded 8 complete 3 rejected 4 cycles 2 flags (1 ∷ 0 ∷ 1 ∷ []) paths (0 ∷ 2 ∷ []) ∷ [])
    ∷ (searching DepthFirst (Some 2) None None two_scopes gives returned 3 expanded 8 complete 3 rejected 4 cycles 2 flags length_flag paths (0 ∷ 2 ∷ []) ∷ (4 ∷ 6 ∷ []) ∷ (4 ∷ 7 ∷ []) ∷ [])
    ∷ (searching DepthFirst None None (Some 0) two_scopes gives returned 0 expanded 11 complete 6 rejected 8 cycles 2 flags complete_flag paths [])
    -- THE NODE: 10 and 11, behind the image and in front of the areas
    ∷ (returned_by base (request_from 6 base BreadthFirst None None None 0 0) image_a gives refused (10 ∷ 6 ∷ []))
    ∷ (returned_by base (request_from 3 base BreadthFirst None None None 0 0) image_a gives refused (11 ∷ 3 ∷ []))
    ∷ (returned_by base (request_from 3 base BreadthFirst None None None 0 0) (take 76 image_a) gives refused (2 ∷ []))
    -- SLOTS: none for the start, also with a path count of 0; 32 before 31, both before the other is asked
    ∷ (returned_by base (request base BreadthFirst None (Some 0) None 0 0) image_a gives refused (31 ∷ []))
    ∷ (returned_by base (request base BreadthFirst None (Some 0) None 1 0) image_a gives returned 0 expanded 0 complete 0 rejected 0 cycles 0 flags count_flag paths [])
    ∷ (recording_in BreadthFirst None 1 1 twice_complete gives refused (32 ∷ []))
    ∷ (recording_in BreadthFirst None 1 2 twice_complete gives refused (31 ∷ []))
    ∷ (recording_in BreadthFirst None 2 1 twice_complete gives refused (32 ∷ []))
    ∷ (recording_in BreadthFirst None 2 2 twice_complete gives returned 2 expanded 3 complete 2 rejected 0 cycles 0 flags no_flag paths (0 ∷ []) ∷ (1 ∷ []) ∷ [])
    -- 32 only for a path that is to be kept
    ∷ (recording_in BreadthFirst (Some 1) 2 1 twice_complete gives returned 1 expanded 3 complete 2 rejected 0 cycles 0 flags complete_flag paths (0 ∷ []) ∷ [])
    ∷ (recording_in BreadthFirst (Some 0) 2 0 twice_complete gives returned 0 expanded 3 complete 2 rejected 0 cycles 0 flags complete_flag paths [])
    -- a slot serves again from the pop on: B needs 4 waiting slots, not 7; depth-first 3
    ∷ (recording_in BreadthFirst None 3 4 image_b gives refused (31 ∷ []))
    ∷ (recording_in BreadthFirst None 4 4 image_b gives returned 4 expanded 7 complete 4 rejected 0 cycles 0 flags no_flag paths (0 ∷ 2 ∷ []) ∷ (0 ∷ 3 ∷ []) ∷ (1 ∷ 2 ∷ []) ∷ (1 ∷ 3 ∷ []) ∷ [])
    ∷ (recording_in BreadthFirst None 4 3 image_b gives refused (32 ∷ []))
    ∷ (recording_in DepthFirst None 2 4 image_b gives refused (31 ∷ []))
    ∷ (recording_in DepthFirst None 3 4 image_b gives returned 4 expanded 7 complete 4 rejected 0 cycles 0 flags no_flag paths (0 ∷ 2 ∷ []) ∷ (0 ∷ 3 ∷ []) ∷ (1 ∷ 2 ∷ []) ∷ (1 ∷ 3 ∷ []) ∷ [])
    -- THE BOUNDS, lowered: B needs 7 expansions and 2 edges
    ∷ (recording_under (bounded max_edges 6) None None image_b gives refused (36 ∷ []))
    ∷ (recording_under (bounded max_edges 7) None None image_b gives returned 4 expanded 7 complete 4 rejected 0 cycles 0 flags no_flag paths (0 ∷ 2 ∷ []) ∷ (0 ∷ 3 ∷ []) ∷ (1 ∷ 2 ∷ []) ∷ (1 ∷ 3 ∷ []) ∷ [])
    ∷ (recording_under (bounded 1 7) None None image_b gives refused (30 ∷ []))
    ∷ (recording_under (bounded 2 7) None None image_b gives returned 4 expanded 7 complete 4 rejected 0 cycles 0 flags no_flag paths (0 ∷ 2 ∷ []) ∷ (0 ∷ 3 ∷ []) ∷ (1 ∷ 2 ∷ []) ∷ (1 ∷ 3 ∷ []) ∷ [])
    -- 36 only for an expansion that the path count allows
    ∷ (recording_under (bounded max_edges 6) None (Some 6) image_b gives returned 4 expanded 6 complete 4 rejected 0 cycles 0 flags count_flag paths (0 ∷ 2 ∷ []) ∷ (0 ∷ 3 ∷ []) ∷ (1 ∷ 2 ∷ []) ∷ (1 ∷ 3 ∷ []) ∷ [])
    ∷ (recording_under (bounded max_edges 6) None (Some 7) image_b gives refused (36 ∷ []))
    -- on E: the bound behind the length; in front of append, where the pop would be rejected; behind the cycle test, where only the loop is left
    ∷ (recording_under (bounded 1 7) None None image_e gives refused (30 ∷ []))
    ∷ (recording_under (bounded 1 7) (Some 1) None image_e gives returned 0 expanded 2 complete 0 rejected 0 cycles 0 flags length_flag paths [])
    ∷ (recording_under (bounded 2 7) None None image_e gives refused (30 ∷ []))
    ∷ (recording_under (bounded 3 7) None None image_e gives returned 0 expanded 3 complete 0 rejected 2 cycles 1 flags no_flag paths [])
    ∷ (recording_under (bounded 2 7) None None looping gives returned 0 expanded 3 complete 0 rejected 0 cycles 1 flags no_flag paths [])
    -- a jump is no edge: D's path has 5
    ∷ (recording_under (bounded 5 9) None None image_d gives returned 1 expanded 6 complete 1 rejected 0 cycles 0 flags no_flag paths (0 ∷ 1 ∷ 2 ∷ 3 ∷ 4 ∷ []) ∷ [])
    ∷ (recording_under (bounded 4 9) None None image_d gives refused (30 ∷ []))
    ∷ []

pub search-cases : Agreed searches
unfolding searches
search-cases = refl

-- EVERY WORD: the answer, the work area, the result area
pub areas : List (Row (List (List ℕ)))
unfolding areas_after
areas =
    -- count, edges and zeros of a slot; zeros in the unused slot and in the words behind it
    (areas_after (request_in (128 * slot_length) (2 * slot_length + 4)) image_a gives (0 ∷ 1 ∷ 3 ∷ 1 ∷ 1 ∷ 0 ∷ 0 ∷ 0 ∷ 0 ∷ 1 ∷ []) ∷ (zeros (128 * slot_length)) ∷ (2 ∷ 0 ∷ 1 ∷ zeros (2 * slot_length + 1)) ∷ [])
    -- two paths, one behind the other
    ∷ (areas_after (request_in 513 (3 * slot_length)) branching gives (0 ∷ 2 ∷ 5 ∷ 2 ∷ 4 ∷ 1 ∷ 0 ∷ 0 ∷ 0 ∷ 2 ∷ []) ∷ (zeros 513) ∷ (2 ∷ 0 ∷ 2 ∷ (zeros (slot_length - 3) ++ (3 ∷ 0 ∷ 1 ∷ 2 ∷ zeros (2 * slot_length - 4)))) ∷ [])
    -- 63 words are no slot, 64 are one
    ∷ (areas_after (request_in slot_length max_edges) image_a gives (32 ∷ []) ∷ (zeros slot_length) ∷ (zeros max_edges) ∷ [])
    ∷ (areas_after (request_in slot_length slot_length) image_a gives (0 ∷ 1 ∷ 3 ∷ 1 ∷ 1 ∷ 0 ∷ 0 ∷ 0 ∷ 0 ∷ 1 ∷ []) ∷ (zeros slot_length) ∷ (2 ∷ 0 ∷ 1 ∷ zeros (slot_length - 3)) ∷ [])
    ∷ (areas_after (request_in max_edges slot_length) image_a gives (31 ∷ []) ∷ (zeros max_edges) ∷ (zeros slot_length) ∷ [])
    -- refused, by the image and by the path rules
    ∷ (areas_after (request_in 3 5) (take 76 image_a) gives (2 ∷ []) ∷ (0 ∷ 0 ∷ 0 ∷ []) ∷ (0 ∷ 0 ∷ 0 ∷ 0 ∷ 0 ∷ []) ∷ [])
    ∷ (areas_after (request_in 3 5) (image_of 1 (scope 0 ∷ []) []) gives (11 ∷ 2 ∷ []) ∷ (0 ∷ 0 ∷ 0 ∷ []) ∷ (0 ∷ 0 ∷ 0 ∷ 0 ∷ 0 ∷ []) ∷ [])
    -- what was shadowed leaves no word behind
    ∷ (areas_after (request_in 512 512) image_b gives (0 ∷ 1 ∷ 7 ∷ 4 ∷ 0 ∷ 0 ∷ 0 ∷ 0 ∷ 0 ∷ 4 ∷ []) ∷ (zeros 512) ∷ (2 ∷ 1 ∷ 3 ∷ zeros 509) ∷ [])
    ∷ []

pub area-cases : Agreed areas
unfolding areas
area-cases = refl

-- THE NUMBERS: at most 63 edges, 16,777,216 expansions, 64 words a slot, 67 words a database slot; before document 02, order 6, 127 edges
pub numbers : List (Row ℕ)
numbers =
    (base.edges gives 63)
    ∷ (base.expansions gives 16777216)
    ∷ (slot_words base gives 64)
    ∷ (record_words base gives 67)
    ∷ (former.edges gives 127)
    ∷ (record_words former gives 131)
    ∷ []

pub number-cases : Agreed numbers
unfolding numbers
number-cases = refl

-- WHAT NO CALL RETURNS: edges looked at, length refusals, pushes with that of the start. "Edges looked at equal cycle cuts, length refusals, rejections and
-- pushes together", the start's left out
counted : Answer SearchRefusal (State Path) → List ℕ
counted (ok s) = s.tally.looked ∷ s.tally.overlong ∷ s.tally.pushed ∷ []
counted (refuse r) = []

counted_on : Limit → Answer ImageRefusal Graph → List ℕ
unfolding counted direct view_of
counted_on length (ok g) = counted (direct base length (search_setting BreadthFirst (request base BreadthFirst length None None 8 8).limits 8 8) (view_of g) 2)
counted_on length (refuse r) = []

counting : Limit → List ℕ → List ℕ
unfolding counted_on check_image
counting length im = counted_on length (check_image symbol_bytes im)

pub counts : List (Row (List ℕ))
unfolding counting
counts =
    -- 1 cut, 4 rejections, 4 pushes
    (counting None branching gives 9 ∷ 0 ∷ 5 ∷ [])
    -- 1 cut, 3 too long, 2 rejections, 3 pushes
    ∷ (counting (Some 2) branching gives 9 ∷ 3 ∷ 4 ∷ [])
    ∷ []

pub count-cases : Agreed counts
unfolding counts
count-cases = refl
