-- Stitched search: which slots are tried, what is a cycle cut, a length refusal, a rejection or the search's end, copies, limits, bounds, every word.
-- Document 01, "Partial paths", third paragraph, and "Answer".
use Rattle.std.specs.Prelude.{ℕ, ◌+◌, ◌*◌, refl, true, false, List, [], ◌∷◌, take, None, Some}
use Rattle.semantics.specs.declared.graph.Node.TheVariants as N
use Rattle.semantics.specs.declared.search.SearchOrder.{SearchOrder}
use Rattle.semantics.specs.declared.search.SearchOrder.TheVariants.{BreadthFirst, DepthFirst}
use Rattle.semantics.specs.Limits.{Bounds, base, max_edges, slot_length, Limit}
use Rattle.semantics.specs.Answer.{ok}
use Rattle.semantics.specs.Graph.{node_id, file_id, Graph}
use Rattle.semantics.specs.Recorded.{recorded}
use Rattle.semantics.specs.Words.{zeros}
use Rattle.semantics.specs.Database.{known_owners}
use Rattle.semantics.specs.Calls.{stitched_call}
use Rattle.semantics.specs.Hidden.{every_file}
use Rattle.semantics.specs.Cases.Rows.{Row, ◌gives◌, Agreed, refused, returned◌expanded◌complete◌rejected◌cycles◌flags◌paths◌, no_flag, length_flag, count_flag, complete_flag}
use Rattle.semantics.specs.Cases.Graphs.{image_a, image_b, image_d, image_e, image_f, live, image_of, reference, removed_edge, going_on}
use Rattle.semantics.specs.Cases.Asked.{bounded, request, request_in, stitched_returned, stitched_recorded, stitched_areas, database_of, held, held_in, first_filed, shown}

-- with 8 slots of each area, the recorded paths
joining : SearchOrder → Limit → Limit → Limit → List ℕ → List ℕ → List (List ℕ)
unfolding stitched_recorded
joining order length count kept im words = stitched_recorded base (request base order length count kept 8 8) im words

-- with so many waiting and result slots
joining_in : ℕ → ℕ → List ℕ → List ℕ → List (List ℕ)
unfolding stitched_recorded
joining_in waiting results im words = stitched_recorded base (request base BreadthFirst None None None waiting results) im words

-- the same at lowered bounds, where a record has fewer words
joining_under : Bounds → Limit → Limit → List ℕ → List ℕ → List (List ℕ)
unfolding stitched_recorded
joining_under bd length count im words = stitched_recorded bd (request bd BreadthFirst length count None 8 8) im words

-- B with its lists as slots, one of them twice
abbrev words_b : List ℕ
words_b = database_of 5 5 1 (held 1 2 4 (0 ∷ 2 ∷ []) ∷ held 1 2 4 (1 ∷ 3 ∷ []) ∷ held 1 2 4 (0 ∷ 2 ∷ []) ∷ held 1 2 4 (0 ∷ 3 ∷ []) ∷ held 1 2 4 (1 ∷ 2 ∷ []) ∷ [])

-- E's edges as slots: 0 from 2, 1 and 2 from 3, 1 and 2 together
abbrev words_e : List ℕ
words_e = database_of 4 5 1 (held 1 2 3 (0 ∷ []) ∷ held 1 3 3 (1 ∷ []) ∷ held 1 3 4 (2 ∷ []) ∷ held 1 3 4 (1 ∷ 2 ∷ []) ∷ [])

-- a graph that no image gives: behind edge 0 an attached scope that is not exported, behind edge 1 a removed node
abbrev unfit : Graph
unfit = record { files = 1; nodes = N.Root ∷ N.JumpToScope ∷ N.Push (file_id 0) 7 true ∷ N.PushScoped (file_id 0) 7 (node_id 4) false ∷ N.Scope (file_id 0) false ∷ N.Removed ∷ []; edges = live 2 3 0 ∷ live 2 5 0 ∷ [] }

joining_on : Graph → List ℕ → List (List ℕ)
unfolding stitched_call recorded shown
joining_on g words = shown base (stitched_call base recorded known_owners every_file (ok g) words (request base BreadthFirst None None None 8 8))

pub stitches : List (Row (List (List ℕ)))
unfolding joining joining_in joining_under joining_on stitched_returned first_filed
stitches =
    -- WHICH SLOTS: those that start at the path's end, whatever file and end they name; not dead ones; by ascending number
    (joining BreadthFirst None None None image_a (database_of 3 6 1 (held 1 2 9 (0 ∷ []) ∷ held 0 2 3 (0 ∷ []) ∷ held 1 3 9 (1 ∷ []) ∷ [])) gives returned 1 expanded 3 complete 1 rejected 0 cycles 0 flags no_flag paths (0 ∷ 1 ∷ []) ∷ [])
    ∷ (joining BreadthFirst None None None image_a (database_of 1 6 1 (held 1 3 4 (0 ∷ 1 ∷ []) ∷ [])) gives returned 0 expanded 1 complete 0 rejected 0 cycles 0 flags no_flag paths [])
    ∷ (joining BreadthFirst None None None image_a (database_of 0 6 1 (held 1 2 4 (0 ∷ 1 ∷ []) ∷ [])) gives returned 0 expanded 1 complete 0 rejected 0 cycles 0 flags no_flag paths [])
    -- REFUSALS OF THE PATH RULES are rejections: 13, 15, 16, 17 and 18 from reference 2 of F, 14 behind edge 0
    ∷ (joining BreadthFirst None None None image_f (database_of 7 10 1 (held 1 2 5 (3 ∷ []) ∷ held 1 2 5 (1 ∷ []) ∷ held 1 2 7 (4 ∷ []) ∷ held 1 2 9 (2 ∷ 8 ∷ []) ∷ held 1 2 1 (0 ∷ 5 ∷ 7 ∷ []) ∷ held 1 2 4 (0 ∷ []) ∷ held 1 4 5 (9 ∷ []) ∷ [])) gives returned 0 expanded 2 complete 0 rejected 6 cycles 0 flags no_flag paths [])
    -- 19 and 10 would be as well, if an image gave them
    ∷ (joining_on unfit (database_of 2 6 1 (held 1 2 3 (0 ∷ []) ∷ held 1 2 5 (1 ∷ []) ∷ [])) gives returned 0 expanded 1 complete 0 rejected 2 cycles 0 flags no_flag paths [])
    -- but 12: an edge behind the last, and a removed one, end the search; where an edge before it is rejected it is not met
    ∷ (joining BreadthFirst None None None image_a (database_of 1 6 1 (held 1 2 4 (0 ∷ 9 ∷ []) ∷ [])) gives refused (12 ∷ 9 ∷ []))
    ∷ (joining BreadthFirst None None None (image_of 1 (reference 0 7 ∷ []) (removed_edge ∷ [])) (database_of 1 3 1 (held 1 2 2 (0 ∷ []) ∷ [])) gives refused (12 ∷ 0 ∷ []))
    ∷ (joining BreadthFirst None None None image_a (database_of 1 6 1 (held 1 2 4 (1 ∷ 9 ∷ []) ∷ [])) gives returned 0 expanded 1 complete 0 rejected 1 cycles 0 flags no_flag paths [])
    -- A CYCLE CUT shares an edge, its first or another; one that it has twice itself is none
    ∷ (joining BreadthFirst None None None image_e words_e gives returned 0 expanded 3 complete 0 rejected 3 cycles 2 flags no_flag paths [])
    ∷ (joining BreadthFirst None None None image_e (database_of 2 5 1 (held 1 2 3 (0 ∷ 1 ∷ []) ∷ held 1 3 4 (2 ∷ 1 ∷ []) ∷ [])) gives returned 0 expanded 2 complete 0 rejected 0 cycles 1 flags no_flag paths [])
    ∷ (joining BreadthFirst None None None image_e (database_of 1 5 1 (held 1 2 3 (0 ∷ 1 ∷ 1 ∷ []) ∷ [])) gives returned 0 expanded 2 complete 0 rejected 0 cycles 0 flags no_flag paths [])
    -- LENGTH counts every edge; a cycle comes before it, it before append
    ∷ (joining BreadthFirst (Some 2) None None image_e words_e gives returned 0 expanded 3 complete 0 rejected 1 cycles 2 flags length_flag paths [])
    ∷ (joining BreadthFirst (Some 2) None None image_e (database_of 2 5 1 (held 1 2 3 (0 ∷ 1 ∷ []) ∷ held 1 3 3 (1 ∷ []) ∷ [])) gives returned 0 expanded 2 complete 0 rejected 0 cycles 1 flags no_flag paths [])
    ∷ (joining BreadthFirst (Some 1) None None image_a (database_of 1 6 1 (held 1 2 4 (0 ∷ 9 ∷ []) ∷ [])) gives returned 0 expanded 1 complete 0 rejected 0 cycles 0 flags length_flag paths [])
    ∷ (joining BreadthFirst (Some 2) None None image_a (database_of 1 6 1 (held 1 2 4 (0 ∷ 1 ∷ []) ∷ [])) gives returned 1 expanded 2 complete 1 rejected 0 cycles 0 flags no_flag paths (0 ∷ 1 ∷ []) ∷ [])
    -- a jump is no edge: on D it stands before the last partial path
    ∷ (joining BreadthFirst (Some 5) None None image_d (database_of 3 7 2 (held 1 2 0 (0 ∷ 1 ∷ []) ∷ held 2 0 1 (2 ∷ 3 ∷ []) ∷ held 1 4 6 (4 ∷ []) ∷ [])) gives returned 1 expanded 4 complete 1 rejected 0 cycles 0 flags no_flag paths (0 ∷ 1 ∷ 2 ∷ 3 ∷ 4 ∷ []) ∷ [])
    ∷ (joining BreadthFirst (Some 4) None None image_d (database_of 3 7 2 (held 1 2 0 (0 ∷ 1 ∷ []) ∷ held 2 0 1 (2 ∷ 3 ∷ []) ∷ held 1 4 6 (4 ∷ []) ∷ [])) gives returned 0 expanded 3 complete 0 rejected 0 cycles 0 flags length_flag paths [])
    -- COPIES: all are complete, the first is kept; each takes a slot until the end
    ∷ (joining BreadthFirst None None None image_b words_b gives returned 4 expanded 6 complete 5 rejected 0 cycles 0 flags no_flag paths (0 ∷ 2 ∷ []) ∷ (1 ∷ 3 ∷ []) ∷ (0 ∷ 3 ∷ []) ∷ (1 ∷ 2 ∷ []) ∷ [])
    ∷ (joining_in 8 4 image_b words_b gives refused (32 ∷ []))
    ∷ (joining_in 8 5 image_b words_b gives returned 4 expanded 6 complete 5 rejected 0 cycles 0 flags no_flag paths (0 ∷ 2 ∷ []) ∷ (1 ∷ 3 ∷ []) ∷ (0 ∷ 3 ∷ []) ∷ (1 ∷ 2 ∷ []) ∷ [])
    ∷ (joining BreadthFirst None None (Some 3) image_b words_b gives returned 2 expanded 6 complete 5 rejected 0 cycles 0 flags complete_flag paths (0 ∷ 2 ∷ []) ∷ (1 ∷ 3 ∷ []) ∷ [])
    -- a path and its beginning are no copies, in either order
    ∷ (joining BreadthFirst None None None going_on (database_of 2 6 1 (held 1 2 5 (0 ∷ 1 ∷ 2 ∷ []) ∷ held 1 2 3 (0 ∷ []) ∷ [])) gives returned 2 expanded 3 complete 2 rejected 0 cycles 0 flags no_flag paths (0 ∷ 1 ∷ 2 ∷ []) ∷ (0 ∷ []) ∷ [])
    ∷ (joining BreadthFirst None None None going_on (database_of 2 6 1 (held 1 2 3 (0 ∷ []) ∷ held 1 2 5 (0 ∷ 1 ∷ 2 ∷ []) ∷ [])) gives returned 2 expanded 3 complete 2 rejected 0 cycles 0 flags no_flag paths (0 ∷ []) ∷ (0 ∷ 1 ∷ 2 ∷ []) ∷ [])
    -- RETURNED: nothing shadowed
    ∷ (stitched_returned base (request base BreadthFirst None None None 8 8) image_b words_b gives returned 1 expanded 6 complete 5 rejected 0 cycles 0 flags no_flag paths (1 ∷ 3 ∷ []) ∷ [])
    ∷ (stitched_returned base (request base BreadthFirst None None (Some 2) 8 8) image_b words_b gives returned 1 expanded 6 complete 5 rejected 0 cycles 0 flags complete_flag paths (1 ∷ 3 ∷ []) ∷ [])
    -- ORDER AND LIMITS
    ∷ (joining BreadthFirst None (Some 3) None image_b (first_filed image_b) gives returned 4 expanded 3 complete 8 rejected 0 cycles 0 flags count_flag paths (0 ∷ 2 ∷ []) ∷ (0 ∷ 3 ∷ []) ∷ (1 ∷ 2 ∷ []) ∷ (1 ∷ 3 ∷ []) ∷ [])
    ∷ (joining DepthFirst None (Some 3) None image_b (first_filed image_b) gives returned 4 expanded 3 complete 6 rejected 0 cycles 0 flags count_flag paths (0 ∷ 2 ∷ []) ∷ (0 ∷ 3 ∷ []) ∷ (1 ∷ 2 ∷ []) ∷ (1 ∷ 3 ∷ []) ∷ [])
    ∷ (joining BreadthFirst None (Some 4) None image_a (first_filed image_a) gives returned 1 expanded 4 complete 2 rejected 2 cycles 0 flags no_flag paths (0 ∷ 1 ∷ []) ∷ [])
    ∷ (joining BreadthFirst None (Some 0) None image_a (first_filed image_a) gives returned 0 expanded 0 complete 0 rejected 0 cycles 0 flags count_flag paths [])
    ∷ (joining BreadthFirst None None (Some 1) image_a (first_filed image_a) gives returned 1 expanded 4 complete 2 rejected 2 cycles 0 flags complete_flag paths (0 ∷ 1 ∷ []) ∷ [])
    -- SLOTS: 31 and 32
    ∷ (joining_in 0 8 image_a (first_filed image_a) gives refused (31 ∷ []))
    ∷ (joining_in 1 8 image_a (first_filed image_a) gives refused (31 ∷ []))
    ∷ (joining_in 2 8 image_a (first_filed image_a) gives returned 1 expanded 4 complete 2 rejected 2 cycles 0 flags no_flag paths (0 ∷ 1 ∷ []) ∷ [])
    ∷ (joining_in 2 1 image_a (first_filed image_a) gives refused (32 ∷ []))
    ∷ (joining_in 2 2 image_a (first_filed image_a) gives returned 1 expanded 4 complete 2 rejected 2 cycles 0 flags no_flag paths (0 ∷ 1 ∷ []) ∷ [])
    -- THE BOUND of 2 edges, lowered: a path of 2 is none too long; tested on all edges before any is appended, so 30 also where the first would be rejected or
    -- unknown; behind the cycle test and the length
    ∷ (joining_under (bounded 2 9) None None image_a (database_of 2 6 1 (held_in 2 1 2 3 (0 ∷ []) ∷ held_in 2 1 3 4 (1 ∷ []) ∷ [])) gives returned 1 expanded 3 complete 1 rejected 0 cycles 0 flags no_flag paths (0 ∷ 1 ∷ []) ∷ [])
    ∷ (joining_under (bounded 2 9) None None image_a (database_of 2 6 1 (held_in 2 1 2 3 (0 ∷ []) ∷ held_in 2 1 3 4 (2 ∷ 1 ∷ []) ∷ [])) gives refused (30 ∷ []))
    ∷ (joining_under (bounded 2 9) None None image_a (database_of 2 6 1 (held_in 2 1 2 3 (0 ∷ []) ∷ held_in 2 1 3 4 (9 ∷ 9 ∷ []) ∷ [])) gives refused (30 ∷ []))
    ∷ (joining_under (bounded 2 9) None None image_a (database_of 2 6 1 (held_in 2 1 2 3 (0 ∷ []) ∷ held_in 2 1 3 4 (0 ∷ 1 ∷ []) ∷ [])) gives returned 0 expanded 2 complete 0 rejected 0 cycles 1 flags no_flag paths [])
    ∷ (joining_under (bounded 2 9) (Some 2) None image_a (database_of 2 6 1 (held_in 2 1 2 3 (0 ∷ []) ∷ held_in 2 1 3 4 (2 ∷ 1 ∷ []) ∷ [])) gives returned 0 expanded 2 complete 0 rejected 0 cycles 0 flags length_flag paths [])
    ∷ (joining_under (bounded 5 9) None None image_d (database_of 3 7 2 (held_in 5 1 2 0 (0 ∷ 1 ∷ []) ∷ held_in 5 2 0 1 (2 ∷ 3 ∷ []) ∷ held_in 5 1 4 6 (4 ∷ []) ∷ [])) gives returned 1 expanded 4 complete 1 rejected 0 cycles 0 flags no_flag paths (0 ∷ 1 ∷ 2 ∷ 3 ∷ 4 ∷ []) ∷ [])
    -- 36, and the path count before it
    ∷ (joining_under (bounded max_edges 3) None None image_a (first_filed image_a) gives refused (36 ∷ []))
    ∷ (joining_under (bounded max_edges 4) None None image_a (first_filed image_a) gives returned 1 expanded 4 complete 2 rejected 2 cycles 0 flags no_flag paths (0 ∷ 1 ∷ []) ∷ [])
    ∷ (joining_under (bounded max_edges 3) None (Some 3) image_a (first_filed image_a) gives returned 1 expanded 3 complete 2 rejected 2 cycles 0 flags count_flag paths (0 ∷ 1 ∷ []) ∷ [])
    ∷ []

pub stitch-cases : Agreed stitches
unfolding stitches
stitch-cases = refl

-- EVERY WORD: the answer, the work area, the result area
pub areas : List (Row (List (List ℕ)))
unfolding stitched_areas first_filed
areas =
    (stitched_areas (request_in 300 (2 * slot_length + 4)) image_a (first_filed image_a) gives (0 ∷ 1 ∷ 4 ∷ 2 ∷ 2 ∷ 0 ∷ 0 ∷ 0 ∷ 0 ∷ 2 ∷ []) ∷ (zeros 300) ∷ (2 ∷ 0 ∷ 1 ∷ zeros (2 * slot_length + 1)) ∷ [])
    ∷ (stitched_areas (request_in (2 * slot_length + 44) (slot_length + 2)) image_a (first_filed image_a) gives (32 ∷ []) ∷ (zeros (2 * slot_length + 44)) ∷ (zeros (slot_length + 2)) ∷ [])
    ∷ (stitched_areas (request_in 3 5) image_a (9 ∷ 8 ∷ 1 ∷ 0 ∷ []) gives (35 ∷ []) ∷ (0 ∷ 0 ∷ 0 ∷ []) ∷ (0 ∷ 0 ∷ 0 ∷ 0 ∷ 0 ∷ []) ∷ [])
    ∷ (stitched_areas (request_in 3 5) (take 76 image_a) [] gives (2 ∷ []) ∷ (0 ∷ 0 ∷ 0 ∷ []) ∷ (0 ∷ 0 ∷ 0 ∷ 0 ∷ 0 ∷ []) ∷ [])
    ∷ []

pub area-cases : Agreed areas
unfolding areas
area-cases = refl
