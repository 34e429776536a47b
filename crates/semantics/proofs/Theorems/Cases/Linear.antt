-- Linear search: which second edge is 20, the order of its checks, its limits, its bounds and every word that it leaves.
-- Document 01, "Answer": "Linear stops at a second appendable edge of one node", "That test stands between append and completeness".
use Rattle.std.specs.Prelude.{ℕ, ◌+◌, ◌*◌, refl, List, [], ◌∷◌, take, None, Some}
use Rattle.semantics.specs.Limits.{base, max_edges, slot_length}
use Rattle.semantics.specs.Words.{zeros}
use Rattle.semantics.specs.Cases.Rows.{Row, ◌gives◌, Agreed, refused, returned◌expanded◌complete◌rejected◌cycles◌flags◌paths◌, no_flag, length_flag, count_flag, complete_flag}
use Rattle.semantics.specs.Cases.Graphs.{image_a, image_b, image_of, scope, reference, push, pop, definition, ◌⟶◌, twice_complete, going_on, looping}
use Rattle.semantics.specs.Cases.Asked.{bounded, linear_request, linear_in, linear_areas}

-- 2 pushes 7 (reference), 3 is a private scope, 4 pushes 8, 5 pops 8, 6 pops 7 (definition): the way is once round over 4, then on over 5
abbrev once_round : List ℕ
once_round = image_of 1 (reference 0 7 ∷ scope 0 ∷ push 0 8 ∷ pop 0 8 ∷ definition 0 7 ∷ []) (2 ⟶ 3 ∷ 3 ⟶ 4 ∷ 4 ⟶ 3 ∷ 3 ⟶ 5 ∷ 5 ⟶ 6 ∷ [])

-- the same, with the edge on over 5 in front of the edge round
abbrev on_first : List ℕ
on_first = image_of 1 (reference 0 7 ∷ scope 0 ∷ push 0 8 ∷ pop 0 8 ∷ definition 0 7 ∷ []) (2 ⟶ 3 ∷ 3 ⟶ 5 ∷ 3 ⟶ 4 ∷ 4 ⟶ 3 ∷ 5 ⟶ 6 ∷ [])

-- the same, with a second edge on over 5 behind the edge round
abbrev on_twice : List ℕ
on_twice = image_of 1 (reference 0 7 ∷ scope 0 ∷ push 0 8 ∷ pop 0 8 ∷ definition 0 7 ∷ []) (2 ⟶ 3 ∷ 3 ⟶ 5 ∷ 3 ⟶ 4 ∷ 4 ⟶ 3 ∷ 5 ⟶ 6 ∷ 3 ⟶ 5 ∷ [])

pub linears : List (Row (List (List ℕ)))
unfolding linear_in
linears =
    -- a rejected second edge is no second edge, and neither is one that was rejected before the first
    (linear_in base 2 None None None 8 image_a gives returned 1 expanded 3 complete 1 rejected 1 cycles 0 flags no_flag paths (0 ∷ 1 ∷ []) ∷ [])
    ∷ (linear_in base 2 None None None 8 (image_of 1 (reference 0 7 ∷ definition 0 8 ∷ definition 0 7 ∷ []) (2 ⟶ 3 ∷ 2 ⟶ 4 ∷ 2 ⟶ 3 ∷ [])) gives returned 1 expanded 2 complete 1 rejected 2 cycles 0 flags no_flag paths (1 ∷ []) ∷ [])
    -- a cycle cut is not the first edge, and a cycle cut behind the first edge is no second one
    ∷ (linear_in base 2 None None None 8 once_round gives returned 1 expanded 6 complete 1 rejected 1 cycles 1 flags no_flag paths (0 ∷ 1 ∷ 2 ∷ 3 ∷ 4 ∷ []) ∷ [])
    ∷ (linear_in base 2 None None None 8 on_first gives returned 1 expanded 6 complete 1 rejected 1 cycles 1 flags no_flag paths (0 ∷ 2 ∷ 3 ∷ 1 ∷ 4 ∷ []) ∷ [])
    -- but an edge behind a rejected or a cut one is, if another was appended before it
    ∷ (linear_in base 2 None None None 8 (image_of 1 (reference 0 7 ∷ definition 0 8 ∷ definition 0 7 ∷ []) (2 ⟶ 4 ∷ 2 ⟶ 3 ∷ 2 ⟶ 4 ∷ [])) gives refused (20 ∷ 2 ∷ []))
    ∷ (linear_in base 2 None None None 8 on_twice gives refused (20 ∷ 3 ∷ []))
    -- 20 at the path's end, also behind the first edge
    ∷ (linear_in base 2 None None None 8 (image_of 1 (reference 0 7 ∷ scope 0 ∷ definition 0 7 ∷ []) (2 ⟶ 3 ∷ 3 ⟶ 4 ∷ 3 ⟶ 4 ∷ [])) gives refused (20 ∷ 3 ∷ []))
    -- before completeness: with one result slot the second edge is 20 and not 32, with none the first is 32
    ∷ (linear_in base 2 None None None 1 twice_complete gives refused (20 ∷ 2 ∷ []))
    ∷ (linear_in base 2 None None None 0 twice_complete gives refused (32 ∷ []))
    ∷ (linear_in base 2 None None (Some 0) 0 twice_complete gives refused (20 ∷ 2 ∷ []))
    -- LIMITS, each with its own flag
    ∷ (linear_in base 2 (Some 1) None None 8 image_a gives returned 0 expanded 2 complete 0 rejected 0 cycles 0 flags length_flag paths [])
    ∷ (linear_in base 2 (Some 2) None None 8 image_a gives returned 1 expanded 3 complete 1 rejected 1 cycles 0 flags no_flag paths (0 ∷ 1 ∷ []) ∷ [])
    ∷ (linear_in base 2 None (Some 0) None 8 image_a gives returned 0 expanded 0 complete 0 rejected 0 cycles 0 flags count_flag paths [])
    ∷ (linear_in base 2 None (Some 2) None 8 image_a gives returned 1 expanded 2 complete 1 rejected 1 cycles 0 flags count_flag paths (0 ∷ 1 ∷ []) ∷ [])
    ∷ (linear_in base 2 None (Some 3) None 8 image_a gives returned 1 expanded 3 complete 1 rejected 1 cycles 0 flags no_flag paths (0 ∷ 1 ∷ []) ∷ [])
    ∷ (linear_in base 2 None None (Some 0) 8 image_a gives returned 0 expanded 3 complete 1 rejected 1 cycles 0 flags complete_flag paths [])
    ∷ (linear_in base 2 None None (Some 1) 8 image_a gives returned 1 expanded 3 complete 1 rejected 1 cycles 0 flags no_flag paths (0 ∷ 1 ∷ []) ∷ [])
    -- cycle before length: the edge round would be too long
    ∷ (linear_in base 2 (Some 3) None None 8 once_round gives returned 0 expanded 4 complete 0 rejected 1 cycles 1 flags length_flag paths [])
    ∷ (linear_in base 2 (Some 2) None None 8 looping gives returned 0 expanded 3 complete 0 rejected 0 cycles 1 flags no_flag paths [])
    -- REFUSED: the image, the node, a 128th edge, no result slot, an expansion too many
    ∷ (linear_in base 3 None None None 8 (take 76 image_a) gives refused (2 ∷ []))
    ∷ (linear_in base 3 None None None 8 image_a gives refused (11 ∷ 3 ∷ []))
    ∷ (linear_in base 6 None None None 8 image_a gives refused (10 ∷ 6 ∷ []))
    ∷ (linear_in (bounded 1 9) 2 None None None 8 image_a gives refused (30 ∷ []))
    ∷ (linear_in (bounded 2 9) 2 None None None 8 image_a gives returned 1 expanded 3 complete 1 rejected 1 cycles 0 flags no_flag paths (0 ∷ 1 ∷ []) ∷ [])
    ∷ (linear_in (bounded max_edges 2) 2 None None None 8 image_a gives refused (36 ∷ []))
    ∷ (linear_in (bounded max_edges 3) 2 None None None 8 image_a gives returned 1 expanded 3 complete 1 rejected 1 cycles 0 flags no_flag paths (0 ∷ 1 ∷ []) ∷ [])
    ∷ (linear_in (bounded max_edges 2) 2 None (Some 2) None 8 image_a gives returned 1 expanded 2 complete 1 rejected 1 cycles 0 flags count_flag paths (0 ∷ 1 ∷ []) ∷ [])
    ∷ (linear_in base 2 None None None 0 image_a gives refused (32 ∷ []))
    -- no waiting slots: without a complete path nothing is refused
    ∷ (linear_in base 2 None None None 0 (image_of 1 (reference 0 7 ∷ scope 0 ∷ []) (2 ⟶ 3 ∷ [])) gives returned 0 expanded 2 complete 0 rejected 0 cycles 0 flags no_flag paths [])
    -- two complete paths, one the beginning of the other
    ∷ (linear_in base 2 None None None 8 going_on gives returned 2 expanded 4 complete 2 rejected 0 cycles 0 flags no_flag paths (0 ∷ []) ∷ (0 ∷ 1 ∷ 2 ∷ []) ∷ [])
    ∷ []

pub linear-cases : Agreed linears
unfolding linears
linear-cases = refl

-- EVERY WORD: the answer, no work area, the result area
pub areas : List (Row (List (List ℕ)))
unfolding linear_areas
areas =
    (linear_areas (linear_request 2 None None None (2 * slot_length + 4)) image_a gives (0 ∷ 1 ∷ 3 ∷ 1 ∷ 1 ∷ 0 ∷ 0 ∷ 0 ∷ 0 ∷ 0 ∷ []) ∷ [] ∷ (2 ∷ 0 ∷ 1 ∷ zeros (2 * slot_length + 1)) ∷ [])
    ∷ (linear_areas (linear_request 2 None None None max_edges) image_a gives (32 ∷ []) ∷ [] ∷ (zeros max_edges) ∷ [])
    ∷ (linear_areas (linear_request 2 None None None 3) image_b gives (20 ∷ 2 ∷ []) ∷ [] ∷ (0 ∷ 0 ∷ 0 ∷ []) ∷ [])
    ∷ (linear_areas (linear_request 2 None None None 3) (take 76 image_a) gives (2 ∷ []) ∷ [] ∷ (0 ∷ 0 ∷ 0 ∷ []) ∷ [])
    ∷ []

pub area-cases : Agreed areas
unfolding areas
area-cases = refl
