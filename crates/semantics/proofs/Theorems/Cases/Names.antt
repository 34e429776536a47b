-- Names for definitions: which reference, which path, what is refused before what, and every word that the call leaves.
-- Document 02, order 1.
use Rattle.std.specs.Prelude.{ℕ, ◌+◌, ◌*◌, refl, List, [], ◌∷◌, take, None, Some}
use Rattle.semantics.specs.Limits.{base, max_edges, slot_length}
use Rattle.semantics.specs.Words.{zeros}
use Rattle.semantics.specs.Cases.Rows.{Row, ◌gives◌, Agreed, refused}
use Rattle.semantics.specs.Cases.Graphs.{image_a, image_b, image_c, image_d, image_f, image_of, removed_node, scope, push, reference, pop, definition, edge_of, ◌⟶◌, twice_complete, going_on}
use Rattle.semantics.specs.Cases.Asked.{bounded, name_request, naming_in, naming_of, naming_areas}

infix 5 ◌by◌
-- a name: 0, 1 and the reference; then the edges of its path
abbrev ◌by◌ : ℕ → List ℕ → List (List ℕ)
◌by◌ from edges = (0 ∷ 1 ∷ from ∷ []) ∷ edges ∷ []

-- there is none
abbrev none : List (List ℕ)
none = (0 ∷ 0 ∷ []) ∷ []

-- 2 and 3 push 7, 4 pops it; the edge of 3 stands in front of that of 2
abbrev two_names : List ℕ
two_names = image_of 1 (reference 0 7 ∷ reference 0 7 ∷ definition 0 7 ∷ []) (3 ⟶ 4 ∷ 2 ⟶ 4 ∷ [])

-- 2 pushes 8 and 3 pushes 7; only 3 reaches 4, which pops 7, and only 2 reaches 5
abbrev own_names : List ℕ
own_names = image_of 1 (reference 0 8 ∷ reference 0 7 ∷ definition 0 7 ∷ definition 0 8 ∷ []) (2 ⟶ 4 ∷ 3 ⟶ 4 ∷ 2 ⟶ 5 ∷ 3 ⟶ 5 ∷ [])

-- 2 has two ways that wait together and end nowhere, 3 has one way to 4
abbrev wide_first : List ℕ
wide_first = image_of 1 (reference 0 7 ∷ reference 0 7 ∷ definition 0 7 ∷ scope 0 ∷ []) (2 ⟶ 5 ∷ 2 ⟶ 5 ∷ 3 ⟶ 4 ∷ [])

-- the same with 2 and 3 exchanged
abbrev wide_last : List ℕ
wide_last = image_of 1 (reference 0 7 ∷ reference 0 7 ∷ definition 0 7 ∷ scope 0 ∷ []) (3 ⟶ 5 ∷ 3 ⟶ 5 ∷ 2 ⟶ 4 ∷ [])

-- 2 has one way to 4, and two that wait together after it
abbrev wide_after : List ℕ
wide_after = image_of 1 (reference 0 7 ∷ scope 0 ∷ definition 0 7 ∷ scope 0 ∷ []) (2 ⟶ 4 ∷ 2 ⟶ 3 ∷ 3 ⟶ 5 ∷ 3 ⟶ 5 ∷ [])

-- a long way and a short way from 2 to 6
abbrev two_ways : List ℕ
two_ways = image_of 1 (reference 0 7 ∷ scope 0 ∷ scope 0 ∷ scope 0 ∷ definition 0 7 ∷ []) (2 ⟶ 3 ∷ 3 ⟶ 4 ∷ 4 ⟶ 6 ∷ 2 ⟶ 5 ∷ 5 ⟶ 6 ∷ [])

-- no reference: a push that is none has an edge to 3
abbrev nameless : List ℕ
nameless = image_of 1 (push 0 7 ∷ definition 0 7 ∷ pop 0 7 ∷ removed_node ∷ []) (2 ⟶ 3 ∷ [])

pub names : List (Row (List (List ℕ)))
unfolding naming_in naming_of
names =
    (naming_of image_a 4 gives 2 by (0 ∷ 1 ∷ []))
    ∷ (naming_of image_a 5 gives none)
    ∷ (naming_of image_c 3 gives 2 by (0 ∷ 2 ∷ []))
    -- through root into another file and by jump back; with a scope left over nothing is complete
    ∷ (naming_of image_d 6 gives 2 by (0 ∷ 1 ∷ 2 ∷ 3 ∷ 4 ∷ []))
    ∷ (naming_of image_f 4 gives none)
    -- WHICH REFERENCE: the lowest number, whatever the edges' numbers; one that has none is passed over
    ∷ (naming_of two_names 4 gives 2 by (1 ∷ []))
    ∷ (naming_of own_names 4 gives 3 by (1 ∷ []))
    ∷ (naming_of own_names 5 gives 2 by (2 ∷ []))
    -- a removed node and a push that is no reference are not searched
    ∷ (naming_of (image_of 1 (removed_node ∷ reference 0 7 ∷ definition 0 7 ∷ []) (3 ⟶ 4 ∷ [])) 4 gives 3 by (0 ∷ []))
    ∷ (naming_of nameless 3 gives none)
    -- WHICH PATH: the shorter one, and of two alike that of the lower edges; its place among the recorded paths is of no account
    ∷ (naming_of two_ways 6 gives 2 by (3 ∷ 4 ∷ []))
    ∷ (naming_of image_b 4 gives 2 by (0 ∷ 2 ∷ []))
    ∷ (naming_of going_on 5 gives 2 by (0 ∷ 1 ∷ 2 ∷ []))
    -- recorded and not returned: 3 is shadowed by 4, and has its name
    ∷ (naming_of (image_of 1 (reference 0 7 ∷ definition 0 7 ∷ definition 0 7 ∷ []) (edge_of 2 3 0 ∷ edge_of 2 4 1 ∷ [])) 3 gives 2 by (0 ∷ []))
    -- THE LIMIT: kept, not kept, and 0, with which a start is still pushed
    ∷ (naming_in base (Some 2) 8 8 image_a 4 gives 2 by (0 ∷ 1 ∷ []))
    ∷ (naming_in base (Some 1) 8 8 image_a 4 gives none)
    ∷ (naming_in base (Some 0) 1 0 image_a 4 gives none)
    ∷ (naming_in base (Some 0) 0 0 image_a 4 gives refused (31 ∷ []))
    -- RESULT SLOTS: one for every complete path of the reference being searched, also behind the one that is kept
    ∷ (naming_in base None 8 4 image_b 4 gives 2 by (0 ∷ 2 ∷ []))
    ∷ (naming_in base None 8 3 image_b 4 gives refused (32 ∷ []))
    ∷ (naming_in base None 8 2 twice_complete 3 gives 2 by (0 ∷ []))
    ∷ (naming_in base None 8 1 twice_complete 3 gives refused (32 ∷ []))
    -- and none for those of another reference
    ∷ (naming_in base None 8 1 own_names 4 gives 3 by (1 ∷ []))
    -- A SEARCH REFUSED before a name is the reply, one behind it is not made; each is searched to its end
    ∷ (naming_in base None 1 1 wide_first 4 gives refused (31 ∷ []))
    ∷ (naming_in base None 2 1 wide_first 4 gives 3 by (2 ∷ []))
    ∷ (naming_in base None 1 1 wide_last 4 gives 2 by (2 ∷ []))
    ∷ (naming_in base None 1 1 wide_after 4 gives refused (31 ∷ []))
    ∷ (naming_in base None 2 1 wide_after 4 gives 2 by (0 ∷ []))
    -- a 128th edge, and an expansion too many; each search counts its own
    ∷ (naming_in (bounded 1 9) None 8 8 image_a 4 gives refused (30 ∷ []))
    ∷ (naming_in (bounded 2 9) None 8 8 image_a 4 gives 2 by (0 ∷ 1 ∷ []))
    ∷ (naming_in (bounded max_edges 2) None 8 8 image_a 4 gives refused (36 ∷ []))
    ∷ (naming_in (bounded max_edges 3) None 8 8 image_a 4 gives 2 by (0 ∷ 1 ∷ []))
    ∷ (naming_in (bounded max_edges 2) None 8 8 own_names 4 gives 3 by (1 ∷ []))
    -- BEFORE ANY SEARCH and whatever the areas: the image, 10 for an unknown and for a removed node, then 37
    ∷ (naming_in base None 0 0 (take 76 image_a) 6 gives refused (2 ∷ []))
    ∷ (naming_in base None 0 0 image_a 6 gives refused (10 ∷ 6 ∷ []))
    ∷ (naming_in base None 0 0 nameless 5 gives refused (10 ∷ 5 ∷ []))
    ∷ (naming_in base None 0 0 image_a 0 gives refused (37 ∷ 0 ∷ []))
    ∷ (naming_in base None 0 0 image_a 1 gives refused (37 ∷ 1 ∷ []))
    ∷ (naming_in base None 0 0 image_a 2 gives refused (37 ∷ 2 ∷ []))
    ∷ (naming_in base None 0 0 image_a 3 gives refused (37 ∷ 3 ∷ []))
    ∷ (naming_in base None 0 0 nameless 4 gives refused (37 ∷ 4 ∷ []))
    ∷ (naming_in base None 0 8 image_a 4 gives refused (31 ∷ []))
    -- without a reference no area is needed
    ∷ (naming_in base None 0 0 nameless 3 gives none)
    ∷ []

pub name-cases : Agreed names
unfolding names
name-cases = refl

-- EVERY WORD: the answer, the work area, the result area. The kept path stood in the second slot, and in the first of four
pub areas : List (Row (List (List ℕ)))
unfolding naming_areas
areas =
    (naming_areas (name_request None (4 * slot_length + 3) (2 * slot_length + 5) 5) going_on gives (0 ∷ 1 ∷ 2 ∷ []) ∷ (zeros (4 * slot_length + 3)) ∷ (3 ∷ 0 ∷ 1 ∷ 2 ∷ zeros (2 * slot_length + 1)) ∷ [])
    ∷ (naming_areas (name_request None (4 * slot_length) (4 * slot_length + 5) 4) image_b gives (0 ∷ 1 ∷ 2 ∷ []) ∷ (zeros (4 * slot_length)) ∷ (2 ∷ 0 ∷ 2 ∷ zeros (4 * slot_length + 2)) ∷ [])
    ∷ (naming_areas (name_request None (4 * slot_length) (slot_length + 1) 5) image_a gives (0 ∷ 0 ∷ []) ∷ (zeros (4 * slot_length)) ∷ (zeros (slot_length + 1)) ∷ [])
    ∷ (naming_areas (name_request None (4 * slot_length) max_edges 4) image_a gives (32 ∷ []) ∷ (zeros (4 * slot_length)) ∷ (zeros max_edges) ∷ [])
    ∷ (naming_areas (name_request None 3 2 3) image_a gives (37 ∷ 3 ∷ []) ∷ (0 ∷ 0 ∷ 0 ∷ []) ∷ (0 ∷ 0 ∷ []) ∷ [])
    ∷ (naming_areas (name_request None 3 2 6) image_a gives (10 ∷ 6 ∷ []) ∷ (0 ∷ 0 ∷ 0 ∷ []) ∷ (0 ∷ 0 ∷ []) ∷ [])
    ∷ (naming_areas (name_request None 3 2 4) (take 76 image_a) gives (2 ∷ []) ∷ (0 ∷ 0 ∷ 0 ∷ []) ∷ (0 ∷ 0 ∷ []) ∷ [])
    ∷ []

pub area-cases : Agreed areas
unfolding areas
area-cases = refl
