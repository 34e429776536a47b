-- The partial paths of a file: where they start and end, which edges are the file's, the order of checks, statistics, limits and bounds.
-- Document 01, "Partial paths", first paragraph.
use Rattle.std.specs.Prelude.{ℕ, refl, List, [], ◌∷◌, None, Some}
use Rattle.semantics.specs.declared.search.SearchOrder.TheVariants.{BreadthFirst, DepthFirst}
use Rattle.semantics.specs.Limits.{base, max_edges}
use Rattle.semantics.specs.Cases.Rows.{Row, ◌gives◌, Agreed, refused, expansions◌partials◌cuts◌flagged◌slots◌, unflagged}
use Rattle.semantics.specs.Cases.Graphs.{image_a, image_b, image_c, image_d, image_e, image_of, scope, exported, reference, push, pop, definition, push_scoped, scoped_reference, pop_scoped, scoped_definition, drop_scopes, removed_edge, ◌⟶◌}
use Rattle.semantics.specs.Cases.Asked.{bounded, partials_in}

-- an edge from reference 2 to a node of each kind
abbrev every_end : List ℕ
every_end =
    image_of 1 (reference 0 7 ∷ exported 0 ∷ definition 0 7 ∷ scoped_definition 0 7 ∷ scope 0 ∷ pop 0 7 ∷ pop_scoped 0 7 ∷ push 0 7 ∷ reference 0 8 ∷ push_scoped 0 7 3 ∷ drop_scopes 0 ∷ [])
    (2 ⟶ 0 ∷ 2 ⟶ 1 ∷ 2 ⟶ 3 ∷ 2 ⟶ 4 ∷ 2 ⟶ 5 ∷ 2 ⟶ 6 ∷ 2 ⟶ 7 ∷ 2 ⟶ 8 ∷ 2 ⟶ 9 ∷ 2 ⟶ 10 ∷ 2 ⟶ 11 ∷ 2 ⟶ 12 ∷ [])

-- an edge into jump from a node of each kind, and one from root to a definition; 12 and 13 are of another file
abbrev every_start : List ℕ
every_start =
    image_of 2 (exported 0 ∷ reference 0 7 ∷ definition 0 7 ∷ scope 0 ∷ push 0 7 ∷ scoped_reference 0 7 2 ∷ push_scoped 0 7 2 ∷ pop_scoped 0 7 ∷ drop_scopes 0 ∷ exported 0 ∷ reference 1 7 ∷ exported 1 ∷ [])
    (2 ⟶ 1 ∷ 3 ⟶ 1 ∷ 4 ⟶ 1 ∷ 5 ⟶ 1 ∷ 6 ⟶ 1 ∷ 7 ⟶ 1 ∷ 8 ⟶ 1 ∷ 9 ⟶ 1 ∷ 10 ⟶ 1 ∷ 11 ⟶ 1 ∷ 12 ⟶ 1 ∷ 13 ⟶ 1 ∷ 0 ⟶ 4 ∷ [])

-- two files on both sides of root
abbrev across_root : List ℕ
across_root =
    image_of 2 (reference 0 7 ∷ definition 0 7 ∷ reference 1 8 ∷ definition 1 8 ∷ [])
    (2 ⟶ 0 ∷ 0 ⟶ 3 ∷ 4 ⟶ 0 ∷ 0 ⟶ 5 ∷ 0 ⟶ 0 ∷ 0 ⟶ 1 ∷ removed_edge ∷ 2 ⟶ 3 ∷ 4 ⟶ 5 ∷ [])

pub partial_paths : List (Row (List (List ℕ)))
unfolding partials_in
partial_paths =
    -- ENDS: root, jump, an exported scope and both kinds of definition; nothing else
    (partials_in base BreadthFirst None None 16 8 0 every_end gives expansions 16 partials 5 cuts 0 flagged unflagged slots (2 ∷ 0 ∷ []) ∷ (2 ∷ 1 ∷ []) ∷ (2 ∷ 2 ∷ []) ∷ (2 ∷ 3 ∷ []) ∷ (2 ∷ 4 ∷ []) ∷ [])
    -- STARTS: root first, then references and exported scopes of the file by number
    ∷ (partials_in base BreadthFirst None None 16 8 0 every_start gives expansions 11 partials 6 cuts 0 flagged unflagged slots (0 ∷ 12 ∷ []) ∷ (2 ∷ 0 ∷ []) ∷ (3 ∷ 1 ∷ []) ∷ (7 ∷ 5 ∷ []) ∷ (11 ∷ 9 ∷ []) ∷ (0 ∷ 12 ∷ 2 ∷ []) ∷ [])
    ∷ (partials_in base DepthFirst None None 16 8 0 every_start gives expansions 11 partials 6 cuts 0 flagged unflagged slots (0 ∷ 12 ∷ []) ∷ (0 ∷ 12 ∷ 2 ∷ []) ∷ (2 ∷ 0 ∷ []) ∷ (3 ∷ 1 ∷ []) ∷ (7 ∷ 5 ∷ []) ∷ (11 ∷ 9 ∷ []) ∷ [])
    ∷ (partials_in base BreadthFirst None None 16 8 1 every_start gives expansions 5 partials 2 cuts 0 flagged unflagged slots (12 ∷ 10 ∷ []) ∷ (13 ∷ 11 ∷ []) ∷ [])
    -- THE FILE'S EDGES: those with an end in it, on either side of root; neither the other file's nor those between root and jump
    ∷ (partials_in base BreadthFirst None None 16 8 0 across_root gives expansions 6 partials 4 cuts 0 flagged unflagged slots (0 ∷ 1 ∷ []) ∷ (2 ∷ 0 ∷ []) ∷ (2 ∷ 7 ∷ []) ∷ (2 ∷ 0 ∷ 1 ∷ []) ∷ [])
    ∷ (partials_in base BreadthFirst None None 16 8 1 across_root gives expansions 6 partials 4 cuts 0 flagged unflagged slots (0 ∷ 3 ∷ []) ∷ (4 ∷ 2 ∷ []) ∷ (4 ∷ 8 ∷ []) ∷ (4 ∷ 2 ∷ 3 ∷ []) ∷ [])
    ∷ (partials_in base BreadthFirst None None 16 8 0 image_c gives expansions 5 partials 3 cuts 0 flagged unflagged slots (0 ∷ 2 ∷ []) ∷ (2 ∷ 0 ∷ []) ∷ (2 ∷ 0 ∷ 2 ∷ []) ∷ [])
    -- through root and on; stacks are not examined: on D a pop-scoped is passed without a symbol
    ∷ (partials_in base BreadthFirst None None 16 8 0 image_d gives expansions 6 partials 2 cuts 0 flagged unflagged slots (4 ∷ 4 ∷ []) ∷ (2 ∷ 0 ∷ 1 ∷ []) ∷ [])
    ∷ (partials_in base BreadthFirst None None 16 8 1 image_d gives expansions 3 partials 1 cuts 0 flagged unflagged slots (0 ∷ 2 ∷ 3 ∷ []) ∷ [])
    -- a cycle cut is an edge that the path has; the three counts, each of its own value
    ∷ (partials_in base BreadthFirst None None 16 8 0 image_e gives expansions 10 partials 7 cuts 2 flagged unflagged slots (2 ∷ 0 ∷ []) ∷ (3 ∷ 1 ∷ []) ∷ (3 ∷ 2 ∷ []) ∷ (2 ∷ 0 ∷ 1 ∷ []) ∷ (2 ∷ 0 ∷ 2 ∷ []) ∷ (3 ∷ 1 ∷ 2 ∷ []) ∷ (2 ∷ 0 ∷ 1 ∷ 2 ∷ []) ∷ [])
    -- ORDER: by the order of taking
    ∷ (partials_in base BreadthFirst None None 16 8 0 image_b gives expansions 11 partials 8 cuts 0 flagged unflagged slots (2 ∷ 0 ∷ []) ∷ (2 ∷ 1 ∷ []) ∷ (3 ∷ 2 ∷ []) ∷ (3 ∷ 3 ∷ []) ∷ (2 ∷ 0 ∷ 2 ∷ []) ∷ (2 ∷ 0 ∷ 3 ∷ []) ∷ (2 ∷ 1 ∷ 2 ∷ []) ∷ (2 ∷ 1 ∷ 3 ∷ []) ∷ [])
    ∷ (partials_in base DepthFirst None None 16 8 0 image_b gives expansions 11 partials 8 cuts 0 flagged unflagged slots (2 ∷ 0 ∷ []) ∷ (2 ∷ 1 ∷ []) ∷ (2 ∷ 0 ∷ 2 ∷ []) ∷ (2 ∷ 0 ∷ 3 ∷ []) ∷ (2 ∷ 1 ∷ 2 ∷ []) ∷ (2 ∷ 1 ∷ 3 ∷ []) ∷ (3 ∷ 2 ∷ []) ∷ (3 ∷ 3 ∷ []) ∷ [])
    -- LIMITS: on length, which an edge on the path does not meet; on the path count, which is told by the other flag
    ∷ (partials_in base BreadthFirst (Some 1) None 16 8 0 image_e gives expansions 6 partials 3 cuts 1 flagged (1 ∷ 0 ∷ []) slots (2 ∷ 0 ∷ []) ∷ (3 ∷ 1 ∷ []) ∷ (3 ∷ 2 ∷ []) ∷ [])
    ∷ (partials_in base BreadthFirst (Some 2) None 16 8 0 image_e gives expansions 9 partials 6 cuts 2 flagged (1 ∷ 0 ∷ []) slots (2 ∷ 0 ∷ []) ∷ (3 ∷ 1 ∷ []) ∷ (3 ∷ 2 ∷ []) ∷ (2 ∷ 0 ∷ 1 ∷ []) ∷ (2 ∷ 0 ∷ 2 ∷ []) ∷ (3 ∷ 1 ∷ 2 ∷ []) ∷ [])
    ∷ (partials_in base BreadthFirst (Some 3) None 16 8 0 image_e gives expansions 10 partials 7 cuts 2 flagged unflagged slots (2 ∷ 0 ∷ []) ∷ (3 ∷ 1 ∷ []) ∷ (3 ∷ 2 ∷ []) ∷ (2 ∷ 0 ∷ 1 ∷ []) ∷ (2 ∷ 0 ∷ 2 ∷ []) ∷ (3 ∷ 1 ∷ 2 ∷ []) ∷ (2 ∷ 0 ∷ 1 ∷ 2 ∷ []) ∷ [])
    ∷ (partials_in base BreadthFirst (Some 1) None 16 8 0 (image_of 1 (exported 0 ∷ []) (2 ⟶ 2 ∷ [])) gives expansions 3 partials 1 cuts 1 flagged unflagged slots (2 ∷ 0 ∷ []) ∷ [])
    ∷ (partials_in base BreadthFirst None (Some 0) 16 8 0 image_e gives expansions 0 partials 0 cuts 0 flagged (0 ∷ 1 ∷ []) slots [])
    ∷ (partials_in base BreadthFirst None (Some 4) 16 8 0 image_e gives expansions 4 partials 5 cuts 0 flagged (0 ∷ 1 ∷ []) slots (2 ∷ 0 ∷ []) ∷ (3 ∷ 1 ∷ []) ∷ (3 ∷ 2 ∷ []) ∷ (2 ∷ 0 ∷ 1 ∷ []) ∷ (2 ∷ 0 ∷ 2 ∷ []) ∷ [])
    ∷ (partials_in base DepthFirst (Some 2) (Some 4) 16 8 0 image_e gives expansions 4 partials 3 cuts 1 flagged (1 ∷ 1 ∷ []) slots (2 ∷ 0 ∷ []) ∷ (2 ∷ 0 ∷ 1 ∷ []) ∷ (2 ∷ 0 ∷ 2 ∷ []) ∷ [])
    -- 21: a file that is none
    ∷ (partials_in base BreadthFirst None None 16 8 2 across_root gives refused (21 ∷ 2 ∷ []))
    ∷ (partials_in base BreadthFirst None None 16 8 9 image_a gives refused (21 ∷ 9 ∷ []))
    -- SLOTS AND BOUNDS: A's file needs 4 waiting slots, 5 database slots, 8 expansions and 2 edges; the starts wait too
    ∷ (partials_in base BreadthFirst None None 2 8 0 image_a gives refused (31 ∷ []))
    ∷ (partials_in base BreadthFirst None None 3 8 0 image_a gives refused (31 ∷ []))
    ∷ (partials_in base BreadthFirst None None 4 8 0 image_a gives expansions 8 partials 5 cuts 0 flagged unflagged slots (2 ∷ 0 ∷ []) ∷ (3 ∷ 1 ∷ []) ∷ (3 ∷ 2 ∷ []) ∷ (2 ∷ 0 ∷ 1 ∷ []) ∷ (2 ∷ 0 ∷ 2 ∷ []) ∷ [])
    ∷ (partials_in base BreadthFirst None (Some 0) 2 8 0 image_a gives refused (31 ∷ []))
    ∷ (partials_in base BreadthFirst None None 8 4 0 image_a gives refused (33 ∷ []))
    ∷ (partials_in base BreadthFirst None None 8 5 0 image_a gives expansions 8 partials 5 cuts 0 flagged unflagged slots (2 ∷ 0 ∷ []) ∷ (3 ∷ 1 ∷ []) ∷ (3 ∷ 2 ∷ []) ∷ (2 ∷ 0 ∷ 1 ∷ []) ∷ (2 ∷ 0 ∷ 2 ∷ []) ∷ [])
    ∷ (partials_in (bounded max_edges 7) BreadthFirst None None 8 8 0 image_a gives refused (36 ∷ []))
    ∷ (partials_in (bounded max_edges 8) BreadthFirst None None 8 8 0 image_a gives expansions 8 partials 5 cuts 0 flagged unflagged slots (2 ∷ 0 ∷ []) ∷ (3 ∷ 1 ∷ []) ∷ (3 ∷ 2 ∷ []) ∷ (2 ∷ 0 ∷ 1 ∷ []) ∷ (2 ∷ 0 ∷ 2 ∷ []) ∷ [])
    ∷ (partials_in (bounded max_edges 7) BreadthFirst None (Some 7) 8 8 0 image_a gives expansions 7 partials 5 cuts 0 flagged (0 ∷ 1 ∷ []) slots (2 ∷ 0 ∷ []) ∷ (3 ∷ 1 ∷ []) ∷ (3 ∷ 2 ∷ []) ∷ (2 ∷ 0 ∷ 1 ∷ []) ∷ (2 ∷ 0 ∷ 2 ∷ []) ∷ [])
    ∷ (partials_in (bounded 1 8) BreadthFirst None None 8 8 0 image_a gives refused (30 ∷ []))
    ∷ (partials_in (bounded 2 8) BreadthFirst None None 8 8 0 image_a gives expansions 8 partials 5 cuts 0 flagged unflagged slots (2 ∷ 0 ∷ []) ∷ (3 ∷ 1 ∷ []) ∷ (3 ∷ 2 ∷ []) ∷ (2 ∷ 0 ∷ 1 ∷ []) ∷ (2 ∷ 0 ∷ 2 ∷ []) ∷ [])
    -- the bound behind the length and behind the cycle test
    ∷ (partials_in (bounded 1 8) BreadthFirst (Some 1) None 8 8 0 image_a gives expansions 6 partials 3 cuts 0 flagged (1 ∷ 0 ∷ []) slots (2 ∷ 0 ∷ []) ∷ (3 ∷ 1 ∷ []) ∷ (3 ∷ 2 ∷ []) ∷ [])
    ∷ (partials_in (bounded 1 8) BreadthFirst None None 8 8 0 (image_of 1 (exported 0 ∷ []) (2 ⟶ 2 ∷ [])) gives expansions 3 partials 1 cuts 1 flagged unflagged slots (2 ∷ 0 ∷ []) ∷ [])
    -- 33 follows a finished computation: 31 and 36 come first, although no slot is there
    ∷ (partials_in base BreadthFirst None None 3 0 0 image_a gives refused (31 ∷ []))
    ∷ (partials_in (bounded max_edges 7) BreadthFirst None None 8 0 0 image_a gives refused (36 ∷ []))
    ∷ []

pub partial-cases : Agreed partial_paths
unfolding partial_paths
partial-cases = refl
