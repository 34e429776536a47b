-- A graph read by number: every kind of node, numbers that are not known, areas one word short, and what a desk does not see.
use Rattle.std.specs.Prelude.{ℕ, refl, List, [], ◌∷◌}
use Rattle.semantics.specs.Told.{told_node_reading, told_edge_reading, told_listing}
use Rattle.semantics.specs.Image.{check_image}
use Rattle.semantics.specs.Hidden.{seen_image}
use Rattle.semantics.specs.Reading.{Listed, node_call, edge_call, references_call, outgoing_call}
use Rattle.semantics.specs.Entries.{node_of, edge_of, references_of, outgoing_of}
use Rattle.semantics.specs.Cases.Rows.{Row, ◌gives◌, Agreed}
use Rattle.semantics.specs.Cases.Graphs.{image_a, image_d, image_of, removed_node, scope, exported, push, reference, pop, definition, push_scoped, scoped_reference, pop_scoped, scoped_definition, drop_scopes}
use Rattle.semantics.proofs.Theorems.Cases.Desks.{tables, rates}

-- each kind of node in file 1, and a removed one, 13; symbols 8 and 9 where the flag is set
abbrev everything : List ℕ
everything = image_of 2 (scope 1 ∷ exported 1 ∷ push 1 7 ∷ reference 1 9 ∷ pop 1 7 ∷ definition 1 8 ∷ push_scoped 1 7 3 ∷ scoped_reference 1 9 3 ∷ pop_scoped 1 7 ∷ scoped_definition 1 8 ∷ drop_scopes 1 ∷ removed_node ∷ []) []

-- a scope with two edges to itself, of the least precedence and of the greatest
abbrev utmost : List ℕ
utmost =
    1 ∷ 0 ∷ 0 ∷ 0 ∷ 35 ∷ 0 ∷ 1 ∷ 0 ∷ 3 ∷ 0 ∷ 2
    ∷ 1 ∷ 1
    ∷ 1 ∷ 2
    ∷ 4 ∷ 3 ∷ 0 ∷ 0 ∷ 0
    ∷ 9 ∷ 1 ∷ 0 ∷ 2 ∷ 0 ∷ 2 ∷ 128 ∷ 0 ∷ 0 ∷ 0
    ∷ 9 ∷ 1 ∷ 0 ∷ 2 ∷ 0 ∷ 2 ∷ 127 ∷ 255 ∷ 255 ∷ 255
    ∷ []

-- a reference to symbol 2^32 + 7, in version 2
abbrev wider : List ℕ
wider = 2 ∷ 0 ∷ 0 ∷ 0 ∷ 23 ∷ 0 ∷ 1 ∷ 0 ∷ 3 ∷ 0 ∷ 0 ∷ 1 ∷ 1 ∷ 1 ∷ 2 ∷ 12 ∷ 4 ∷ 0 ∷ 0 ∷ 0 ∷ 0 ∷ 0 ∷ 1 ∷ 0 ∷ 0 ∷ 0 ∷ 7 ∷ 1 ∷ []

abbrev both : List ℕ
both = 1 ∷ 1 ∷ []

unfoldable pub node_rows : List (Row (List ℕ))
unfolding check_image seen_image node_call
node_rows =
    (told_node_reading (node_of everything both 0) gives 0 ∷ 1 ∷ 0 ∷ 0 ∷ 0 ∷ 0 ∷ [])
    ∷ (told_node_reading (node_of everything both 1) gives 0 ∷ 2 ∷ 0 ∷ 0 ∷ 0 ∷ 0 ∷ [])
    ∷ (told_node_reading (node_of everything both 2) gives 0 ∷ 3 ∷ 1 ∷ 0 ∷ 0 ∷ 0 ∷ [])
    ∷ (told_node_reading (node_of everything both 3) gives 0 ∷ 3 ∷ 1 ∷ 0 ∷ 0 ∷ 1 ∷ [])
    ∷ (told_node_reading (node_of everything both 4) gives 0 ∷ 4 ∷ 1 ∷ 7 ∷ 0 ∷ 0 ∷ [])
    ∷ (told_node_reading (node_of everything both 5) gives 0 ∷ 4 ∷ 1 ∷ 9 ∷ 0 ∷ 1 ∷ [])
    ∷ (told_node_reading (node_of everything both 6) gives 0 ∷ 5 ∷ 1 ∷ 7 ∷ 0 ∷ 0 ∷ [])
    ∷ (told_node_reading (node_of everything both 7) gives 0 ∷ 5 ∷ 1 ∷ 8 ∷ 0 ∷ 1 ∷ [])
    ∷ (told_node_reading (node_of everything both 8) gives 0 ∷ 6 ∷ 1 ∷ 7 ∷ 3 ∷ 0 ∷ [])
    ∷ (told_node_reading (node_of everything both 9) gives 0 ∷ 6 ∷ 1 ∷ 9 ∷ 3 ∷ 1 ∷ [])
    ∷ (told_node_reading (node_of everything both 10) gives 0 ∷ 7 ∷ 1 ∷ 7 ∷ 0 ∷ 0 ∷ [])
    ∷ (told_node_reading (node_of everything both 11) gives 0 ∷ 7 ∷ 1 ∷ 8 ∷ 0 ∷ 1 ∷ [])
    ∷ (told_node_reading (node_of everything both 12) gives 0 ∷ 8 ∷ 1 ∷ 0 ∷ 0 ∷ 0 ∷ [])
    -- a symbol of 64 bits, whole
    ∷ (told_node_reading (node_of wider both 2) gives 0 ∷ 4 ∷ 0 ∷ 4294967303 ∷ 0 ∷ 1 ∷ [])
    -- removed, and behind the last
    ∷ (told_node_reading (node_of everything both 13) gives 10 ∷ 13 ∷ [])
    ∷ (told_node_reading (node_of everything both 14) gives 10 ∷ 14 ∷ [])
    -- file 1 is hidden; root has no file
    ∷ (told_node_reading (node_of everything rates 5) gives 10 ∷ 5 ∷ [])
    ∷ (told_node_reading (node_of everything rates 0) gives 0 ∷ 1 ∷ 0 ∷ 0 ∷ 0 ∷ 0 ∷ [])
    -- no image: 2 before 10
    ∷ (told_node_reading (node_of [] both 99) gives 2 ∷ [])
    ∷ []

pub node-cases : Agreed node_rows
unfolding node_rows
node-cases = refl

unfoldable pub edge_rows : List (Row (List ℕ))
unfolding check_image seen_image edge_call
edge_rows =
    (told_edge_reading (edge_of image_a both 2) gives 0 ∷ 3 ∷ 5 ∷ 1 ∷ [])
    -- precedence -2
    ∷ (told_edge_reading (edge_of image_d both 0) gives 0 ∷ 2 ∷ 3 ∷ 4294967294 ∷ [])
    -- -2^31 and 2^31 - 1
    ∷ (told_edge_reading (edge_of utmost both 0) gives 0 ∷ 2 ∷ 2 ∷ 2147483648 ∷ [])
    ∷ (told_edge_reading (edge_of utmost both 1) gives 0 ∷ 2 ∷ 2 ∷ 2147483647 ∷ [])
    -- removed, and behind the last
    ∷ (told_edge_reading (edge_of tables both 6) gives 12 ∷ 6 ∷ [])
    ∷ (told_edge_reading (edge_of tables both 9) gives 12 ∷ 9 ∷ [])
    -- an edge of credit by its target, and by its source; one of no file
    ∷ (told_edge_reading (edge_of tables both 1) gives 0 ∷ 0 ∷ 4 ∷ 0 ∷ [])
    ∷ (told_edge_reading (edge_of tables rates 1) gives 12 ∷ 1 ∷ [])
    ∷ (told_edge_reading (edge_of tables rates 5) gives 12 ∷ 5 ∷ [])
    ∷ (told_edge_reading (edge_of tables rates 3) gives 0 ∷ 0 ∷ 0 ∷ 0 ∷ [])
    ∷ (told_edge_reading (edge_of [] both 99) gives 2 ∷ [])
    ∷ []

pub edge-cases : Agreed edge_rows
unfolding edge_rows
edge-cases = refl

-- the answer, and the words of the area
abbrev told : Listed → List (List ℕ)
told o = told_listing o.answer ∷ o.result ∷ []

unfoldable pub list_rows : List (Row (List (List ℕ)))
unfolding check_image seen_image references_call outgoing_call
list_rows =
    -- two references in three words, two and one; what the area held plays no part
    (told (references_of everything both (7 ∷ 7 ∷ 7 ∷ [])) gives (0 ∷ 2 ∷ []) ∷ (5 ∷ 9 ∷ 0 ∷ []) ∷ [])
    ∷ (told (references_of everything both (7 ∷ 7 ∷ [])) gives (0 ∷ 2 ∷ []) ∷ (5 ∷ 9 ∷ []) ∷ [])
    ∷ (told (references_of everything both (7 ∷ [])) gives (32 ∷ []) ∷ (0 ∷ []) ∷ [])
    ∷ (told (references_of everything both []) gives (32 ∷ []) ∷ [] ∷ [])
    -- both are hidden; one of two is
    ∷ (told (references_of everything rates (7 ∷ [])) gives (0 ∷ 0 ∷ []) ∷ (0 ∷ []) ∷ [])
    ∷ (told (references_of everything rates []) gives (0 ∷ 0 ∷ []) ∷ [] ∷ [])
    ∷ (told (references_of tables both (7 ∷ 7 ∷ [])) gives (0 ∷ 2 ∷ []) ∷ (2 ∷ 6 ∷ []) ∷ [])
    ∷ (told (references_of tables rates (7 ∷ 7 ∷ [])) gives (0 ∷ 1 ∷ []) ∷ (2 ∷ 0 ∷ []) ∷ [])
    -- no image: 2 before 32
    ∷ (told (references_of [] both (7 ∷ [])) gives (2 ∷ []) ∷ (0 ∷ []) ∷ [])
    -- the edges that leave root, a removed one not among them
    ∷ (told (outgoing_of tables both 0 (7 ∷ 7 ∷ 7 ∷ 7 ∷ 7 ∷ 7 ∷ [])) gives (0 ∷ 5 ∷ []) ∷ (1 ∷ 2 ∷ 3 ∷ 4 ∷ 7 ∷ 0 ∷ []) ∷ [])
    ∷ (told (outgoing_of tables both 0 (7 ∷ 7 ∷ 7 ∷ 7 ∷ 7 ∷ [])) gives (0 ∷ 5 ∷ []) ∷ (1 ∷ 2 ∷ 3 ∷ 4 ∷ 7 ∷ []) ∷ [])
    ∷ (told (outgoing_of tables both 0 (7 ∷ 7 ∷ 7 ∷ 7 ∷ [])) gives (32 ∷ []) ∷ (0 ∷ 0 ∷ 0 ∷ 0 ∷ []) ∷ [])
    ∷ (told (outgoing_of tables rates 0 (7 ∷ 7 ∷ 7 ∷ [])) gives (0 ∷ 2 ∷ []) ∷ (2 ∷ 3 ∷ 0 ∷ []) ∷ [])
    -- none leaves a definition
    ∷ (told (outgoing_of tables both 3 (7 ∷ [])) gives (0 ∷ 0 ∷ []) ∷ (0 ∷ []) ∷ [])
    -- removed, behind the last, hidden; 10 before 32
    ∷ (told (outgoing_of tables both 7 (7 ∷ [])) gives (10 ∷ 7 ∷ []) ∷ (0 ∷ []) ∷ [])
    ∷ (told (outgoing_of tables both 9 []) gives (10 ∷ 9 ∷ []) ∷ [] ∷ [])
    ∷ (told (outgoing_of tables rates 6 []) gives (10 ∷ 6 ∷ []) ∷ [] ∷ [])
    ∷ (told (outgoing_of [] both 0 (7 ∷ [])) gives (2 ∷ []) ∷ (0 ∷ []) ∷ [])
    ∷ []

pub list_cases : Agreed list_rows
unfolding list_rows
list_cases = refl
