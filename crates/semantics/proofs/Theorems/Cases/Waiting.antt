-- The waiting figure, beside the starred table, whose rows stay as document 01 has them: the greatest number of paths that ever waited together,
-- whatever is lent. The popped path does not wait; the starting pushes count. With as many slots it is the same, with one fewer 31.
-- Document 02, order 2.
use Rattle.std.specs.Prelude.{ℕ, refl, false, List, [], ◌∷◌, None, Some}
use Rattle.semantics.specs.declared.search.SearchOrder.TheVariants.{BreadthFirst, DepthFirst}
use Rattle.semantics.specs.Limits.{base}
use Rattle.semantics.specs.Recorded.{recorded, returned}
use Rattle.semantics.specs.Image.{symbol_bytes, check_image}
use Rattle.semantics.specs.Calls.{Request, direct_call}
use Rattle.semantics.proofs.Theorems.Calls.Waiting.{slots_for, lending, SearchWith, direct-waiting}
use Rattle.semantics.specs.Cases.Rows.{Row, ◌gives◌, Agreed}
use Rattle.semantics.specs.Cases.Graphs.{image_a, image_b}
use Rattle.semantics.specs.Cases.Asked.{request, first_filed, waits_in, waits_stitched, waits_linear, waits_filing}

pub waits : List (Row (List ℕ))
unfolding waits_in waits_stitched waits_linear waits_filing first_filed returned recorded
waits =
    -- A: one path at a time, also where the path count stops the search at once; file 0: root and both starts, then one more
    (waits_in returned BreadthFirst None 128 image_a gives 1 ∷ [])
    ∷ (waits_in returned DepthFirst None 1 image_a gives 1 ∷ [])
    ∷ (waits_in returned BreadthFirst (Some 0) 8 image_a gives 1 ∷ [])
    ∷ (waits_in returned BreadthFirst (Some 0) 0 image_a gives 31 ∷ [])
    ∷ (waits_filing BreadthFirst None 128 0 image_a gives 4 ∷ [])
    ∷ (waits_filing BreadthFirst None 4 0 image_a gives 4 ∷ [])
    ∷ (waits_filing BreadthFirst None 3 0 image_a gives 31 ∷ [])
    ∷ (waits_filing BreadthFirst (Some 0) 8 0 image_a gives 3 ∷ [])
    -- B: breadth-first all four complete paths wait; depth-first two of them beside one that is not yet expanded
    ∷ (waits_in returned BreadthFirst None 128 image_b gives 4 ∷ [])
    ∷ (waits_in recorded BreadthFirst None 4 image_b gives 4 ∷ [])
    ∷ (waits_in recorded BreadthFirst None 3 image_b gives 31 ∷ [])
    ∷ (waits_in returned DepthFirst None 128 image_b gives 3 ∷ [])
    ∷ (waits_in returned DepthFirst None 3 image_b gives 3 ∷ [])
    ∷ (waits_in returned DepthFirst None 2 image_b gives 31 ∷ [])
    -- cut short by the path count: the figure up to then
    ∷ (waits_in returned BreadthFirst None 8 image_b gives 4 ∷ [])
    ∷ (waits_in returned BreadthFirst (Some 2) 8 image_b gives 3 ∷ [])
    ∷ (waits_in returned BreadthFirst (Some 1) 8 image_b gives 2 ∷ [])
    -- stitched on A, with its returned and its recorded paths
    ∷ (waits_stitched returned BreadthFirst 8 image_a (first_filed image_a) gives 2 ∷ [])
    ∷ (waits_stitched recorded DepthFirst 2 image_a (first_filed image_a) gives 2 ∷ [])
    ∷ (waits_stitched recorded BreadthFirst 1 image_a (first_filed image_a) gives 31 ∷ [])
    -- nothing waits in a linear search
    ∷ (waits_linear image_a gives 0 ∷ [])
    ∷ []

pub waiting-cases : Agreed waits
unfolding waits
waiting-cases = refl

-- B breadth-first, lent any number of words: with 4 slots or more the same answer, with fewer 31
abbrev pub asked_b : Request
asked_b = request base BreadthFirst None None None 8 8

pub exactly-b : (work : ℕ) → SearchWith 4 (slots_for base work) (lending work asked_b) (direct_call base returned (check_image symbol_bytes image_b) asked_b) (direct_call base returned (check_image symbol_bytes image_b) (lending work asked_b))
unfolding direct_call check_image returned
exactly-b work = direct-waiting base returned (check_image symbol_bytes image_b) asked_b 1 (record { expanded = 7; complete = 4; rejected = 0; cycles = 0; length_limited = false; count_limited = false; complete_limited = false; waited = 4 }) refl work
