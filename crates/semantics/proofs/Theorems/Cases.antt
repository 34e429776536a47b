-- The starred cases of document 01 as one table, computed from the bytes of A and B to the words of the areas: each row has document 01's words,
-- what is asked, and the answer. Then C, which has no star. Document 01, "Small graphs".
-- Below: the graphs, what is asked, and further tables by subject, each row of which shuts out a wrong reading.
use Rattle.std.specs.Prelude.{ℕ, refl, List, [], ◌∷◌, None, Some}
use Rattle.semantics.specs.declared.search.SearchOrder.TheVariants.{BreadthFirst, DepthFirst}
use Rattle.semantics.specs.Limits.{base}
use Rattle.semantics.specs.Cases.Rows.{Row, ◌gives◌, Agreed, refused, returned◌expanded◌complete◌rejected◌cycles◌flags◌paths◌, no_flag, length_flag, count_flag, complete_flag, expansions◌partials◌cuts◌flagged◌slots◌, unflagged}
use Rattle.semantics.specs.Cases.Graphs.{image_a, image_b, image_c, image_d}
use Rattle.semantics.specs.Cases.Asked.{replaying, directly, replacing, first_filed, stitching, linearly, partials_in, request, recording, stitched_recorded}
pub mod Images
pub mod Paths
pub mod Judgements
pub mod Searches
pub mod Waiting
pub mod Linear
pub mod Names
pub mod Partials
pub mod Databases
pub mod Conversion
pub mod Stitching
pub mod Aliases
pub mod Instance
pub mod Entries
pub mod Versions
pub mod Compaction
pub mod Desks
pub mod Tally
pub mod Reading
pub mod Window
pub mod Directory

pub starred : List (Row (List (List ℕ)))
unfolding directly partials_in stitching first_filed replaying linearly
starred =
    -- On A: "as above", that is "directly, breadth-first, without limits, with 128 waiting and 128 result slots":
    -- "ref 2 returned 1 expanded 3 complete 1 rejected 1 cycles 0", "path 0 1"
    (directly BreadthFirst None None None image_a gives returned 1 expanded 3 complete 1 rejected 1 cycles 0 flags no_flag paths (0 ∷ 1 ∷ []) ∷ [])
    -- "depth-first, the same"
    ∷ (directly DepthFirst None None None image_a gives returned 1 expanded 3 complete 1 rejected 1 cycles 0 flags no_flag paths (0 ∷ 1 ∷ []) ∷ [])
    -- "length 1: expanded 2, length flag"
    ∷ (directly BreadthFirst (Some 1) None None image_a gives returned 0 expanded 2 complete 0 rejected 0 cycles 0 flags length_flag paths [])
    -- "length 2: as above, no flag"
    ∷ (directly BreadthFirst (Some 2) None None image_a gives returned 1 expanded 3 complete 1 rejected 1 cycles 0 flags no_flag paths (0 ∷ 1 ∷ []) ∷ [])
    -- "path count 0: expanded 0, flag"
    ∷ (directly BreadthFirst None (Some 0) None image_a gives returned 0 expanded 0 complete 0 rejected 0 cycles 0 flags count_flag paths [])
    -- "2: expanded 2, complete 1, flag"
    ∷ (directly BreadthFirst None (Some 2) None image_a gives returned 1 expanded 2 complete 1 rejected 1 cycles 0 flags count_flag paths (0 ∷ 1 ∷ []) ∷ [])
    -- "3: no flag"
    ∷ (directly BreadthFirst None (Some 3) None image_a gives returned 1 expanded 3 complete 1 rejected 1 cycles 0 flags no_flag paths (0 ∷ 1 ∷ []) ∷ [])
    -- "partial paths of file 0: 8 expansions, in order 2:[0], 3:[1], 3:[2], 2:[0 1], 2:[0 2]"
    ∷ (partials_in base BreadthFirst None None 128 8 0 image_a gives expansions 8 partials 5 cuts 0 flagged unflagged slots (2 ∷ 0 ∷ []) ∷ (3 ∷ 1 ∷ []) ∷ (3 ∷ 2 ∷ []) ∷ (2 ∷ 0 ∷ 1 ∷ []) ∷ (2 ∷ 0 ∷ 2 ∷ []) ∷ [])
    -- "stitched: expanded 4, complete 2, rejected 2, one path"
    ∷ (stitching BreadthFirst None None None image_a (first_filed image_a) gives returned 1 expanded 4 complete 2 rejected 2 cycles 0 flags no_flag paths (0 ∷ 1 ∷ []) ∷ [])
    -- "replay 0, 2: 15 at node 5"
    ∷ (replaying image_a 2 (0 ∷ 2 ∷ []) ∷ [] gives refused (15 ∷ 5 ∷ []))
    -- "replay 1: 13, expected 2, actual 3"
    ∷ (replaying image_a 2 (1 ∷ []) ∷ [] gives refused (13 ∷ 2 ∷ 3 ∷ []))
    -- On B: "Unlimited: expanded 7, complete 4, returned [1 3]"
    ∷ (directly BreadthFirst None None None image_b gives returned 1 expanded 7 complete 4 rejected 0 cycles 0 flags no_flag paths (1 ∷ 3 ∷ []) ∷ [])
    -- "Complete limit 3: complete 4, flag, none returned"
    ∷ (directly BreadthFirst None None (Some 3) image_b gives returned 0 expanded 7 complete 4 rejected 0 cycles 0 flags complete_flag paths [])
    -- "Linear: 20 at node 2"
    ∷ (linearly None None None image_b gives refused (20 ∷ 2 ∷ []))
    ∷ []

pub starred-cases : Agreed starred
unfolding starred
starred-cases = refl

-- C, which has no star: "Direct records [0 2] and [0 1 2]; stitched [0 2]", which misses the list with the edge from root to root. On D both record the path
-- through root and by jump
pub recordings : List (Row (List (List ℕ)))
unfolding recording stitched_recorded replacing first_filed
recordings =
    (recording BreadthFirst None None None image_c gives returned 2 expanded 5 complete 2 rejected 0 cycles 1 flags no_flag paths (0 ∷ 2 ∷ []) ∷ (0 ∷ 1 ∷ 2 ∷ []) ∷ [])
    ∷ (stitched_recorded base (request base BreadthFirst None None None 8 8) image_c (first_filed image_c) gives returned 1 expanded 4 complete 2 rejected 0 cycles 0 flags no_flag paths (0 ∷ 2 ∷ []) ∷ [])
    ∷ (recording DepthFirst None None None image_d gives returned 1 expanded 6 complete 1 rejected 0 cycles 0 flags no_flag paths (0 ∷ 1 ∷ 2 ∷ 3 ∷ 4 ∷ []) ∷ [])
    ∷ (stitched_recorded base (request base BreadthFirst None None None 8 8) image_d (replacing image_d 1 (first_filed image_d)).database gives returned 1 expanded 4 complete 1 rejected 0 cycles 0 flags no_flag paths (0 ∷ 1 ∷ 2 ∷ 3 ∷ 4 ∷ []) ∷ [])
    ∷ []

pub recording-cases : Agreed recordings
unfolding recordings
recording-cases = refl
