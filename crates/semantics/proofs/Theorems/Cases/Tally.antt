-- Tallies by length: which number a list is counted in, what is refused before what, and every number and word that the call leaves.
-- Document 02, order 9. The numbers of the drawn graphs in service/tests/tally come from the brute-force count in oracle/.
use Rattle.std.specs.Prelude.{ℕ, ◌+◌, ◌*◌, ◌-◌, ◌≡◌, refl, false, List, [], ◌∷◌, ◌++◌, length, take}
use Rattle.semantics.specs.declared.search.SearchOrder.TheVariants.{BreadthFirst}
use Rattle.semantics.specs.Limits.{Bounds, base, max_edges, slot_words, slot_length}
use Rattle.semantics.specs.Told.{told_tallying}
use Rattle.semantics.specs.Recorded.{returned}
use Rattle.semantics.specs.Image.{symbol_bytes, check_image}
use Rattle.semantics.specs.Words.{zeros}
use Rattle.semantics.specs.Hidden.{sees, seen_image}
use Rattle.semantics.specs.Calls.{direct_call}
use Rattle.semantics.specs.Tally.{no_limits, tally_call}
use Rattle.semantics.specs.Lists.{total}
use Rattle.semantics.proofs.Theorems.Tally.Rules.{tally-sum}
use Rattle.semantics.specs.Entries.{tally_lengths}
use Rattle.semantics.specs.Cases.Rows.{Row, ◌gives◌, Agreed}
use Rattle.semantics.specs.Cases.Graphs.{image_a, image_b, image_c, image_d, image_e, image_of, scope, push, reference, definition, ◌⟶◌, twice_complete, going_on, looping, hopping}
use Rattle.semantics.specs.Cases.Asked.{bounded}
use Rattle.semantics.proofs.Theorems.Cases.Desks.{rates, tables}

-- the answer's number and values, then the numbers; the work area has so many whole slots
tally_in : Bounds → List ℕ → ℕ → List ℕ → ℕ → List (List ℕ)
unfolding tally_call seen_image check_image
tally_in bd visible waiting im node =
    let o = tally_call bd (record { work = slot_words bd * waiting; node = node }) (seen_image (sees visible) (check_image symbol_bytes im)) in
    told_tallying o.answer ∷ o.numbers ∷ []

-- with everything visible and room for 8
tally_of : List ℕ → List (List ℕ)
unfolding tally_in
tally_of im = tally_in base (1 ∷ 1 ∷ []) 8 im 2

-- 0, then the first numbers, zeros behind them
abbrev counted : List ℕ → List (List ℕ)
counted ns = (0 ∷ []) ∷ (ns ++ zeros (slot_length - length ns)) ∷ []

-- refused: so many zeros
abbrev refused_under : ℕ → List ℕ → List (List ℕ)
refused_under edges told = told ∷ zeros (edges + 1) ∷ []

abbrev refused : List ℕ → List (List ℕ)
refused told = refused_under max_edges told

-- 2 goes to 3 by two edges and 3 to 4 by three; from 4 one goes to 5, which pushes the symbol again, and three come back: 6 lists of two edges, 18 of four
abbrev fanning : List ℕ
fanning = image_of 1 (reference 0 7 ∷ scope 0 ∷ definition 0 7 ∷ push 0 7 ∷ []) (2 ⟶ 3 ∷ 2 ⟶ 3 ∷ 3 ⟶ 4 ∷ 3 ⟶ 4 ∷ 3 ⟶ 4 ∷ 4 ⟶ 5 ∷ 5 ⟶ 4 ∷ 5 ⟶ 4 ∷ 5 ⟶ 4 ∷ [])

pub tallies : List (Row (List (List ℕ)))
unfolding tally_in tally_of
tallies =
    -- A: [0 1]; B: four of two edges, whatever shadows what; C: [0 2] and [0 1 2]
    (tally_of image_a gives counted (0 ∷ 0 ∷ 1 ∷ []))
    ∷ (tally_of image_b gives counted (0 ∷ 0 ∷ 4 ∷ []))
    ∷ (tally_of image_c gives counted (0 ∷ 0 ∷ 1 ∷ 1 ∷ []))
    -- through root and by jump: a jump is no edge
    ∷ (tally_of image_d gives counted (0 ∷ 0 ∷ 0 ∷ 0 ∷ 0 ∷ 1 ∷ []))
    ∷ (tally_of hopping gives counted (0 ∷ 0 ∷ 0 ∷ 0 ∷ 0 ∷ 1 ∷ []))
    -- two that differ in one edge; one that is the beginning of another; none
    ∷ (tally_of twice_complete gives counted (0 ∷ 2 ∷ []))
    ∷ (tally_of going_on gives counted (0 ∷ 1 ∷ 0 ∷ 1 ∷ []))
    ∷ (tally_of looping gives counted [])
    ∷ (tally_of image_e gives counted [])
    -- a name that fans out: each list once, each longer one besides
    ∷ (tally_of fanning gives counted (0 ∷ 0 ∷ 6 ∷ 0 ∷ 18 ∷ []))
    -- VISIBLE FILES: to rates only [0 2] and [0 3 2]; a reference of a hidden file is 10
    ∷ (tally_in base (1 ∷ 1 ∷ []) 8 tables 2 gives counted (0 ∷ 0 ∷ 2 ∷ 2 ∷ []))
    ∷ (tally_in base rates 8 tables 2 gives counted (0 ∷ 0 ∷ 1 ∷ 1 ∷ []))
    ∷ (tally_in base rates 8 tables 6 gives refused (10 ∷ 6 ∷ []))
    -- THE BOUND: the last number is that of a list of as many edges; 30 where such a path goes on, also where that edge would be rejected
    ∷ (tally_in (bounded 3 9) (1 ∷ []) 8 going_on 2 gives (0 ∷ []) ∷ (0 ∷ 1 ∷ 0 ∷ 1 ∷ []) ∷ [])
    ∷ (tally_in (bounded 2 9) (1 ∷ []) 8 going_on 2 gives refused_under 2 (30 ∷ []))
    ∷ (tally_in (bounded 1 9) (1 ∷ []) 8 going_on 2 gives refused_under 1 (30 ∷ []))
    ∷ (tally_in (bounded 1 9) (1 ∷ []) 8 image_e 2 gives refused_under 1 (30 ∷ []))
    -- THE WORK AREA, depth-first: B needs three slots, of which breadth-first would need four
    ∷ (tally_in base (1 ∷ []) 3 image_b 2 gives counted (0 ∷ 0 ∷ 4 ∷ []))
    ∷ (tally_in base (1 ∷ []) 2 image_b 2 gives refused (31 ∷ []))
    ∷ (tally_in base (1 ∷ []) 1 image_a 2 gives counted (0 ∷ 0 ∷ 1 ∷ []))
    ∷ (tally_in base (1 ∷ []) 0 image_a 2 gives refused (31 ∷ []))
    -- 31 is met with some lists found already, and 36 too: none of them is told
    ∷ (tally_in base (1 ∷ []) 1 twice_complete 2 gives refused (31 ∷ []))
    ∷ (tally_in (bounded max_edges 3) (1 ∷ []) 8 image_a 2 gives counted (0 ∷ 0 ∷ 1 ∷ []))
    ∷ (tally_in (bounded max_edges 2) (1 ∷ []) 8 image_a 2 gives refused (36 ∷ []))
    -- WHAT COMES FIRST: the image, the node, then the areas
    ∷ (tally_in base (1 ∷ []) 0 (take 76 image_a) 6 gives refused (2 ∷ []))
    ∷ (tally_in base (1 ∷ []) 0 image_a 6 gives refused (10 ∷ 6 ∷ []))
    ∷ (tally_in base (1 ∷ []) 0 image_a 3 gives refused (11 ∷ 3 ∷ []))
    ∷ (tally_in base (1 ∷ []) 0 image_a 0 gives refused (11 ∷ 0 ∷ []))
    ∷ []

pub tally-cases : Agreed tallies
unfolding tallies
tally-cases = refl

-- THE WORDS: zero behind every call, those that make no slot too
pub works : List (Row (List ℕ))
unfolding tally_call seen_image check_image
works =
    ((tally_lengths image_b (1 ∷ []) 2 (zeros (3 * slot_length + 5))).work gives zeros (3 * slot_length + 5))
    ∷ ((tally_lengths image_b (1 ∷ []) 2 (zeros (3 * slot_length - 1))).work gives zeros (3 * slot_length - 1))
    ∷ ((tally_lengths image_a (1 ∷ []) 6 (zeros 7)).work gives zeros 7)
    ∷ []

pub work-cases : Agreed works
unfolding works
work-cases = refl

-- THE SUM: B breadth-first in other areas counts as many complete
pub sum-b : total (tally_call base (record { work = slot_length * 8; node = 2 }) (check_image symbol_bytes image_b)).numbers ≡ 4
unfolding direct_call tally_call check_image returned
sum-b =
    tally-sum base (record { work = slot_length * 8; node = 2 }) (check_image symbol_bytes image_b) refl returned
    (record { order = BreadthFirst; limits = no_limits; work = slot_length * 5; result = slot_length * 4; node = 2 }) 1
    (record { expanded = 7; complete = 4; rejected = 0; cycles = 0; length_limited = false; count_limited = false; complete_limited = false; waited = 4 }) refl refl refl
