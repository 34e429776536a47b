-- ISINs, and flows of a directory: which rows are one, what is refused before what, which definitions are answered, and every word that the call leaves.
-- Document 02, order 11.
use Rattle.std.specs.Prelude.{ℕ, zero, suc, ◌+◌, ◌-◌, ◌*◌, ◌≡◌, refl, Bool, true, false, List, [], ◌∷◌, ◌++◌, eqb, take}
use Rattle.semantics.specs.Lists.{and, pick}
use Rattle.semantics.specs.Limits.{slot_length}
use Rattle.semantics.specs.Words.{zeros}
use Rattle.semantics.specs.Image.{check_image}
use Rattle.semantics.specs.Hidden.{seen_image}
use Rattle.semantics.specs.Told.{told_flow}
use Rattle.semantics.specs.Isin.{is_isin}
use Rattle.semantics.specs.Directory.{FlowKey, is_directory, flow_call}
use Rattle.semantics.specs.Entries.{key_of, flow_asked}
use Rattle.semantics.specs.Cases.Rows.{Row, ◌gives◌, Agreed}
use Rattle.semantics.specs.Cases.Graphs.{image_of, reference, definition, ◌⟶◌}

-- ISINS IN USE, and one with two letters exchanged, which Luhn's rule does not see
unfoldable pub real : List (List ℕ)
real =
    (85 ∷ 83 ∷ 48 ∷ 51 ∷ 55 ∷ 56 ∷ 51 ∷ 51 ∷ 49 ∷ 48 ∷ 48 ∷ 53 ∷ [])
    ∷ (85 ∷ 83 ∷ 53 ∷ 57 ∷ 52 ∷ 57 ∷ 49 ∷ 56 ∷ 49 ∷ 48 ∷ 52 ∷ 53 ∷ [])
    ∷ (85 ∷ 83 ∷ 51 ∷ 56 ∷ 50 ∷ 53 ∷ 57 ∷ 80 ∷ 53 ∷ 48 ∷ 56 ∷ 57 ∷ [])
    ∷ (85 ∷ 83 ∷ 48 ∷ 50 ∷ 48 ∷ 55 ∷ 57 ∷ 75 ∷ 51 ∷ 48 ∷ 53 ∷ 57 ∷ [])
    ∷ (85 ∷ 83 ∷ 48 ∷ 50 ∷ 48 ∷ 55 ∷ 57 ∷ 75 ∷ 49 ∷ 48 ∷ 55 ∷ 57 ∷ [])
    ∷ (85 ∷ 83 ∷ 48 ∷ 50 ∷ 51 ∷ 49 ∷ 51 ∷ 53 ∷ 49 ∷ 48 ∷ 54 ∷ 55 ∷ [])
    ∷ (85 ∷ 83 ∷ 52 ∷ 53 ∷ 57 ∷ 50 ∷ 48 ∷ 48 ∷ 49 ∷ 48 ∷ 49 ∷ 52 ∷ [])
    ∷ (85 ∷ 83 ∷ 48 ∷ 56 ∷ 52 ∷ 54 ∷ 55 ∷ 48 ∷ 55 ∷ 48 ∷ 50 ∷ 54 ∷ [])
    ∷ (85 ∷ 83 ∷ 48 ∷ 56 ∷ 52 ∷ 54 ∷ 55 ∷ 48 ∷ 49 ∷ 48 ∷ 56 ∷ 54 ∷ [])
    ∷ (85 ∷ 83 ∷ 57 ∷ 51 ∷ 49 ∷ 49 ∷ 52 ∷ 50 ∷ 49 ∷ 48 ∷ 51 ∷ 57 ∷ [])
    ∷ (85 ∷ 83 ∷ 49 ∷ 57 ∷ 49 ∷ 50 ∷ 49 ∷ 54 ∷ 49 ∷ 48 ∷ 48 ∷ 55 ∷ [])
    ∷ (85 ∷ 83 ∷ 55 ∷ 52 ∷ 50 ∷ 55 ∷ 49 ∷ 56 ∷ 49 ∷ 48 ∷ 57 ∷ 49 ∷ [])
    ∷ (85 ∷ 83 ∷ 52 ∷ 55 ∷ 56 ∷ 49 ∷ 54 ∷ 48 ∷ 49 ∷ 48 ∷ 52 ∷ 54 ∷ [])
    ∷ (85 ∷ 83 ∷ 51 ∷ 48 ∷ 51 ∷ 48 ∷ 51 ∷ 77 ∷ 49 ∷ 48 ∷ 50 ∷ 55 ∷ [])
    ∷ (85 ∷ 83 ∷ 56 ∷ 56 ∷ 49 ∷ 54 ∷ 48 ∷ 82 ∷ 49 ∷ 48 ∷ 49 ∷ 52 ∷ [])
    ∷ (85 ∷ 83 ∷ 54 ∷ 55 ∷ 48 ∷ 54 ∷ 54 ∷ 71 ∷ 49 ∷ 48 ∷ 52 ∷ 48 ∷ [])
    ∷ (85 ∷ 83 ∷ 52 ∷ 54 ∷ 54 ∷ 50 ∷ 53 ∷ 72 ∷ 49 ∷ 48 ∷ 48 ∷ 53 ∷ [])
    ∷ (85 ∷ 83 ∷ 48 ∷ 54 ∷ 48 ∷ 53 ∷ 48 ∷ 53 ∷ 49 ∷ 48 ∷ 52 ∷ 54 ∷ [])
    ∷ (85 ∷ 83 ∷ 49 ∷ 55 ∷ 50 ∷ 57 ∷ 54 ∷ 55 ∷ 52 ∷ 50 ∷ 52 ∷ 50 ∷ [])
    ∷ (85 ∷ 83 ∷ 51 ∷ 48 ∷ 50 ∷ 51 ∷ 49 ∷ 71 ∷ 49 ∷ 48 ∷ 50 ∷ 50 ∷ [])
    ∷ (71 ∷ 66 ∷ 48 ∷ 48 ∷ 48 ∷ 50 ∷ 54 ∷ 51 ∷ 52 ∷ 57 ∷ 52 ∷ 54 ∷ [])
    ∷ (71 ∷ 66 ∷ 48 ∷ 48 ∷ 48 ∷ 50 ∷ 51 ∷ 55 ∷ 52 ∷ 48 ∷ 48 ∷ 54 ∷ [])
    ∷ (71 ∷ 66 ∷ 48 ∷ 48 ∷ 66 ∷ 48 ∷ 51 ∷ 77 ∷ 76 ∷ 88 ∷ 50 ∷ 57 ∷ [])
    ∷ (71 ∷ 66 ∷ 48 ∷ 48 ∷ 66 ∷ 80 ∷ 54 ∷ 77 ∷ 88 ∷ 68 ∷ 56 ∷ 52 ∷ [])
    ∷ (71 ∷ 66 ∷ 48 ∷ 48 ∷ 48 ∷ 55 ∷ 57 ∷ 56 ∷ 48 ∷ 53 ∷ 57 ∷ 49 ∷ [])
    ∷ (71 ∷ 66 ∷ 48 ∷ 48 ∷ 48 ∷ 53 ∷ 52 ∷ 48 ∷ 53 ∷ 50 ∷ 56 ∷ 54 ∷ [])
    ∷ (71 ∷ 66 ∷ 48 ∷ 48 ∷ 48 ∷ 57 ∷ 56 ∷ 57 ∷ 53 ∷ 50 ∷ 57 ∷ 50 ∷ [])
    ∷ (71 ∷ 66 ∷ 48 ∷ 48 ∷ 66 ∷ 72 ∷ 52 ∷ 72 ∷ 75 ∷ 83 ∷ 51 ∷ 57 ∷ [])
    ∷ (71 ∷ 66 ∷ 48 ∷ 48 ∷ 66 ∷ 49 ∷ 54 ∷ 71 ∷ 87 ∷ 68 ∷ 53 ∷ 54 ∷ [])
    ∷ (68 ∷ 69 ∷ 48 ∷ 48 ∷ 48 ∷ 66 ∷ 65 ∷ 89 ∷ 48 ∷ 48 ∷ 49 ∷ 55 ∷ [])
    ∷ (68 ∷ 69 ∷ 48 ∷ 48 ∷ 48 ∷ 55 ∷ 49 ∷ 54 ∷ 52 ∷ 54 ∷ 48 ∷ 48 ∷ [])
    ∷ (68 ∷ 69 ∷ 48 ∷ 48 ∷ 48 ∷ 55 ∷ 50 ∷ 51 ∷ 54 ∷ 49 ∷ 48 ∷ 49 ∷ [])
    ∷ (68 ∷ 69 ∷ 48 ∷ 48 ∷ 48 ∷ 53 ∷ 49 ∷ 52 ∷ 48 ∷ 48 ∷ 48 ∷ 56 ∷ [])
    ∷ (68 ∷ 69 ∷ 48 ∷ 48 ∷ 48 ∷ 55 ∷ 54 ∷ 54 ∷ 52 ∷ 48 ∷ 51 ∷ 57 ∷ [])
    ∷ (68 ∷ 69 ∷ 48 ∷ 48 ∷ 48 ∷ 66 ∷ 65 ∷ 83 ∷ 70 ∷ 49 ∷ 49 ∷ 49 ∷ [])
    ∷ (68 ∷ 69 ∷ 48 ∷ 48 ∷ 48 ∷ 56 ∷ 52 ∷ 48 ∷ 52 ∷ 48 ∷ 48 ∷ 53 ∷ [])
    ∷ (68 ∷ 69 ∷ 48 ∷ 48 ∷ 48 ∷ 53 ∷ 53 ∷ 53 ∷ 55 ∷ 53 ∷ 48 ∷ 56 ∷ [])
    ∷ (70 ∷ 82 ∷ 48 ∷ 48 ∷ 48 ∷ 48 ∷ 49 ∷ 51 ∷ 49 ∷ 49 ∷ 48 ∷ 52 ∷ [])
    ∷ (70 ∷ 82 ∷ 48 ∷ 48 ∷ 48 ∷ 48 ∷ 49 ∷ 50 ∷ 48 ∷ 50 ∷ 55 ∷ 49 ∷ [])
    ∷ (70 ∷ 82 ∷ 48 ∷ 48 ∷ 48 ∷ 48 ∷ 49 ∷ 50 ∷ 49 ∷ 48 ∷ 49 ∷ 52 ∷ [])
    ∷ (70 ∷ 82 ∷ 48 ∷ 48 ∷ 48 ∷ 48 ∷ 49 ∷ 50 ∷ 48 ∷ 53 ∷ 55 ∷ 56 ∷ [])
    ∷ (78 ∷ 76 ∷ 48 ∷ 48 ∷ 48 ∷ 48 ∷ 48 ∷ 48 ∷ 57 ∷ 49 ∷ 54 ∷ 53 ∷ [])
    ∷ (78 ∷ 76 ∷ 48 ∷ 48 ∷ 49 ∷ 48 ∷ 50 ∷ 55 ∷ 51 ∷ 50 ∷ 49 ∷ 53 ∷ [])
    ∷ (67 ∷ 72 ∷ 48 ∷ 48 ∷ 51 ∷ 56 ∷ 56 ∷ 54 ∷ 51 ∷ 51 ∷ 53 ∷ 48 ∷ [])
    ∷ (67 ∷ 72 ∷ 48 ∷ 48 ∷ 49 ∷ 50 ∷ 48 ∷ 51 ∷ 50 ∷ 48 ∷ 52 ∷ 56 ∷ [])
    ∷ (67 ∷ 72 ∷ 48 ∷ 48 ∷ 49 ∷ 50 ∷ 48 ∷ 48 ∷ 53 ∷ 50 ∷ 54 ∷ 55 ∷ [])
    ∷ (65 ∷ 85 ∷ 48 ∷ 48 ∷ 48 ∷ 48 ∷ 88 ∷ 86 ∷ 71 ∷ 90 ∷ 65 ∷ 51 ∷ [])
    ∷ (65 ∷ 85 ∷ 48 ∷ 48 ∷ 48 ∷ 48 ∷ 48 ∷ 48 ∷ 66 ∷ 72 ∷ 80 ∷ 52 ∷ [])
    ∷ (65 ∷ 85 ∷ 48 ∷ 48 ∷ 48 ∷ 48 ∷ 48 ∷ 48 ∷ 67 ∷ 66 ∷ 65 ∷ 55 ∷ [])
    ∷ (74 ∷ 80 ∷ 51 ∷ 54 ∷ 51 ∷ 51 ∷ 52 ∷ 48 ∷ 48 ∷ 48 ∷ 48 ∷ 49 ∷ [])
    ∷ (74 ∷ 80 ∷ 51 ∷ 52 ∷ 51 ∷ 53 ∷ 48 ∷ 48 ∷ 48 ∷ 48 ∷ 48 ∷ 57 ∷ [])
    ∷ (74 ∷ 80 ∷ 51 ∷ 57 ∷ 48 ∷ 50 ∷ 57 ∷ 48 ∷ 48 ∷ 48 ∷ 48 ∷ 52 ∷ [])
    ∷ (74 ∷ 80 ∷ 51 ∷ 52 ∷ 51 ∷ 54 ∷ 49 ∷ 48 ∷ 48 ∷ 48 ∷ 48 ∷ 54 ∷ [])
    ∷ (75 ∷ 82 ∷ 55 ∷ 48 ∷ 48 ∷ 53 ∷ 57 ∷ 51 ∷ 48 ∷ 48 ∷ 48 ∷ 51 ∷ [])
    ∷ (72 ∷ 75 ∷ 48 ∷ 48 ∷ 48 ∷ 48 ∷ 48 ∷ 54 ∷ 57 ∷ 54 ∷ 56 ∷ 57 ∷ [])
    ∷ (66 ∷ 77 ∷ 71 ∷ 52 ∷ 57 ∷ 49 ∷ 66 ∷ 84 ∷ 49 ∷ 48 ∷ 56 ∷ 56 ∷ [])
    ∷ (73 ∷ 69 ∷ 48 ∷ 48 ∷ 66 ∷ 52 ∷ 66 ∷ 78 ∷ 77 ∷ 89 ∷ 51 ∷ 52 ∷ [])
    ∷ (73 ∷ 69 ∷ 48 ∷ 48 ∷ 66 ∷ 90 ∷ 49 ∷ 50 ∷ 87 ∷ 80 ∷ 56 ∷ 50 ∷ [])
    ∷ (69 ∷ 83 ∷ 48 ∷ 49 ∷ 49 ∷ 51 ∷ 57 ∷ 48 ∷ 48 ∷ 74 ∷ 51 ∷ 55 ∷ [])
    ∷ (69 ∷ 83 ∷ 48 ∷ 49 ∷ 55 ∷ 56 ∷ 52 ∷ 51 ∷ 48 ∷ 69 ∷ 49 ∷ 56 ∷ [])
    ∷ (73 ∷ 84 ∷ 48 ∷ 48 ∷ 48 ∷ 51 ∷ 49 ∷ 51 ∷ 50 ∷ 52 ∷ 55 ∷ 54 ∷ [])
    ∷ (83 ∷ 69 ∷ 48 ∷ 48 ∷ 48 ∷ 48 ∷ 49 ∷ 48 ∷ 56 ∷ 54 ∷ 53 ∷ 54 ∷ [])
    ∷ (68 ∷ 75 ∷ 48 ∷ 48 ∷ 54 ∷ 50 ∷ 52 ∷ 57 ∷ 56 ∷ 51 ∷ 51 ∷ 51 ∷ [])
    ∷ (78 ∷ 79 ∷ 48 ∷ 48 ∷ 49 ∷ 48 ∷ 48 ∷ 57 ∷ 54 ∷ 57 ∷ 56 ∷ 53 ∷ [])
    ∷ (70 ∷ 73 ∷ 48 ∷ 48 ∷ 48 ∷ 57 ∷ 48 ∷ 48 ∷ 48 ∷ 54 ∷ 56 ∷ 49 ∷ [])
    ∷ (66 ∷ 82 ∷ 80 ∷ 69 ∷ 84 ∷ 82 ∷ 65 ∷ 67 ∷ 78 ∷ 80 ∷ 82 ∷ 54 ∷ [])
    ∷ (90 ∷ 65 ∷ 69 ∷ 48 ∷ 48 ∷ 48 ∷ 48 ∷ 52 ∷ 50 ∷ 49 ∷ 54 ∷ 52 ∷ [])
    ∷ (67 ∷ 65 ∷ 55 ∷ 56 ∷ 48 ∷ 48 ∷ 56 ∷ 55 ∷ 49 ∷ 48 ∷ 50 ∷ 49 ∷ [])
    ∷ (73 ∷ 78 ∷ 69 ∷ 48 ∷ 48 ∷ 50 ∷ 65 ∷ 48 ∷ 49 ∷ 48 ∷ 49 ∷ 56 ∷ [])
    ∷ (73 ∷ 78 ∷ 69 ∷ 48 ∷ 48 ∷ 57 ∷ 65 ∷ 48 ∷ 49 ∷ 48 ∷ 50 ∷ 49 ∷ [])
    ∷ (84 ∷ 87 ∷ 48 ∷ 48 ∷ 48 ∷ 50 ∷ 51 ∷ 51 ∷ 48 ∷ 48 ∷ 48 ∷ 56 ∷ [])
    ∷ (67 ∷ 78 ∷ 69 ∷ 49 ∷ 48 ∷ 48 ∷ 48 ∷ 48 ∷ 48 ∷ 50 ∷ 57 ∷ 54 ∷ [])
    ∷ (73 ∷ 76 ∷ 48 ∷ 48 ∷ 48 ∷ 54 ∷ 50 ∷ 57 ∷ 48 ∷ 49 ∷ 52 ∷ 55 ∷ [])
    ∷ (76 ∷ 85 ∷ 49 ∷ 53 ∷ 57 ∷ 56 ∷ 55 ∷ 53 ∷ 55 ∷ 54 ∷ 56 ∷ 55 ∷ [])
    ∷ (65 ∷ 85 ∷ 48 ∷ 48 ∷ 48 ∷ 48 ∷ 86 ∷ 88 ∷ 71 ∷ 90 ∷ 65 ∷ 51 ∷ [])
    ∷ []

unfoldable pub every : (List ℕ → Bool) → List (List ℕ) → Bool
every test [] = true
every test (x ∷ xs) = and (test x) (every test xs)

-- of the check digits below d, how many are right
unfoldable pub right_digits : ℕ → List ℕ → ℕ
unfolding is_isin
right_digits zero cs = 0
right_digits (suc d) cs = pick (is_isin (take 11 cs ++ ((48 + d) ∷ []))) 1 0 + right_digits d cs

-- each is accepted, and of the ten check digits no other one is
pub real-accepted : every is_isin real ≡ true
unfolding every is_isin real
real-accepted = refl

pub real-only : every (λ cs. eqb (right_digits 10 cs) 1) real ≡ true
unfolding every right_digits real
real-only = refl

-- NO ISINS
unfoldable pub malformed : List (Row Bool)
unfolding is_isin
malformed =
    -- WITH A SUM THAT IS RIGHT: 11 bytes, 13 bytes, none
    (is_isin (85 ∷ 83 ∷ 48 ∷ 51 ∷ 55 ∷ 56 ∷ 51 ∷ 51 ∷ 49 ∷ 48 ∷ 56 ∷ []) gives false)
    ∷ (is_isin (85 ∷ 83 ∷ 48 ∷ 51 ∷ 55 ∷ 56 ∷ 51 ∷ 51 ∷ 49 ∷ 48 ∷ 48 ∷ 53 ∷ 55 ∷ []) gives false)
    ∷ (is_isin [] gives false)
    -- beside the capitals, lower case and a digit at the first two places
    ∷ (is_isin (64 ∷ 83 ∷ 48 ∷ 51 ∷ 55 ∷ 56 ∷ 51 ∷ 51 ∷ 49 ∷ 48 ∷ 48 ∷ 50 ∷ []) gives false)
    ∷ (is_isin (85 ∷ 91 ∷ 48 ∷ 51 ∷ 55 ∷ 56 ∷ 51 ∷ 51 ∷ 49 ∷ 48 ∷ 48 ∷ 53 ∷ []) gives false)
    ∷ (is_isin (117 ∷ 83 ∷ 48 ∷ 51 ∷ 55 ∷ 56 ∷ 51 ∷ 51 ∷ 49 ∷ 48 ∷ 48 ∷ 54 ∷ []) gives false)
    ∷ (is_isin (85 ∷ 115 ∷ 48 ∷ 51 ∷ 55 ∷ 56 ∷ 51 ∷ 51 ∷ 49 ∷ 48 ∷ 48 ∷ 52 ∷ []) gives false)
    ∷ (is_isin (49 ∷ 83 ∷ 48 ∷ 51 ∷ 55 ∷ 56 ∷ 51 ∷ 51 ∷ 49 ∷ 48 ∷ 48 ∷ 48 ∷ []) gives false)
    ∷ (is_isin (85 ∷ 48 ∷ 48 ∷ 51 ∷ 55 ∷ 56 ∷ 51 ∷ 51 ∷ 49 ∷ 48 ∷ 48 ∷ 48 ∷ []) gives false)
    -- beside the digits and the capitals at the next nine, and lower case
    ∷ (is_isin (85 ∷ 83 ∷ 47 ∷ 51 ∷ 55 ∷ 56 ∷ 51 ∷ 51 ∷ 49 ∷ 48 ∷ 48 ∷ 49 ∷ []) gives false)
    ∷ (is_isin (85 ∷ 83 ∷ 58 ∷ 51 ∷ 55 ∷ 56 ∷ 51 ∷ 51 ∷ 49 ∷ 48 ∷ 48 ∷ 53 ∷ []) gives false)
    ∷ (is_isin (85 ∷ 83 ∷ 48 ∷ 51 ∷ 55 ∷ 56 ∷ 51 ∷ 51 ∷ 49 ∷ 48 ∷ 64 ∷ 57 ∷ []) gives false)
    ∷ (is_isin (85 ∷ 83 ∷ 48 ∷ 51 ∷ 55 ∷ 56 ∷ 51 ∷ 51 ∷ 49 ∷ 48 ∷ 91 ∷ 50 ∷ []) gives false)
    ∷ (is_isin (85 ∷ 83 ∷ 48 ∷ 51 ∷ 55 ∷ 97 ∷ 51 ∷ 51 ∷ 49 ∷ 48 ∷ 48 ∷ 52 ∷ []) gives false)
    ∷ (is_isin (85 ∷ 83 ∷ 48 ∷ 51 ∷ 55 ∷ 56 ∷ 51 ∷ 51 ∷ 49 ∷ 48 ∷ 255 ∷ 56 ∷ []) gives false)
    ∷ (is_isin (85 ∷ 83 ∷ 0 ∷ 51 ∷ 55 ∷ 56 ∷ 51 ∷ 51 ∷ 49 ∷ 48 ∷ 48 ∷ 49 ∷ []) gives false)
    -- a capital for the check digit, and bytes beside the digits
    ∷ (is_isin (85 ∷ 83 ∷ 48 ∷ 51 ∷ 55 ∷ 56 ∷ 51 ∷ 51 ∷ 49 ∷ 48 ∷ 54 ∷ 65 ∷ []) gives false)
    ∷ (is_isin (85 ∷ 83 ∷ 48 ∷ 51 ∷ 55 ∷ 56 ∷ 51 ∷ 51 ∷ 49 ∷ 48 ∷ 55 ∷ 90 ∷ []) gives false)
    ∷ (is_isin (85 ∷ 83 ∷ 48 ∷ 51 ∷ 55 ∷ 56 ∷ 51 ∷ 51 ∷ 49 ∷ 48 ∷ 56 ∷ 47 ∷ []) gives false)
    ∷ (is_isin (85 ∷ 83 ∷ 48 ∷ 51 ∷ 55 ∷ 56 ∷ 51 ∷ 51 ∷ 49 ∷ 48 ∷ 53 ∷ 58 ∷ []) gives false)
    -- another check digit, and two digits exchanged
    ∷ (is_isin (85 ∷ 83 ∷ 48 ∷ 51 ∷ 55 ∷ 56 ∷ 51 ∷ 51 ∷ 49 ∷ 48 ∷ 48 ∷ 52 ∷ []) gives false)
    ∷ (is_isin (85 ∷ 83 ∷ 48 ∷ 55 ∷ 51 ∷ 56 ∷ 51 ∷ 51 ∷ 49 ∷ 48 ∷ 48 ∷ 53 ∷ []) gives false)
    ∷ []

pub malformed-cases : Agreed malformed
unfolding malformed
malformed-cases = refl

-- THE ROWS

abbrev row : List ℕ → ℕ → ℕ → ℕ → ℕ → ℕ → ℕ → List ℕ
row isin t₁ t₀ l₁ l₀ r₁ r₀ = isin ++ (t₁ ∷ t₀ ∷ l₁ ∷ l₀ ∷ r₁ ∷ r₀ ∷ [])

abbrev apple : List ℕ
apple = 85 ∷ 83 ∷ 48 ∷ 51 ∷ 55 ∷ 56 ∷ 51 ∷ 51 ∷ 49 ∷ 48 ∷ 48 ∷ 53 ∷ []

abbrev microsoft : List ℕ
microsoft = 85 ∷ 83 ∷ 53 ∷ 57 ∷ 52 ∷ 57 ∷ 49 ∷ 56 ∷ 49 ∷ 48 ∷ 52 ∷ 53 ∷ []

unfoldable pub rows_of : List (Row Bool)
unfolding is_directory
rows_of =
    -- none, one, and bytes left over
    (is_directory [] gives true)
    ∷ (is_directory (row apple 0 1 0 1 0 2) gives true)
    ∷ (is_directory (row apple 0 1 0 1 0 2 ++ (0 ∷ [])) gives false)
    ∷ (is_directory (take 17 (row apple 0 1 0 1 0 2)) gives false)
    -- by the ISIN, then the tranche, then the leg, high bytes first; the reference is no part of the key
    ∷ (is_directory (row apple 9 9 9 9 0 2 ++ row microsoft 0 0 0 0 0 1) gives true)
    ∷ (is_directory (row microsoft 0 0 0 0 0 1 ++ row apple 9 9 9 9 0 2) gives false)
    ∷ (is_directory (row apple 0 1 9 9 0 2 ++ row apple 0 2 0 0 0 2) gives true)
    ∷ (is_directory (row apple 0 2 0 0 0 2 ++ row apple 0 1 9 9 0 2) gives false)
    ∷ (is_directory (row apple 0 255 0 0 0 2 ++ row apple 1 0 0 0 0 2) gives true)
    ∷ (is_directory (row apple 0 0 0 255 0 2 ++ row apple 0 0 1 0 0 2) gives true)
    ∷ (is_directory (row apple 0 0 1 0 0 2 ++ row apple 0 0 0 255 0 2) gives false)
    -- twice the same key, with another reference
    ∷ (is_directory (row apple 0 1 0 1 0 2 ++ row apple 0 1 0 1 0 3) gives false)
    -- out of order behind two that ascend
    ∷ (is_directory (row apple 0 1 0 1 0 2 ++ row apple 0 1 0 2 0 2 ++ row apple 0 1 0 0 0 2) gives false)
    ∷ []

pub rows-cases : Agreed rows_of
unfolding rows_of
rows-cases = refl

-- THE CALL, from bytes: reference 2 reaches the definitions 4 and 5, which pop 7; 3 reaches 5 twice; 6 reaches none
abbrev flows : List ℕ
flows = image_of 1 (reference 0 7 ∷ reference 0 7 ∷ definition 0 7 ∷ definition 0 7 ∷ reference 0 8 ∷ []) (2 ⟶ 4 ∷ 2 ⟶ 5 ∷ 3 ⟶ 5 ∷ 3 ⟶ 5 ∷ 6 ⟶ 5 ∷ [])

-- its directory: tranche 1 has legs 1, 2 and 3; tranche 2 has a leg 1 whose reference is a definition, and a leg 2 whose reference is no node
abbrev listed : List ℕ
listed = row apple 0 1 0 1 0 2 ++ row apple 0 1 0 2 0 3 ++ row apple 0 1 0 3 0 6 ++ row apple 0 2 0 1 0 4 ++ row apple 0 2 0 2 1 0

-- the answer, with everything visible, no limits and four slots of each area
unfoldable pub resolving : List ℕ → List ℕ → FlowKey → List ℕ
unfolding flow_call check_image seen_image
resolving im rows key = told_flow (flow_asked im (255 ∷ []) rows key [] (zeros (slot_length * 4)) (zeros (slot_length * 4))).answer

unfoldable pub resolutions : List (Row (List ℕ))
unfolding resolving
resolutions =
    -- several: 4 and 5. One: both paths of 3 end at 5. None
    (resolving flows listed (key_of apple 1 1) gives 0 ∷ 2 ∷ 3 ∷ 2 ∷ 0 ∷ 0 ∷ 0 ∷ 0 ∷ 0 ∷ 2 ∷ 2 ∷ 0 ∷ [])
    ∷ (resolving flows listed (key_of apple 1 2) gives 0 ∷ 2 ∷ 3 ∷ 2 ∷ 0 ∷ 0 ∷ 0 ∷ 0 ∷ 0 ∷ 2 ∷ 1 ∷ 5 ∷ [])
    ∷ (resolving flows listed (key_of apple 1 3) gives 0 ∷ 0 ∷ 1 ∷ 0 ∷ 1 ∷ 0 ∷ 0 ∷ 0 ∷ 0 ∷ 1 ∷ 0 ∷ 0 ∷ [])
    -- the search's own refusals: 11 with a definition, 10 with a number that is no node
    ∷ (resolving flows listed (key_of apple 2 1) gives 11 ∷ 4 ∷ [])
    ∷ (resolving flows listed (key_of apple 2 2) gives 10 ∷ 256 ∷ [])
    -- 43: another leg, tranche and leg exchanged, another ISIN, numbers of more than 16 bits, no rows
    ∷ (resolving flows listed (key_of apple 1 4) gives 43 ∷ [])
    ∷ (resolving flows listed (key_of apple 3 1) gives 43 ∷ [])
    ∷ (resolving flows listed (key_of microsoft 1 1) gives 43 ∷ [])
    ∷ (resolving flows listed (key_of apple 65537 1) gives 43 ∷ [])
    ∷ (resolving flows listed (key_of apple 0 65537) gives 43 ∷ [])
    ∷ (resolving flows [] (key_of apple 1 1) gives 43 ∷ [])
    -- 42 behind the row that has the key, and before 43
    ∷ (resolving flows (listed ++ row apple 0 1 0 1 0 2) (key_of apple 1 1) gives 42 ∷ [])
    ∷ (resolving flows (listed ++ (0 ∷ [])) (key_of apple 1 4) gives 42 ∷ [])
    -- 41 before 42, an image's refusal before 41
    ∷ (resolving flows (listed ++ (0 ∷ [])) (key_of (take 11 apple) 1 1) gives 41 ∷ [])
    ∷ (resolving [] (listed ++ (0 ∷ [])) (key_of (take 11 apple) 1 1) gives 2 ∷ [])
    ∷ []

pub resolution-cases : Agreed resolutions
unfolding resolutions
resolution-cases = refl

-- EVERY WORD of both areas, which are lent with a word that is not zero and one behind the last slot
unfoldable pub leaving : List ℕ → FlowKey → List (List ℕ)
unfolding flow_call check_image seen_image
leaving rows key =
    let o = flow_asked flows (255 ∷ []) rows key [] (7 ∷ zeros (slot_length * 4)) (7 ∷ zeros (slot_length * 2)) in
    o.work ∷ o.result ∷ []

unfoldable pub areas : List (Row (List (List ℕ)))
unfolding leaving
areas =
    (leaving listed (key_of apple 1 2) gives zeros (slot_length * 4 + 1) ∷ ((1 ∷ 2 ∷ zeros (slot_length - 2)) ++ (1 ∷ 3 ∷ zeros (slot_length - 2)) ++ zeros 1) ∷ [])
    ∷ (leaving listed (key_of apple 1 3) gives zeros (slot_length * 4 + 1) ∷ zeros (slot_length * 2 + 1) ∷ [])
    -- 11, 43, 42, 41
    ∷ (leaving listed (key_of apple 2 1) gives zeros (slot_length * 4 + 1) ∷ zeros (slot_length * 2 + 1) ∷ [])
    ∷ (leaving listed (key_of apple 1 4) gives zeros (slot_length * 4 + 1) ∷ zeros (slot_length * 2 + 1) ∷ [])
    ∷ (leaving (0 ∷ []) (key_of apple 1 4) gives zeros (slot_length * 4 + 1) ∷ zeros (slot_length * 2 + 1) ∷ [])
    ∷ (leaving listed (key_of [] 1 4) gives zeros (slot_length * 4 + 1) ∷ zeros (slot_length * 2 + 1) ∷ [])
    ∷ []

pub area-cases : Agreed areas
unfolding areas
area-cases = refl
