-- What is printed of the cases, as bytes.
use Rattle.std.specs.Prelude.{ℕ, zero, suc, ◌+◌, ◌*◌, List, [], ◌∷◌, ◌++◌, codes, decimal, slice_index, slice_index_or}
use Rattle.case_list.specs.Numbers.{long_at}

-- a name, then a number
abbrev pub named : List ℕ → ℕ → List ℕ
named name number = name ++ decimal number

-- the kinds' names, in the order of their numbers
abbrev pub kind_names : List (List ℕ)
kind_names =
    codes "images" ∷ codes "replays" ∷ codes "complete" ∷ codes "shadows"
    ∷ codes "direct" ∷ codes "direct recorded" ∷ codes "linear" ∷ codes "linear recorded"
    ∷ codes "fresh" ∷ codes "replaced" ∷ codes "lookups" ∷ codes "stitched" ∷ []

abbrev pub kind_name : ℕ → List ℕ
kind_name kind = slice_index_or kind_names kind (codes "stitched recorded")

-- of a kind, how many cases there are and how many answers differ
abbrev pub sums_line : ℕ → ℕ → ℕ → List ℕ
sums_line kind cases differences = kind_name kind ++ named (codes " ") cases ++ named (codes " different ") differences ++ codes "\n"

-- the sums of the first kinds, of each its cases and its differences
abbrev pub sums_lines : List ℕ → ℕ → List ℕ
sums_lines sums zero = []
sums_lines sums (suc n) = sums_lines sums n ++ sums_line n (slice_index sums (2 * n)) (slice_index sums (2 * n + 1))

-- the first words, each behind a space
abbrev pub given_words : List ℕ → ℕ → List ℕ
given_words words zero = []
given_words words (suc n) = given_words words n ++ named (codes " ") (slice_index words n)

-- the numbers from a place on, each behind a space
abbrev pub expected_words : List ℕ → ℕ → ℕ → List ℕ
expected_words case from zero = []
expected_words case from (suc n) = expected_words case from n ++ named (codes " ") (long_at case (from + 4 * n))

-- a difference: a kind, a case's number, and the words that were expected and given
abbrev pub difference_line : ℕ → ℕ → List ℕ → List ℕ → List ℕ
difference_line kind number expected given =
    kind_name kind ++ named (codes " case ") number ++ codes " expected" ++ expected ++ codes " given" ++ given ++ codes "\n"
