-- How the printed lines grow.
use Rattle.std.proofs.Common.{◌≡◌, ℕ, ◌+◌, ◌*◌, List, ◌++◌, ◌∙◌, ap, refl}
use Rattle.std.specs.Prelude.{zero, suc, min, [], ◌∷◌, length, codes, slice_index, slice_index_or, Option, Result, Ok, Err, OnOk}
use Rattle.std.specs.Io.KnownBytes.{Appends}
use Rattle.std.proofs.KnownBytes.{Appends-trans}
use Rattle.std.proofs.Math.Nat.{zero-min, suc-min-suc}
use Rattle.std.proofs.Math.Numerals.{suc-eq-add-one}
use Rattle.case_list.specs.Numbers.{long_at}
use Rattle.case_list.specs.declared.kinds.Kind.{Kind}
use Rattle.case_list.specs.Kinds.{number_of, IsNumbered}
use Rattle.case_list.specs.Lines.{named, kind_names, kind_name, sums_line, sums_lines, given_words, expected_words}

-- behind the last of some names each place has the default
kept_within : (names : List (List ℕ)) (n : ℕ) (default : List ℕ) → slice_index_or names (min n (length names)) default ≡ slice_index_or names n default
kept_within [] n default = refl
kept_within (x ∷ names) zero default = ap (λ k. slice_index_or (x ∷ names) k default) (zero-min (length (x ∷ names)))
kept_within (x ∷ names) (suc n) default = ap (λ k. slice_index_or (x ∷ names) k default) (suc-min-suc n (length names)) ∙ kept_within names n default

-- the kind that a number stands for has that number's name
pub name_of : (n : ℕ) (k : Kind) → IsNumbered n k → kind_name (number_of k) ≡ kind_name n
name_of n k h = ap kind_name h ∙ kept_within kind_names n (codes "stitched recorded")

pub sums_more : (sums : List ℕ) (n k x y : ℕ) → k ≡ n → x ≡ slice_index sums (2 * n) → y ≡ slice_index sums (2 * n + 1) → sums_lines sums n ++ sums_line k x y ≡ sums_lines sums (n + 1)
sums_more sums n k x y h p q =
    ap (λ z. sums_lines sums n ++ sums_line z x y) h
    ∙ ap (λ z. sums_lines sums n ++ sums_line n z y) p ∙ ap (λ z. sums_lines sums n ++ sums_line n (slice_index sums (2 * n)) z) q
    ∙ ap (sums_lines sums) (suc-eq-add-one n)

pub given_more : (words : List ℕ) (n x : ℕ) → x ≡ slice_index words n → given_words words n ++ named (codes " ") x ≡ given_words words (n + 1)
given_more words n x p = ap (λ z. given_words words n ++ named (codes " ") z) p ∙ ap (given_words words) (suc-eq-add-one n)

pub expected_more : (case : List ℕ) (from n x : ℕ) → x ≡ long_at case (from + 4 * n) → expected_words case from n ++ named (codes " ") x ≡ expected_words case from (n + 1)
expected_more case from n x p = ap (λ z. expected_words case from n ++ named (codes " ") z) p ∙ ap (expected_words case from) (suc-eq-add-one n)

-- what a last call writes stands behind what was written before it
pub last_written : {T E : Type 0} (r : Result T E) (a b c : Option (List ℕ)) (bs cs : List ℕ) → Appends a b bs → OnOk r (Appends b c cs) → OnOk r (Appends a c (bs ++ cs))
last_written (Ok _) a b c bs cs p q = Appends-trans a b c bs cs p q
last_written (Err _) a b c bs cs p q = q
