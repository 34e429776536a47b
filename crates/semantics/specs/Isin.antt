-- The form of an ISIN and its check digit, by ISO 6166, over the bytes of its characters.
-- Document 02, order 11: "letters become 10 to 35, digits are written out, and Luhn's rule is applied".
use Rattle.std.specs.Prelude.{ℕ, suc, ◌+◌, ◌-◌, ◌*◌, ◌/◌, ◌%◌, Bool, true, false, not, List, [], ◌∷◌, eqb, leb, ltb, length}
use Rattle.semantics.specs.Lists.{or, and, pick}
use Rattle.semantics.specs.Limits.{isin_bytes}
pub mod Laws

-- THE FORM

-- 0 to 9
abbrev pub is_digit : ℕ → Bool
is_digit c = and (leb 48 c) (leb c 57)

-- A to Z
abbrev pub is_capital : ℕ → Bool
is_capital c = and (leb 65 c) (leb c 90)

-- what may stand at place i: two capitals, nine capitals or digits, a digit
abbrev pub may_stand : ℕ → ℕ → Bool
may_stand i c = pick (ltb i 2) (is_capital c) (pick (ltb i 11) (or (is_capital c) (is_digit c)) (is_digit c))

-- from place i on
unfoldable pub in_form : ℕ → List ℕ → Bool
in_form i [] = true
in_form i (c ∷ cs) = and (may_stand i c) (in_form (suc i) cs)

-- THE CHECK DIGIT

-- A is 10 and Z is 35: 65 is the byte of A
abbrev pub letter : ℕ → ℕ
letter c = c - 55

-- digits as they are, letters written out as two digits
unfoldable pub digits : List ℕ → List ℕ
digits [] = []
digits (c ∷ cs) = pick (is_digit c) ((c - 48) ∷ digits cs) ((letter c / 10) ∷ (letter c % 10) ∷ digits cs)

-- twice a digit, its digits summed
abbrev pub doubled : ℕ → ℕ
doubled d = pick (ltb 4 d) (2 * d - 9) (2 * d)

-- Luhn's sum from the right, and whether the next digit to the left is one of those that are doubled: every second is, the last digit is not
abbrev pub onward : ℕ × Bool → ℕ → ℕ × Bool
onward s d = (s.0 + pick s.1 (doubled d) d, not s.1)

unfoldable pub luhn : List ℕ → ℕ × Bool
luhn [] = (0, false)
luhn (d ∷ ds) = onward (luhn ds) d

-- the check digit is right where the sum ends in 0
abbrev pub is_checked : List ℕ → Bool
is_checked cs = eqb ((luhn (digits cs)).0 % 10) 0

-- AN ISIN: twelve characters of the form, and the check digit
unfoldable pub is_isin : List ℕ → Bool
unfolding in_form digits luhn
is_isin cs = and (eqb (length cs) isin_bytes) (and (in_form 0 cs) (is_checked cs))
