-- Luhn's sum, one character after another from the right.
-- Serves document 02, order 11.
use Rattle.std.specs.Prelude.{ℕ, ◌-◌, ◌/◌, ◌%◌, ◌≡◌, refl, Bool, true, false, List, ◌∷◌}
use Rattle.semantics.specs.Lists.{pick}
use Rattle.semantics.specs.Isin.{is_digit, letter, onward, digits, luhn}

-- the sum with a character more on the left: a digit as it is, a letter as two
abbrev pub with_character : ℕ × Bool → ℕ → ℕ × Bool
with_character s c = pick (is_digit c) (onward s (c - 48)) (onward (onward s (letter c % 10)) (letter c / 10))

pub luhn-more : (c : ℕ) (cs : List ℕ) → luhn (digits (c ∷ cs)) ≡ with_character (luhn (digits cs)) c
unfolding luhn digits
luhn-more c cs = on (is_digit c)
  where
    on : (b : Bool) → luhn (pick b ((c - 48) ∷ digits cs) ((letter c / 10) ∷ (letter c % 10) ∷ digits cs)) ≡ pick b (onward (luhn (digits cs)) (c - 48)) (onward (onward (luhn (digits cs)) (letter c % 10)) (letter c / 10))
    on true = refl
    on false = refl
