-- Luhn's sum from a place on. Serves document 02, order 11.
use Rattle.std.specs.Prelude.{ℕ, suc, ◌-◌, ◌≤◌, ◌<◌, ◌≡◌, refl, false, List, length, get_or, drop}
use Rattle.std.proofs.Common.{arith, sym, ap, ◌∙◌, drop_of_length-le, drop-cons}
use Rattle.semantics.specs.Isin.{digits, luhn}
use Rattle.semantics.specs.Isin.Laws.{with_character, luhn-more}

-- behind the last character the sum is that of none
pub luhn-none : (cs : List ℕ) (i : ℕ) → length cs ≤ i → (0, false) ≡ luhn (digits (drop i cs))
unfolding luhn digits
luhn-none cs i h = rw (drop_of_length-le cs h) refl

pub luhn-back : (cs : List ℕ) (i : ℕ) → 0 < i → i ≤ length cs → with_character (luhn (digits (drop i cs))) (get_or cs (i - 1) 0) ≡ luhn (digits (drop (i - 1) cs))
luhn-back cs i h k =
    let z : suc (i - 1) ≡ i = omega arith in
    ap (λ (j : ℕ). with_character (luhn (digits (drop j cs))) (get_or cs (i - 1) 0)) (sym z)
    ∙ sym (luhn-more (get_or cs (i - 1) 0) (drop (suc (i - 1)) cs))
    ∙ ap (λ (l : List ℕ). luhn (digits l)) (sym (drop-cons cs (i - 1) 0 (omega arith)))
