-- Luhn's sum, one character after another from the right; the form, one after another from the left.
-- Serves document 02, order 11.
use Rattle.std.specs.Prelude.{ℕ, ◌+◌, ◌≤◌, ◌<◌, ◌≡◌, refl, Bool, true, false, List, [], ◌∷◌, ◌++◌, leb, length, get_or, drop}
use Rattle.std.proofs.Common.{append_assoc, append-nil, arith, add-one, sym, ap, ◌∙◌, drop_of_length-le, drop-cons, leb-true}
use Rattle.semantics.specs.Lists.{and}
use Rattle.semantics.specs.Lists.Laws.{and-true}
use Rattle.semantics.specs.Isin.{is_digit, may_stand, in_form, digits, luhn}
use Rattle.semantics.specs.Isin.Laws.{with_character, luhn-more}
use Rattle.flow_directory.specs.declared.isin.Sum.{Sum}
use Rattle.flow_directory.specs.Sums.{sum_of, Grown, Summed}

-- a digit's byte
pub digit-bounds : (c : ℕ) → is_digit c ≡ true → (48 ≤ c) × (c ≤ 57)
digit-bounds c h = let k = and-true (leb 48 c) (leb c 57) h in (leb-true 48 c k.0, leb-true c 57 k.1)

-- no character yet; one more on the left; all
pub summed-none : (cs rest : List ℕ) → rest ≡ cs → Summed cs rest (record { total = 0; doubled = false })
unfolding luhn digits
summed-none cs rest e = record { done = []; whole = append-nil rest ∙ e; most = omega arith; sum = refl }

pub summed-more : (cs : List ℕ) (x : ℕ) {rest left : List ℕ} {s t : Sum} → (v : Summed cs rest s) → rest ≡ left ++ (x ∷ []) → sum_of t ≡ with_character (sum_of s) x → Grown 100 s t → Summed cs left t
summed-more cs x {rest} {left} {s} {t} v e h g = record {
  done = x ∷ v.done;
  whole = sym (append_assoc left (x ∷ []) v.done) ∙ ap (λ (l : List ℕ). l ++ v.done) (sym e) ∙ v.whole;
  most = omega (arith, v.most, g);
  sum = h ∙ ap (λ (y : ℕ × Bool). with_character y x) v.sum ∙ sym (luhn-more x v.done);
}

pub summed-all : (cs : List ℕ) {rest : List ℕ} {s : Sum} → (v : Summed cs rest s) → rest ≡ [] → s.total ≡ (luhn (digits cs)).0
summed-all cs v e = ap (λ (y : ℕ × Bool). y.0) v.sum ∙ ap (λ (l : List ℕ). (luhn (digits l)).0) (ap (λ (l : List ℕ). l ++ v.done) (sym e) ∙ v.whole)

pub form-more : (cs : List ℕ) (i : ℕ) → i < length cs → in_form i (drop i cs) ≡ and (may_stand i (get_or cs i 0)) (in_form (i + 1) (drop (i + 1) cs))
unfolding in_form
form-more cs i h = rw add-one (ap (in_form i) (drop-cons cs i 0 h))

pub form-end : (cs : List ℕ) (i : ℕ) → length cs ≤ i → in_form i (drop i cs) ≡ true
unfolding in_form
form-end cs i h = rw (drop_of_length-le cs h) refl
