-- A number and its two words say the same.
-- Serves document 02, order 3.
use Rattle.std.specs.Prelude.{ℕ, ◌<◌, ◌≡◌}
use Rattle.std.proofs.Common.{arith, sym, ◌∙◌}
use Rattle.semantics.specs.Halves.{word_room, joined, low_word, high_word}

-- taken apart and joined again
pub joined-halves : (x : ℕ) → joined (low_word x) (high_word x) ≡ x
joined-halves x = omega arith

pub halves-alike : (x y : ℕ) → high_word x ≡ high_word y → low_word x ≡ low_word y → x ≡ y
halves-alike x y h l = sym (joined-halves x) ∙ (λ i. joined (l i) (h i)) ∙ joined-halves y

-- joined and taken apart again
pub low-joined : (low high : ℕ) → low < word_room → low_word (joined low high) ≡ low
low-joined low high h = omega arith

pub high-joined : (low high : ℕ) → low < word_room → high_word (joined low high) ≡ high
high-joined low high h = omega arith
