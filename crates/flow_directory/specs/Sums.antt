-- Luhn's sum as the code holds it.
-- Document 02, order 11.
use Rattle.std.specs.Prelude.{ℕ, ◌+◌, ◌*◌, ◌≤◌, ◌≡◌, Bool, List, ◌++◌, length}
use Rattle.semantics.specs.Isin.{digits, luhn}
use Rattle.flow_directory.specs.declared.isin.Sum.{Sum}
pub mod ByPlace
pub mod Laws

abbrev pub sum_of : Sum → ℕ × Bool
sum_of s = (s.total, s.doubled)

-- by at most so much
abbrev pub Grown : ℕ → Sum → Sum → Type 0
Grown most s t = t.total ≤ s.total + most

-- it is the sum of the characters behind these
pub record Summed (cs rest : List ℕ) (s : Sum) : Type 0 where
  pub done : List ℕ
  pub whole : rest ++ done ≡ cs
  pub most : s.total ≤ 100 * length done
  pub sum : sum_of s ≡ luhn (digits done)
