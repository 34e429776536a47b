-- One part written behind another, and the numbers that code writes by halves.
-- Serves document 02, order 3.
use Rattle.std.specs.Prelude.{ℕ, ◌+◌, ◌≤◌, ◌/◌, ◌%◌, ◌≡◌, refl, List, [], ◌∷◌, ◌++◌, length}
use Rattle.std.proofs.Common.{arith, ap₂, ◌∙◌, length-append}
use Rattle.semantics.specs.Bytes.Placed.{put, put-put}
use Rattle.semantics.specs.Bytes.Written.{be}
use Rattle.semantics.specs.Halves.{low_word}

-- the part p, of n bytes, is written at a place of o, and that is x
pub record Wrote (at n : ℕ) (p o x : List ℕ) : Type 0 where
  pub is : x ≡ put at p o
  pub size : length p ≡ n

pub wrote : (at n : ℕ) (p : List ℕ) {o x : List ℕ} → x ≡ put at p o → length p ≡ n → Wrote at n p o x
wrote at n p e l = record { is = e; size = l }

-- and the part q behind it
pub wrote_then : {at n : ℕ} {p o x : List ℕ} → Wrote at n p o x → (b m : ℕ) (q : List ℕ) {y : List ℕ} → y ≡ put b q x → b ≡ at + n → length q ≡ m → b + m ≤ length o → Wrote at (n + m) (p ++ q) o y
wrote_then {at} {n} {p} {o} {x} w b m q {y} e k l h =
    record {
      is = e ∙ ap₂ (λ (i : ℕ) (z : List ℕ). put i q z) k w.is ∙ put-put at n p q o w.size (omega arith);
      size = length-append p q ∙ (λ i. w.size i + l i);
    }

pub be-one : (x : ℕ) → be 1 x ≡ x % 256 ∷ []
unfolding be
be-one x = refl

pub two-ones : (x : ℕ) → be 1 (x / 256) ++ be 1 x ≡ be 2 x
unfolding be
two-ones x = refl

-- four bytes hold the low word of a number
pub be-low : (x : ℕ) → be 4 (low_word x) ≡ be 4 x
unfolding be
be-low x =
    let a : low_word x / 256 / 256 / 256 % 256 ≡ x / 256 / 256 / 256 % 256 = omega arith in
    let b : low_word x / 256 / 256 % 256 ≡ x / 256 / 256 % 256 = omega arith in
    let c : low_word x / 256 % 256 ≡ x / 256 % 256 = omega arith in
    let d : low_word x % 256 ≡ x % 256 = omega arith in
    λ i. a i ∷ b i ∷ c i ∷ d i ∷ []
