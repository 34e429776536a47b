-- An answer is a value or a refusal. Renders no part of document 01 by itself; which number a refusal has stands in Told.
use Rattle.std.specs.Prelude.{Bool, true, false}
pub mod Laws

pub data Answer {ℓ} (R : Type 0) (A : Type ℓ) : Type ℓ where
  ok : A → Answer R A
  refuse : R → Answer R A

-- go on with what was answered, or hand the refusal on
abbrev pub and_then {ℓ κ} : {R : Type 0} {A : Type ℓ} {B : Type κ} → Answer R A → (A → Answer R B) → Answer R B
and_then (ok a) k = k a
and_then (refuse r) k = refuse r

-- the value where the test holds, else the refusal
unfoldable pub ok_if {ℓ} : {R : Type 0} {A : Type ℓ} → Bool → R → A → Answer R A
ok_if true r a = ok a
ok_if false r a = refuse r

-- the refusal as a case of a wider one
abbrev pub wrap {ℓ} : {R S : Type 0} {A : Type ℓ} → (R → S) → Answer R A → Answer S A
wrap f (ok a) = ok a
wrap f (refuse r) = refuse (f r)
