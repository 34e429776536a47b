-- Tests and selections on lists of numbers, as far as the other definitions use them.
-- Renders no part of document 01 by itself.
use Rattle.std.specs.Prelude.{ℕ, ◌+◌, ◌≡◌, Bool, true, false, List, [], ◌∷◌, eqb}
pub mod Laws

abbrev pub or : Bool → Bool → Bool
or true b = true
or false b = b

abbrev pub and : Bool → Bool → Bool
and true b = b
and false b = false

-- the first where the test holds, else the second
abbrev pub pick {ℓ} : {A : Type ℓ} → Bool → A → A → A
pick true a b = a
pick false a b = b

abbrev pub cons_if {ℓ} : {A : Type ℓ} → Bool → A → List A → List A
cons_if true a l = a ∷ l
cons_if false a l = l

-- is the number in the list
unfoldable pub has : ℕ → List ℕ → Bool
has n [] = false
has n (x ∷ xs) = or (eqb n x) (has n xs)

-- have the lists a number in common
unfoldable pub shares : List ℕ → List ℕ → Bool
unfolding has
shares [] l = false
shares (x ∷ xs) l = or (has x l) (shares xs l)

-- are the lists equal
unfoldable pub same : List ℕ → List ℕ → Bool
same [] [] = true
same [] (y ∷ ys) = false
same (x ∷ xs) [] = false
same (x ∷ xs) (y ∷ ys) = and (eqb x y) (same xs ys)

unfoldable pub select : (ℕ → Bool) → List ℕ → List ℕ
select b [] = []
select b (x ∷ xs) = cons_if (b x) x (select b xs)

-- no number stands twice
abbrev pub Distinct : List ℕ → Type 0
Distinct [] = Unit {0}
Distinct (x ∷ xs) = (has x xs ≡ false) × Distinct xs

-- the sum of numbers
unfoldable pub total : List ℕ → ℕ
total [] = 0
total (n ∷ ns) = n + total ns
