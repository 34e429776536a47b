-- How far a list of numbers has been written, which grows at its end: semantics/specs/Written.antt has the whole.
use Rattle.std.specs.Prelude.{ℕ, zero, suc, ◌≡◌, List, [], ◌∷◌, ◌++◌, length}
use Rattle.semantics.specs.Written.{written}
pub mod Laws

-- the place behind the list's numbers in an area of n; n itself where it is full
unfoldable pub reached : ℕ → List ℕ → ℕ
reached zero ns = 0
reached (suc n) [] = 0
reached (suc n) (x ∷ ns) = suc (reached n ns)

-- the area holds the list, and the next number belongs at this place
pub record Filled (area : List ℕ) (at : ℕ) (ns : List ℕ) : Type 0 where
  pub words : area ≡ written (length area) ns
  pub place : at ≡ reached (length area) ns

-- whatever list an area held, it then holds these numbers behind it
abbrev pub Adds : List ℕ → ℕ → List ℕ → ℕ → List ℕ → Type 0
Adds before from after to more = (ns : List ℕ) → Filled before from ns → Filled after to (ns ++ more)
