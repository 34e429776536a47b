-- Slots in ascending order, as breadth-first search tends to keep them: shorter before longer ones, and those of one length by their edges' numbers.
-- Serves document 01, "Answer": "`from_complete` drops copies"; where each slot comes before the next one, there are none.
use Rattle.std.specs.Prelude.{ℕ, ◌+◌, ◌<◌, ◌≡◌, ◌⊎◌, List, [], ◌∷◌}
use Rattle.words.specs.Slots.{slot_at}
pub mod ByPlace
pub mod Laws

-- the first word in which they differ is less
abbrev pub Ahead : List ℕ → List ℕ → Type 0
Ahead [] m = ⊥
Ahead (x ∷ l) [] = ⊥
Ahead (x ∷ l) (y ∷ m) = (x < y) ⊎ ((x ≡ y) × Ahead l m)

-- of the first n slots each comes before the next one
abbrev pub Ascending : ℕ → ℕ → List ℕ → Type 0
Ascending L n ws = (i : ℕ) → i + 1 < n → Ahead (slot_at L i ws) (slot_at L (i + 1) ws)
