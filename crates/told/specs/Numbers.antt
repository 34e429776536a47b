-- The numbers that a refusal is told by, as the table in semantics/specs/Told.antt lists them.
use Rattle.std.specs.Prelude.{ℕ, List, [], ◌∷◌, take}
use Rattle.told.specs.declared.refusal.Told.{Told}

-- the number and the values, as many as are counted
abbrev pub numbers_of : Told → List ℕ
numbers_of t = take t.count (t.number ∷ t.first ∷ t.second ∷ [])
