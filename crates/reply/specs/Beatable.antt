-- When an edge beats another of the same source: by a greater precedence.
-- Document 01, "Path": "Different sources: no. Left precedence greater: yes."
use Rattle.std.specs.Prelude.{ℕ, ◌≡◌, Bool, false, List, ℤ}
use Rattle.std.specs.Int.Signed.{lt_z}
use Rattle.semantics.specs.declared.graph.Edge.{Edge}
use Rattle.semantics.specs.declared.graph.Edge.TheVariants as E
use Rattle.storage.specs.Index.{edge_row}
pub mod Laws

-- is it a live edge of a greater precedence
abbrev pub exceeds : ℤ → Edge → Bool
exceeds p E.Removed = false
exceeds p (E.Live s t q) = lt_z p q

-- a precedence that edge a does not exceed, edge b does not exceed either
abbrev pub AsGreat : List ℕ → ℕ → ℕ → Type 0
AsGreat index a b = (p : ℤ) → exceeds p (edge_row index a) ≡ false → exceeds p (edge_row index b) ≡ false
