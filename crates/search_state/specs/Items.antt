-- The path under expansion as the words of a slot, and one more edge stored behind its own.
-- Document 01, "Answer": a slot has "edge count, edges, zeros .. Waiting paths are held likewise".
use Rattle.std.specs.Prelude.{ℕ, suc, ◌+◌, ◌-◌, ◌<◌, ◌≡◌, List, [], ◌∷◌, ◌++◌, length, take, drop, set}
use Rattle.semantics.specs.Limits.{slot_length}
use Rattle.semantics.specs.Words.{zeros, encode}
pub mod Laws

-- behind k edges one more
abbrev pub with_edge : List ℕ → ℕ → ℕ → List ℕ
with_edge item k e = set (set item 0 (k + 1)) (k + 1) e

-- behind so many words the item is zeros
abbrev pub Clear : ℕ → List ℕ → Type 0
Clear L item = drop L item ≡ zeros (slot_length - L)

-- the words hold the path with these edges, and perhaps one edge that was tried behind them
pub record Carries (L : ℕ) (item es : List ℕ) : Type 0 where
  pub long : length item ≡ L
  pub edges : take (length es) (drop 1 item) ≡ es
  pub grows : (e : ℕ) → suc (length es) < L → with_edge item (length es) e ≡ encode L (es ++ (e ∷ []))
