-- A list of numbers in an area that the caller lends: how the exported calls leave an answer, and a replayed path.
use Rattle.std.specs.Prelude.{ℕ, zero, suc, List, [], ◌∷◌}

-- n numbers: those of the list, as many as fit, and zeros behind them
unfoldable pub written : ℕ → List ℕ → List ℕ
written zero ns = []
written (suc n) [] = 0 ∷ written n []
written (suc n) (x ∷ ns) = x ∷ written n ns
