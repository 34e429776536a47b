-- The end of a search: paths in the result area, before and after copies and shadowed paths are dropped.
-- Document 01, "Answer": `from_complete`.
use Rattle.std.specs.Prelude.{ℕ, ◌≡◌, List, length}
use Rattle.semantics.specs.Words.{area}
use Rattle.semantics.specs.Path.{Path}
use Rattle.semantics.specs.Recorded.{edge_lists}
pub mod Laws

-- these n paths stand in the first slots of the result area, and zeros behind them
pub record Stand (L n : ℕ) (rs : List ℕ) (ps : List Path) : Type 0 where
  pub words : rs ≡ area L (length rs) (edge_lists ps)
  pub count : n ≡ length ps
