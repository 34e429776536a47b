-- `rewriting::symbols::first_wide`: every symbol passed so far fits.
use Rattle.std.proofs.Common.{◌≡◌, ℕ, ◌<◌, true}
use Rattle.semantics.specs.Image.Encoding.{symbol_fits}
use Rattle.storage.specs.Index.{node_row}
use Rattle.rewriting.proofs.symbols.first_wide.Given as goal

abbrev pub invariant-loop-n : goal.invariant-loop-n
invariant-loop-n l = (j : ℕ) → j < l.n → symbol_fits 4 (node_row l.index j) ≡ true
