-- `rewriting::symbols::count_symbols`: the count is that of the nodes passed so far.
use Rattle.std.proofs.Common.{◌≡◌, ◌≤◌}
use Rattle.semantics.specs.Image.Encoding.{symbols_in}
use Rattle.rewriting.specs.Held.{nodes_in}
use Rattle.rewriting.proofs.symbols.count_symbols.Given as goal

abbrev pub invariant-loop-n : goal.invariant-loop-n
invariant-loop-n l = (l.count ≤ l.n) × (l.count ≡ symbols_in (nodes_in l.index l.n))
