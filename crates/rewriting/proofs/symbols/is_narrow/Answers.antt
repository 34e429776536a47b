-- `rewriting::symbols::is_narrow`: four bytes hold a word.
use Rattle.std.proofs.Common.{rules}
use Rattle.semantics.specs.Bytes.Written.{room}
use Rattle.rewriting.proofs.symbols.is_narrow.Goals as goal

pub returns : goal.returns
unfolding room
returns c = search rules
