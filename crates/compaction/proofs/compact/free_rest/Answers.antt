-- `free_rest`: the part that is lent comes back as zeros, then one word is stored.
use Rattle.semantics.specs.Limits.{base}
use Rattle.compaction.specs.Moves.Laws.{freed-part}
use Rattle.compaction.proofs.compact.free_rest.Goals as goal

pub returns : goal.returns
returns c = let a = c.args in freed-part base a.live c.number-used.result a.words.now c.zero.new.area c.number-used.ensures.0 c.requires.0 c.requires.1 c.zero.ensures
