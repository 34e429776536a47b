-- `unmarked` meets its contract: a word below the mark is the count itself.
use native.Mathlib.Omega.{arith}
use borrow.Author.Tests.{lt-ltb, le-ltb}
use Rattle.semantics.specs.Limits.{slot_length}
use Rattle.reply.proofs.lists.unmarked.Goals as goal

pub returns-then-word-lt-MARK : goal.returns-then-word-lt-MARK
returns-then-word-lt-MARK c =
    rw (lt-ltb c.args.word slot_length (omega (arith, c.if-word-lt-MARK.true)))

pub returns-else-word-lt-MARK : goal.returns-else-word-lt-MARK
returns-else-word-lt-MARK c =
    rw (le-ltb c.args.word slot_length (omega (arith, c.if-word-lt-MARK.false)))
