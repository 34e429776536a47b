-- `check::well_formed`: under 3 words, used above capacity, then the records.
use mathlib.Core.Path.{sym, ◌∙◌}
use native.Mathlib.Omega.{arith}
use Rattle.database.specs.Records.{bounded}
use Rattle.semantics.specs.Database.{known_owners}
use Rattle.database.specs.Checks.Laws.{formed-short, formed-over, formed-rest, whole}
use Rattle.database.proofs.check.well_formed.Goals as goal

pub returns-then-words-lt-FIRST_RECORD : goal.returns-then-words-lt-FIRST_RECORD
returns-then-words-lt-FIRST_RECORD c = sym (formed-short (bounded c.args.most) known_owners c.args.words.now (omega arith))

pub returns-then-capacity-number : goal.returns-then-capacity-number
returns-then-capacity-number c = sym (formed-over (bounded c.args.most) known_owners c.args.words.now (omega arith))

pub all_sound-requires : goal.all_sound-requires
all_sound-requires c = whole (bounded c.args.most) known_owners c.args.words.now (omega arith) (omega arith)

pub returns : goal.returns
returns c = c.all_sound.ensures ∙ sym (formed-rest (bounded c.args.most) known_owners c.args.words.now (omega arith) (omega arith))
