-- `fresh::create`: too few words, or zeros and the words in front.
use mathlib.Core.Path.{ap, ◌∙◌}
use mathlib.Core.List.{List}
use Prim.Native.Nat.{ℕ}
use native.Mathlib.Omega.{arith}
use Rattle.database.specs.Filing.{headed}
use Rattle.database.specs.Fresh.{created-short, created-done}
use Rattle.database.proofs.fresh.create.Goals as goal

pub returns-then-words-lt-FIRST_RECORD : goal.returns-then-words-lt-FIRST_RECORD
returns-then-words-lt-FIRST_RECORD c = λ g n f. created-short g c.args.words.now (omega arith)

pub returns : goal.returns
returns c =
    let a = c.args in
    λ g n f. created-done a.nodes a.files g a.words.now c.store_header.new.words n f (omega arith)
    (c.store_header.ensures ∙ ap (λ (l : List ℕ). headed 0 a.nodes a.files l) c.zero.ensures)
