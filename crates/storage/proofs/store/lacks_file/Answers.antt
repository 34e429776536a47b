-- `storage::store::lacks_file`: a kind that has none.
use mathlib.Core.Path.{sym, ◌∙◌}
use borrow.Author.Tests.{lt-ltb, le-ltb}
use Rattle.storage.specs.Index.Laws.{fileless-row}
use Rattle.storage.proofs.store.lacks_file.Goals as goal

pub returns-then-kind-lt-SCOPE : goal.returns-then-kind-lt-SCOPE
returns-then-kind-lt-SCOPE c =
    let a = c.args in let w = c.word-kind in
    sym (fileless-row a.index.now a.n.0 ∙ simp (← w.ensures, lt-ltb w.result 3 c.if-kind-lt-SCOPE.true))

pub returns : goal.returns
returns c =
    let a = c.args in let w = c.word-kind in
    sym (fileless-row a.index.now a.n.0 ∙ simp (← w.ensures, le-ltb w.result 3 c.if-kind-lt-SCOPE.false))
