-- `storage::store::is_of_file`: a kind that has a file, and the file's word.
use mathlib.Core.Path.{sym, ap, ◌∙◌}
use borrow.Author.Tests.{lt-ltb, le-ltb}
use lib.Dec.{eqb}
use Prim.Native.Nat.{ℕ}
use Rattle.storage.specs.Index.Laws.{file-row}
use Rattle.storage.proofs.store.is_of_file.Goals as goal

pub returns-then-kind-lt-SCOPE : goal.returns-then-kind-lt-SCOPE
returns-then-kind-lt-SCOPE c =
    let a = c.args in let w = c.word-kind in
    sym (file-row a.index.now a.n.0 a.file ∙ simp (← w.ensures, lt-ltb w.result 3 c.if-kind-lt-SCOPE.true))

pub returns-then-kind-gt-DROP_SCOPES : goal.returns-then-kind-gt-DROP_SCOPES
returns-then-kind-gt-DROP_SCOPES c =
    let a = c.args in let w = c.word-kind in
    sym (file-row a.index.now a.n.0 a.file ∙ simp (← w.ensures, le-ltb w.result 3 c.if-kind-lt-SCOPE.false, lt-ltb 8 w.result c.if-kind-gt-DROP_SCOPES.true))

pub returns : goal.returns
returns c =
    let a = c.args in let w = c.word-kind in
    sym (file-row a.index.now a.n.0 a.file ∙ simp (← w.ensures, le-ltb w.result 3 c.if-kind-lt-SCOPE.false, le-ltb 8 w.result c.if-kind-gt-DROP_SCOPES.false) (ap (λ (f : ℕ). eqb f a.file) (sym c.word.ensures)))
