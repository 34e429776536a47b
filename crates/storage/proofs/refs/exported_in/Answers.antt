-- `storage::refs::exported_in`: the words of the node, against the definition on the graph that the index holds.
use mathlib.Core.Path.{sym, ap, ◌∙◌}
use borrow.Author.Tests.{eq-eqb, ne_eqb}
use lib.Dec.{eqb}
use Prim.Native.Nat.{ℕ}
use Rattle.storage.specs.References.Laws.{exported-at}
use Rattle.storage.proofs.refs.exported_in.Goals as goal

pub returns-then-word-ne-SCOPE : goal.returns-then-word-ne-SCOPE
returns-then-word-ne-SCOPE c =
    let a = c.args in
    λ g k. sym (exported-at g a.index.now k a.file a.n ∙ simp (ne_eqb _ 3 (λ e. c.if-word-ne-SCOPE.true (c.word.ensures ∙ e))))

pub returns-then-word-ne1 : goal.returns-then-word-ne1
returns-then-word-ne1 c =
    let a = c.args in
    λ g k. sym (exported-at g a.index.now k a.file a.n ∙ simp (eq-eqb _ 3 (sym c.word.ensures ∙ c.if-word-ne-SCOPE.false), ne_eqb _ 1 (λ e. c.if-word-ne1.true (c.word-2.ensures ∙ e))))

pub returns : goal.returns
returns c =
    let a = c.args in
    λ g k.
    sym (exported-at g a.index.now k a.file a.n
    ∙ simp (
      eq-eqb _ 3 (sym c.word.ensures ∙ c.if-word-ne-SCOPE.false),
      eq-eqb _ 1 (sym c.word-2.ensures ∙ c.if-word-ne1.false),
    ) (ap (λ (f : ℕ). eqb f a.file) (sym c.word-3.ensures)))
