-- `storage::refs::node_fits`: the kind's word decides whether there is anything to test.
use mathlib.Core.Path.{sym, ap₂, ◌∙◌}
use borrow.Author.Tests.{eq-eqb, ne_eqb}
use Prim.Native.Nat.{ℕ}
use Rattle.semantics.specs.Acceptance.{exported_in}
use Rattle.semantics.specs.Graph.{view_of}
use Rattle.storage.specs.References.Laws.{fits-at}
use Rattle.storage.proofs.refs.node_fits.Goals as goal

pub returns-then-word-ne-PUSH_SCOPED : goal.returns-then-word-ne-PUSH_SCOPED
returns-then-word-ne-PUSH_SCOPED c =
    let a = c.args in
    λ g k. sym (fits-at g a.index.now k a.n ∙ simp (ne_eqb _ 6 (λ e. c.if-word-ne-PUSH_SCOPED.true (c.word.ensures ∙ e))))

pub returns : goal.returns
returns c =
    let a = c.args in
    λ g k. c.exported_in.ensures g k ∙ ap₂ (λ (f s : ℕ). exported_in f ((view_of g).node s)) c.word-2.ensures c.word-3.ensures
    ∙ sym (fits-at g a.index.now k a.n ∙ simp (eq-eqb _ 6 (sym c.word.ensures ∙ c.if-word-ne-PUSH_SCOPED.false)))
