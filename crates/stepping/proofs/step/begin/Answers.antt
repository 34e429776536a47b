use mathlib.Core.Path.{sym, ap, ap₂, ◌∙◌}
use Rattle.semantics.specs.declared.graph.Node.{Node}
use Rattle.semantics.specs.Graph.{traits, is_reference, is_exported}
use Rattle.storage.specs.Index.{node_row}
use Rattle.semantics.specs.declared.replayed.Step.{Step}
use Rattle.stepping.specs.Steps.{asked_scope, applied_of}
use Rattle.stepping.specs.Judged.{begun_of}
use Rattle.stepping.proofs.step.begin.Goals as goal

pub returns-then-is_removed : goal.returns-then-is_removed
unfolding begun_of
returns-then-is_removed c = simp (sym (c.is_removed.ensures ∙ ap (λ (n : Node). (traits n).removed) c.node-node.ensures) ∙ c.if-is_removed.true)

pub returns-then-is_reference : goal.returns-then-is_reference
unfolding begun_of
returns-then-is_reference c =
    let node = c.node-node in
    let a = c.args in
    simp (
      sym (c.is_removed.ensures ∙ ap (λ (n : Node). (traits n).removed) node.ensures)
          ∙ c.if-is_removed.false,
      sym (c.is_reference.ensures ∙ ap is_reference node.ensures) ∙ c.if-is_reference.true,
    ) (c.applied.ensures
    ∙ ap₂ (λ (n : Node) (s : Step). applied_of (is_exported (node_row a.index.now (asked_scope n s))) n a.reference 0 0 s s s) node.ensures
    c.plain-none.ensures)

pub returns : goal.returns
unfolding begun_of
returns c =
    let node = c.node-node.ensures in
    simp (
      sym (c.is_removed.ensures ∙ ap (λ (n : Node). (traits n).removed) node) ∙ c.if-is_removed.false,
      sym (c.is_reference.ensures ∙ ap is_reference node) ∙ c.if-is_reference.false,
    )
