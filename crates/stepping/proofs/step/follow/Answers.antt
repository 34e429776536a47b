use mathlib.Core.Path.{sym, ap, ◌∙◌}
use borrow.Author.Tests.{eq-eqb, ne_eqb}
use Rattle.semantics.specs.declared.graph.Node.{Node}
use Rattle.semantics.specs.declared.graph.Edge.{Edge}
use Rattle.semantics.specs.Graph.{is_exported}
use Rattle.storage.specs.Index.{node_row}
use Rattle.stepping.specs.Steps.{asked_scope, applied_of}
use Rattle.stepping.specs.Judged.{followed}
use Rattle.stepping.proofs.step.follow.Goals as goal

pub returns-then-source-last : goal.returns-then-source-last
unfolding followed
returns-then-source-last c =
    let a = c.args in
    simp (ne_eqb _ _ c.if-source-last.true) at (ap (λ (x : Edge). followed (node_row a.index.now) a.edge a.k a.last a.top a.over x)
    (sym c.in-Live.is ∙ c.edge.ensures))

pub returns-in-Removed : goal.returns-in-Removed
unfolding followed
returns-in-Removed c = let a = c.args in ap (λ (x : Edge). followed (node_row a.index.now) a.edge a.k a.last a.top a.over x) (sym c.in-Removed.is ∙ c.edge.ensures)

pub returns-else-source-last : goal.returns-else-source-last
unfolding followed
returns-else-source-last c =
    let edge = c.edge in
    let a = c.args in
    c.applied.ensures
    ∙ ap (λ (n : Node).
    applied_of (is_exported (node_row a.index.now (asked_scope n a.over))) n c.in-Live.target.0 a.edge a.k a.last a.top
    a.over) c.node.ensures
    ∙ (simp (eq-eqb _ _ c.if-source-last.false) at
    (ap (λ (x : Edge). followed (node_row a.index.now) a.edge a.k a.last a.top a.over x) (sym c.in-Live.is ∙ edge.ensures)))
