use mathlib.Core.Path.{sym, ap, ◌∙◌}
use mathlib.Core.Bool.{Bool}
use Rattle.semantics.specs.declared.graph.Node.{Node}
use Rattle.semantics.specs.Graph.{is_exported}
use Rattle.storage.specs.Index.{node_row}
use Rattle.std.specs.Prelude.{Ok}
use Rattle.stepping.specs.Steps.{jump_of, push_scoped_of, asked_scope, applied_of}
use Rattle.stepping.proofs.step.applied.Goals as goal

pub returns-in-Removed : goal.returns-in-Removed
unfolding applied_of
returns-in-Removed c = let a = c.args in sym (ap (λ (x : Node). applied_of (is_exported (node_row a.index.now (asked_scope x a.over))) x a.target a.edge a.k a.last a.top a.over) c.in-Removed.is)

pub returns-in-Root : goal.returns-in-Root
unfolding applied_of
returns-in-Root c = let a = c.args in ap Ok c.plain.ensures ∙ sym (ap (λ (x : Node). applied_of (is_exported (node_row a.index.now (asked_scope x a.over))) x a.target a.edge a.k a.last a.top a.over) c.in-Root.is)

pub returns-in-JumpToScope : goal.returns-in-JumpToScope
unfolding applied_of
returns-in-JumpToScope c =
    let a = c.args in
    c.jump.ensures
    ∙ ap (λ (b : Bool). jump_of b a.target a.edge a.last a.over) c.is_exported-exported.ensures
    ∙ sym (ap (λ (x : Node).
    applied_of (is_exported (node_row a.index.now (asked_scope x a.over))) x a.target a.edge a.k a.last a.top a.over)
    c.in-JumpToScope.is)

pub returns-in-Scope : goal.returns-in-Scope
unfolding applied_of
returns-in-Scope c = let a = c.args in ap Ok c.plain-in-Scope.ensures ∙ sym (ap (λ (x : Node). applied_of (is_exported (node_row a.index.now (asked_scope x a.over))) x a.target a.edge a.k a.last a.top a.over) c.in-Scope.is)

pub returns-in-Push : goal.returns-in-Push
unfolding applied_of
returns-in-Push c = let a = c.args in ap Ok c.push.ensures ∙ sym (ap (λ (x : Node). applied_of (is_exported (node_row a.index.now (asked_scope x a.over))) x a.target a.edge a.k a.last a.top a.over) c.in-Push.is)

pub returns-in-Pop : goal.returns-in-Pop
unfolding applied_of
returns-in-Pop c = let a = c.args in c.pop.ensures ∙ sym (ap (λ (x : Node). applied_of (is_exported (node_row a.index.now (asked_scope x a.over))) x a.target a.edge a.k a.last a.top a.over) c.in-Pop.is)

pub returns-in-PushScoped : goal.returns-in-PushScoped
unfolding applied_of
returns-in-PushScoped c =
    let a = c.args in
    c.push_scoped.ensures
    ∙ ap (λ (b : Bool). push_scoped_of b c.in-PushScoped.symbol c.in-PushScoped.scope.0 a.target a.edge a.k a.last)
    c.is_exported-exported-in-PushScoped.ensures
    ∙ sym (ap (λ (x : Node).
    applied_of (is_exported (node_row a.index.now (asked_scope x a.over))) x a.target a.edge a.k a.last a.top a.over)
    c.in-PushScoped.is)

pub returns-in-PopScoped : goal.returns-in-PopScoped
unfolding applied_of
returns-in-PopScoped c = let a = c.args in c.pop_scoped.ensures ∙ sym (ap (λ (x : Node). applied_of (is_exported (node_row a.index.now (asked_scope x a.over))) x a.target a.edge a.k a.last a.top a.over) c.in-PopScoped.is)

pub returns-in-DropScopes : goal.returns-in-DropScopes
unfolding applied_of
returns-in-DropScopes c = let a = c.args in ap Ok c.plain-in-DropScopes.ensures ∙ sym (ap (λ (x : Node). applied_of (is_exported (node_row a.index.now (asked_scope x a.over))) x a.target a.edge a.k a.last a.top a.over) c.in-DropScopes.is)
