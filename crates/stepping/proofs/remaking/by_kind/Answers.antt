-- `stepping::remaking::by_kind`: each kind writes the step that its node makes.
use Prim.Native.Nat.{ℕ, ◌+◌, ◌*◌}
use mathlib.Core.Path.{sym, ap, ◌∙◌}
use lib.ListN.{get_or}
use Rattle.semantics.specs.declared.graph.Node.{Node}
use Rattle.storage.specs.Index.{BLOCK, SCOPE, cell, node_of}
use Rattle.storage.specs.Index.Laws.{node_in}
use Rattle.semantics.specs.declared.replayed.Step.{Step}
use Rattle.stepping.specs.Steps.{plain_step, push_step, push_scoped_step, remade_of}
use Rattle.stepping.specs.Steps.Laws.{other-remade}
use Rattle.stepping.specs.StepWords.{maker_in}
use Rattle.stepping.proofs.remaking.by_kind.Goals as goal

pub returns-in-2 : goal.returns-in-2
unfolding remade_of node_of
returns-in-2 c =
    let a = c.args in
    let s = a.last in
    let w = a.steps.now in (
      c.lay.ensures.0
          ∙ c.plain-step.ensures
          ∙ ap (λ (o : Step). plain_step a.edge o.scope s.symbols o.scopes) c.maker-over.ensures
          ∙ ap (λ (x : Node). remade_of x a.target a.edge a.k s (maker_in w s.symbols) (maker_in w s.scopes))
          (node_in a.index.now a.target 2 c.in-2.is),
      c.lay.ensures.1,
    )

pub returns-in-4 : goal.returns-in-4
unfolding remade_of node_of
returns-in-4 c =
    let a = c.args in
    let s = a.last in
    let w = a.steps.now in (
      c.lay-in-4.ensures.0
          ∙ c.push.ensures
          ∙ ap (λ (x : ℕ). push_step x a.target a.edge a.k s) c.join-symbol.ensures
          ∙ ap (λ (x : Node). remade_of x a.target a.edge a.k s (maker_in w s.symbols) (maker_in w s.scopes))
          (node_in a.index.now a.target 4 c.in-4.is),
      c.lay-in-4.ensures.1,
    )

pub returns-in-5 : goal.returns-in-5
unfolding remade_of node_of
returns-in-5 c =
    let a = c.args in
    let s = a.last in
    let w = a.steps.now in (
      c.lay-in-5.ensures.0
          ∙ c.plain.ensures
          ∙ ap (λ (o : Step). plain_step a.edge a.target o.below s.scopes) c.maker-top.ensures
          ∙ ap (λ (x : Node). remade_of x a.target a.edge a.k s (maker_in w s.symbols) (maker_in w s.scopes))
          (node_in a.index.now a.target 5 c.in-5.is),
      c.lay-in-5.ensures.1,
    )

pub returns-in-6 : goal.returns-in-6
unfolding remade_of node_of
returns-in-6 c =
    let a = c.args in
    let s = a.last in
    let w = a.steps.now in (
      c.lay-in-6.ensures.0
          ∙ c.pushed_scoped-step.ensures
          ∙ ap (λ (x : ℕ). push_scoped_step x (get_or a.index.now (BLOCK * a.target + SCOPE) 0) a.target a.edge a.k s)
          c.join-symbol-in-6.ensures
          ∙ ap (λ (x : Node). remade_of x a.target a.edge a.k s (maker_in w s.symbols) (maker_in w s.scopes))
          (node_in a.index.now a.target 6 c.in-6.is),
      c.lay-in-6.ensures.1,
    )

pub returns-in-7 : goal.returns-in-7
unfolding remade_of node_of
returns-in-7 c =
    let a = c.args in
    let s = a.last in
    let w = a.steps.now in (
      c.lay-in-7.ensures.0
          ∙ c.plain-in-7.ensures
          ∙ ap (λ (o : Step). plain_step a.edge a.target o.below o.attached) c.maker-top-in-7.ensures
          ∙ ap (λ (x : Node). remade_of x a.target a.edge a.k s (maker_in w s.symbols) (maker_in w s.scopes))
          (node_in a.index.now a.target 7 c.in-7.is),
      c.lay-in-7.ensures.1,
    )

pub returns-in-8 : goal.returns-in-8
unfolding remade_of node_of
returns-in-8 c =
    let a = c.args in
    let s = a.last in
    let w = a.steps.now in (
      c.lay-in-8.ensures.0
          ∙ c.plain-in-8.ensures
          ∙ ap (λ (x : Node). remade_of x a.target a.edge a.k s (maker_in w s.symbols) (maker_in w s.scopes))
          (node_in a.index.now a.target 8 c.in-8.is),
      c.lay-in-8.ensures.1,
    )

pub returns-in_default : goal.returns-in_default
unfolding cell
returns-in_default c =
    let a = c.args in
    let s = a.last in
    let w = a.steps.now in
    let r = c.in_default.in_default-own.rest in (
      c.lay-in_default.ensures.0
          ∙ c.plain-step-in_default.ensures
          ∙ sym (other-remade a.index.now a.target a.edge a.k s (maker_in w s.symbols) (maker_in w s.scopes) r.0.0.0.0.0.1
          r.0.0.0.0.1 r.0.0.0.1 r.0.0.1 r.0.1 r.1),
      c.lay-in_default.ensures.1,
    )
