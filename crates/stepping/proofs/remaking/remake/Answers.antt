-- `stepping::remaking::remake`: a plain step, or that of the target's kind.
use mathlib.Core.Path.{sym, ap, ◌∙◌}
use Rattle.storage.specs.Index.{node_row}
use Rattle.stepping.specs.Steps.Laws.{plain-remade}
use Rattle.stepping.specs.StepWords.{maker_in}
use Rattle.stepping.specs.Judged.{remade_behind}
use Rattle.stepping.proofs.remaking.remake.Goals as goal

pub returns-then-is_plain : goal.returns-then-is_plain
returns-then-is_plain c =
    let a = c.args in
    let s = a.last in
    let l = a.index.now in
    let w = a.steps.now in
    let t = c.target-target.result.0 in
    let p = plain-remade (node_row l t) t a.edge a.k s (maker_in w s.symbols) (maker_in w s.scopes) (sym c.is_plain.ensures ∙ c.if-is_plain.true) in
    (c.lay.ensures.0 ∙ c.plain-step.ensures ∙ sym p ∙ ap (remade_behind (node_row l) w s a.k a.edge) c.target-target.ensures, c.lay.ensures.1)

pub returns : goal.returns
returns c =
    let a = c.args in
    (c.by_kind.ensures.0 ∙ ap (remade_behind (node_row a.index.now) a.steps.now a.last a.k a.edge) c.target-target.ensures, c.by_kind.ensures.1)
