use native.Mathlib.Omega.{arith}
use mathlib.Core.Path.{◌≡◌, sym, ap, ap₂, ◌∙◌}
use mathlib.Core.Bool.{Bool}
use lib.ListN.{length}
use Rattle.semantics.specs.Limits.{steps_length}
use Rattle.storage.specs.Index.{edge_row}
use Rattle.stepping.specs.Steps.{Effect}
use Rattle.path.specs.Values.{is_jump_edge, appended_by}
use Rattle.path.specs.Values.Laws.{appended-refused, appended-done}
use borrow.Author.Rules.{rules}
use Rattle.path.proofs.path.append.Goals as goal

pub returns-in_default : goal.returns-in_default
returns-in_default c =
    let a = c.args in
    let is_jump_edge' = is_jump_edge (edge_row a.index.now a.edge) in
    appended-refused a.path.now a.edge is_jump_edge' c.judge-effect.result c.in_default.field-0 c.in_default.is
    ∙ ap (appended_by a.path.now a.edge is_jump_edge') c.judge-effect.ensures

pub put_step-requires : goal.put_step-requires
put_step-requires c = let n : length c.args.path.now.steps ≡ steps_length = search rules in let z = c.requires.1.few in omega (arith, n, z)

pub returns : goal.returns
returns c =
    let a = c.args in
    appended-done a.path.now a.edge c.is_jump.result c.in-Ok.step c.put_step.ensures
    ∙ ap₂ (λ (b : Bool) (x : Effect). appended_by a.path.now a.edge b x) c.is_jump.ensures (sym c.in-Ok.is ∙ c.judge-effect.ensures)
