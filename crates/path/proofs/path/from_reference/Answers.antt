use mathlib.Core.Path.{sym, ap, ◌∙◌}
use Rattle.path.specs.Values.{started_by}
use Rattle.path.specs.Values.Laws.{started-refused, started-done, empty-long}
use Rattle.path.proofs.path.from_reference.Goals as goal

pub returns-in_default : goal.returns-in_default
returns-in_default c =
    let a = c.args in
    started-refused a.reference c.begin-effect.result c.in_default.field-0 c.in_default.is
    c.requires.1
    ∙ ap (started_by a.reference) c.begin-effect.ensures

pub put_step-requires : goal.put_step-requires
put_step-requires c = empty-long c.requires.1

pub returns : goal.returns
returns c =
    let a = c.args in
    started-done a.reference c.in-Ok.step c.requires.1 c.put_step.ensures
    ∙ ap (started_by a.reference) (sym c.in-Ok.is ∙ c.begin-effect.ensures)
