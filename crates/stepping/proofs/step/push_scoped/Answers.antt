use mathlib.Core.Path.{ap}
use Rattle.std.specs.Prelude.{Ok}
use Rattle.stepping.specs.Steps.{push_scoped_of}
use Rattle.stepping.proofs.step.push_scoped.Goals as goal

pub returns-then-exported : goal.returns-then-exported
unfolding push_scoped_of
returns-then-exported c = simp c.if-exported.true (ap Ok c.pushed_scoped.ensures)

pub returns : goal.returns
unfolding push_scoped_of
returns c = simp c.if-exported.false
