use borrow.Author.Tests.{eq-eqb, ne_eqb}
use mathlib.Core.Path.{ap}
use Rattle.std.specs.Prelude.{Ok}
use Rattle.stepping.specs.Steps.{jump_of}
use Rattle.stepping.proofs.step.jump.Goals as goal

pub returns-then-last-eq0 : goal.returns-then-last-eq0
unfolding jump_of
returns-then-last-eq0 c = simp (eq-eqb _ 0 c.if-last-eq0.true)

pub returns-then-exported : goal.returns-then-exported
unfolding jump_of
returns-then-exported c = simp (ne_eqb _ 0 c.if-last-eq0.false, c.if-exported.true) (ap Ok c.plain.ensures)

pub returns : goal.returns
unfolding jump_of
returns c = simp (ne_eqb _ 0 c.if-last-eq0.false, c.if-exported.false)
