use borrow.Author.Tests.{eq-eqb, ne_eqb}
use mathlib.Core.Path.{ap}
use Rattle.std.specs.Prelude.{Ok}
use Rattle.stepping.specs.Steps.{pop_scoped_of}
use Rattle.stepping.proofs.step.pop_scoped.Goals as goal

pub returns-then-last-eq0 : goal.returns-then-last-eq0
unfolding pop_scoped_of
returns-then-last-eq0 c = simp (eq-eqb _ 0 c.if-last-eq0.true)

pub returns-then-top-symbol : goal.returns-then-top-symbol
unfolding pop_scoped_of
returns-then-top-symbol c = simp (ne_eqb _ 0 c.if-last-eq0.false, ne_eqb _ _ c.if-top-symbol.true)

pub returns-then-top-eq0 : goal.returns-then-top-eq0
unfolding pop_scoped_of
returns-then-top-eq0 c = simp (ne_eqb _ 0 c.if-last-eq0.false, eq-eqb _ _ c.if-top-symbol.false, eq-eqb _ 0 c.if-top-eq0.true)

pub returns : goal.returns
unfolding pop_scoped_of
returns c = simp (ne_eqb _ 0 c.if-last-eq0.false, eq-eqb _ _ c.if-top-symbol.false, ne_eqb _ 0 c.if-top-eq0.false) (ap Ok c.plain.ensures)
