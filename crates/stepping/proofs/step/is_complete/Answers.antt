-- `stepping::step::is_complete`: both stacks empty, and a definition.
use borrow.Author.Tests.{eq-eqb, ne_eqb}
use Rattle.stepping.proofs.step.is_complete.Goals as goal

pub returns-then-s-ne0 : goal.returns-then-s-ne0
returns-then-s-ne0 c = simp (ne_eqb _ 0 c.if-s-ne0.true)

pub returns-then-s-ne0-2 : goal.returns-then-s-ne0-2
returns-then-s-ne0-2 c = simp (eq-eqb _ 0 c.if-s-ne0.false, ne_eqb _ 0 c.if-s-ne0-2.true)

pub returns : goal.returns
returns c = simp (eq-eqb _ 0 c.if-s-ne0.false, eq-eqb _ 0 c.if-s-ne0-2.false) c.is_definition.ensures
