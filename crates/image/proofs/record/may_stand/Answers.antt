-- `image::record::may_stand`: the tests of the definition, in its order.
use borrow.Author.Tests.{eq-eqb, ne_eqb}
use Rattle.semantics.specs.Image.{may_stand}
use Rattle.image.proofs.record.may_stand.Goals as goal

pub returns-then-n-eq-ROOT : goal.returns-then-n-eq-ROOT
unfolding may_stand
returns-then-n-eq-ROOT c = simp (eq-eqb _ 0 c.if-n-eq-ROOT.true)

pub returns-then-n-eq-JUMP : goal.returns-then-n-eq-JUMP
unfolding may_stand
returns-then-n-eq-JUMP c = simp (ne_eqb _ 0 c.if-n-eq-ROOT.false, eq-eqb _ 1 c.if-n-eq-JUMP.true)

pub returns-then-kind-eq-ROOT : goal.returns-then-kind-eq-ROOT
unfolding may_stand
returns-then-kind-eq-ROOT c = simp (ne_eqb _ 0 c.if-n-eq-ROOT.false, ne_eqb _ 1 c.if-n-eq-JUMP.false, eq-eqb _ 1 c.if-kind-eq-ROOT.true)

pub returns : goal.returns
unfolding may_stand
returns c = simp (ne_eqb _ 0 c.if-n-eq-ROOT.false, ne_eqb _ 1 c.if-n-eq-JUMP.false, ne_eqb _ 1 c.if-kind-eq-ROOT.false)
