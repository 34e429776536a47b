-- `copy` meets its contract: the words before i are copied, the others as they were.
use mathlib.Core.Path.{refl, ◌∙◌}
use native.Mathlib.Omega.{arith}
use lib.ListN.{length-set}
use Rattle.words.specs.Copies.{copy_more, copy-all}
use borrow.Author.Rules.{rules}
use Rattle.words.proofs.slots.copy.Goals as goal

pub loop-i-preserved : goal.loop-i-preserved
loop-i-preserved c =
    let l = c.loop-i in
    let a = c.args in
    (search rules, refl, simp length-set l.invariant.2, copy_more l.into l.i a.words.now a.into.now l.invariant.3 (omega arith) (omega arith))

pub returns : goal.returns
returns c =
    c.loop-i.invariant.3 ∙ copy-all c.loop-i.i c.args.words.now c.args.into.now (omega arith) c.requires
