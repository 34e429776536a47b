-- `is_ahead` meets its contract: before what is left both are the same, so what is left decides.
use Rattle.reply.specs.Ascending.{Ahead}
use Rattle.reply.proofs.ascending.is_ahead.Given as goal

abbrev pub invariant-loop-x : goal.invariant-loop-x
invariant-loop-x l = Ahead l.x-iterator.a.rest.now l.x-iterator.b.rest.now → Ahead l.left l.right
