-- `is_same` meets its contract: what is left of both lists decides.
use mathlib.Core.Path.{◌≡◌}
use lib.ListN.{length}
use Rattle.semantics.specs.Lists.{same}
use Rattle.reply.proofs.lists.is_same.Given as goal

abbrev pub invariant-loop-x : goal.invariant-loop-x
invariant-loop-x l = (length l.x-iterator.a.iter.rest.now ≡ length l.x-iterator.b.iter.rest.now) × (same l.x-iterator.a.iter.rest.now l.x-iterator.b.iter.rest.now ≡ same l.left l.right)
