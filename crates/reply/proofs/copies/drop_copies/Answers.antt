-- `drop_copies` meets its contract: lists that ascend stay as they are.
use native.Mathlib.Omega.{arith}
use Rattle.semantics.specs.Limits.{slot_length}
use Rattle.reply.specs.ResultSlots.Laws.{lists-marked}
use Rattle.reply.specs.Ascending.Laws.{none_dropped}
use Rattle.reply.proofs.copies.drop_copies.Goals as goal

pub is_ascending-requires : goal.is_ascending-requires
is_ascending-requires c = let p = c.requires in let h = (lists-marked slot_length c.args.kept c.args.res.now p).held.inside in omega (arith, h, p.count)

pub returns-then-is_ascending : goal.returns-then-is_ascending
returns-then-is_ascending c = let a = c.args in none_dropped slot_length a.kept a.res.now (c.is_ascending.ensures c.if-is_ascending.true)
