-- `comes_before_next` meets its contract: the parts that are lent are the two slots.
use Rattle.semantics.specs.Limits.{slot_length}
use Rattle.reply.specs.Ascending.Laws.{ahead-slots}
use Rattle.reply.proofs.ascending.comes_before_next.Goals as goal

pub returns : goal.returns
returns c = let a = c.args in λ e. ahead-slots slot_length a.i a.res.now (c.is_ahead.ensures e)
