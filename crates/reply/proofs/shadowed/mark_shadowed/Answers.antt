-- `mark_shadowed` meets its contract: nothing was looked at yet.
use Rattle.semantics.specs.Limits.{slot_length}
use Rattle.reply.specs.Rivals.Noting.{best_none}
use Rattle.reply.proofs.shadowed.mark_shadowed.Goals as goal

pub mark_many-requires : goal.mark_many-requires
mark_many-requires c =
    let a = c.args in
    record { holds_graph = c.requires.holds_graph; lists = c.requires.lists; best = best_none slot_length a.index.now a.res.now 2048 }
