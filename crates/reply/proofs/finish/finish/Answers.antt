use Rattle.semantics.specs.Limits.{slot_length}
use Rattle.reply.specs.Ends.Laws.{copies-left}
use Rattle.reply.specs.Replies.Laws.{reply-recorded, reply-returned}
use Rattle.reply.proofs.finish.finish.Goals as goal

pub drop_shadowed-requires : goal.drop_shadowed-requires
drop_shadowed-requires c =
    let drop-copies = c.drop_copies-recorded in
    let p = c.requires in
    record { holds_graph = p.holds_graph; lists = copies-left slot_length drop-copies.result drop-copies.new.res p.lists drop-copies.ensures }

pub returns-in-Returned : goal.returns-in-Returned
returns-in-Returned c =
    let drop-shadowed = c.drop_shadowed in
    let drop-copies = c.drop_copies-recorded in
    let a = c.args in
    reply-returned a.index.now a.kept drop-copies.result a.res.now drop-copies.new.res drop-copies.ensures
    c.in-Returned.is drop-shadowed.result drop-shadowed.new.res drop-shadowed.ensures

pub returns-in-Recorded : goal.returns-in-Recorded
returns-in-Recorded c =
    let drop-copies = c.drop_copies-recorded in
    let a = c.args in
    reply-recorded a.index.now a.kept drop-copies.result a.res.now drop-copies.new.res drop-copies.ensures
    c.in-Recorded.is
