-- `keep_new` meets its contract: by the search for a copy, nothing is changed or the slot is moved.
use mathlib.Core.Path.{sym, ap, ◌∙◌}
use mathlib.Core.Bool.{not}
use Rattle.semantics.specs.Limits.{slot_length}
use Rattle.reply.specs.EdgeLists.{has_list}
use Rattle.reply.specs.ResultSlots.{edges_at, lists_at}
use Rattle.reply.specs.ResultSlots.ClosingUp.{keep-moved, keep_left}
use borrow.Author.Rules.{rules}
use Rattle.reply.proofs.copies.keep_new.Goals as goal

pub returns-then-is_copy : goal.returns-then-is_copy
returns-then-is_copy c =
    let a = c.args in
    let ws = a.res.now in
    let copy = has_list (edges_at slot_length a.i ws) (lists_at slot_length a.seen ws) in
    let e = sym c.is_copy.ensures ∙ c.if-is_copy.true in
    (search rules, keep_left slot_length a.i a.seen (not copy) ws (ap not e), rw e)

pub returns : goal.returns
returns c =
    let a = c.args in
    let ws = a.res.now in
    let copy = has_list (edges_at slot_length a.i ws) (lists_at slot_length a.seen ws) in
    let e = sym c.is_copy.ensures ∙ c.if-is_copy.false in
    (search rules, keep-moved slot_length a.i a.seen (not copy) ws c.move_down.new.res (ap not e) c.move_down.ensures, rw e)
