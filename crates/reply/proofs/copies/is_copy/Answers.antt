-- `is_copy` meets its contract: what is left to look at decides.
use mathlib.Core.Path.{sym, ap, ◌∙◌}
use native.Mathlib.Omega.{arith}
use Rattle.semantics.specs.Limits.{slot_length}
use Rattle.semantics.specs.Lists.{same}
use Rattle.reply.specs.EdgeLists.Laws.{has_end, has-found, has_on}
use Rattle.reply.specs.ResultSlots.{edges_at, lists_at}
use Rattle.reply.specs.ResultSlots.Laws.{length-lists, lists_at_lem}
use borrow.Author.Rules.{rules}
use Rattle.reply.proofs.copies.is_copy.Goals as goal

pub holds_same-requires : goal.holds_same-requires
holds_same-requires c =
    let p = c.requires in
    (p.1, p.0 c.loop-j.j c.loop-j-test.true)

pub returns-then-holds_same : goal.returns-then-holds_same
returns-then-holds_same c =
    let a = c.args in
    let l = c.loop-j in
    let ws = a.res.now in
    let h = c.loop-j-test.true in
    let hit = ap (same (edges_at slot_length a.i ws)) (lists_at_lem slot_length a.seen l.j ws h) ∙ sym c.holds_same.ensures ∙ c.if-holds_same.true in
    sym (has-found (edges_at slot_length a.i ws) (lists_at slot_length a.seen ws) l.j (omega (arith, h, length-lists slot_length a.seen ws)) hit) ∙ l.invariant.1

pub loop-j-preserved : goal.loop-j-preserved
loop-j-preserved c =
    let a = c.args in
    let l = c.loop-j in
    let ws = a.res.now in
    let h = c.loop-j-test.true in
    let miss = ap (same (edges_at slot_length a.i ws)) (lists_at_lem slot_length a.seen l.j ws h) ∙ sym c.holds_same.ensures ∙ c.if-holds_same.false in
    (search rules, has_on (edges_at slot_length a.i ws) (lists_at slot_length a.seen ws) l.j (omega (arith, h, length-lists slot_length a.seen ws)) miss ∙ l.invariant.1)

pub returns : goal.returns
returns c =
    let a = c.args in
    let l = c.loop-j in
    let ws = a.res.now in
    sym (has_end (edges_at slot_length a.i ws) (lists_at slot_length a.seen ws) l.j (omega (arith, c.loop-j-test.false, length-lists slot_length a.seen ws))) ∙ l.invariant.1
