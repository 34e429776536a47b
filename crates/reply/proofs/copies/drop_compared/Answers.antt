-- `drop_compared` meets its contract: the first i lists without their copies stand in front.
use mathlib.Core.Path.{refl}
use mathlib.Core.List.{[]}
use native.Mathlib.Omega.{arith}
use Rattle.semantics.specs.Limits.{slot_length}
use Rattle.reply.specs.EdgeLists.{has_list, distinct_lists}
use Rattle.reply.specs.EdgeLists.Laws.{distinct-shorter}
use Rattle.reply.specs.ResultSlots.{edges_at, lists_at}
use Rattle.reply.specs.ResultSlots.Laws.{lists-marked}
use Rattle.reply.specs.ResultSlots.ClosingUp.{closing-none}
use Rattle.reply.specs.ResultSlots.Passes.{seen-fitting, next-fitting, copy-next, close-end}
use borrow.Author.Rules.{rules}
use Rattle.reply.proofs.copies.drop_compared.Goals as goal

pub loop-i-init : goal.loop-i-init
unfolding distinct_lists
loop-i-init c =
    let a = c.args in
    (search rules, search rules, λ k. closing-none slot_length a.kept a.res.now)

pub keep_new-seen-requires : goal.keep_new-seen-requires
keep_new-seen-requires c =
    let l = c.loop-i in
    let k = c.requires in
    let m = l.invariant.2 k in
    (seen-fitting k m, next-fitting k m c.loop-i-test.true, m.before)

pub loop-i-preserved : goal.loop-i-preserved
loop-i-preserved c =
    let l = c.loop-i in
    let r = c.keep_new-seen.ensures in (
      search rules,
      search rules,
      λ k.
          copy-next k (l.invariant.2 k) c.loop-i-test.true {b = has_list (edges_at slot_length l.i l.res) (lists_at slot_length l.seen l.res)} refl r.1 r.2,
    )

pub clear-requires : goal.clear-requires
clear-requires c =
    let l = c.loop-i in
    let k = c.requires in
    let m = l.invariant.2 k in
    (omega (arith, (lists-marked slot_length c.args.kept c.args.res.now k).held.inside, k.count, l.invariant.1), omega (arith, m.before, m.within))

pub returns : goal.returns
returns c =
    let loop-test = c.loop-i-test in
    let l = c.loop-i in
    let a = c.args in
    let k = c.requires in
    let own = close-end slot_length (distinct_lists []) k.count (lists-marked slot_length a.kept a.res.now k) (l.invariant.2 k)
    (omega (arith, loop-test.false)) c.clear.ensures in (
      search rules,
      omega (arith, own.1, distinct-shorter k.lists [], k.count),
      λ m.
          close-end slot_length (distinct_lists []) m.count (lists-marked slot_length a.kept a.res.now m) (l.invariant.2 m)
          (omega (arith, loop-test.false)) c.clear.ensures,
    )
