-- `close_up` meets its contract: of the first i lists those without a mark stand in front.
use Prim.Native.Nat.{◌*◌}
use native.Mathlib.Omega.{arith}
use lib.Dec.{ltb}
use lib.ListN.{get_or}
use Rattle.semantics.specs.Limits.{slot_length}
use Rattle.reply.specs.EdgeLists.{without}
use Rattle.reply.specs.ResultSlots.ClosingUp.{closing-none}
use Rattle.reply.specs.ResultSlots.Passes.{all-fitting, pick_next, close-next, close-end}
use borrow.Author.Rules.{rules}
use Rattle.reply.proofs.shadowed.close_up.Goals as goal

pub loop-i-init : goal.loop-i-init
unfolding without
loop-i-init c =
    let a = c.args in
    (search rules, search rules, search rules, λ drops ls e m. closing-none slot_length a.n a.res.now)

pub keep_unmarked-to-requires : goal.keep_unmarked-to-requires
keep_unmarked-to-requires c =
    let l = c.loop-i in
    let k = c.requires in
    let f = all-fitting k.marked.held k.count l.i c.loop-i-test.true in
    (omega (arith, f.inside, l.invariant.2), l.invariant.0)

pub loop-i-preserved : goal.loop-i-preserved
loop-i-preserved c =
    let l = c.loop-i in
    let r = c.keep_unmarked-to.ensures in (
      omega (arith, r.2, pick_next (ltb (get_or l.res (slot_length * l.i) 0) slot_length) l.to, l.invariant.0),
      search rules,
      search rules,
      λ drops ls e m.
          close-next drops e m (l.invariant.3 drops ls e m) c.loop-i-test.true r.1 r.2,
    )

pub clear-requires : goal.clear-requires
clear-requires c =
    let l = c.loop-i in
    let k = c.requires in
    (omega (arith, k.marked.held.inside, k.count, l.invariant.2), omega (arith, l.invariant.0, l.invariant.1))

pub returns : goal.returns
returns c =
    let l = c.loop-i in
    (search rules, λ drops ls e m. close-end slot_length (without drops) e m (l.invariant.3 drops ls e m) (omega (arith, c.loop-i-test.false)) c.clear.ensures)
