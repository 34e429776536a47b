-- `keep_unmarked` meets its contract: by the mark, the slot is moved or nothing is changed.
use Prim.Native.Nat.{◌*◌}
use native.Mathlib.Omega.{arith}
use borrow.Author.Tests.{lt-ltb, le-ltb}
use lib.Dec.{ltb}
use lib.ListN.{get_or}
use Rattle.semantics.specs.Limits.{slot_length}
use Rattle.reply.specs.ResultSlots.ClosingUp.{keep-moved, keep_left}
use borrow.Author.Rules.{rules}
use Rattle.reply.proofs.shadowed.keep_unmarked.Goals as goal

pub returns-then-res-i-lt-MARK : goal.returns-then-res-i-lt-MARK
returns-then-res-i-lt-MARK c =
    let a = c.args in
    let ws = a.res.now in
    let w = get_or ws (slot_length * a.i) 0 in
    let e = lt-ltb w slot_length (omega (arith, c.if-res-i-lt-MARK.true)) in
    (search rules, keep-moved slot_length a.i a.to (ltb w slot_length) ws c.move_down.new.res e c.move_down.ensures, rw e)

pub returns : goal.returns
returns c =
    let a = c.args in
    let ws = a.res.now in
    let w = get_or ws (slot_length * a.i) 0 in
    let e = le-ltb w slot_length (omega (arith, c.if-res-i-lt-MARK.false)) in
    (search rules, keep_left slot_length a.i a.to (ltb w slot_length) ws e, rw e)
