-- `note_all` meets its contract: the edges of the first i slots are reached.
use mathlib.Core.Path.{◌≡◌, subst}
use Prim.Native.Nat.{ℕ, ◌+◌, ◌*◌}
use native.Mathlib.Omega.{arith}
use Rattle.semantics.specs.Limits.{slot_length}
use Rattle.reply.specs.Rivals.{Best}
use borrow.Author.Rules.{rules}
use Rattle.reply.proofs.rivals.note_all.Goals as goal

pub loop-i-init : goal.loop-i-init
loop-i-init c =
    (search rules, search rules, c.requires.all_fitting.1)

pub note_slot-requires : goal.note_slot-requires
note_slot-requires c =
    let l = c.loop-i in
    record { blocks = c.requires.blocks; fitting = (c.requires.all_fitting.0 l.i c.loop-i-test.true, l.invariant.2) }

pub loop-i-preserved : goal.loop-i-preserved
loop-i-preserved c =
    let a = c.args in
    let l = c.loop-i in
    let next : slot_length * l.i + slot_length ≡ slot_length * (l.i + 1) = omega arith in
    (search rules, search rules, subst (λ (p : ℕ). Best slot_length a.index.now a.res.now p c.note_slot.new.best) next c.note_slot.ensures)

pub returns : goal.returns
returns c =
    let a = c.args in
    let l = c.loop-i in
    let all : slot_length * l.i ≡ slot_length * a.n = omega (arith, l.invariant.0, c.loop-i-test.false) in
    subst (λ (p : ℕ). Best slot_length a.index.now a.res.now p l.best) all l.invariant.2
