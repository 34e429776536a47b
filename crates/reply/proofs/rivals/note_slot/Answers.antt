-- `note_slot` meets its contract: the edges before this place are reached.
use native.Mathlib.Omega.{arith}
use Rattle.semantics.specs.Limits.{slot_length}
use Rattle.reply.specs.Rivals.Noting.{place_in, slot-start, slot-end}
use borrow.Author.Rules.{rules}
use Rattle.reply.proofs.rivals.note_slot.Goals as goal

pub loop-at-init : goal.loop-at-init
loop-at-init c =
    let a = c.args in
    (search rules, search rules, search rules, search rules, slot-start slot_length a.index.now a.res.now a.best.now a.i c.requires.fitting.1)

pub note-requires : goal.note-requires
note-requires c =
    let a = c.args in
    let l = c.loop-at in
    let f = c.requires.fitting.0 in
    let here = place_in slot_length a.res.now a.i l.at f l.invariant.1 (omega (arith, c.loop-at-test.true, l.invariant.0)) in
    record { blocks = c.requires.blocks; at_in_bounds = (omega (arith, c.loop-at-test.true, l.invariant.0, f.inside, f.fits), here, l.invariant.4) }

pub loop-at-preserved : goal.loop-at-preserved
loop-at-preserved c =
    let l = c.loop-at in
    (l.invariant.0, search rules, search rules, search rules, c.note.ensures)

pub returns : goal.returns
returns c =
    let a = c.args in
    let l = c.loop-at in
    slot-end slot_length a.index.now a.res.now l.best a.i l.at (omega (arith, c.loop-at-test.false, l.invariant.0)) (omega (arith, l.invariant.2, l.invariant.0, c.requires.fitting.0.fits)) l.invariant.4
