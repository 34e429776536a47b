-- `convert_slots`: the first i slots are written.
use mathlib.Core.Path.{refl, ◌∙◌}
use Prim.Native.Nat.{◌<◌}
use native.Mathlib.Omega.{arith}
use Rattle.semantics.specs.Limits.{base, former}
use Rattle.semantics.specs.Database.{used_in, known_owners, slots_in}
use Rattle.database.specs.Records.Laws.{count-slots}
use Rattle.database.specs.Checks.Laws.{formed-whole}
use Rattle.conversion.specs.Slots.Laws.{fit_at, written_none, written-more, written_all}
use Rattle.conversion.proofs.convert.convert_slots.Goals as goal

pub number-used-requires : goal.number-used-requires
number-used-requires c = omega (arith, formed-whole former known_owners c.args.old.now c.requires.value.0)

pub loop-i-init : goal.loop-i-init
loop-i-init c = let a = c.args in (omega arith, c.number-used.ensures.0, refl, written_none base (slots_in former a.old.now) a.new.now)

pub convert_slot-requires : goal.convert_slot-requires
convert_slot-requires c =
    let a = c.args in
    let p = c.requires in
    let l = c.loop-i in
    let t : l.i < used_in a.old.now = omega (arith, l.invariant.1, c.loop-i-test.true) in
    record { value = (p.value.0, t); in_words = (omega (arith, p.in_bounds, l.invariant.2, t), fit_at base (slots_in former a.old.now) l.i p.value.1 (omega (arith, t, count-slots former a.old.now))) }

pub loop-i-preserved : goal.loop-i-preserved
loop-i-preserved c =
    let a = c.args in
    let p = c.requires in
    let l = c.loop-i in
    let t : l.i < used_in a.old.now = omega (arith, l.invariant.1, c.loop-i-test.true) in
    (omega (arith, c.loop-i-test.true), l.invariant.1, c.convert_slot.auto.new ∙ l.invariant.2, c.convert_slot.ensures ∙ written-more base (slots_in former a.old.now) a.new.now l.i l.new (omega (arith, t, count-slots former a.old.now)) (omega (arith, p.in_bounds, t)) l.invariant.3)

pub returns : goal.returns
returns c =
    let a = c.args in
    let l = c.loop-i in
    l.invariant.3 ∙ written_all base (slots_in former a.old.now) a.new.now l.i (omega (arith, l.invariant.0, l.invariant.1, c.loop-i-test.false, count-slots former a.old.now))
