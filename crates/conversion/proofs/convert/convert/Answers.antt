-- `convert`: the four outcomes.
use mathlib.Core.Path.{sym, ap, ◌∙◌}
use native.Mathlib.Omega.{arith}
use lib.ListN.{length}
use Rattle.conversion.specs.Slots.{has_room_for}
use Rattle.semantics.specs.Limits.{base, former}
use Rattle.semantics.specs.Database.{used_in, known_owners}
use Rattle.database.specs.Checks.Laws.{formed-whole}
use Rattle.conversion.specs.Slots.Laws.{room-there, converted, outcome-malformed, outcome-full, outcome-long, outcome-done}
use Rattle.conversion.proofs.convert.convert.Goals as goal

pub returns-then-not-well_formed : goal.returns-then-not-well_formed
returns-then-not-well_formed c =
    let a = c.args in
    let f = sym c.well_formed-2.ensures ∙ c.if-not-well_formed.true in
    let whole = outcome-malformed former base known_owners a.old.now (length a.new.now) c.zero.new.area f c.zero.ensures in
    record { result_value = whole.0; after = whole.1 }

pub has_room-requires : goal.has_room-requires
has_room-requires c = omega (arith, formed-whole former known_owners c.args.old.now (sym c.well_formed-2.ensures ∙ c.if-not-well_formed.false))

pub returns-then-not-has_room : goal.returns-then-not-has_room
returns-then-not-has_room c =
    let a = c.args in
    let f = sym c.well_formed-2.ensures ∙ c.if-not-well_formed.false in
    let h = ap (has_room_for base (used_in a.old.now)) (sym c.zero.auto.area) ∙ sym c.has_room.ensures ∙ c.if-not-has_room.true in
    let whole = outcome-full former base known_owners a.old.now (length a.new.now) c.zero.new.area f h c.zero.ensures in
    record { result_value = whole.0; after = whole.1 }

pub all_fit-requires : goal.all_fit-requires
all_fit-requires c = sym c.well_formed-2.ensures ∙ c.if-not-well_formed.false

pub returns-then-not-all_fit : goal.returns-then-not-all_fit
returns-then-not-all_fit c =
    let a = c.args in
    let f = sym c.well_formed-2.ensures ∙ c.if-not-well_formed.false in
    let h = ap (has_room_for base (used_in a.old.now)) (sym c.zero.auto.area) ∙ sym c.has_room.ensures ∙ c.if-not-has_room.false in
    let t = sym c.all_fit.ensures ∙ c.if-not-all_fit.true in
    let whole = outcome-long former base known_owners a.old.now (length a.new.now) c.zero.new.area f h t c.zero.ensures in
    record { result_value = whole.0; after = whole.1 }

pub convert_slots-requires : goal.convert_slots-requires
convert_slots-requires c =
    let a = c.args in
    let h = ap (has_room_for base (used_in a.old.now)) (sym c.zero.auto.area) ∙ sym c.has_room.ensures ∙ c.if-not-has_room.false in
    record { value = (sym c.well_formed-2.ensures ∙ c.if-not-well_formed.false, sym c.all_fit.ensures ∙ c.if-not-all_fit.false); in_bounds = (room-there base (used_in a.old.now) c.zero.new.area (length a.new.now) c.zero.auto.area h).1 }

pub bounds-old-0 : goal.bounds-old-0
bounds-old-0 c = omega (arith, formed-whole former known_owners c.args.old.now (sym c.well_formed-2.ensures ∙ c.if-not-well_formed.false))

pub bounds-old-1 : goal.bounds-old-1
bounds-old-1 c = omega (arith, formed-whole former known_owners c.args.old.now (sym c.well_formed-2.ensures ∙ c.if-not-well_formed.false))

pub bounds-old-2 : goal.bounds-old-2
bounds-old-2 c = omega (arith, formed-whole former known_owners c.args.old.now (sym c.well_formed-2.ensures ∙ c.if-not-well_formed.false))

pub store_header-requires : goal.store_header-requires
store_header-requires c =
    let a = c.args in
    let h = ap (has_room_for base (used_in a.old.now)) (sym c.zero.auto.area) ∙ sym c.has_room.ensures ∙ c.if-not-has_room.false in
    let t = (room-there base (used_in a.old.now) c.zero.new.area (length a.new.now) c.zero.auto.area h).0 in
    omega (arith, t, c.zero.auto.area, c.convert_slots.auto.new)

pub returns : goal.returns
returns c =
    let a = c.args in
    let f = sym c.well_formed-2.ensures ∙ c.if-not-well_formed.false in
    let h = ap (has_room_for base (used_in a.old.now)) (sym c.zero.auto.area) ∙ sym c.has_room.ensures ∙ c.if-not-has_room.false in
    let t = sym c.all_fit.ensures ∙ c.if-not-all_fit.false in
    let r = (room-there base (used_in a.old.now) c.zero.new.area (length a.new.now) c.zero.auto.area h).0 in
    let w = converted former base a.old.now c.zero.new.area c.convert_slots.new.new (length a.new.now) c.zero.ensures r c.convert_slots.ensures in
    let whole = outcome-done former base known_owners a.old.now (length a.new.now) c.store_header.new.words f h t (c.store_header.ensures ∙ w) in
    record { result_value = whole.0; after = whole.1 }
