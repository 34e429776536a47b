-- `all_fit`: what is left to test decides as all slots do.
use mathlib.Core.Path.{refl, sym, ◌∙◌}
use native.Mathlib.Omega.{arith}
use Rattle.semantics.specs.Limits.{base, former}
use Rattle.semantics.specs.Database.{known_owners, slots_in}
use Rattle.database.specs.Records.Laws.{count-slots}
use Rattle.database.specs.Checks.Laws.{formed-whole}
use Rattle.conversion.specs.Slots.Laws.{fit_passed, fit-failed, fit-done}
use Rattle.conversion.proofs.convert.all_fit.Goals as goal

pub number-used-requires : goal.number-used-requires
number-used-requires c = omega (arith, formed-whole former known_owners c.args.old.now c.requires)

pub loop-i-init : goal.loop-i-init
loop-i-init c = (omega arith, c.number-used.ensures.0, refl)

pub fits-requires : goal.fits-requires
fits-requires c = (c.requires, omega (arith, c.loop-i.invariant.1, c.loop-i-test.true))

pub returns-then-not-fits : goal.returns-then-not-fits
returns-then-not-fits c =
    let ws = c.args.old.now in
    let l = c.loop-i in
    let e = sym c.fits.ensures ∙ c.if-not-fits.true in
    sym (fit-failed base (slots_in former ws) l.i (omega (arith, count-slots former ws, l.invariant.1, c.loop-i-test.true)) e) ∙ l.invariant.2

pub loop-i-preserved : goal.loop-i-preserved
loop-i-preserved c =
    let ws = c.args.old.now in
    let l = c.loop-i in
    let e = sym c.fits.ensures ∙ c.if-not-fits.false in
    (omega (arith, c.loop-i-test.true), l.invariant.1, fit_passed base (slots_in former ws) l.i (omega (arith, count-slots former ws, l.invariant.1, c.loop-i-test.true)) e ∙ l.invariant.2)

pub returns : goal.returns
returns c =
    let ws = c.args.old.now in
    let l = c.loop-i in
    sym (fit-done base (slots_in former ws) l.i (omega (arith, count-slots former ws, l.invariant.1, c.loop-i-test.false))) ∙ l.invariant.2
