-- `image::scan::place`: `at` is the place of the record of this turn.
use Prim.Native.Nat.{◌+◌}
use native.Mathlib.Omega.{arith}
use mathlib.Core.Path.{◌≡◌, refl, sym, ap, ◌∙◌}
use Rattle.semantics.specs.Image.{place_of, next_place}
use Rattle.image.specs.Records.Laws.{place-next}
use Rattle.image.proofs.scan.place.Goals as goal

pub loop-init : goal.loop-init
unfolding place_of
loop-init c = (omega arith, refl)

pub loop-preserved : goal.loop-preserved
loop-preserved c =
    let l = c.loop in let im = c.args.image.now in let from = c.args.from in
    let z : l.at + (c.byte_or_zero.result + 1) ≡ next_place im l.at = omega (arith, c.byte_or_zero.ensures.value) in
    (omega (arith, c.byte_or_zero.ensures.upper_bound), z ∙ ap (next_place im) l.invariant.1 ∙ sym (place-next im from l.counter))

pub returns : goal.returns
returns c =
    let l = c.loop in let im = c.args.image.now in let from = c.args.from in
    let z : l.counter ≡ c.args.k = omega arith in
    record { value = l.invariant.1 ∙ ap (place_of im from) z; upper_bound = omega arith }
