use Prim.Native.Nat.{◌+◌, ◌-◌}
use native.Mathlib.Omega.{arith}
use mathlib.Core.Path.{◌≡◌, refl, subst, ◌∙◌}
use Rattle.semantics.specs.Hidden.{sees}
use Rattle.stitching_trial.specs.Links.{LinkedFrom}
use Rattle.stitching_trial.specs.Links.Laws.{readable-front, link_start, link-end}
use Rattle.stitching_trial.proofs.links.link.Goals as goal

pub number-requires : goal.number-requires
number-requires c = let p = c.requires in let h = readable-front p.0 in omega (arith, h)

pub overflow_cast-number : goal.overflow_cast-number
overflow_cast-number c = omega (arith, c.number.ensures.1)

pub number-used-requires : goal.number-used-requires
number-used-requires c = let p = c.requires in let h = readable-front p.0 in omega (arith, h)

pub loop-i-init : goal.loop-i-init
loop-i-init c = let a = c.args in let p = c.requires in (refl, c.number-used.ensures.0, link_start (sees a.visible.now) a.words.now p.1 c.number-used.ensures.0)

pub link_one-requires : goal.link_one-requires
link_one-requires c =
    let l = c.loop-i in
    let a = c.args in
    let p = c.requires in
    let files = c.number.ensures in
    let w = a.words.now in record {
      readable = (
        p.0,
        omega (arith, l.invariant.1, l.auto.i, c.loop-i-test.true),
        subst (λ n. LinkedFrom (sees a.visible.now) w l.links n) (let z : l.i ≡ l.i - 1 + 1 = omega (arith, c.loop-i-test.true) in z) l.invariant.2,
      );
      shows_all = λ none f h. c.hides_some-hides.ensures none f (omega (arith, h, files.0));
    }

pub loop-i-preserved : goal.loop-i-preserved
loop-i-preserved c = let l = c.loop-i in (c.link_one.auto.links ∙ l.invariant.0, l.invariant.1, c.link_one.ensures)

pub returns : goal.returns
returns c = let a = c.args in let p = c.requires in let l = c.loop-i in link-end (sees a.visible.now) l.links p.0 l.i (omega (arith, c.loop-i-test.false)) l.invariant.2
