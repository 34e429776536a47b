-- `flow_directory::isin::is_in_form`: what stands from i on decides.
use Prim.Native.Nat.{◌+◌}
use native.Mathlib.Omega.{arith}
use mathlib.Core.Path.{◌≡◌, sym, ap, ◌∙◌}
use mathlib.Core.Bool.{Bool, true, false}
use lib.ListN.{get_or, drop}
use Rattle.semantics.specs.Lists.{and}
use Rattle.semantics.specs.Isin.{may_stand, in_form}
use Rattle.flow_directory.specs.Sums.Laws.{form-more, form-end}
use Rattle.flow_directory.proofs.isin.is_in_form.Goals as goal

pub returns-then-not-may_stand : goal.returns-then-not-may_stand
returns-then-not-may_stand c =
    let l = c.loop-i in
    let cs = c.args.isin.now in
    let e : may_stand l.i (get_or cs l.i 0) ≡ false = sym c.may_stand.ensures ∙ c.if-not-may_stand.true in
    sym (l.invariant ∙ form-more cs l.i c.loop-i-test.true ∙ ap (λ (b : Bool). and b (in_form (l.i + 1) (drop (l.i + 1) cs))) e)

pub loop-i-preserved : goal.loop-i-preserved
loop-i-preserved c =
    let l = c.loop-i in
    let cs = c.args.isin.now in
    let e : may_stand l.i (get_or cs l.i 0) ≡ true = sym c.may_stand.ensures ∙ c.if-not-may_stand.false in
    l.invariant ∙ form-more cs l.i c.loop-i-test.true ∙ ap (λ (b : Bool). and b (in_form (l.i + 1) (drop (l.i + 1) cs))) e

pub returns : goal.returns
returns c = let l = c.loop-i in sym (l.invariant ∙ form-end c.args.isin.now l.i (omega (arith, c.loop-i-test.false)))
