-- `readers::listing::put_references`: the references below n stand in the area.
use native.Mathlib.Omega.{arith}
use mathlib.Core.Path.{refl, ◌∙◌}
use Rattle.readers.specs.Listing.Laws.{referred-none, referred-more, referred-all, row-adds}
use Rattle.readers.proofs.listing.put_references.Goals as goal

pub loop-n-init : goal.loop-n-init
loop-n-init c = let a = c.args in (refl, omega arith, λ g l e. referred-none g.nodes a.res.now c.requires.1)

pub put_reference-count-requires : goal.put_reference-count-requires
put_reference-count-requires c =
    let p = c.requires.0 in
    let l = c.loop-n in
    let k = l.invariant.2 p.holds.graph p.holds.loaded p.node-count in
    (p.holds.loaded.long, omega (arith, k.few, l.invariant.1, p.node-count, p.holds.loaded.nodes))

pub loop-n-preserved : goal.loop-n-preserved
loop-n-preserved c =
    let l = c.loop-n in
    let put = c.put_reference-count in
    let t = c.loop-n-test.true in
    (put.auto.res ∙ l.invariant.0, omega (arith, t), λ g k e. referred-more g.nodes (omega (arith, t, e)) (l.invariant.2 g k e) (row-adds g k l.n put.ensures))

pub returns : goal.returns
returns c = let l = c.loop-n in λ g k e. referred-all g.nodes (omega (arith, c.loop-n-test.false, e)) (omega (arith, l.invariant.1, e)) (l.invariant.2 g k e)
