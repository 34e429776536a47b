-- `flow_directory::rows::look_up`: the first i rows ascend, and which of them has the key.
use Prim.Native.Nat.{◌+◌}
use native.Mathlib.Omega.{arith}
use mathlib.Core.Path.{refl, ◌∙◌}
use Rattle.semantics.specs.Entries.{key_of}
use Rattle.semantics.specs.Directory.{ascends, looked_up}
use Rattle.flow_directory.specs.Keys.Laws.{ascends-more, disordered, left_over, found-more, found_none, looked-there}
use Rattle.flow_directory.proofs.rows.look_up.Goals as goal

pub returns-then-rows-gt0 : goal.returns-then-rows-gt0
returns-then-rows-gt0 c = let a = c.args in left_over a.rows.now (omega (arith, c.if-rows-gt0.true)) (looked_up a.rows.now (key_of a.sought.isin.now a.sought.tranche a.sought.leg))

pub loop-i-init : goal.loop-i-init
unfolding ascends
loop-i-init c = let a = c.args in (omega arith, refl, found_none a.rows.now (key_of a.sought.isin.now a.sought.tranche a.sought.leg))

pub rises-requires : goal.rises-requires
rises-requires c = omega (arith, c.loop-i-test.true)

pub returns-then-not-rises : goal.returns-then-not-rises
returns-then-not-rises c = let a = c.args in
    disordered a.rows.now (c.loop-i.i + 1) (omega (arith, c.loop-i-test.true))
    (ascends-more a.rows.now c.loop-i.i c.loop-i.invariant.1 c.rises.result c.rises.ensures ∙ c.if-not-rises.true)
    (looked_up a.rows.now (key_of a.sought.isin.now a.sought.tranche a.sought.leg))

pub noted-found-requires : goal.noted-found-requires
noted-found-requires c = (omega (arith, c.loop-i-test.true), c.requires)

pub loop-i-preserved : goal.loop-i-preserved
loop-i-preserved c = let a = c.args in (
  omega (arith, c.loop-i-test.true),
  ascends-more a.rows.now c.loop-i.i c.loop-i.invariant.1 c.rises.result c.rises.ensures ∙ c.if-not-rises.false,
  found-more a.rows.now (key_of a.sought.isin.now a.sought.tranche a.sought.leg) c.loop-i.i c.loop-i.found c.noted-found.result c.loop-i.invariant.2 c.noted-found.ensures,
)

pub returns : goal.returns
returns c = let a = c.args in
    c.ok_or.ensures.value ∙ looked-there a.rows.now (key_of a.sought.isin.now a.sought.tranche a.sought.leg) c.loop-i.i c.loop-i.found (omega (arith, c.if-rows-gt0.false)) (omega (arith, c.loop-i-test.false, c.loop-i.invariant.0)) c.loop-i.invariant.1 c.loop-i.invariant.2
