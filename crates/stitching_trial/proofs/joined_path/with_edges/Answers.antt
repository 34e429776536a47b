use native.Mathlib.Omega.{arith}
use mathlib.Core.Path.{refl, ◌∙◌}
use lib.ListN.{take, drop}
use Rattle.semantics.specs.Limits.{max_edges}
use Rattle.stitching_trial.specs.Items.{front_length, grown-start, grown-again, grown-end}
use Rattle.stitching_trial.proofs.joined_path.with_edges.Goals as goal

pub shorten-requires : goal.shorten-requires
shorten-requires c = let p = c.requires in (p.0, omega (arith, p.1))

pub loop-i-init : goal.loop-i-init
loop-i-init c = let a = c.args in (refl, λ ps e n. grown-start max_edges ps a.edges.now e)

pub overflow_add-k : goal.overflow_add-k
overflow_add-k c = let p = c.requires in let l = c.loop-i in omega (arith, c.loop-i-test.true, p.1)

pub with_edge-requires : goal.with_edge-requires
with_edge-requires c =
    let l = c.loop-i in
    let p = c.requires in
    let h = c.shorten.auto.item in
    (omega (arith, c.loop-i-test.true, l.invariant.0, h, p.0, p.1), omega (arith, l.invariant.0, h, p.0))

pub loop-i-preserved : goal.loop-i-preserved
loop-i-preserved c =
    let loop-test = c.loop-i-test in
    let l = c.loop-i in
    let a = c.args in
    let p = c.requires in (
      c.with_edge.auto.item ∙ l.invariant.0,
      λ ps e n.
          grown-again max_edges ps a.edges.now l.i (l.invariant.1 ps e n) n p.1 (omega (arith, loop-test.true))
          c.with_edge.ensures,
    )

pub returns : goal.returns
returns c =
    let l = c.loop-i in
    let a = c.args in
    let p = c.requires in
    grown-end max_edges (take a.k (drop 1 a.item.now)) a.edges.now l.i
    (l.invariant.1 (take a.k (drop 1 a.item.now)) c.shorten.ensures
    (front_length max_edges a.item.now a.k p.0 (omega (arith, p.1)))) (omega (arith, c.loop-i-test.false))
