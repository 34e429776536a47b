-- `hiding::hiding::hide_edges`: the edges below `e` are pruned.
use borrow.Author.Rules.{rules}
use Prim.Native.Nat.{◌%◌}
use native.Mathlib.Omega.{arith}
use mathlib.Core.Path.{◌≡◌, refl, sym, subst}
use Rattle.image.specs.Index.{BLOCK}
use Rattle.image.specs.Filling.{Filled}
use Rattle.hiding.specs.Hiding.{pruned_to}
use Rattle.hiding.specs.Hiding.Laws.{none-pruned}
use Rattle.hiding.proofs.hiding.hide_edges.Goals as goal

pub loop-e-init : goal.loop-e-init
loop-e-init c = (refl, λ F f d. none-pruned c.args.index.now F f d)

pub hide_edge-requires : goal.hide_edge-requires
hide_edge-requires c = let l = c.loop-e in let p = c.requires in let z = l.invariant.0 in record { blocks = subst (λ m. m % BLOCK ≡ 0) (sym z) p.blocks; e_bound = (omega (arith, c.loop-e-test.true, p.count_bound.0), omega (arith, z, c.loop-e-test.true, p.count_bound.1)) }

pub loop-e-preserved : goal.loop-e-preserved
loop-e-preserved c = let l = c.loop-e in (search rules, λ F f d. c.hide_edge.ensures F f (l.invariant.1 F f d))

pub returns : goal.returns
returns c = let l = c.loop-e in let a = c.args in let z : l.e ≡ a.count = omega arith in λ F f d. subst (λ m. Filled F (pruned_to F m f) l.index) z (l.invariant.1 F f d)
