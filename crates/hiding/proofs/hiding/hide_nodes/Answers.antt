-- `hiding::hiding::hide_nodes`: the nodes below `n` are as the desk sees them.
use borrow.Author.Rules.{rules}
use Prim.Native.Nat.{◌%◌}
use native.Mathlib.Omega.{arith}
use mathlib.Core.Path.{◌≡◌, refl, sym, subst}
use Rattle.image.specs.Index.{BLOCK}
use Rattle.image.specs.Filling.{Filled}
use Rattle.semantics.specs.Hidden.{sees}
use Rattle.hiding.specs.Hiding.{seen_to}
use Rattle.hiding.specs.Hiding.Laws.{none_hidden}
use Rattle.hiding.proofs.hiding.hide_nodes.Goals as goal

pub loop-n-init : goal.loop-n-init
loop-n-init c = (refl, λ f D d. none_hidden (sees c.args.visible.now) c.args.index.now f D d)

pub hide_node-requires : goal.hide_node-requires
hide_node-requires c = let l = c.loop-n in let p = c.requires in let z = l.invariant.0 in record { blocks = subst (λ m. m % BLOCK ≡ 0) (sym z) p.blocks; n_bound = (omega (arith, c.loop-n-test.true, p.count_bound.0), omega (arith, z, c.loop-n-test.true, p.count_bound.1)) }

pub loop-n-preserved : goal.loop-n-preserved
loop-n-preserved c = let l = c.loop-n in (search rules, λ f D d. c.hide_node.ensures f D (l.invariant.1 f D d))

pub returns : goal.returns
returns c = let l = c.loop-n in let a = c.args in let z : l.n ≡ a.count = omega arith in λ f D d. subst (λ m. Filled (seen_to (sees a.visible.now) m f) D l.index) z (l.invariant.1 f D d)
