-- `image::blocks::put_node`: six stores.
use mathlib.Core.Path.{refl}
use native.Mathlib.Omega.{arith}
use lib.ListN.{length-set}
use Rattle.image.specs.Index.{put_node}
use Rattle.image.proofs.blocks.put_node.Goals as goal

pub bounds-index-at-2 : goal.bounds-index-at-2
bounds-index-at-2 c = simp length-set (omega arith)

pub bounds-index-at-3 : goal.bounds-index-at-3
bounds-index-at-3 c = simp length-set (omega arith)

pub bounds-index-at-4 : goal.bounds-index-at-4
bounds-index-at-4 c = simp length-set (omega arith)

pub bounds-index-at-5 : goal.bounds-index-at-5
bounds-index-at-5 c = simp length-set (omega arith)

pub bounds-index-at-6 : goal.bounds-index-at-6
bounds-index-at-6 c = simp length-set (omega arith)

pub returns : goal.returns
unfolding put_node
returns c = refl
