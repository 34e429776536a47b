-- `image::blocks::word`: a word of the block, or 0 behind the last one.
use mathlib.Core.Path.{refl, sym}
use Rattle.image.specs.Index.Laws.{cell_out}
use Rattle.image.specs.Index.{cell}
use Rattle.image.proofs.blocks.word.Goals as goal

pub returns-then-at-index : goal.returns-then-at-index
unfolding cell
returns-then-at-index c = refl

pub returns-else-at-index : goal.returns-else-at-index
returns-else-at-index c = sym (cell_out c.args.index.now c.args.row c.args.n c.if-at-index.false)
