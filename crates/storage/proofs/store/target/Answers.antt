-- `storage::store::target`: one word of the edge's block.
use mathlib.Core.Path.{refl}
use Rattle.storage.specs.Index.{cell}
use Rattle.storage.proofs.store.target.Goals as goal

pub returns : goal.returns
unfolding cell
returns c = refl
