-- `storage::store::is_plain`: two kinds are plain.
use Prim.Native.Nat.{◌+◌, ◌*◌}
use mathlib.Core.Path.{sym, ◌∙◌}
use mathlib.Core.List.{[], ◌∷◌}
use lib.ListN.{get_or}
use Rattle.storage.specs.Index.{BLOCK, KIND, cell}
use Rattle.storage.specs.Index.Laws.{has_one, has-none, plain_row}
use Rattle.storage.proofs.store.is_plain.Goals as goal

pub returns-in-1 : goal.returns-in-1
unfolding cell
returns-in-1 c = let a = c.args in sym (has_one (1 ∷ 3 ∷ []) (get_or a.index.now (BLOCK * a.n.0 + KIND) 0) c.in-1.is) ∙ plain_row a.index.now a.n.0

pub returns-in_default : goal.returns-in_default
unfolding cell
returns-in_default c = let a = c.args in sym (has-none (1 ∷ 3 ∷ []) (get_or a.index.now (BLOCK * a.n.0 + KIND) 0) c.in_default.in_default-own.rest.1) ∙ plain_row a.index.now a.n.0
