-- `flow_directory::ends::end`: the last edge stands as many words behind the count as there are edges.
use Prim.Native.Nat.{ℕ, ◌+◌, ◌*◌}
use mathlib.Core.Path.{ap, ◌∙◌}
use lib.ListN.{get_or}
use Rattle.semantics.specs.Limits.{slot_length}
use Rattle.storage.specs.Index.{edge_row}
use Rattle.flow_directory.specs.Ends.{target_of}
use Rattle.flow_directory.proofs.ends.end.Goals as goal

pub returns : goal.returns
returns c = let a = c.args in c.target.ensures ∙ ap (λ (k : ℕ). target_of (edge_row a.index.now (get_or a.res.now (slot_length * a.i + k) 0))) c.edge_count-count.ensures
