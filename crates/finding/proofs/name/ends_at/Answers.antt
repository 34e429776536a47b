-- `finding::name::ends_at`: the last edge stands as many words behind the count as there are edges.
use Prim.Native.Nat.{ℕ, ◌+◌, ◌*◌}
use mathlib.Core.Path.{ap, ◌∙◌}
use lib.ListN.{get_or}
use Rattle.semantics.specs.Limits.{slot_length}
use Rattle.storage.specs.Index.{edge_row}
use Rattle.finding.specs.Names.{leads_to}
use Rattle.finding.proofs.name.ends_at.Goals as goal

pub returns : goal.returns
returns c =
    let a = c.args in
    c.leads_to.ensures ∙ ap (λ (k : ℕ). leads_to a.node (edge_row a.index.now (get_or a.res.now (slot_length * a.i + k) 0)))
    c.edge_count-count.ensures
