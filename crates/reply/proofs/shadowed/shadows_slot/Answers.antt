-- `shadows_slot` meets its contract: the parts that are lent are the edges of both slots.
use mathlib.Core.Path.{ap, ap₂, ◌∙◌}
use Prim.Native.Nat.{ℕ, ◌+◌, ◌*◌, ◌-◌}
use lib.ListN.{take, drop}
use Rattle.semantics.specs.Limits.{slot_length}
use Rattle.storage.specs.Index.{edge_row}
use Rattle.path.specs.Shadows.{shadows_edges}
use Rattle.reply.specs.ResultSlots.Laws.{edges-part}
use Rattle.reply.proofs.shadowed.shadows_slot.Goals as goal

pub returns : goal.returns
returns c =
    let a = c.args in
    let p = c.requires.fitting in
    let ws = a.res.now in
    c.shadows.ensures
    ∙ ap₂ (shadows_edges (edge_row a.index.now))
    (ap (λ (k : ℕ). take (slot_length * a.i + 1 + k - (slot_length * a.i + 1)) (drop (slot_length * a.i + 1) ws)) c.edge_count-m.ensures ∙ edges-part slot_length a.i ws p.0)
    (ap (λ (k : ℕ). take (slot_length * a.j + 1 + k - (slot_length * a.j + 1)) (drop (slot_length * a.j + 1) ws)) c.edge_count-n.ensures ∙ edges-part slot_length a.j ws p.1)
