-- `judge` meets its contract: a path without a rival is beaten by none, and one that its rival shadows is beaten.
use mathlib.Core.Path.{sym, ap, ◌∙◌}
use mathlib.Core.List.{List}
use Prim.Native.Nat.{ℕ, ◌*◌, ◌/◌, ◌<◌}
use native.Mathlib.Omega.{arith}
use Rattle.semantics.specs.Limits.{slot_length}
use Rattle.storage.specs.Index.{edge_row}
use Rattle.path.specs.Shadows.{shadows_edges}
use Rattle.reply.specs.EdgeLists.Shadowed.{beaten-by}
use Rattle.reply.specs.ResultSlots.{edges_at, lists_at}
use Rattle.reply.specs.ResultSlots.Laws.{length-lists, lists_at_lem}
use Rattle.reply.specs.Rivals.Laws.{best-inside, best-within, never-beaten}
use Rattle.reply.proofs.shadowed.is_beaten.Goals as goal

pub first_rival-place-requires : goal.first_rival-place-requires
first_rival-place-requires c =
    let a = c.args in
    let ix = a.index.now in
    let ws = a.res.now in
    let all = c.requires.all_fitting.0 in
    let h = c.requires.all_fitting.1 in
    record { blocks = c.requires.blocks; fitting = (all a.i h, best-within ix ws a.best.now slot_length a.n a.i all h c.requires.best) }

pub returns-then-place-lt1 : goal.returns-then-place-lt1
returns-then-place-lt1 c =
    let a = c.args in
    let ix = a.index.now in
    let ws = a.res.now in
    let all = c.requires.all_fitting.0 in
    let h = c.requires.all_fitting.1 in
    sym (never-beaten slot_length ix ws a.best.now a.n a.i all h c.requires.best (c.first_rival-place.ensures.0 (omega (arith, c.if-place-lt1.true))))

pub shadows_slot-requires : goal.shadows_slot-requires
shadows_slot-requires c =
    let a = c.args in
    let ix = a.index.now in
    let ws = a.res.now in
    let all = c.requires.all_fitting.0 in
    let h = c.requires.all_fitting.1 in
    let inside = best-inside ix ws a.best.now slot_length (slot_length * a.n) (omega (arith, h)) c.requires.best in
    let place = c.first_rival-place.ensures.1 (slot_length * a.n) inside (omega (arith, h)) in
    record { blocks = c.requires.blocks; fitting = (all (c.first_rival-place.result / slot_length) (omega (arith, place)), all a.i h) }

pub returns-then-shadows_slot : goal.returns-then-shadows_slot
returns-then-shadows_slot c =
    let a = c.args in
    let ix = a.index.now in
    let ws = a.res.now in
    let h = c.requires.all_fitting.1 in
    let inside = best-inside ix ws a.best.now slot_length (slot_length * a.n) (omega (arith, h)) c.requires.best in
    let place = c.first_rival-place.ensures.1 (slot_length * a.n) inside (omega (arith, h)) in
    let edges = edge_row ix in
    let own = edges_at slot_length a.i ws in
    let j = c.first_rival-place.result / slot_length in
    let m : j < a.n = omega (arith, place) in
    let hit = ap (λ (x : List ℕ). shadows_edges edges x own) (lists_at_lem slot_length a.n j ws m) ∙ sym c.shadows_slot.ensures ∙ c.if-shadows_slot.true in
    sym (beaten-by edges own (lists_at slot_length a.n ws) j (omega (arith, m, length-lists slot_length a.n ws)) hit)

pub is_shadowed-requires : goal.is_shadowed-requires
is_shadowed-requires c =
    let p = c.requires.all_fitting in
    record { blocks = c.requires.blocks; all_fitting = (p.0, p.0 c.args.i p.1) }
