-- `is_shadowed` meets its contract: what is left to look at decides.
use mathlib.Core.Path.{sym, ap, ◌∙◌}
use mathlib.Core.List.{List}
use Prim.Native.Nat.{ℕ}
use native.Mathlib.Omega.{arith}
use Rattle.semantics.specs.Limits.{slot_length}
use Rattle.storage.specs.Index.{edge_row}
use Rattle.path.specs.Shadows.{shadows_edges}
use Rattle.reply.specs.EdgeLists.Shadowed.{beaten-end, beaten-found, beaten-on}
use Rattle.reply.specs.ResultSlots.{edges_at, lists_at}
use Rattle.reply.specs.ResultSlots.Laws.{length-lists, lists_at_lem}
use borrow.Author.Rules.{rules}
use Rattle.reply.proofs.shadowed.is_shadowed.Goals as goal

pub shadows_slot-requires : goal.shadows_slot-requires
shadows_slot-requires c =
    let p = c.requires.all_fitting in
    record { blocks = search rules; fitting = (p.0 c.loop-j.j c.loop-j-test.true, p.1) }

pub returns-then-shadows_slot : goal.returns-then-shadows_slot
returns-then-shadows_slot c =
    let a = c.args in
    let l = c.loop-j in
    let ws = a.res.now in
    let edges = edge_row a.index.now in
    let h = c.loop-j-test.true in
    let hit = ap (λ (x : List ℕ). shadows_edges edges x (edges_at slot_length a.i ws)) (lists_at_lem slot_length a.n l.j ws h) ∙ sym c.shadows_slot.ensures ∙ c.if-shadows_slot.true in
    sym (beaten-found edges (edges_at slot_length a.i ws) (lists_at slot_length a.n ws) l.j (omega (arith, h, length-lists slot_length a.n ws)) hit) ∙ l.invariant.1

pub loop-j-preserved : goal.loop-j-preserved
loop-j-preserved c =
    let a = c.args in
    let l = c.loop-j in
    let ws = a.res.now in
    let edges = edge_row a.index.now in
    let h = c.loop-j-test.true in
    let miss = ap (λ (x : List ℕ). shadows_edges edges x (edges_at slot_length a.i ws)) (lists_at_lem slot_length a.n l.j ws h) ∙ sym c.shadows_slot.ensures ∙ c.if-shadows_slot.false in
    (search rules, beaten-on edges (edges_at slot_length a.i ws) (lists_at slot_length a.n ws) l.j (omega (arith, h, length-lists slot_length a.n ws)) miss ∙ l.invariant.1)

pub returns : goal.returns
returns c =
    let a = c.args in
    let l = c.loop-j in
    let ws = a.res.now in
    sym (beaten-end (edge_row a.index.now) (edges_at slot_length a.i ws) (lists_at slot_length a.n ws) l.j (omega (arith, c.loop-j-test.false, length-lists slot_length a.n ws))) ∙ l.invariant.1
