-- `mark_few` meets its contract: the first i slots are judged, and every slot holds its list still.
use mathlib.Core.Path.{◌∙◌}
use native.Mathlib.Omega.{arith}
use Rattle.semantics.specs.Limits.{slot_length}
use Rattle.storage.specs.Index.{edge_row}
use Rattle.path.specs.Shadows.{shadows_edges}
use Rattle.reply.specs.EdgeLists.{beaten_list}
use Rattle.reply.specs.ResultSlots.Laws.{lists-marked}
use Rattle.reply.specs.ResultSlots.Marking.{mark-none, mark-word, mark-all}
use Rattle.reply.specs.ResultSlots.Passes.{all-fitting, looked, mark-next}
use borrow.Author.Rules.{rules}
use Rattle.reply.proofs.shadowed.mark_few.Invariants.{judged}
use Rattle.reply.proofs.shadowed.mark_few.Goals as goal

pub loop-i-init : goal.loop-i-init
loop-i-init c =
    let a = c.args in
    (search rules, search rules, λ k. mark-none slot_length (judged a.index.now k.lists) k.lists a.res.now (lists-marked slot_length a.n a.res.now k))

pub is_shadowed-shadowed-requires : goal.is_shadowed-shadowed-requires
is_shadowed-shadowed-requires c =
    let l = c.loop-i in
    let k = c.requires.lists in
    let m = l.invariant.2 k in
    let all = all-fitting m.held k.count in
    record { blocks = c.requires.holds_graph.loaded.long; all_fitting = (all, all l.i c.loop-i-test.true) }

pub mark_if-requires : goal.mark_if-requires
mark_if-requires c =
    let a = c.args in
    let l = c.loop-i in
    let k = c.requires.lists in
    let m = l.invariant.2 k in
    let t = judged a.index.now k.lists in
    ((all-fitting m.held k.count l.i c.loop-i-test.true).inside, mark-word slot_length l.i t k.lists l.res m (omega (arith, c.loop-i-test.true, k.count)))

pub loop-i-preserved : goal.loop-i-preserved
loop-i-preserved c =
    let a = c.args in
    let l = c.loop-i in
    let ix = a.index.now in (
      search rules,
      search rules,
      λ k.
          mark-next slot_length l.i (judged ix k.lists) k.count (l.invariant.2 k) c.loop-i-test.true
          (c.is_shadowed-shadowed.ensures ∙ looked (l.invariant.2 k).held k.count (beaten_list (shadows_edges (edge_row ix))) l.i c.loop-i-test.true)
          c.mark_if.ensures,
    )

pub returns : goal.returns
returns c =
    let a = c.args in
    let l = c.loop-i in
    (l.invariant.1, λ k. mark-all slot_length l.i (judged a.index.now k.lists) k.lists l.res (omega (arith, c.loop-i-test.false, k.count)) (l.invariant.2 k))
