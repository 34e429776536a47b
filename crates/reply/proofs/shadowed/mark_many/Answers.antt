-- `mark_many` meets its contract: the first i slots are judged, and every slot holds its list still.
use mathlib.Core.Path.{◌∙◌}
use mathlib.Core.Bool.{false}
use native.Mathlib.Omega.{arith}
use Rattle.semantics.specs.Limits.{slot_length}
use Rattle.storage.specs.Index.{edge_row}
use Rattle.path.specs.Shadows.{shadows_edges}
use Rattle.reply.specs.EdgeLists.{beaten_list}
use Rattle.reply.specs.ResultSlots.Laws.{lists-marked}
use Rattle.reply.specs.ResultSlots.Marking.{up_to, mark-none, mark-word, mark-all}
use Rattle.reply.specs.ResultSlots.Passes.{all-fitting, looked, mark-next}
use Rattle.reply.specs.Rivals.Laws.{best-same}
use borrow.Author.Rules.{rules}
use Rattle.reply.proofs.shadowed.mark_many.Invariants.{judged}
use Rattle.reply.proofs.shadowed.mark_many.Goals as goal

pub note_all-requires : goal.note_all-requires
note_all-requires c =
    let a = c.args in
    let k = c.requires.lists in
    let ws = a.res.now in
    record { blocks = c.requires.holds_graph.loaded.long; all_fitting = (all-fitting (lists-marked slot_length a.n ws k).held k.count, c.requires.best) }

pub loop-i-init : goal.loop-i-init
loop-i-init c =
    let a = c.args in
    (search rules, search rules, λ k. mark-none slot_length (judged a.index.now k.lists) k.lists a.res.now (lists-marked slot_length a.n a.res.now k))

pub is_beaten-shadowed-requires : goal.is_beaten-shadowed-requires
is_beaten-shadowed-requires c =
    let l = c.loop-i in
    let note-all = c.note_all in
    let a = c.args in
    let p = c.requires in
    let k = p.lists in
    let m = l.invariant.2 k in
    let marked = up_to l.i (judged a.index.now k.lists) in
    let ws = a.res.now in
    let all = all-fitting m.held k.count in
    let best = best-same slot_length a.index.now note-all.new.best a.n (λ j. false) marked k.lists ws l.res k.count
    (lists-marked slot_length a.n ws k).held m.held note-all.ensures in
    record { blocks = p.holds_graph.loaded.long; all_fitting = (all, c.loop-i-test.true); best = best }

pub mark_if-requires : goal.mark_if-requires
mark_if-requires c =
    let a = c.args in
    let l = c.loop-i in
    let k = c.requires.lists in
    let m = l.invariant.2 k in
    let t = judged a.index.now k.lists in
    ((all-fitting m.held k.count l.i c.loop-i-test.true).inside, mark-word slot_length l.i t k.lists l.res m (omega (arith, c.loop-i-test.true, k.count)))

pub loop-i-preserved : goal.loop-i-preserved
loop-i-preserved c =
    let a = c.args in
    let l = c.loop-i in
    let ix = a.index.now in (
      search rules,
      search rules,
      λ k.
          mark-next slot_length l.i (judged ix k.lists) k.count (l.invariant.2 k) c.loop-i-test.true
          (c.is_beaten-shadowed.ensures ∙ looked (l.invariant.2 k).held k.count (beaten_list (shadows_edges (edge_row ix))) l.i c.loop-i-test.true)
          c.mark_if.ensures,
    )

pub returns : goal.returns
returns c =
    let a = c.args in
    let l = c.loop-i in
    (l.invariant.1, λ k. mark-all slot_length l.i (judged a.index.now k.lists) k.lists l.res (omega (arith, c.loop-i-test.false, k.count)) (l.invariant.2 k))
