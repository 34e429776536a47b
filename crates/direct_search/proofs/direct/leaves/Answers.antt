-- `direct_search::direct::leaves`: none of the edges before this one does.
use mathlib.Core.Path.{sym, ◌∙◌}
use Rattle.storage.specs.Index.{edge_row}
use Rattle.direct_search.specs.Passes.TooLong.{leaves-here, leaves_later, leaves_none}
use Rattle.direct_search.proofs.direct.leaves.Goals as goal

pub returns-then-is_from : goal.returns-then-is_from
returns-then-is_from c =
    let a = c.args in
    let l = c.loop-edge in
    sym (leaves-here (edge_row a.index.now) a.node a.edges.now l.edge-index c.loop-edge-test.true (sym c.is_from.ensures ∙ c.if-is_from.true)) ∙ l.invariant

pub loop-edge-preserved : goal.loop-edge-preserved
loop-edge-preserved c =
    let a = c.args in
    let l = c.loop-edge in
    leaves_later (edge_row a.index.now) a.node a.edges.now l.edge-index c.loop-edge-test.true (sym c.is_from.ensures ∙ c.if-is_from.false) ∙ l.invariant

pub returns : goal.returns
returns c =
    let a = c.args in
    let l = c.loop-edge in
    sym (leaves_none (edge_row a.index.now) a.node a.edges.now l.edge-index c.loop-edge-test.false) ∙ l.invariant
