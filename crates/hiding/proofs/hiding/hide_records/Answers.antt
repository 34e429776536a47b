-- `hiding::hiding::hide_records`: both passes leave what the desk sees.
use Rattle.semantics.specs.Hidden.{sees}
use Rattle.hiding.specs.Hiding.Whole.{both-passes}
use Rattle.hiding.proofs.hiding.hide_records.Goals as goal

pub hide_nodes-requires : goal.hide_nodes-requires
hide_nodes-requires c = let p = c.requires in record { blocks = p.blocks; count_bound = p.nodes-bound }

pub returns : goal.returns
returns c =
    let a = c.args in
    λ g good n h. both-passes (sees a.visible.now) g good a.counts.nodes a.counts.edges n.node-count n.edge-count a.index.now c.hide_nodes.new.index c.hide_edges.new.index h c.hide_nodes.ensures c.hide_edges.ensures
