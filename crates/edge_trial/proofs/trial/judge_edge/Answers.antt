use Prim.Native.Nat.{◌+◌}
use native.Mathlib.Omega.{arith}
use mathlib.Core.Path.{sym, ◌∙◌}
use borrow.Author.Tests.{lt-ltb, le-ltb}
use lib.Dec.{ltb}
use lib.ListN.{length}
use Rattle.semantics.specs.Limits.{within, max_edges}
use Rattle.storage.specs.Index.{node_row, edge_row}
use Rattle.stepping.specs.Judged.{judged_of}
use Rattle.edge_trial.specs.Trials.Laws.{trial-cut, trial-overlong, trial-bound, trial-tried, asked-within}
use Rattle.edge_trial.proofs.trial.judge_edge.Goals as goal

pub returns-then-contains : goal.returns-then-contains
returns-then-contains c =
    let a = c.args in
    trial-cut (node_row a.index.now) (within (length a.edges.now + 1) a.budget.max_length) (ltb (length a.edges.now) max_edges)
    (judged_of (node_row a.index.now) a.steps.now (length a.edges.now) a.edge (edge_row a.index.now a.edge))
    (sym c.contains.ensures ∙ c.if-contains.true)

pub returns-then-edges-lt-MAX_EDGES : goal.returns-then-edges-lt-MAX_EDGES
returns-then-edges-lt-MAX_EDGES c =
    let a = c.args in
    c.tried.ensures
    ∙ trial-tried (node_row a.index.now) (within (length a.edges.now + 1) a.budget.max_length) (ltb (length a.edges.now) max_edges)
    (judged_of (node_row a.index.now) a.steps.now (length a.edges.now) a.edge (edge_row a.index.now a.edge))
    (sym c.contains.ensures ∙ c.if-contains.false)
    (asked-within (length a.edges.now + 1) a.budget c.admitted_length-asked.ensures c.if-asked.true)
    (lt-ltb (length a.edges.now) max_edges (omega (arith, c.if-edges-lt-MAX_EDGES.true)))

pub returns-then-asked : goal.returns-then-asked
returns-then-asked c =
    let a = c.args in
    trial-bound (node_row a.index.now) (within (length a.edges.now + 1) a.budget.max_length) (ltb (length a.edges.now) max_edges)
    (judged_of (node_row a.index.now) a.steps.now (length a.edges.now) a.edge (edge_row a.index.now a.edge))
    (sym c.contains.ensures ∙ c.if-contains.false)
    (asked-within (length a.edges.now + 1) a.budget c.admitted_length-asked.ensures c.if-asked.true)
    (le-ltb (length a.edges.now) max_edges (omega (arith, c.if-edges-lt-MAX_EDGES.false)))

pub returns : goal.returns
returns c =
    let a = c.args in
    trial-overlong (node_row a.index.now) (within (length a.edges.now + 1) a.budget.max_length) (ltb (length a.edges.now) max_edges)
    (judged_of (node_row a.index.now) a.steps.now (length a.edges.now) a.edge (edge_row a.index.now a.edge))
    (sym c.contains.ensures ∙ c.if-contains.false)
    (asked-within (length a.edges.now + 1) a.budget c.admitted_length-asked.ensures c.if-asked.false)
