use native.Mathlib.Omega.{arith}
use mathlib.Core.Path.{sym, ◌∙◌}
use Rattle.stitching_trial.specs.Trials.Laws.{shares-hit, shares-miss, shares-end}
use Rattle.stitching_trial.proofs.trial.shares.Goals as goal

pub returns-then-contains : goal.returns-then-contains
returns-then-contains c =
    let l = c.loop-edge in
    let a = c.args in
    sym (sym l.invariant
    ∙ shares-hit a.edges.now a.path.now l.edge-index (omega arith)
    (sym c.contains.ensures ∙ c.if-contains.true))

pub loop-edge-preserved : goal.loop-edge-preserved
loop-edge-preserved c =
    let l = c.loop-edge in
    let a = c.args in
    sym (shares-miss a.edges.now a.path.now l.edge-index (omega arith) (sym c.contains.ensures ∙ c.if-contains.false)) ∙ l.invariant

pub returns : goal.returns
returns c = let a = c.args in let l = c.loop-edge in sym (sym l.invariant ∙ shares-end a.edges.now a.path.now l.edge-index (omega arith))
