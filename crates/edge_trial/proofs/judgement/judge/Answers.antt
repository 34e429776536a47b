use mathlib.Core.Path.{sym, ap, ◌∙◌}
use mathlib.Core.Bool.{Bool}
use Rattle.storage.specs.Index.{node_row}
use Rattle.edge_trial.specs.Trials.{judgement_by}
use Rattle.edge_trial.specs.Trials.Laws.{judgement-is}
use Rattle.edge_trial.proofs.judgement.judge.Goals as goal
use Rattle.std.specs.Prelude.{Ok}

pub returns-in-Err : goal.returns-in-Err
returns-in-Err c =
    let a = c.args in
    let e = sym (ap (judgement_by (node_row a.index.now)) (sym c.judge.ensures ∙ c.in-Err.is)) in
    record { value = λ g p loaded st long below starts. e ∙ judgement-is loaded st long below starts a.edge; value_2 = e }

pub returns-in-Ok : goal.returns-in-Ok
returns-in-Ok c =
    let a = c.args in
    let e = ap (λ (b : Bool). Ok b) c.is_complete.ensures ∙ sym (ap (judgement_by (node_row a.index.now)) (sym c.judge.ensures ∙ c.in-Ok.is)) in
    record { value = λ g p loaded st long below starts. e ∙ judgement-is loaded st long below starts a.edge; value_2 = e }
