use mathlib.Core.Path.{ap, ◌∙◌}
use Rattle.semantics.specs.Words.{zeros}
use Rattle.search_rounds.specs.Finishes.{over-holds, over-lists, over-does, refused-does}
use Rattle.search_rounds.proofs.conclusion.conclude.Goals as goal

pub finish-paths-requires : goal.finish-paths-requires
finish-paths-requires c =
    let p = c.requires in
    record { holds_graph = over-holds p c.in-Ok.finished c.in-Ok.is; lists = over-lists p c.in-Ok.finished c.in-Ok.is }

pub returns-in-Ok : goal.returns-in-Ok
returns-in-Ok c =
    let finish = c.finish-paths in
    let zero' = c.zero in
    let a = c.args in
    λ v j q w l.
    over-does v c.in-Ok.finished c.in-Ok.is a.reply q l j (zero'.ensures ∙ ap zeros w) finish.result finish.new.res
    finish.auto.res finish.ensures c.stats.ensures

pub returns-in-Err : goal.returns-in-Err
returns-in-Err c =
    let zero' = c.zero in
    let a = c.args in
    λ v j q w l.
    refused-does v a.reply q l c.in-Err.r c.in-Err.is (zero'.ensures ∙ ap zeros w) c.zero-in-Err.ensures
