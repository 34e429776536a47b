use mathlib.Core.Path.{sym, ap, ◌∙◌}
use Rattle.std.specs.Prelude.{Ok}
use borrow.Author.Rules.{rules}
use Rattle.search_state.specs.declared.search.Round.{Round}
use Rattle.search_state.specs.declared.progress.Progress.{Progress}
use Rattle.search_state.specs.Progresses.{next_of}
use Rattle.search_state.specs.Progresses.Laws.{take-given, takes-next}
use Rattle.search_state.proofs.progress.Progress.take.Goals as goal

pub take-requires : goal.take-requires
take-requires c = let a = c.args in let p = c.requires in take-given a.frame a.self c.at.ensures p

pub returns : goal.returns
returns c =
    let a = c.args in
    takes-next a.frame a.self c.at.ensures c.take.ensures
    (ap (λ (r : Round Progress). Ok r) c.progress.ensures ∙ sym (ap next_of c.in_ok-take.was))

pub returns-in_err-take : goal.returns-in_err-take
returns-in_err-take c =
    let a = c.args in
    takes-next a.frame a.self c.at.ensures c.take.ensures (search rules ∙ sym (ap next_of c.in_err-take.was))
