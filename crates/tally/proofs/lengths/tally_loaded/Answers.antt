-- `tally::lengths::tally_loaded`: the numbers of a search that is over, or its refusal.
use mathlib.Core.Path.{refl, ap, subst, ◌∙◌}
use Rattle.semantics.specs.Words.{zeros}
use Rattle.search_rounds.specs.Drives.{SearchEnd}
use Rattle.direct_search.specs.Counting.{Tallies, tallied_on}
use Rattle.tally.specs.Tallies.Laws.{told_over, told-refused}
use Rattle.tally.proofs.lengths.tally_loaded.Goals as goal
use Rattle.std.specs.Prelude.{Ok}

pub returns-in-Ok : goal.returns-in-Ok
returns-in-Ok c =
    let a = c.args in
    let ns = c.search-end.new.numbers in
    λ g l.
    told_over g a.work.now a.reference (record { answer = Ok tt; numbers = ns }) (c.zero.ensures ∙ ap zeros c.search-end.auto.work) c.in-Ok.field-0
    (subst (λ (e : SearchEnd). Tallies e ns (tallied_on g a.work.now a.reference)) c.in-Ok.is (c.search-end.ensures g l)) refl

pub returns-in-Err : goal.returns-in-Err
returns-in-Err c =
    let a = c.args in
    let ns = c.search-end.new.numbers in
    λ g l.
    told-refused g a.work.now a.reference c.refused.result (c.zero.ensures ∙ ap zeros c.search-end.auto.work) c.in-Err.r ns
    (subst (λ (e : SearchEnd). Tallies e ns (tallied_on g a.work.now a.reference)) c.in-Err.is (c.search-end.ensures g l)) c.refused.ensures.0 c.refused.ensures.1
