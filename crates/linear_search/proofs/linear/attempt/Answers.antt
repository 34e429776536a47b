use Prim.Native.Nat.{ℕ, ◌/◌}
use mathlib.Core.Path.{refl, ap, ◌∙◌}
use lib.ListN.{replicate}
use Rattle.semantics.specs.Limits.{slot_length}
use Rattle.search_state.specs.States.{new_state}
use Rattle.linear_search.specs.LinearAnswers.Laws.{begin-refused, begin-walking, begin-walked}
use Rattle.linear_search.proofs.linear.attempt.Goals as goal

pub begin-requires : goal.begin-requires
begin-requires c = c.requires.loaded.long

pub walk-requires : goal.walk-requires
walk-requires c =
    let begin = c.begin in
    let zero' = c.zero in
    let a = c.args in
    let p = c.requires in
    begin-walking p.loaded a.limits a.res.now a.reference begin.ensures c.in-Ok.first c.in-Ok.is zero'.ensures
    (c.new-state.ensures ∙ ap (λ (k : ℕ). new_state a.limits (k / slot_length)) zero'.auto.area)
    c.put_step.ensures {item = replicate slot_length 0} refl

pub returns-in-Err : goal.returns-in-Err
returns-in-Err c =
    let a = c.args in
    λ g l.
    begin-refused l a.limits a.res.now a.reference c.begin.ensures
    c.zero.new.area c.in-Err.r c.in-Err.is

pub returns-in-Ok : goal.returns-in-Ok
returns-in-Ok c =
    let walk = c.walk in
    let new = c.new-state in
    let put_step = c.put_step in
    let begin = c.begin in
    let zero' = c.zero in
    let a = c.args in
    λ g l.
    begin-walked l a.limits a.res.now a.reference begin.ensures c.in-Ok.first c.in-Ok.is zero'.ensures
    (new.ensures ∙ ap (λ (k : ℕ). new_state a.limits (k / slot_length)) zero'.auto.area) put_step.ensures {item = replicate slot_length 0} refl
    walk.result walk.new.res walk.ensures
