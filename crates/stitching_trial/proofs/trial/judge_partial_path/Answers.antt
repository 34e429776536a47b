use Prim.Native.Nat.{◌+◌}
use native.Mathlib.Omega.{arith}
use mathlib.Core.Path.{sym, ◌∙◌}
use lib.ListN.{length}
use Rattle.stitching_trial.specs.Trials.Laws.{asked-within, judge-cut, judge-overlong, judge-bound, judge-appends, judge-refused, judge-extended}
use Rattle.stitching_trial.proofs.trial.judge_partial_path.Goals as goal

pub returns-then-shares : goal.returns-then-shares
returns-then-shares c = let a = c.args in λ v. judge-cut v a.budget.max_length (sym c.shares.ensures ∙ c.if-shares.true)

pub overflow_add-whole : goal.overflow_add-whole
overflow_add-whole c = let p = c.requires in omega (arith, p.short, p.few)

pub append_all-requires : goal.append_all-requires
append_all-requires c =
    let a = c.args in
    let p = c.requires in
    judge-appends p a.budget.max_length
    (sym c.shares.ensures ∙ c.if-shares.false)
    (asked-within (length a.path.now + length a.edges.now) a.budget c.admitted_length-asked.ensures
    c.if-asked.true) (omega (arith, c.if-whole-le-MAX_EDGES.true))

pub is_complete-requires : goal.is_complete-requires
is_complete-requires c =
    let p = c.requires in
    p.loaded.long

pub returns-in-Ok : goal.returns-in-Ok
returns-in-Ok c =
    let append-all = c.append_all in
    let if3 = c.if-whole-le-MAX_EDGES in
    let if2 = c.if-asked in
    let admitted-length = c.admitted_length-asked in
    let if1 = c.if-shares in
    let shares = c.shares in
    let a = c.args in
    let within = asked-within (length a.path.now + length a.edges.now) a.budget admitted-length.ensures if2.true in
    λ v.
    judge-extended v a.budget.max_length (sym shares.ensures ∙ if1.false) within (omega (arith, if3.true))
    (append-all.ensures (judge-appends v a.budget.max_length (sym shares.ensures ∙ if1.false) within (omega (arith, if3.true))))
    c.in-Ok.last c.in-Ok.is c.is_complete.ensures

pub returns-in-Err : goal.returns-in-Err
returns-in-Err c =
    let append-all = c.append_all in
    let if3 = c.if-whole-le-MAX_EDGES in
    let if2 = c.if-asked in
    let admitted-length = c.admitted_length-asked in
    let if1 = c.if-shares in
    let shares = c.shares in
    let a = c.args in
    let within = asked-within (length a.path.now + length a.edges.now) a.budget admitted-length.ensures if2.true in
    λ v.
    judge-refused v a.budget.max_length (sym shares.ensures ∙ if1.false) within (omega (arith, if3.true))
    (append-all.ensures (judge-appends v a.budget.max_length (sym shares.ensures ∙ if1.false) within (omega (arith, if3.true))))
    c.in-Err.r c.in-Err.is c.ended.ensures

pub returns-then-asked : goal.returns-then-asked
returns-then-asked c =
    let a = c.args in
    λ v.
    judge-bound v a.budget.max_length (sym c.shares.ensures ∙ c.if-shares.false)
    (asked-within (length a.path.now + length a.edges.now) a.budget c.admitted_length-asked.ensures c.if-asked.true)
    (omega (arith, c.if-whole-le-MAX_EDGES.false))

pub returns : goal.returns
returns c =
    let a = c.args in
    λ v.
    judge-overlong v a.budget.max_length (sym c.shares.ensures ∙ c.if-shares.false)
    (asked-within (length a.path.now + length a.edges.now) a.budget c.admitted_length-asked.ensures c.if-asked.false)
