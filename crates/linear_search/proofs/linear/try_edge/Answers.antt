use Rattle.std.specs.Prelude.{Ok, Err, ◌≡◌}
use borrow.Author.Rules.{rules}
use Prim.Native.Nat.{◌-◌}
use native.Mathlib.Omega.{arith}
use mathlib.Core.Path.{ap, subst, ◌∙◌}
use Rattle.semantics.specs.declared.refusal.LinearRefusal.TheVariants as Linear
use Rattle.semantics.specs.Graph.{view_of}
use Rattle.search_state.specs.declared.state.SearchState.{SearchState}
use Rattle.edge_trial.specs.declared.trial.EdgeTrial.{EdgeTrial}
use Rattle.edge_trial.specs.Trials.Laws.{Judged}
use Rattle.linear_search.specs.Walks.{Chose, Chosen, with_state}
use Rattle.linear_search.specs.Walks.Laws.{track-short, track-slice, track-edges, track-ready, walk-cycles, walk-rejected, walk-trial, paced-cut, paced-rejected, paced-overlong, paced-bound, paced-second, paced-short, paced-choosing, paced-chosen}
use Rattle.linear_search.proofs.linear.try_edge.Goals as goal

pub overflow_sub-edge : goal.overflow_sub-edge
overflow_sub-edge c = let p = c.requires in p.linked

pub overflow_add-k : goal.overflow_add-k
overflow_add-k c = let p = c.requires in let h = track-short p.track in omega (arith, h)

pub slice_bounds-judge_edge-end : goal.slice_bounds-judge_edge-end
slice_bounds-judge_edge-end c = let p = c.requires in track-slice p.track

pub judge_edge-requires : goal.judge_edge-requires
judge_edge-requires c = let p = c.requires in (p.track.loaded.long, track-ready p.track (track-edges p.track))

pub cut-requires : goal.cut-requires
cut-requires c = let p = c.requires in let h = walk-cycles p in omega (arith, h)

pub overflow_add-k-in-Overlong : goal.overflow_add-k-in-Overlong
overflow_add-k-in-Overlong c = let p = c.requires in let h = track-short p.track in omega (arith, h)

pub reject-requires : goal.reject-requires
reject-requires c = let p = c.requires in let h = walk-rejected p in omega (arith, h)

pub returns-then-on-gt0 : goal.returns-then-on-gt0
returns-then-on-gt0 c =
    let a = c.args in
    λ v.
    paced-second v c.in-Extended.complete
    (subst (λ (t : EdgeTrial). Judged Linear.TooLong a.on.state.budget.max_length (view_of v.track.graph) v.track.path (a.link - 1) t)
    c.in-Extended.is
    (walk-trial v (track-edges v.track) c.judge_edge.ensures)) (omega (arith, c.if-on-gt0.true))
    a.item.now a.res.now

pub with_edge-requires : goal.with_edge-requires
with_edge-requires c =
    let judge-edge = c.judge_edge in
    let a = c.args in
    let p = c.requires in
    let h = paced-short p c.in-Extended.complete (subst
    (λ (t : EdgeTrial). Judged Linear.TooLong a.on.state.budget.max_length (view_of p.track.graph) p.track.path (a.link - 1) t)
    c.in-Extended.is (walk-trial p (track-edges p.track) judge-edge.ensures)) in
    (omega (arith, h, p.track.carries.long), omega (arith, p.track.carries.long))

pub choose-requires : goal.choose-requires
choose-requires c =
    let with-edge = c.with_edge in
    let judge-edge = c.judge_edge in
    let a = c.args in
    let p = c.requires in
    paced-choosing p c.in-Extended.complete (subst
    (λ (t : EdgeTrial). Judged Linear.TooLong a.on.state.budget.max_length (view_of p.track.graph) p.track.path (a.link - 1) t)
    c.in-Extended.is (walk-trial p (track-edges p.track) judge-edge.ensures)) (omega arith) with-edge.new.item with-edge.auto.item

pub returns-in-Cut : goal.returns-in-Cut
returns-in-Cut c =
    let a = c.args in
    λ v.
    paced-cut v (subst
    (λ (t : EdgeTrial). Judged Linear.TooLong a.on.state.budget.max_length (view_of v.track.graph) v.track.path (a.link - 1) t)
    c.in-Cut.is (walk-trial v (track-edges v.track) c.judge_edge.ensures))
    (c.with_state.ensures ∙ ap (λ (t : SearchState). with_state t a.on) c.cut.ensures)

pub returns-in-Overlong : goal.returns-in-Overlong
returns-in-Overlong c =
    let a = c.args in
    λ v.
    paced-overlong v (subst
    (λ (t : EdgeTrial). Judged Linear.TooLong a.on.state.budget.max_length (view_of v.track.graph) v.track.path (a.link - 1) t)
    c.in-Overlong.is (walk-trial v (track-edges v.track) c.judge_edge.ensures))
    (c.with_state-in-Overlong.ensures ∙ ap (λ (t : SearchState). with_state t a.on) c.measure.ensures)

pub returns-in-Rejected : goal.returns-in-Rejected
returns-in-Rejected c =
    let a = c.args in
    λ v.
    paced-rejected v (subst
    (λ (t : EdgeTrial). Judged Linear.TooLong a.on.state.budget.max_length (view_of v.track.graph) v.track.path (a.link - 1) t)
    c.in-Rejected.is (walk-trial v (track-edges v.track) c.judge_edge.ensures))
    (c.with_state-in-Rejected.ensures ∙ ap (λ (t : SearchState). with_state t a.on) c.reject.ensures)

pub returns-in-TooLong : goal.returns-in-TooLong
returns-in-TooLong c =
    let a = c.args in
    λ v.
    paced-bound v (subst
    (λ (t : EdgeTrial). Judged Linear.TooLong a.on.state.budget.max_length (view_of v.track.graph) v.track.path (a.link - 1) t)
    c.in-TooLong.is (walk-trial v (track-edges v.track) c.judge_edge.ensures)) a.item.now a.res.now

pub returns-in_ok-choose-in-Extended : goal.returns-in_ok-choose-in-Extended
returns-in_ok-choose-in-Extended c =
    let choose = c.choose in
    let with-edge = c.with_edge in
    let judge-edge = c.judge_edge in
    let a = c.args in
    let next = c.in_ok-choose-in-Extended.field-0 in
    λ v.
    paced-chosen v c.in-Extended.complete (subst
    (λ (t : EdgeTrial). Judged Linear.TooLong a.on.state.budget.max_length (view_of v.track.graph) v.track.path (a.link - 1) t)
    c.in-Extended.is (walk-trial v (track-edges v.track) judge-edge.ensures)) (omega (arith, c.if-on-gt0.false)) with-edge.ensures
    (Ok next) choose.new.res
    (subst (λ (x : Chose). Chosen a.on.state a.link c.in-Extended.complete a.res.now with-edge.new.item x choose.new.res) c.in_ok-choose-in-Extended.was choose.ensures)

pub returns-in_err-choose-in-Extended : goal.returns-in_err-choose-in-Extended
returns-in_err-choose-in-Extended c =
    let choose = c.choose in
    let with-edge = c.with_edge in
    let judge-edge = c.judge_edge in
    let a = c.args in
    let y = c.in_err-choose-in-Extended.field-0.0 in
    let e : c.from_residual.result ≡ Err y = search rules in
    λ v.
    rw e (paced-chosen v c.in-Extended.complete (subst
    (λ (t : EdgeTrial). Judged Linear.TooLong a.on.state.budget.max_length (view_of v.track.graph) v.track.path (a.link - 1) t)
    c.in-Extended.is (walk-trial v (track-edges v.track) judge-edge.ensures)) (omega (arith, c.if-on-gt0.false)) with-edge.ensures
    (Err y) choose.new.res
    (subst (λ (x : Chose). Chosen a.on.state a.link c.in-Extended.complete a.res.now with-edge.new.item x choose.new.res) c.in_err-choose-in-Extended.was choose.ensures))
