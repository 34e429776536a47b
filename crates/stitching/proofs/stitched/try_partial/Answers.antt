use Prim.Native.Nat.{◌+◌, ◌-◌}
use native.Mathlib.Omega.{arith}
use mathlib.Core.Path.{◌≡◌, refl, ap, ◌∙◌}
use borrow.Author.Rules.{rules}
use Rattle.std.specs.Prelude.{Ok, Err}
use Rattle.stitching_trial.specs.declared.trial.StitchTrial.{StitchTrial}
use lib.ListN.{take, drop}
use Rattle.semantics.specs.Limits.{looked_ever}
use Rattle.search_state.specs.declared.state.SearchState.{SearchState}
use Rattle.search_state.specs.Searches.{with_state}
use Rattle.stitching.specs.Expansions.Laws.{edges_few, given-cycles, given-rejected, given-short, given-slice, given-judging, tried-cut, tried-rejected, tried-overlong, tried-stopped, extended-short, extended-given, tried-extended}
use Rattle.stitching.proofs.stitched.try_partial.Goals as goal

pub edges-edges-requires : goal.edges-edges-requires
edges-edges-requires c = let p = c.requires in (p.0.inside, p.0.few)

pub overflow_add-k : goal.overflow_add-k
overflow_add-k c =
    let a = c.args in
    let p = c.requires in
    let h = given-short looked_ever a.index.now a.steps.now a.item.now a.k a.search a.work.now a.res.now p.1 in
    omega (arith, h)

pub slice_bounds-judge_partial_path-end : goal.slice_bounds-judge_partial_path-end
slice_bounds-judge_partial_path-end c =
    let a = c.args in
    let p = c.requires in
    given-slice looked_ever a.index.now a.steps.now a.item.now a.k a.search a.work.now a.res.now p.1

pub judge_partial_path-requires : goal.judge_partial_path-requires
judge_partial_path-requires c =
    let a = c.args in
    let p = c.requires in
    given-judging looked_ever a.index.now a.steps.now a.item.now a.k a.search a.work.now a.res.now p.1
    {l = take (a.k + 1 - 1) (drop 1 a.item.now)} refl c.edges-edges.result.now
    (edges_few p.0 c.edges-edges.ensures)

pub cut-requires : goal.cut-requires
cut-requires c =
    let a = c.args in
    let p = c.requires in
    let h = given-cycles looked_ever a.index.now a.steps.now a.item.now a.k a.search a.work.now a.res.now p.1 in
    omega (arith, h)

pub overflow_add-length : goal.overflow_add-length
overflow_add-length c =
    let edges = c.edges-edges in
    let a = c.args in
    let p = c.requires in
    let h = given-short looked_ever a.index.now a.steps.now a.item.now a.k a.search a.work.now a.res.now p.1 in
    let f = edges_few p.0 edges.ensures in
    omega (arith, h, f)

pub reject-requires : goal.reject-requires
reject-requires c =
    let a = c.args in
    let p = c.requires in
    let h = given-rejected looked_ever a.index.now a.steps.now a.item.now a.k a.search a.work.now a.res.now p.1 in
    omega (arith, h)

pub with_edges-requires : goal.with_edges-requires
with_edges-requires c =
    let judge-partial-path = c.judge_partial_path in
    let edges = c.edges-edges in
    let a = c.args in
    let p = c.requires in (
      p.1.carries.0,
      extended-short looked_ever a.index.now a.steps.now a.item.now a.k a.search a.work.now a.res.now p.1 refl
          edges.result.now (edges_few p.0 edges.ensures) a.words.now a.i edges.ensures
          (judge-partial-path.ensures (given-judging looked_ever a.index.now a.steps.now a.item.now a.k a.search a.work.now
          a.res.now p.1 {l = take (a.k + 1 - 1) (drop 1 a.item.now)} refl edges.result.now (edges_few p.0 edges.ensures)))
          c.in-Extended.complete (c.in_ok-trial.was ∙ ap (λ (t : StitchTrial). Ok t) c.in-Extended.is),
    )

pub extend-requires : goal.extend-requires
extend-requires c =
    let judge-partial-path = c.judge_partial_path in
    let edges = c.edges-edges in
    let a = c.args in
    let p = c.requires in
    extended-given looked_ever a.index.now a.steps.now a.item.now a.k a.search a.work.now a.res.now p.1 refl
    edges.result.now (edges_few p.0 edges.ensures) a.words.now a.i edges.ensures
    (judge-partial-path.ensures (given-judging looked_ever a.index.now a.steps.now a.item.now a.k a.search a.work.now
    a.res.now p.1 {l = take (a.k + 1 - 1) (drop 1 a.item.now)} refl edges.result.now (edges_few p.0 edges.ensures)))
    c.in-Extended.complete (c.in_ok-trial.was ∙ ap (λ (t : StitchTrial). Ok t) c.in-Extended.is) c.with_edges.ensures (omega arith)

pub returns-in-Cut : goal.returns-in-Cut
returns-in-Cut c =
    let judge-partial-path = c.judge_partial_path in
    let edges = c.edges-edges in
    let a = c.args in
    let p = c.requires in
    λ v.
    tried-cut looked_ever a.index.now a.steps.now a.item.now a.k a.search a.work.now a.res.now v refl edges.result.now
    (edges_few p.0 edges.ensures) a.words.now a.i edges.ensures
    (judge-partial-path.ensures (given-judging looked_ever a.index.now a.steps.now a.item.now a.k a.search a.work.now
    a.res.now v {l = take (a.k + 1 - 1) (drop 1 a.item.now)} refl edges.result.now (edges_few p.0 edges.ensures)))
    (c.in_ok-trial.was ∙ ap (λ (t : StitchTrial). Ok t) c.in-Cut.is) (c.with_state.ensures ∙ ap (λ (t : SearchState). with_state t a.search) c.cut.ensures)

pub returns-in-Overlong : goal.returns-in-Overlong
returns-in-Overlong c =
    let judge-partial-path = c.judge_partial_path in
    let edges = c.edges-edges in
    let a = c.args in
    let p = c.requires in
    λ v.
    tried-overlong looked_ever a.index.now a.steps.now a.item.now a.k a.search a.work.now a.res.now v refl
    edges.result.now (edges_few p.0 edges.ensures) a.words.now a.i edges.ensures
    (judge-partial-path.ensures (given-judging looked_ever a.index.now a.steps.now a.item.now a.k a.search a.work.now
    a.res.now v {l = take (a.k + 1 - 1) (drop 1 a.item.now)} refl edges.result.now (edges_few p.0 edges.ensures)))
    (c.in_ok-trial.was ∙ ap (λ (t : StitchTrial). Ok t) c.in-Overlong.is)
    (c.with_state-in-Overlong.ensures ∙ ap (λ (t : SearchState). with_state t a.search) c.measure.ensures)

pub returns-in-Rejected : goal.returns-in-Rejected
returns-in-Rejected c =
    let judge-partial-path = c.judge_partial_path in
    let edges = c.edges-edges in
    let a = c.args in
    let p = c.requires in
    λ v.
    tried-rejected looked_ever a.index.now a.steps.now a.item.now a.k a.search a.work.now a.res.now v refl
    edges.result.now (edges_few p.0 edges.ensures) a.words.now a.i edges.ensures
    (judge-partial-path.ensures (given-judging looked_ever a.index.now a.steps.now a.item.now a.k a.search a.work.now
    a.res.now v {l = take (a.k + 1 - 1) (drop 1 a.item.now)} refl edges.result.now (edges_few p.0 edges.ensures)))
    (c.in_ok-trial.was ∙ ap (λ (t : StitchTrial). Ok t) c.in-Rejected.is)
    (c.with_state-in-Rejected.ensures ∙ ap (λ (t : SearchState). with_state t a.search) c.reject.ensures)

pub returns-in_err-trial : goal.returns-in_err-trial
returns-in_err-trial c =
    let judge-partial-path = c.judge_partial_path in
    let edges = c.edges-edges in
    let a = c.args in
    let p = c.requires in
    let y = c.in_err-trial.field-0.0 in
    let e : c.from_residual.result ≡ Err y = search rules in
    λ v.
    rw e
    (tried-stopped looked_ever a.index.now a.steps.now a.item.now a.k a.search a.work.now a.res.now v refl edges.result.now
    (edges_few p.0 edges.ensures) a.words.now a.i edges.ensures
    (judge-partial-path.ensures (given-judging looked_ever a.index.now a.steps.now a.item.now a.k a.search a.work.now
    a.res.now v {l = take (a.k + 1 - 1) (drop 1 a.item.now)} refl edges.result.now (edges_few p.0 edges.ensures)))
    y c.in_err-trial.was)

pub returns-in-Extended : goal.returns-in-Extended
returns-in-Extended c =
    let extend = c.extend in
    let with-edges = c.with_edges in
    let judge-partial-path = c.judge_partial_path in
    let edges = c.edges-edges in
    let a = c.args in
    let p = c.requires in
    λ v.
    tried-extended looked_ever a.index.now a.steps.now a.item.now a.k a.search a.work.now a.res.now v refl
    edges.result.now (edges_few p.0 edges.ensures) a.words.now a.i edges.ensures
    (judge-partial-path.ensures (given-judging looked_ever a.index.now a.steps.now a.item.now a.k a.search a.work.now
    a.res.now v {l = take (a.k + 1 - 1) (drop 1 a.item.now)} refl edges.result.now (edges_few p.0 edges.ensures)))
    c.in-Extended.complete (c.in_ok-trial.was ∙ ap (λ (t : StitchTrial). Ok t) c.in-Extended.is) with-edges.ensures extend.result extend.new.work extend.new.res
    extend.ensures
