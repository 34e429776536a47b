-- `image::scan::edges`: the run over the edge records, one more each turn.
use mathlib.Core.Path.{◌≡◌, refl, sym, ap, ◌∙◌}
use native.Mathlib.Omega.{arith}
use Rattle.std.proofs.lemmas.Result.{err_from_is_err_and}
use Rattle.std.specs.Prelude.{Ok, Err}
use Rattle.semantics.specs.Answer.{ok}
use Rattle.semantics.specs.Image.{edge_record}
use Rattle.image.specs.Records.Laws.{run-start, run-next, run-refused, run_end, edge-place, no-edges-put, edges-put-more}
use Rattle.image.specs.Reached.{answer_of}
use Rattle.image.specs.Reached.Laws.{never}
use Rattle.image.proofs.scan.edges.Goals as goal

pub loop-e-init : goal.loop-e-init
loop-e-init c =
    let a = c.args in let im = a.image.now in
    (refl, run-start im (λ k. edge_record im) a.from a.count, no-edges-put im a.from a.index.now)

pub returns-in_err-at : goal.returns-in_err-at
returns-in_err-at c =
    let a = c.args in let im = a.image.now in let l = c.loop-e in
    let p = err_from_is_err_and c.from_residual.result c.from_residual.ensures.1 in
    let t : c.from_residual.result ≡ Err c.in_err-at.field-0.0 = cc (p.1, p.2) in
    record { result_value = ap answer_of t ∙ run-refused im (λ k. edge_record im) a.from a.count l.invariant.1 _ c.loop-e-test.true (sym c.edge.ensures.result_value ∙ ap answer_of c.in_err-at.was); by_index = λ x e. absurd (never (sym t ∙ e)) }

pub loop-e-preserved : goal.loop-e-preserved
loop-e-preserved c =
    let a = c.args in let im = a.image.now in let l = c.loop-e in let t : c.edge.result ≡ Ok c.in_ok-at.at = c.in_ok-at.was in
    let e : edge_record im l.at ≡ ok c.in_ok-at.at = sym c.edge.ensures.result_value ∙ ap answer_of t in (
      omega arith,
      run-next im (λ k. edge_record im) a.from a.count l.invariant.1 c.loop-e-test.true e (edge-place im l.at _ e),
      edges-put-more im a.from l.e a.index.now l.index _ l.invariant.1.place l.invariant.2 (c.edge.ensures.by_index _ t),
    )

pub returns : goal.returns
returns c =
    let a = c.args in let im = a.image.now in let l = c.loop-e in
    let z : l.e ≡ a.count = omega arith in record { result_value = run_end im (λ k. edge_record im) a.from a.count l.invariant.1 c.loop-e-test.false; by_index = λ x e. rw z at l.invariant.2 }
