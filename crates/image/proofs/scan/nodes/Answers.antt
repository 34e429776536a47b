-- `image::scan::nodes`: the run over the node records, one more each turn.
use mathlib.Core.Path.{◌≡◌, refl, sym, ap, ◌∙◌}
use native.Mathlib.Omega.{arith}
use Rattle.std.proofs.lemmas.Result.{err_from_is_err_and}
use Rattle.std.specs.Prelude.{Ok, Err}
use Rattle.semantics.specs.Answer.{ok}
use Rattle.semantics.specs.Image.{first_record, node_record, place_of}
use Rattle.image.specs.Records.Laws.{run-start, run-next, run-refused, run_end, node-place, no-nodes-put, nodes-put-more}
use Rattle.image.specs.Reached.{answer_of}
use Rattle.image.specs.Reached.Laws.{never, next-inj}
use Rattle.image.specs.Versions.{width_of}
use Rattle.image.proofs.scan.nodes.Goals as goal

pub loop-n-init : goal.loop-n-init
loop-n-init c =
    let a = c.args in let im = a.image.now in
    (refl, run-start im (node_record (width_of a.version) im a.files) first_record a.count, no-nodes-put (width_of a.version) im a.index.now)

pub returns-in_err-at : goal.returns-in_err-at
returns-in_err-at c =
    let a = c.args in let im = a.image.now in let l = c.loop-n in
    let p = err_from_is_err_and c.from_residual.result c.from_residual.ensures.1 in
    let t : c.from_residual.result ≡ Err c.in_err-at.field-0.0 = cc (p.1, p.2) in
    record { result_value = ap answer_of t ∙ run-refused im (node_record (width_of a.version) im a.files) first_record a.count l.invariant.1 _ c.loop-n-test.true (sym c.node.ensures.result_value ∙ ap answer_of c.in_err-at.was); by_index = λ x e. absurd (never (sym t ∙ e)) }

pub loop-n-preserved : goal.loop-n-preserved
loop-n-preserved c =
    let a = c.args in let im = a.image.now in let l = c.loop-n in let t : c.node.result ≡ Ok c.in_ok-at.at = c.in_ok-at.was in
    let e : node_record (width_of a.version) im a.files l.n l.at ≡ ok c.in_ok-at.at = sym c.node.ensures.result_value ∙ ap answer_of t in (
      omega arith,
      run-next im (node_record (width_of a.version) im a.files) first_record a.count l.invariant.1 c.loop-n-test.true e (node-place (width_of a.version) im a.files l.n l.at _ e),
      nodes-put-more (width_of a.version) im l.n a.index.now l.index _ l.invariant.1.place l.invariant.2 (c.node.ensures.by_index _ t),
    )

pub returns : goal.returns
returns c =
    let a = c.args in let im = a.image.now in let l = c.loop-n in
    let z : l.n ≡ a.count = omega arith in record { result_value = run_end im (node_record (width_of a.version) im a.files) first_record a.count l.invariant.1 c.loop-n-test.false; by_index = λ x e. (sym (next-inj e) ∙ l.invariant.1.place ∙ ap (place_of im first_record) z, rw z at l.invariant.2) }
