-- `storage::check::read`: the first refusal of a part, or what the last part answers.
use borrow.Author.Rules.{rules}
use native.Mathlib.Omega.{arith}
use mathlib.Core.Path.{◌≡◌, sym, ap, ◌∙◌}
use Rattle.std.specs.Prelude.{Err}
use Rattle.semantics.specs.Calls.{check_call}
use Rattle.semantics.specs.Image.{first_record}
use Rattle.image.specs.Records.Laws.{headed}
use Rattle.image.specs.Reached.{answer_of}
use Rattle.storage.specs.Checks.Laws.{bad-record, left_over, by-references, unlinked, told-refused, none-known}
use Rattle.storage.proofs.check.read.Goals as goal

pub records-requires : goal.records-requires
records-requires c =
    let p = c.requires in let h = (headed c.args.image.now first_record p.image_value).0 in
    record { headed = h; fresh = p.takes.fresh; room = p.takes.room h }

pub returns-then-last-image : goal.returns-then-last-image
returns-then-last-image c =
    let a = c.args in
    let p = c.requires in
    let im = a.image.now in
    let e = left_over im p.image_value c.in_ok-last.last
    (sym c.records.ensures.result_value ∙ ap answer_of c.in_ok-last.was)
    c.if-last-image.true in
    record { value = told-refused _ e; unlinked = λ g q. none-known _ e g q }

pub judge_references-requires : goal.judge_references-requires
judge_references-requires c =
    let p = c.requires in
    record { headed = (headed c.args.image.now first_record p.image_value).0; held = c.records.ensures.by_index _ c.in_ok-last.was }

pub returns : goal.returns
returns c =
    let records = c.records in
    let judged = c.judge_references in
    let a = c.args in
    let p = c.requires in
    let im = a.image.now in
    let h = (headed im first_record p.image_value).0 in
    let r = p.takes.room h in
    let e = by-references im p.image_value c.in_ok-last.last (sym records.ensures.result_value ∙ ap answer_of c.in_ok-last.was) c.if-last-image.false in record { value = judged.ensures.value ∙ ap check_call (sym e); unlinked = λ g q. unlinked im records.new.index h (record { nodes = omega (arith, r.nodes, records.auto.index); edges = omega (arith, r.edges, records.auto.index) }) (records.ensures.by_index _ c.in_ok-last.was) judged.ensures.sources g (sym e ∙ q) }

pub returns-in_err-last : goal.returns-in_err-last
returns-in_err-last c =
    let im = c.args.image.now in
    let t : c.from_residual.result ≡ Err c.in_err-last.field-0.0 = search rules in
    let e = bad-record im c.requires.image_value c.in_err-last.field-0.0 (sym c.records.ensures.result_value ∙ ap answer_of c.in_err-last.was) in
    record { value = t ∙ told-refused _ e; unlinked = λ g q. none-known _ e g q }
