-- `storage::check::judge`: a header that goes on stands in front of the first record.
use borrow.Author.Rules.{rules}
use mathlib.Core.Path.{◌≡◌, sym, ap, ◌∙◌}
use Rattle.std.specs.Prelude.{Err}
use Rattle.semantics.specs.Answer.{ok}
use Rattle.semantics.specs.Image.{symbol_bytes, header}
use Rattle.image.specs.Records.Laws.{headed}
use Rattle.image.specs.Reached.{answer_of}
use Rattle.storage.specs.Checks.Laws.{bad-header, told-refused, none-known}
use Rattle.storage.proofs.check.judge.Goals as goal

pub read-requires : goal.read-requires
read-requires c =
    let im = c.args.image.now in
    let e : header symbol_bytes im ≡ ok c.in_ok-header.field-0 = sym c.header.ensures ∙ ap answer_of c.in_ok-header.was in
    record { image_value = e ∙ ap ok (headed im _ e).1; takes = c.requires }

pub returns-in_err-header : goal.returns-in_err-header
returns-in_err-header c =
    let im = c.args.image.now in
    let t : c.from_residual.result ≡ Err c.in_err-header.field-0.0 = search rules in
    let e = bad-header im c.in_err-header.field-0.0 (sym c.header.ensures ∙ ap answer_of c.in_err-header.was) in
    record { value = t ∙ told-refused _ e; unlinked = λ g q. none-known _ e g q }
