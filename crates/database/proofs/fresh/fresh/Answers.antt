-- `fresh::fresh`: the image's refusal, or what is made for its graph.
use borrow.Author.Rules.{rules}
use mathlib.Core.Path.{◌≡◌, ap, ◌∙◌, sym, subst}
use Rattle.std.specs.Prelude.{Err}
use Rattle.semantics.specs.Entries.{graph_in}
use Rattle.semantics.specs.Calls.{check_call}
use Rattle.semantics.specs.Told.{told_creation}
use Rattle.semantics.proofs.Theorems.Told.Laws.{checked-alike}
use Rattle.storage.specs.Index.Use.{answer-refused, answer-accepted}
use Rattle.database.specs.Fresh.{fresh-created, fresh-image}
use Rattle.semantics.specs.declared.answer.CreationRefusal.{CreationRefusal}
use Rattle.semantics.proofs.Theorems.PublicAnswers.{made, let_through}
use Rattle.database.proofs.fresh.fresh.Goals as goal

pub returns : goal.returns
returns c =
    let a = c.args in
    let x = graph_in a.image.now in
    let e = checked-alike c.check.result (check_call x) c.check.ensures in
    let z = answer-accepted x c.in_ok-counts.counts e (let_through CreationRefusal.Image c.check.result c.map_err.result c.in_ok-counts.counts c.map_err.ensures.cases c.in_ok-counts.was) in
    let whole = fresh-created x z.graph a.words.now c.create.new.words c.create.result z.is (c.create.ensures z.graph z.node-count z.file-count) in
    record { result_value = whole.0; words_after = whole.1 }

pub returns-in_err-counts : goal.returns-in_err-counts
returns-in_err-counts c =
    let a = c.args in
    let t : c.from_residual.result ≡ Err c.in_err-counts.field-0.0 = search rules in
    let m = made CreationRefusal.Image c.check.result c.map_err.result c.in_err-counts.field-0.0 c.map_err.ensures.cases c.in_err-counts.was in
    let x = graph_in a.image.now in
    let e = checked-alike c.check.result (check_call x) c.check.ensures in
    let whole = fresh-image x m.error a.words.now (answer-refused x m.error e m.was) in
    record { result_value = ap told_creation (t ∙ ap Err m.is) ∙ whole.0; words_after = whole.1 }
