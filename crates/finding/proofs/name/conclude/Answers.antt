-- `finding::name::conclude`: by what was tried.
use Rattle.std.specs.Prelude.{Some, None, Ok, ◌≡◌, ℕ}
use Rattle.std.specs.declared.option.Option as Std
use mathlib.Core.Path.{sym, ap, ◌∙◌}
use Rattle.finding.specs.Names.{Tried, answer_of, left_of}
use Rattle.finding.proofs.name.conclude.Goals as goal

pub returns-in-Ok-Some : goal.returns-in-Ok-Some
returns-in-Ok-Some c =
    let a = c.args in
    let e : a.tried ≡ Ok (Some c.in-Ok-Some.n) = c.in-Ok-Some.is ∙ ap (λ (o : Std.Option ℕ). Ok o) (rw c.in-Ok-Some.is at c.in-Ok-Some.field-0-is) in
    (sym (ap answer_of e), c.zero.ensures, sym (ap (λ (t : Tried). left_of t a.res.now) e))

pub returns-in-Ok-None : goal.returns-in-Ok-None
returns-in-Ok-None c =
    let a = c.args in
    let e : a.tried ≡ Ok None = c.in-Ok-None.is ∙ ap (λ (o : Std.Option ℕ). Ok o) (rw c.in-Ok-None.is at c.in-Ok-None.field-0-is) in
    (sym (ap answer_of e), c.zero.ensures, sym (ap (λ (t : Tried). left_of t a.res.now) e))

pub returns-in-Err : goal.returns-in-Err
returns-in-Err c =
    let e = c.in-Err.is in
    let a = c.args in
    (sym (ap answer_of e), c.zero.ensures, c.zero-in-Err.ensures ∙ sym (ap (λ (t : Tried). left_of t a.res.now) e))
