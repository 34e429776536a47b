-- `flow_directory::rows::noted`: the row that has the key is noted.
use mathlib.Core.Path.{sym, ap, ◌∙◌}
use mathlib.Core.Bool.{Bool}
use Rattle.std.specs.Prelude.{ℕ, Some}
use Rattle.semantics.specs.Lists.{pick}
use Rattle.semantics.specs.Directory.{reference_at}
use Rattle.flow_directory.proofs.rows.noted.Goals as goal

pub returns-then-is_at : goal.returns-then-is_at
returns-then-is_at c = let a = c.args in ap (λ (x : ℕ). Some x) c.short.ensures.value ∙ sym (ap (λ (b : Bool). pick b (Some (reference_at a.rows.now a.i)) a.found) (sym c.is_at.ensures ∙ c.if-is_at.true))

pub returns : goal.returns
returns c = let a = c.args in sym (ap (λ (b : Bool). pick b (Some (reference_at a.rows.now a.i)) a.found) (sym c.is_at.ensures ∙ c.if-is_at.false))
