-- `flow_directory::isin::is_isin`: the length, the form, the check digit.
use Prim.Native.Nat.{ℕ, ◌%◌}
use mathlib.Core.Path.{sym, ap, ◌∙◌}
use mathlib.Core.Bool.{Bool}
use lib.Dec.{eqb}
use lib.ListN.{length}
use borrow.Author.Tests.{eq-eqb, ne_eqb}
use Rattle.semantics.specs.Lists.{and}
use Rattle.semantics.specs.Limits.{isin_bytes}
use Rattle.semantics.specs.Isin.{in_form, is_checked, is_isin}
use Rattle.flow_directory.proofs.isin.is_isin.Goals as goal

pub returns-then-isin-ne-ISIN_BYTES : goal.returns-then-isin-ne-ISIN_BYTES
unfolding is_isin
returns-then-isin-ne-ISIN_BYTES c = let cs = c.args.isin.now in sym (ap (λ (b : Bool). and b (and (in_form 0 cs) (is_checked cs))) (ne_eqb (length cs) isin_bytes c.if-isin-ne-ISIN_BYTES.true))

pub returns-then-is_in_form : goal.returns-then-is_in_form
unfolding is_isin
returns-then-is_in_form c = let cs = c.args.isin.now in ap (λ (k : ℕ). eqb (k % 10) 0) c.checksum.ensures ∙ sym (ap (λ (b : Bool). and b (and (in_form 0 cs) (is_checked cs))) (eq-eqb (length cs) isin_bytes c.if-isin-ne-ISIN_BYTES.false) ∙ ap (λ (b : Bool). and b (is_checked cs)) (sym c.is_in_form.ensures ∙ c.if-is_in_form.true))

pub returns : goal.returns
unfolding is_isin
returns c = let cs = c.args.isin.now in sym (ap (λ (b : Bool). and b (and (in_form 0 cs) (is_checked cs))) (eq-eqb (length cs) isin_bytes c.if-isin-ne-ISIN_BYTES.false) ∙ ap (λ (b : Bool). and b (is_checked cs)) (sym c.is_in_form.ensures ∙ c.if-is_in_form.false))
