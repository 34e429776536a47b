-- `flow_directory::isin::may_stand`: by the place.
use native.Mathlib.Omega.{arith}
use mathlib.Core.Path.{refl, sym, ap, ◌∙◌}
use mathlib.Core.Bool.{Bool}
use borrow.Author.Tests.{lt-ltb, le-ltb}
use lib.Dec.{ltb}
use Rattle.semantics.specs.Lists.{or, pick}
use Rattle.semantics.specs.Isin.{is_digit, is_capital}
use Rattle.flow_directory.proofs.isin.may_stand.Goals as goal

pub returns-then-i-lt-COUNTRY : goal.returns-then-i-lt-COUNTRY
returns-then-i-lt-COUNTRY c = let a = c.args in c.is_capital.ensures ∙ sym (ap (λ (b : Bool). pick b (is_capital a.c) (pick (ltb a.i 11) (or (is_capital a.c) (is_digit a.c)) (is_digit a.c))) (lt-ltb a.i 2 (omega (arith, c.if-i-lt-COUNTRY.true))))

pub returns : goal.returns
returns c = let a = c.args in c.is_digit-2.ensures ∙ sym (rw (le-ltb a.i 2 (omega (arith, c.if-i-lt-COUNTRY.false)), le-ltb a.i 11 (omega (arith, c.if-i-lt-CHECK_DIGIT.false))) refl)
