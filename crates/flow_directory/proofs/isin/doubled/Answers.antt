-- `flow_directory::isin::doubled`: above 4 twice the digit has two digits, and 9 less is their sum.
use Prim.Native.Nat.{◌-◌, ◌*◌}
use native.Mathlib.Omega.{arith}
use mathlib.Core.Path.{sym, ap}
use mathlib.Core.Bool.{Bool}
use borrow.Author.Tests.{lt-ltb, le-ltb}
use Rattle.semantics.specs.Lists.{pick}
use Rattle.flow_directory.proofs.isin.doubled.Goals as goal

pub returns-then-digit-gt4 : goal.returns-then-digit-gt4
returns-then-digit-gt4 c = let a = c.args in (sym (ap (λ (b : Bool). pick b (2 * a.digit - 9) (2 * a.digit)) (lt-ltb 4 a.digit c.if-digit-gt4.true)), omega arith)

pub returns : goal.returns
returns c = let a = c.args in (sym (ap (λ (b : Bool). pick b (2 * a.digit - 9) (2 * a.digit)) (le-ltb 4 a.digit c.if-digit-gt4.false)), omega arith)
