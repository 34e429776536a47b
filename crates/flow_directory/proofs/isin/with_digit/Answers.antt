-- `flow_directory::isin::with_digit`: every second digit is doubled.
use Prim.Native.Nat.{◌+◌}
use native.Mathlib.Omega.{arith}
use mathlib.Core.Path.{sym, ap, ◌∙◌}
use mathlib.Core.Bool.{Bool, not}
use Rattle.semantics.specs.Lists.{pick}
use Rattle.semantics.specs.Isin.{doubled}
use Rattle.flow_directory.proofs.isin.with_digit.Goals as goal

pub returns-then-sum : goal.returns-then-sum
returns-then-sum c = let a = c.args in let d = c.doubled.ensures in let t = c.if-sum.true in (λ j. (a.sum.total + (d.0 ∙ sym (ap (λ (b : Bool). pick b (doubled a.digit) a.digit) t)) j, (sym (ap not t)) j), omega (arith, d.1))

pub returns : goal.returns
returns c = let a = c.args in let t = c.if-sum.false in (λ j. (a.sum.total + (sym (ap (λ (b : Bool). pick b (doubled a.digit) a.digit) t)) j, (sym (ap not t)) j), omega arith)
