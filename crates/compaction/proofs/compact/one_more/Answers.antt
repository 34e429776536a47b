-- `one_more`: by the first word of the record.
use mathlib.Core.Path.{sym, ap}
use mathlib.Core.Bool.{Bool}
use Prim.Native.Nat.{◌+◌}
use native.Mathlib.Omega.{arith}
use Rattle.semantics.specs.Limits.{base}
use Rattle.semantics.specs.Lists.{pick}
use Rattle.compaction.specs.Moves.Laws.{record-live, record-dead}
use Rattle.compaction.proofs.compact.one_more.Goals as goal

pub returns-then-owner-gt0 : goal.returns-then-owner-gt0
returns-then-owner-gt0 c = let a = c.args in sym (ap (λ (b : Bool). pick b (a.n + 1) a.n) (record-live base a.i a.words.now (omega (arith, c.owner-owner.ensures, c.if-owner-gt0.true))))

pub returns : goal.returns
returns c = let a = c.args in sym (ap (λ (b : Bool). pick b (a.n + 1) a.n) (record-dead base a.i a.words.now (omega (arith, c.owner-owner.ensures, c.if-owner-gt0.false))))
