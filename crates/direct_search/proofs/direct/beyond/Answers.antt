-- `direct_search::direct::beyond`: none behind none.
use Prim.Native.Nat.{◌-◌}
use native.Mathlib.Omega.{arith}
use mathlib.Core.Path.{sym, ap, ◌∙◌}
use mathlib.Core.Bool.{Bool}
use borrow.Author.Tests.{lt-ltb, le-ltb}
use Rattle.semantics.specs.Lists.{pick}
use Rattle.storage.specs.Index.{next_row}
use Rattle.direct_search.proofs.direct.beyond.Goals as goal

pub returns-then-link-gt0 : goal.returns-then-link-gt0
returns-then-link-gt0 c = let a = c.args in c.next.ensures ∙ sym (ap (λ (b : Bool). pick b (next_row a.index.now (a.link - 1)) 0) (lt-ltb 0 a.link c.if-link-gt0.true))

pub returns : goal.returns
returns c = let a = c.args in sym (ap (λ (b : Bool). pick b (next_row a.index.now (a.link - 1)) 0) (le-ltb 0 a.link (omega (arith, c.if-link-gt0.false))))
