-- `hiding::hiding::hide`: where no file is hidden, what is seen is the graph itself.
use native.Mathlib.Omega.{arith}
use mathlib.Core.Path.{sym, subst}
use Rattle.semantics.specs.Graph.{Graph}
use Rattle.semantics.specs.Hidden.{sees}
use Rattle.semantics.proofs.Theorems.Hidden.All.{seen_all}
use Rattle.image.specs.Filling.{Held}
use Rattle.hiding.proofs.hiding.hide.Goals as goal

pub returns-then-hides_some : goal.returns-then-hides_some
returns-then-hides_some c = λ g good n h. c.hide_records.ensures g good n h

pub returns-else-hides_some : goal.returns-else-hides_some
returns-else-hides_some c =
    let a = c.args in
    λ g good n h. subst (λ (x : Graph). Held x a.index.now) (sym (seen_all g good (sees a.visible.now) (λ k b. c.hides_some.ensures c.if-hides_some.false k (omega (arith, b, n.file-count))))) h
