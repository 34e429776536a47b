use Prim.Native.Nat.{ℕ}
use mathlib.Core.Path.{ap, ◌∙◌}
use mathlib.Core.List.{List}
use lib.ListN.{length, set}
use Rattle.partial_state.specs.Routes.Laws.{begun}
use Rattle.partial_state.proofs.route.begin.Goals as goal

pub returns : goal.returns
returns c = let a = c.args in let p = c.requires in ap (λ (l : List ℕ). set l 1 a.start) c.zero.ensures ∙ begun (length a.item.now) a.start p
