-- `storage::links::link`: the edges from `e` on are linked.
use mathlib.Core.Path.{◌≡◌}
use lib.ListN.{length}
use Rattle.semantics.specs.Graph.{Graph}
use Rattle.storage.specs.Links.{Linked}
use Rattle.storage.specs.References.{Sources}
use Rattle.storage.proofs.links.link.Given as goal

abbrev pub invariant-loop-e : goal.invariant-loop-e
invariant-loop-e l = (length l.index ≡ length l.initial.index) × Sources l.index × ((g : Graph) → length g.edges ≡ l.count → Linked g l.initial.index l.count → Linked g l.index l.e)
