-- `readers::listing::put_references`: the references below n stand in the area.
use Prim.Native.Nat.{◌-◌, ◌≤◌}
use mathlib.Core.Path.{◌≡◌}
use lib.ListN.{length}
use Rattle.semantics.specs.Graph.{Graph}
use Rattle.storage.specs.Index.{Loaded}
use Rattle.readers.specs.Listing.Laws.{Referred}
use Rattle.readers.proofs.listing.put_references.Given as goal

abbrev pub invariant-loop-n : goal.invariant-loop-n
invariant-loop-n l = (length l.res ≡ length l.initial.res) × (l.n ≤ l.nodes) × ((g : Graph) → Loaded g l.index → l.nodes ≡ length g.nodes → Referred g.nodes l.res l.count l.n)
