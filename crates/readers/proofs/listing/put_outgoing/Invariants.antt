-- `readers::listing::put_outgoing`: the edges that the links have passed stand in the area.
use mathlib.Core.Path.{◌≡◌}
use lib.ListN.{length}
use Rattle.semantics.specs.Graph.{Graph, view_of}
use Rattle.storage.specs.Index.{Loaded}
use Rattle.storage.specs.Index.Use.{left}
use Rattle.readers.specs.Listing.Laws.{Left}
use Rattle.readers.proofs.listing.put_outgoing.Given as goal

abbrev pub invariant-loop-link : goal.invariant-loop-link
invariant-loop-link l = (length l.res ≡ length l.initial.res) × ((g : Graph) → Loaded g l.index → Left l.index ((view_of g).out l.n) l.res l.count l.link)

abbrev pub decreases-loop-link : goal.decreases-loop-link
decreases-loop-link l = left l.index l.link
