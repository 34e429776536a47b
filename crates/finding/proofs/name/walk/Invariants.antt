-- `finding::name::walk`: what is left decides.
use mathlib.Core.Path.{◌≡◌}
use lib.ListN.{length}
use Rattle.semantics.specs.Graph.{Graph}
use Rattle.semantics.specs.Words.{zeros}
use Rattle.storage.specs.Index.{Loaded}
use Rattle.finding.specs.Names.Laws.{Left}
use Rattle.finding.proofs.name.walk.Given as goal

abbrev pub invariant-loop-n : goal.invariant-loop-n
invariant-loop-n l = (length l.work ≡ length l.initial.work) × (length l.res ≡ length l.initial.res) × (l.res ≡ zeros (length l.res)) × ((g : Graph) → Loaded g l.index → l.nodes ≡ length g.nodes → Left g l.limit (length l.initial.work) (length l.initial.res) l.node l.n)
