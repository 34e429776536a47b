use Rattle.partial_state.specs.Extractions.{at}
use mathlib.Core.Path.{◌≡◌}
use lib.ListN.{length}
use Rattle.semantics.specs.Graph.{Graph}
use Rattle.storage.specs.Index.{Loaded}
use Rattle.partial_trial.specs.Seeds.{Seeding}
use Rattle.partial_trial.specs.Seeds.Laws.{Begun}
use Rattle.partial_trial.proofs.seed.seed_file.Given as goal

abbrev pub invariant-loop-n : goal.invariant-loop-n
invariant-loop-n l = (length l.item ≡ length l.initial.item) × (length l.work ≡ length l.initial.work) × ((g : Graph) → Loaded g l.index → l.nodes ≡ length g.nodes → (v : Seeding l.initial.item (at l.frame l.initial.on) l.initial.work) → Begun v g l.file (at l.frame l.on) l.work l.n)
