-- `image::scan::edges`: the run over the edge records, one more each turn.
use mathlib.Core.Path.{◌≡◌}
use lib.ListN.{length}
use Rattle.semantics.specs.Image.{edge_record}
use Rattle.image.specs.Records.{Run, EdgesPut}
use Rattle.image.proofs.scan.edges.Given as goal

abbrev pub invariant-loop-e : goal.invariant-loop-e
invariant-loop-e l = (length l.index ≡ length l.initial.index) × Run l.image (λ k. edge_record l.image) l.from l.count l.e l.at × EdgesPut l.image l.from l.e l.initial.index l.index
