-- `image::scan::nodes`: the run over the node records, one more each turn.
use mathlib.Core.Path.{◌≡◌}
use lib.ListN.{length}
use Rattle.semantics.specs.Image.{first_record, node_record}
use Rattle.image.specs.Records.{Run, NodesPut}
use Rattle.image.specs.Versions.{width_of}
use Rattle.image.proofs.scan.nodes.Given as goal

abbrev pub invariant-loop-n : goal.invariant-loop-n
invariant-loop-n l = (length l.index ≡ length l.initial.index) × Run l.image (node_record (width_of l.version) l.image l.files) first_record l.count l.n l.at × NodesPut (width_of l.version) l.image l.n l.initial.index l.index
