-- `rewriting::write::write_nodes`: the nodes passed so far are written, and `at` is the place behind them.
use Prim.Native.Nat.{◌+◌}
use mathlib.Core.Path.{◌≡◌}
use lib.ListN.{length}
use Rattle.semantics.specs.Bytes.Placed.{put}
use Rattle.semantics.specs.Image.Encoding.{encode_nodes}
use Rattle.rewriting.specs.Held.{nodes_in}
use Rattle.image.specs.Versions.{width_of}
use Rattle.rewriting.proofs.write.write_nodes.Given as goal

abbrev pub invariant-loop-n : goal.invariant-loop-n
invariant-loop-n l = (length l.area ≡ length l.initial.area) × (l.at ≡ l.from + length (encode_nodes (width_of l.version) (nodes_in l.index l.n))) × (l.area ≡ put l.from (encode_nodes (width_of l.version) (nodes_in l.index l.n)) l.initial.area)
