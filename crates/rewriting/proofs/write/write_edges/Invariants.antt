-- `rewriting::write::write_edges`: the edges passed so far are written, and `at` is the place behind them.
use Prim.Native.Nat.{◌+◌}
use mathlib.Core.Path.{◌≡◌}
use lib.ListN.{length}
use Rattle.semantics.specs.Bytes.Placed.{put}
use Rattle.semantics.specs.Image.Encoding.{encode_edges}
use Rattle.rewriting.specs.Held.{edges_in}
use Rattle.rewriting.proofs.write.write_edges.Given as goal

abbrev pub invariant-loop-e : goal.invariant-loop-e
invariant-loop-e l = (length l.area ≡ length l.initial.area) × (l.at ≡ l.from + length (encode_edges (edges_in l.index l.e))) × (l.area ≡ put l.from (encode_edges (edges_in l.index l.e)) l.initial.area)
