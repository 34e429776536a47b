use Prim.Native.Nat.{ℕ}
use mathlib.Core.Path.{◌≡◌}
use mathlib.Core.List.{List}
use lib.ListN.{length}
use Rattle.semantics.specs.Limits.{slot_length}
use Rattle.semantics.specs.Words.{encode}
use Rattle.stitching_trial.specs.Items.{up_to}
use Rattle.stitching_trial.proofs.joined_path.with_edges.Given as goal

abbrev pub invariant-loop-i : goal.invariant-loop-i
invariant-loop-i l = (length l.item ≡ length l.initial.item) × ((ps : List ℕ) → l.initial.item ≡ encode slot_length ps → length ps ≡ l.k → l.item ≡ encode slot_length (up_to l.i ps l.edges))
