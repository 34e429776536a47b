-- `tally::lengths::search`: the order and the limits are those of a tally.
use Prim.Native.Nat.{ℕ}
use mathlib.Core.Path.{refl, ap, ◌∙◌}
use lib.ListN.{length, length-replicate}
use Rattle.semantics.specs.Limits.{slot_length}
use Rattle.tally.proofs.lengths.search.Goals as goal

pub returns : goal.returns
returns c =
    let p = c.requires in
    c.search_counted.ensures.tallies refl refl (ap length p.1 ∙ length-replicate {A = ℕ} slot_length 0)
