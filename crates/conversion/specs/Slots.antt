-- The room that the new area has.
-- Document 02, order 6.
use Rattle.std.specs.Prelude.{ℕ, Bool, leb}
use Rattle.semantics.specs.Limits.{Bounds}
use Rattle.semantics.specs.Lists.{and}
use Rattle.semantics.specs.Words.{zeros}
use Rattle.semantics.specs.Database.{capacity}
pub mod Laws

-- an area of len words has room for so many slots
abbrev pub has_room_for : Bounds → ℕ → ℕ → Bool
has_room_for bd used len = and (leb 3 len) (leb used (capacity bd (zeros len)))
