-- Laws of numbers that are taken from others, and of the part that a lookup hands back. How they stand in an area that the caller lends:
-- semantics/specs/Written.antt.
use Rattle.std.specs.Prelude.{ℕ}
pub mod Laws

-- the numbers of the longest answer but a tally's
abbrev pub MOST : ℕ
MOST = 12
