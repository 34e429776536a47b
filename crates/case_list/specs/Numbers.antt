-- The numbers of a list of cases: big-endian, and 0 behind the last byte.
use Rattle.std.specs.Prelude.{ℕ, ◌+◌, ◌*◌, List, slice_index}

abbrev pub short_at : List ℕ → ℕ → ℕ
short_at bytes at = slice_index bytes at * 256 + slice_index bytes (at + 1)

abbrev pub long_at : List ℕ → ℕ → ℕ
long_at bytes at = short_at bytes at * 65536 + short_at bytes (at + 2)

abbrev pub longest_at : List ℕ → ℕ → ℕ
longest_at bytes at = long_at bytes at * 4294967296 + long_at bytes (at + 4)
