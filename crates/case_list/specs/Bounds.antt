-- A bound on every place that is computed in a list: an image's length has 32 bits.
use Rattle.std.specs.Prelude.{ℕ}

abbrev pub most_place : ℕ
most_place = 8589934592
