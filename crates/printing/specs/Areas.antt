-- How many words each lent area has: 128 slots.
use Rattle.std.specs.Prelude.{ℕ, ◌*◌}
use Rattle.semantics.specs.Limits.{slot_length}

-- how many slots each area has
abbrev pub slots : ℕ
slots = 128

abbrev pub area_words : ℕ
area_words = slots * slot_length
