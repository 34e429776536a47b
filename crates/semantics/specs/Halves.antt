-- A number of 64 bits in two words of 32, as a symbol has so many: document 02, order 3.
use Rattle.std.specs.Prelude.{ℕ, ◌+◌, ◌*◌, ◌/◌, ◌%◌}
pub mod Laws

-- how many numbers a word can hold
abbrev pub word_room : ℕ
word_room = 4294967296

-- the number of a low and a high word
abbrev pub joined : ℕ → ℕ → ℕ
joined low high = high * word_room + low

abbrev pub low_word : ℕ → ℕ
low_word x = x % word_room

abbrev pub high_word : ℕ → ℕ
high_word x = x / word_room
