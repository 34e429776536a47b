-- The two versions by their numbers, and the bytes of a symbol in each.
-- Document 02, order 3.
use Rattle.std.specs.Prelude.{ℕ, ◌<◌, ◌≡◌, refl}
use Rattle.std.proofs.Common.{inl, inr, arith}
use Rattle.semantics.specs.Image.{symbol_bytes}
use Rattle.image.specs.Records.{KnownWidth}
use Rattle.image.specs.declared.version.Version.{Version}
use Rattle.image.specs.declared.version.Version.TheVariants.{Narrow, Wide}

abbrev pub number_of : Version → ℕ
number_of Narrow = 1
number_of Wide = 2

abbrev pub width_of : Version → ℕ
width_of Narrow = 4
width_of Wide = 8

pub number-byte : (v : Version) → number_of v < 256
number-byte Narrow = omega arith
number-byte Wide = omega arith

pub width-known : (v : Version) → KnownWidth (width_of v)
width-known Narrow = inl refl
width-known Wide = inr refl

pub width-number : (v : Version) → symbol_bytes (number_of v) ≡ width_of v
width-number Narrow = refl
width-number Wide = refl

pub width-some : (v : Version) → symbol_bytes (number_of v) ≡ 0 → ⊥
width-some Narrow e = absurd (omega (arith, e))
width-some Wide e = absurd (omega (arith, e))
