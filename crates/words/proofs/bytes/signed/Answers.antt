-- `words::bytes::signed`: the two readings of 32 bits differ in nothing but how they are written.
use Rattle.std.proofs.Common.{◌≡◌, ℕ, suc, ◌-◌, Bool, true, false, refl, ap, ◌∙◌, arith, ltb, w32}
use lib.IntN.{pos, negsuc}
use mir.Val.{sel}
use mir.Facts.{to_z-of_z}
use Rattle.semantics.specs.Lists.{pick}
use Rattle.semantics.specs.Bytes.{signed}
use Rattle.words.proofs.bytes.signed.Goals as goal

either : (b : Bool) (x : ℕ) → sel b (pos x) (negsuc (4294967296 - suc x)) ≡ pick b (pos x) (negsuc (4294967295 - x))
either true x = refl
either false x = ap negsuc (omega arith)

pub returns : goal.returns
unfolding signed
returns c = to_z-of_z {w = w32} (record { sfits = c.cast_signed.type_inv }) ∙ c.cast_signed.ensures ∙ either (ltb c.args.x 2147483648) c.args.x
