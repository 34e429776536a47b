-- `words::writing::put_short`: the high half, and the low half behind it.
use Prim.Native.Nat.{ℕ, ◌+◌, ◌/◌}
use native.Mathlib.Omega.{arith}
use mathlib.Core.Path.{refl, ap, ◌∙◌}
use mathlib.Core.List.{List}
use Rattle.semantics.specs.Bytes.Placed.{put}
use Rattle.semantics.specs.Bytes.Written.{be, length-be}
use Rattle.words.specs.Writing.{wrote, wrote_then, two-ones}
use Rattle.words.proofs.writing.put_short.Goals as goal

pub returns : goal.returns
returns c =
    let a = c.args in
    let high = wrote a.at 1 (be 1 (a.number / 256)) c.put_byte.ensures (length-be 1 (a.number / 256)) in
    let both = wrote_then high (a.at + 1) 1 (be 1 a.number) c.put_byte-2.ensures refl (length-be 1 a.number) (omega (arith, c.requires)) in
    both.is ∙ ap (λ (p : List ℕ). put a.at p a.area.now) (two-ones a.number)
