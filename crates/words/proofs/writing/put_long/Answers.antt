-- `words::writing::put_long`: the high half, and the low half behind it.
use Prim.Native.Nat.{ℕ, ◌+◌, ◌/◌}
use native.Mathlib.Omega.{arith}
use mathlib.Core.Path.{refl, sym, ap, ◌∙◌}
use mathlib.Core.List.{List}
use Rattle.semantics.specs.Bytes.Placed.{put}
use Rattle.semantics.specs.Bytes.Written.{be, length-be, be-four}
use Rattle.words.specs.Writing.{wrote, wrote_then}
use Rattle.words.proofs.writing.put_long.Goals as goal

pub returns : goal.returns
returns c =
    let a = c.args in
    let high = wrote a.at 2 (be 2 (a.number / 65536)) c.put_short.ensures (length-be 2 (a.number / 65536)) in
    let both = wrote_then high (a.at + 2) 2 (be 2 a.number) c.put_short-2.ensures refl (length-be 2 a.number) (omega (arith, c.requires)) in
    both.is ∙ ap (λ (p : List ℕ). put a.at p a.area.now) (sym (be-four a.number))
