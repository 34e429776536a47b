-- `words::writing::put_byte`: a byte stored is a part of one put there.
use Prim.Native.Nat.{ℕ, ◌%◌}
use mathlib.Core.Path.{sym, ap, ◌∙◌}
use mathlib.Core.List.{List}
use Rattle.semantics.specs.Bytes.Placed.{put, put_one}
use Rattle.words.specs.Writing.{be-one}
use borrow.Author.Rules.{rules}
use Rattle.words.proofs.writing.put_byte.Goals as goal

pub returns : goal.returns
returns c =
    let a = c.args in
    put_one a.at (a.number % 256) a.area.now (search rules) ∙ ap (λ (p : List ℕ). put a.at p a.area.now) (sym (be-one a.number))
