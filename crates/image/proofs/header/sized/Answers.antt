-- `image::header::sized`: the tests of the definition, in its order.
use Prim.Native.Nat.{ℕ, ◌+◌}
use native.Mathlib.Omega.{arith}
use mathlib.Core.Path.{ap}
use borrow.Author.Tests.{lt-ltb, le-ltb}
use lib.Dec.{eqb}
use lib.ListN.{length}
use Rattle.semantics.specs.Image.{longest_image}
use Rattle.image.specs.Reached.{is_sized}
use Rattle.image.proofs.header.sized.Goals as goal

pub returns-then-image-lt-FIRST_RECORD : goal.returns-then-image-lt-FIRST_RECORD
unfolding is_sized
returns-then-image-lt-FIRST_RECORD c =
    let im = c.args.image.now in
    simp (lt-ltb (length im) 11 (omega arith))

pub returns-then-image-gt-MOST_BYTES : goal.returns-then-image-gt-MOST_BYTES
unfolding is_sized
returns-then-image-gt-MOST_BYTES c =
    let im = c.args.image.now in
    simp (le-ltb (length im) 11 (omega arith), lt-ltb longest_image (length im) (omega arith))

pub returns : goal.returns
unfolding is_sized
returns c =
    let im = c.args.image.now in
    simp (le-ltb (length im) 11 (omega arith), le-ltb longest_image (length im) (omega arith)) (ap (λ (k : ℕ). eqb (k + 5) (length im)) c.long.ensures.value)
