-- `image::record::is_cut`: the three tests of the definition, in its order.
use native.Mathlib.Omega.{arith}
use mathlib.Core.Path.{ap}
use borrow.Author.Tests.{le-leb, lt-leb, eq-eqb, ne_eqb}
use lib.ListN.{length}
use lib.Dec.{leb}
use Prim.Native.Nat.{ℕ, ◌+◌}
use Rattle.semantics.specs.Bytes.{byte_at}
use Rattle.semantics.specs.Image.{is_cut}
use Rattle.image.proofs.record.is_cut.Goals as goal

pub returns-then-image-at : goal.returns-then-image-at
unfolding is_cut
returns-then-image-at c =
    let im = c.args.image.now in let at = c.args.at in
    simp (le-leb (length im) at c.if-image-at.true)

pub returns-then-count-eq0 : goal.returns-then-count-eq0
unfolding is_cut
returns-then-count-eq0 c =
    let im = c.args.image.now in let at = c.args.at in
    simp (lt-leb (length im) at (omega arith), eq-eqb (byte_at im at) 0 (omega arith))

pub returns : goal.returns
unfolding is_cut
returns c =
    let im = c.args.image.now in let at = c.args.at in
    simp (lt-leb (length im) at (omega arith), ne_eqb (byte_at im at) 0 (λ e. c.if-count-eq0.false (omega arith))) (ap (λ (k : ℕ). leb (length im) (at + k)) c.byte-count.ensures.value)
