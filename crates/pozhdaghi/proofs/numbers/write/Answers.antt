-- the numbers before i are written, the others as they were
use native.Mathlib.Omega.{arith}
use mathlib.Core.Path.{◌≡◌, refl, sym, ap, ◌∙◌}
use Prim.Native.Nat.{ℕ}
use lib.ListN.{length, set, length-set}
use Rattle.semantics.specs.Written.{written}
use Rattle.words.specs.Copies.{copy_more, copy-all}
use Rattle.path_words.specs.Written.Laws.{written-length, written_at}
use borrow.Author.Rules.{rules}
use Rattle.pozhdaghi.proofs.numbers.write.Goals as goal

pub loop-i-preserved : goal.loop-i-preserved
loop-i-preserved c =
    let l = c.loop-i in
    let a = c.args in
    let n = length a.answer.now in
    let s = written n a.numbers.now in
    let k : length s ≡ n = written-length n a.numbers.now in
    (search rules, refl, simp length-set l.invariant.2, ap (λ (v : ℕ). set l.answer l.i v) (c.number.ensures ∙ sym (written_at n a.numbers.now l.i (omega arith))) ∙ copy_more l.answer l.i s a.answer.now l.invariant.3 (omega (arith, k)) (omega arith))

pub returns : goal.returns
returns c =
    let l = c.loop-i in
    let a = c.args in
    let n = length a.answer.now in
    let s = written n a.numbers.now in
    let k : length s ≡ n = written-length n a.numbers.now in
    l.invariant.3 ∙ copy-all l.i s a.answer.now (omega (arith, k)) k
