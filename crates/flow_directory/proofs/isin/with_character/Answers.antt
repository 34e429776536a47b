-- `flow_directory::isin::with_character`: a digit as it is, a letter as two.
use Prim.Native.Nat.{ℕ, ◌-◌, ◌%◌, ◌/◌}
use native.Mathlib.Omega.{arith}
use mathlib.Core.Path.{sym, ap, ◌∙◌}
use mathlib.Core.Bool.{Bool}
use Rattle.semantics.specs.Lists.{pick}
use Rattle.semantics.specs.Isin.{letter, onward}
use Rattle.flow_directory.specs.Sums.{sum_of}
use Rattle.flow_directory.specs.Sums.Laws.{digit-bounds}
use Rattle.flow_directory.proofs.isin.with_character.Goals as goal

pub overflow_sub-c : goal.overflow_sub-c
overflow_sub-c c = let b = digit-bounds c.args.c (sym c.is_digit.ensures ∙ c.if-is_digit.true) in omega (arith, b.0)

pub with_digit-requires : goal.with_digit-requires
with_digit-requires c = let b = digit-bounds c.args.c (sym c.is_digit.ensures ∙ c.if-is_digit.true) in (omega arith, omega (arith, b.0, b.1))

pub returns-then-is_digit : goal.returns-then-is_digit
returns-then-is_digit c = let a = c.args in (c.with_digit.ensures.0 ∙ ap (onward (sum_of a.sum)) c.from.ensures ∙ sym (ap (λ (b : Bool). pick b (onward (sum_of a.sum) (a.c - 48)) (onward (onward (sum_of a.sum) (letter a.c % 10)) (letter a.c / 10))) (sym c.is_digit.ensures ∙ c.if-is_digit.true)), omega (arith, c.with_digit.ensures.1))

pub returns : goal.returns
returns c = let a = c.args in
    let v = c.from-value.ensures ∙ c.letter.ensures in (
      c.with_digit-3.ensures.0
          ∙ ap (λ (s : ℕ × Bool). onward s (c.from-value.result / 10)) c.with_digit-2.ensures.0
          ∙ ap (λ (k : ℕ). onward (onward (sum_of a.sum) (k % 10)) (k / 10)) v
          ∙ sym (ap (λ (b : Bool). pick b (onward (sum_of a.sum) (a.c - 48)) (onward (onward (sum_of a.sum) (letter a.c % 10)) (letter a.c / 10))) (sym c.is_digit.ensures ∙ c.if-is_digit.false)),
      omega (arith, c.with_digit-3.ensures.1, c.with_digit-2.ensures.1),
    )
