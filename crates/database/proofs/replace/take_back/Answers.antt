-- `replace::take_back`: the records from i on are zeros.
use Prim.Native.Nat.{ℕ, ◌-◌}
use mathlib.Core.List.{List}
use native.Mathlib.Omega.{arith}
use mathlib.Core.Path.{refl, sym, ap, ◌∙◌}
use Rattle.semantics.specs.Limits.{base, record_words}
use Rattle.semantics.specs.Words.{zeros}
use Rattle.database.specs.Records.{put_record}
use Rattle.semantics.specs.Database.{used_in}
use Rattle.database.specs.Filing.{used_up_to}
use Rattle.database.specs.Filing.Free.{freed-none, freed-down, freed-end}
use Rattle.database.proofs.replace.take_back.Goals as goal

pub loop-i-init : goal.loop-i-init
loop-i-init c =
    let a = c.args in
    let e = c.number-used.ensures.0 in
    (e, omega (arith, e), refl, sym (freed-none base c.number-used.result (used_in a.words.now) a.words.now (omega (arith, e))))

pub loop-i-preserved : goal.loop-i-preserved
loop-i-preserved c =
    let l = c.loop-i in
    let less = c.loop-i-test.true in
    let a = c.args in (
      l.invariant.0,
      omega (arith, l.invariant.0, l.invariant.1, less),
      c.zero_record.auto.words ∙ l.invariant.2,
      c.zero_record.ensures
          ∙ ap (λ (x : List ℕ). put_record base (l.i - 1) (zeros (record_words base)) x) l.invariant.3
          ∙ freed-down base l.i (used_in a.words.now) a.words.now (omega (arith, less)) (omega (arith, l.invariant.0, l.auto.i)),
    )

pub returns : goal.returns
returns c =
    let l = c.loop-i in
    let left = c.loop-i-test.false in
    let a = c.args in
    c.count_used.ensures ∙ ap (used_up_to a.first) (l.invariant.3 ∙ freed-end base l.i a.first (used_in a.words.now) a.words.now (omega (arith, left)) l.invariant.1)
