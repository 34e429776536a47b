-- `check::sound`: a dead record, an unknown owner, a start outside, then the count.
use mathlib.Core.Path.{◌≡◌, sym, ap, ◌∙◌}
use Prim.Native.Nat.{ℕ, ◌-◌}
use native.Mathlib.Omega.{arith}
use Rattle.database.specs.Records.{bounded}
use lib.Dec.{leb}
use mathlib.Core.Bool.{true≢false}
use borrow.Author.Tests.{ltb-true, ltb-false}
use Rattle.semantics.specs.Lists.{and}
use Rattle.semantics.specs.Database.{nodes_in, files_in, known_owners}
use Rattle.database.specs.Checks.Laws.{sound-dead, sound-unknown, sound-outside, sound-counted}
use Rattle.database.proofs.check.sound.Goals as goal
use Rattle.database.proofs.check.sound.Goals.{then-known, else-known}

pub returns-then-owner-lt1 : goal.returns-then-owner-lt1
returns-then-owner-lt1 c = let a = c.args in let ws = a.words.now in sym (sound-dead (bounded a.most) known_owners (nodes_in ws) (files_in ws) a.i ws (omega arith))

pub returns-then-start-words : goal.returns-then-start-words
returns-then-start-words c =
    let a = c.args in
    let ws = a.words.now in
    elim c.if-known.branch [
      | then-known w ↦
          c.counted.ensures
          ∙ ap (λ (n : ℕ). and (leb 1 n) (leb n a.most)) c.count.ensures
          ∙ sym (sound-counted (bounded a.most) known_owners (nodes_in ws) (files_in ws) a.i (c.owner-owner.result - 1) ws (omega arith)
          (sym c.known.ensures ∙ w.if-known.true) (omega (arith, ltb-true _ _ (sym w.value-is ∙ c.if-start-words.true))))
      | else-known w ↦ absurd (true≢false (sym c.if-start-words.true ∙ w.value-is ∙ w.if-known.false))
    ]

pub returns-else-start-words : goal.returns-else-start-words
returns-else-start-words c =
    let a = c.args in
    let ws = a.words.now in
    elim c.if-known.branch [
      | then-known w ↦
          c.if-start-words.false
          ∙ sym (sound-outside (bounded a.most) known_owners (nodes_in ws) (files_in ws) a.i (c.owner-owner.result - 1) ws (omega arith)
          (sym c.known.ensures ∙ w.if-known.true) (omega (arith, ltb-false _ _ (sym w.value-is ∙ c.if-start-words.false))))
      | else-known w ↦
          c.if-start-words.false
          ∙ sym (sound-unknown (bounded a.most) known_owners (nodes_in ws) (files_in ws) a.i (c.owner-owner.result - 1) ws
          (omega arith) (sym c.known.ensures ∙ w.if-known.false))
    ]
