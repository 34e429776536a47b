-- `replace::clear_record`: zeros for a live record of the file, and no other word is altered.
use mathlib.Core.Path.{◌≡◌, ◌∙◌}
use Prim.Native.Nat.{suc}
use native.Mathlib.Omega.{arith}
use Rattle.semantics.specs.Limits.{base}
use Rattle.database.specs.Records.{owner_word}
use Rattle.database.specs.Filing.Laws.{cleared-owned, cleared-other}
use Rattle.database.proofs.replace.clear_record.Goals as goal
use Rattle.database.proofs.replace.clear_record.Goals.{else-owner-gt0-via-then-owner-gt0+else-owner-file, else-owner-gt0-via-else-owner-gt0}

pub returns-then-owner-file : goal.returns-then-owner-file
returns-then-owner-file c =
    let a = c.args in
    let p = c.requires in
    c.zero_record.ensures
    ∙ cleared-owned base a.file a.i a.words.now (omega (
      arith,
      c.owner-owner.ensures,
      c.if-owner-gt0.true,
      c.if-owner-file.true,
    )) p

pub returns-else-owner-gt0 : goal.returns-else-owner-gt0
returns-else-owner-gt0 c =
    let a = c.args in
    cleared-other base a.file a.i a.words.now
    (λ (e : owner_word base a.i a.words.now ≡ suc a.file).
    elim c.else-owner-gt0.branch [
      | else-owner-gt0-via-then-owner-gt0+else-owner-file w ↦ w.if-owner-file.false (omega (arith, e, c.owner-owner.ensures))
      | else-owner-gt0-via-else-owner-gt0 w ↦ omega (arith, e, c.owner-owner.ensures, w.if-owner-gt0.false)
    ])
