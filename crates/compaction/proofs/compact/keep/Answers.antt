-- `keep`: by the first word of the record, both areas or none.
use mathlib.Core.Path.{refl, sym, ap, ◌∙◌}
use mathlib.Core.Bool.{Bool}
use Prim.Native.Nat.{◌+◌}
use native.Mathlib.Omega.{arith}
use Rattle.semantics.specs.Limits.{base}
use Rattle.semantics.specs.Lists.{pick}
use Rattle.database.specs.Records.{record_at, put_record}
use Rattle.compaction.specs.Moves.{noted}
use Rattle.compaction.specs.Moves.Laws.{record-live, record-dead}
use Rattle.compaction.proofs.compact.keep.Goals as goal

pub note-requires : goal.note-requires
note-requires c =
    let p = c.requires in
    (p.3 (omega (arith, c.owner.ensures, c.if-owner-gt0.true)), p.2, p.1)

pub returns-then-owner-gt0 : goal.returns-then-owner-gt0
returns-then-owner-gt0 c =
    let a = c.args in
    let e = record-live base a.i a.words.now (omega (arith, c.owner.ensures, c.if-owner-gt0.true)) in (
      c.move_record.auto.words,
      c.note.auto.list,
      sym (ap (λ (b : Bool). pick b (a.to + 1) a.to) e),
      c.move_record.ensures ∙ sym (ap (λ (b : Bool). pick b (put_record base a.to (record_at base a.i a.words.now) a.words.now) a.words.now) e),
      c.note.ensures ∙ sym (ap (λ (b : Bool). pick b (noted a.i a.to a.list.now) a.list.now) e),
    )

pub returns : goal.returns
returns c =
    let a = c.args in
    let e = record-dead base a.i a.words.now (omega (arith, c.owner.ensures, c.if-owner-gt0.false)) in (
      refl,
      refl,
      sym (ap (λ (b : Bool). pick b (a.to + 1) a.to) e),
      sym (ap (λ (b : Bool). pick b (put_record base a.to (record_at base a.i a.words.now) a.words.now) a.words.now) e),
      sym (ap (λ (b : Bool). pick b (noted a.i a.to a.list.now) a.list.now) e),
    )
