-- `convert_slot`: a live slot is written, a dead one is zero.
use mathlib.Core.Path.{sym, subst}
use mathlib.Core.List.{List}
use Prim.Native.Nat.{ℕ, ◌-◌, ◌≤◌}
use native.Mathlib.Omega.{arith}
use lib.ListN.{length}
use Rattle.semantics.specs.Limits.{base, former, max_edges}
use Rattle.semantics.specs.Database.{known_owners}
use Rattle.conversion.specs.Slots.Laws.{there, slot-few, count_fits, put-there, put-gone}
use Rattle.conversion.proofs.convert.convert_slot.Goals as goal

pub owner-owner-requires : goal.owner-owner-requires
owner-owner-requires c = let a = c.args in there former known_owners a.old.now c.requires.value.0 a.i c.requires.value.1

pub start-start-requires : goal.start-start-requires
start-start-requires c = let a = c.args in there former known_owners a.old.now c.requires.value.0 a.i c.requires.value.1

pub end-end-requires : goal.end-end-requires
end-end-requires c = let a = c.args in there former known_owners a.old.now c.requires.value.0 a.i c.requires.value.1

pub edges-edges-requires : goal.edges-edges-requires
edges-edges-requires c =
    let a = c.args in
    (there former known_owners a.old.now c.requires.value.0 a.i c.requires.value.1, slot-few former known_owners a.old.now c.requires.value.0 a.i c.requires.value.1 (c.owner-owner.result - 1) (omega (arith, c.owner-owner.ensures, c.if-owner-gt0.true)))

pub put_record-requires : goal.put_record-requires
put_record-requires c =
    let a = c.args in
    let p = c.requires in
    let n = count_fits former known_owners a.old.now p.value.0 a.i p.value.1 (c.owner-owner.result - 1) (omega (arith, c.owner-owner.ensures, c.if-owner-gt0.true)) base p.in_words.1 in
    (p.in_words.0, omega (arith, c.if-owner-gt0.true), subst (λ (l : List ℕ). length l ≤ max_edges) (sym c.edges-edges.ensures) n, omega arith)

pub returns-then-owner-gt0 : goal.returns-then-owner-gt0
returns-then-owner-gt0 c =
    let a = c.args in
    let p = c.requires in
    put-there former known_owners a.old.now p.value.0 a.i p.value.1 (c.owner-owner.result - 1) (omega (arith, c.owner-owner.ensures, c.if-owner-gt0.true)) base c.start-start.result c.end-end.result c.edges-edges.result.now a.new.now c.put_record.new.words c.start-start.ensures c.end-end.ensures c.edges-edges.ensures c.put_record.ensures

pub returns : goal.returns
returns c =
    let a = c.args in
    let p = c.requires in
    put-gone former known_owners a.old.now p.value.0 a.i p.value.1 base a.new.now c.zero_record.new.words (omega (arith, c.owner-owner.ensures, c.if-owner-gt0.false)) c.zero_record.ensures
