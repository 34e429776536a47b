-- `drive` meets its contract: the run from here is the run from the start, whatever words a slot has.
use native.Mathlib.Omega.{arith}
use mathlib.Core.Path.{◌≡◌, refl, sym, ap, subst, ◌∙◌}
use borrow.Author.Rules.{rules}
use Rattle.std.specs.Prelude.{Result, Ok, Err}
use Rattle.semantics.specs.declared.search.PartialPathStats.{PartialPathStats}
use Rattle.semantics.specs.declared.refusal.PartialPathRefusal.{PartialPathRefusal}
use Rattle.partial_state.specs.declared.extraction.ExtractionTurn.{ExtractionTurn}
use Rattle.partial.specs.Rounds.{DrivenTo}
use lib.ListN.{length}
use Rattle.semantics.specs.Limits.{slot_length}
use Rattle.partial_state.specs.declared.extraction.ExtractionFrame.{ExtractionFrame}
use Rattle.partial_state.specs.Extractions.{at, slotted_by, going_at, taken_at}
use Rattle.partial.specs.Rounds.Laws.{room-frame, Turning, filed-tests, turn-filed, turn-start, turn-over, turn_many, turn-framed, turn-short, turn-given, turn-refused, turn-counts, turn-again}
use Rattle.partial.proofs.compute.drive.Goals as goal

pub loop-filing-init : goal.loop-filing-init
loop-filing-init c =
    (refl, refl, refl, λ v. turn-start v)

pub returns-then-is_filed : goal.returns-then-is_filed
returns-then-is_filed c =
    let a = c.args in
    let l = c.loop-filing in
    let h = filed-tests a.filing l.on.found (sym c.is_filed.ensures ∙ c.if-is_filed.true) in
    λ v. turn-filed v (l.invariant.3 v) h.0 h.1 c.uncounted.result

pub take_front-requires : goal.take_front-requires
take_front-requires c =
    let p = c.requires in
    let l = c.loop-filing in
    let t = (subst (λ (f : ExtractionFrame). Turning p (at f l.on) l.work l.words) (sym c.with_slot-within.ensures) (l.invariant.3 p)) in
    (t.stood.stands.0.framed, omega (arith, t.stood.sized.most, l.invariant.0, p.slot), omega (arith, t.expanded))

pub returns-in-Over : goal.returns-in-Over
returns-in-Over c =
    let take-front = c.take_front in
    let with-slot = c.with_slot-within in
    let l = c.loop-filing in
    λ v.
    turn-over v (subst (λ (f : ExtractionFrame). Turning v (at f l.on) l.work l.words) (sym with-slot.ensures) (l.invariant.3 v))
    take-front.ensures (at with-slot.result c.in-Over.last)
    (ap (taken_at with-slot.result) (c.in_ok-turn.was ∙ ap (λ (t : ExtractionTurn). Ok t) c.in-Over.is)) c.stats.ensures

pub returns-in_err-turn : goal.returns-in_err-turn
returns-in_err-turn c =
    let take-front = c.take_front in
    let with-slot = c.with_slot-within in
    let l = c.loop-filing in
    let a = c.args in
    let same : c.from_residual.result ≡ Err c.in_err-turn.field-0.0 = search rules in
    λ v.
    subst (λ (r : Result PartialPathStats PartialPathRefusal). DrivenTo a.index.now a.filing a.item.now (at a.frame a.extraction) a.work.now a.words.now v r l.words)
    (sym same)
    (turn_many v (subst (λ (f : ExtractionFrame). Turning v (at f l.on) l.work l.words) (sym with-slot.ensures) (l.invariant.3 v))
    take-front.ensures c.in_err-turn.field-0.0 (ap (taken_at with-slot.result) c.in_err-turn.was))

pub make_room-ready-requires : goal.make_room-ready-requires
make_room-ready-requires c =
    let take-front = c.take_front in
    let with-slot = c.with_slot-within in
    let taken_at-is = ap (taken_at with-slot.result) (c.in_ok-turn.was ∙ ap (λ (t : ExtractionTurn). Ok t) c.in-Expand.is) in
    let l = c.loop-filing in
    let p = c.requires in
    let turning = subst (λ (f : ExtractionFrame). Turning p (at f l.on) l.work l.words) (sym with-slot.ensures) (l.invariant.3 p) in
    let u = turn-framed p turning take-front.ensures (at with-slot.result c.in-Expand.next) taken_at-is l.invariant.2 in (
      u.0,
      u.1,
      take-front.auto.item ∙ l.invariant.0 ∙ p.slot,
      turn-short p turning take-front.ensures (at with-slot.result c.in-Expand.next) taken_at-is l.invariant.2 take-front.new.item refl,
    )

pub round_front-requires : goal.round_front-requires
round_front-requires c =
    let make-room = c.make_room-ready in
    let take-front = c.take_front in
    let with-slot = c.with_slot-within in
    let l = c.loop-filing in
    let p = c.requires in
    let v = turn-given p (subst (λ (f : ExtractionFrame). Turning p (at f l.on) l.work l.words) (sym with-slot.ensures) (l.invariant.3 p))
    take-front.ensures (at with-slot.result c.in-Expand.next) (ap (taken_at with-slot.result) (c.in_ok-turn.was ∙ ap (λ (t : ExtractionTurn). Ok t) c.in-Expand.is)) l.invariant.2
    take-front.new.item refl (at make-room.result c.in-Expand.next) make-room.new.item make-room.new.work
    make-room.ensures in
    let n : length make-room.new.item ≡ slot_length = make-room.auto.item ∙ take-front.auto.item ∙ l.invariant.0 ∙ p.slot in
    (v, omega (arith, v.rep.sized.most, n))

pub loop-filing-smaller : goal.loop-filing-smaller
loop-filing-smaller c =
    let round-front = c.round_front in
    let make-room = c.make_room-ready in
    let take-front = c.take_front in
    let with-slot = c.with_slot-within in
    let taken_at-is = ap (taken_at with-slot.result) (c.in_ok-turn.was ∙ ap (λ (t : ExtractionTurn). Ok t) c.in-Expand.is) in
    let l = c.loop-filing in
    let p = c.requires in
    let turning = subst (λ (f : ExtractionFrame). Turning p (at f l.on) l.work l.words) (sym with-slot.ensures) (l.invariant.3 p) in
    let h = turn-counts p turning take-front.ensures (at with-slot.result c.in-Expand.next) taken_at-is l.invariant.2
    take-front.new.item refl (at make-room.result c.in-Expand.next) make-room.new.item make-room.new.work
    make-room.ensures (going_at make-room.result round-front.result) round-front.new.work round-front.new.words
    (round-front.ensures (turn-given p turning take-front.ensures (at with-slot.result c.in-Expand.next) taken_at-is l.invariant.2
    take-front.new.item refl (at make-room.result c.in-Expand.next) make-room.new.item make-room.new.work
    make-room.ensures)) (at make-room.result c.in_ok-on-in-Expand.on) (ap (going_at make-room.result) c.in_ok-on-in-Expand.was) in
    omega (arith, h.0, h.1)

pub loop-filing-preserved : goal.loop-filing-preserved
loop-filing-preserved c =
    let round-front = c.round_front in
    let make-room = c.make_room-ready in
    let take-front = c.take_front in
    let with-slot = c.with_slot-within in
    let taken_at-is = ap (taken_at with-slot.result) (c.in_ok-turn.was ∙ ap (λ (t : ExtractionTurn). Ok t) c.in-Expand.is) in
    let l = c.loop-filing in (
      round-front.auto.item ∙ make-room.auto.item ∙ take-front.auto.item ∙ l.invariant.0,
      round-front.auto.work ∙ make-room.auto.work ∙ take-front.auto.work ∙ l.invariant.1,
      round-front.auto.words ∙ l.invariant.2,
      λ v.
          let turning = subst (λ (f : ExtractionFrame). Turning v (at f l.on) l.work l.words) (sym with-slot.ensures) (l.invariant.3 v) in
          subst
          (λ (f : ExtractionFrame). Turning v (at f c.in_ok-on-in-Expand.on) round-front.new.work round-front.new.words)
          (room-frame (at with-slot.result c.in-Expand.next) take-front.new.item take-front.new.work
          (at make-room.result c.in-Expand.next) make-room.new.item make-room.new.work make-room.ensures
          ∙ ap (slotted_by make-room.result.slot) with-slot.ensures)
          (turn-again v turning take-front.ensures (at with-slot.result c.in-Expand.next) taken_at-is l.invariant.2 take-front.new.item refl
          (at make-room.result c.in-Expand.next) make-room.new.item make-room.new.work make-room.ensures
          (going_at make-room.result round-front.result) round-front.new.work round-front.new.words
          (round-front.ensures (turn-given v turning take-front.ensures (at with-slot.result c.in-Expand.next) taken_at-is l.invariant.2
          take-front.new.item refl (at make-room.result c.in-Expand.next) make-room.new.item make-room.new.work
          make-room.ensures)) (at make-room.result c.in_ok-on-in-Expand.on) (ap (going_at make-room.result) c.in_ok-on-in-Expand.was)),
    )

pub returns-in_err-on-in-Expand : goal.returns-in_err-on-in-Expand
returns-in_err-on-in-Expand c =
    let round-front = c.round_front in
    let make-room = c.make_room-ready in
    let take-front = c.take_front in
    let with-slot = c.with_slot-within in
    let taken_at-is = ap (taken_at with-slot.result) (c.in_ok-turn.was ∙ ap (λ (t : ExtractionTurn). Ok t) c.in-Expand.is) in
    let l = c.loop-filing in
    let a = c.args in
    let same : c.from_residual-in_err-on-in-Expand.result ≡ Err c.in_err-on-in-Expand.field-0.0 = search rules in
    λ v.
    let turning = subst (λ (f : ExtractionFrame). Turning v (at f l.on) l.work l.words) (sym with-slot.ensures) (l.invariant.3 v) in
    subst (λ (r : Result PartialPathStats PartialPathRefusal). DrivenTo a.index.now a.filing a.item.now (at a.frame a.extraction) a.work.now a.words.now v r round-front.new.words)
    (sym same)
    (turn-refused v turning take-front.ensures (at with-slot.result c.in-Expand.next) taken_at-is l.invariant.2 take-front.new.item refl
    (at make-room.result c.in-Expand.next) make-room.new.item make-room.new.work make-room.ensures
    (going_at make-room.result round-front.result) round-front.new.work round-front.new.words
    (round-front.ensures (turn-given v turning take-front.ensures (at with-slot.result c.in-Expand.next) taken_at-is l.invariant.2
    take-front.new.item refl (at make-room.result c.in-Expand.next) make-room.new.item make-room.new.work
    make-room.ensures)) c.in_err-on-in-Expand.field-0.0 (ap (going_at make-room.result) c.in_err-on-in-Expand.was))
