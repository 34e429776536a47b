use native.Mathlib.Omega.{arith}
use mathlib.Core.Path.{refl, ap, ◌∙◌}
use Rattle.std.specs.Prelude.{Ok}
use Rattle.search_state.specs.declared.search.Search as S
use Rattle.search_state.specs.declared.search.Round.{Round}
use lib.ListN.{get_or}
use Rattle.semantics.specs.Graph.{view_of}
use Rattle.search_rounds.specs.Drives.Laws.{turn-start, turn-over, turn_many, turn-given, turn-refused, turn-counts, turn-again}
use Rattle.stitching.specs.StitchedAnswers.{tries_in}
use Rattle.stitching.specs.Expansions.Rounds.{tries-few}
use Rattle.stitching.proofs.stitched.drive.Goals as goal

pub loop-finished-init : goal.loop-finished-init
loop-finished-init c = let a = c.args in (refl, refl, refl, refl, λ see d v. turn-start (tries_in see a.words.now) v (λ lim q. tries-few see d.readable lim (view_of v.graph) q))

pub take-requires : goal.take-requires
take-requires c =
    let l = c.loop-finished in
    let p = c.requires in
    let t = l.invariant.4 p.0.see p.0.linked p.1 in
    record {
      framed = t.stood.stands.0.framed;
      short = t.stood.sized.wider.longer;
      slot = l.invariant.1 ∙ p.1.slot;
      clear = t.clear;
      few = omega (arith, t.expanded);
    }

pub returns-in-Ok-Over : goal.returns-in-Ok-Over
returns-in-Ok-Over c =
    let take = c.take in
    let l = c.loop-finished in
    let a = c.args in
    λ see d v.
    turn-over (tries_in see a.words.now) v (λ lim q. tries-few see d.readable lim (view_of v.graph) q) l.invariant.0 (l.invariant.4 see d v)
    take.ensures c.in-Ok-Over.finished (c.in-Ok-Over.is ∙ ap (λ (t : Round S.Search). Ok t) c.in-Ok-Over.field-0-is)

pub returns-in-Err : goal.returns-in-Err
returns-in-Err c =
    let l = c.loop-finished in
    let a = c.args in
    λ see d v.
    turn_many (tries_in see a.words.now) v (λ lim q. tries-few see d.readable lim (view_of v.graph) q) l.invariant.0 (l.invariant.4 see d v)
    c.take.ensures c.in-Err.r c.in-Err.is

pub bounds-item-0 : goal.bounds-item-0
bounds-item-0 c =
    let take = c.take in
    let l = c.loop-finished in
    let p = c.requires in
    omega (arith, take.auto.item, l.invariant.1, p.1.slot)

pub round-requires : goal.round-requires
round-requires c =
    let take = c.take in
    let l = c.loop-finished in
    let a = c.args in
    let p = c.requires in (
      p.0,
      turn-given (tries_in p.0.see a.words.now) p.1 (λ lim q. tries-few p.0.see p.0.linked.readable lim (view_of p.1.graph) q) l.invariant.0
          (l.invariant.4 p.0.see p.0.linked p.1) take.ensures c.in-Ok-Expand.next (c.in-Ok-Expand.is ∙ ap (λ (t : Round S.Search). Ok t) c.in-Ok-Expand.field-0-is),
    )

pub loop-finished-smaller : goal.loop-finished-smaller
loop-finished-smaller c =
    let round = c.round in
    let take = c.take in
    let l = c.loop-finished in
    let a = c.args in
    let p = c.requires in
    let h = turn-counts (tries_in p.0.see a.words.now) p.1 (λ lim q. tries-few p.0.see p.0.linked.readable lim (view_of p.1.graph) q) l.invariant.0
    (l.invariant.4 p.0.see p.0.linked p.1) take.ensures c.in-Ok-Expand.next (c.in-Ok-Expand.is ∙ ap (λ (t : Round S.Search). Ok t) c.in-Ok-Expand.field-0-is)
    (round.ensures.by_index p.0.see p.0.linked (turn-given (tries_in p.0.see a.words.now) p.1 (λ lim q. tries-few p.0.see p.0.linked.readable lim (view_of p.1.graph) q) l.invariant.0
    (l.invariant.4 p.0.see p.0.linked p.1) take.ensures c.in-Ok-Expand.next (c.in-Ok-Expand.is ∙ ap (λ (t : Round S.Search). Ok t) c.in-Ok-Expand.field-0-is))) c.in-Ok.s c.in-Ok.is in
    omega (arith, h.0, h.1)

pub loop-finished-preserved : goal.loop-finished-preserved
loop-finished-preserved c =
    let round = c.round in
    let take = c.take in
    let l = c.loop-finished in
    let a = c.args in (
      round.auto.steps ∙ l.invariant.0,
      round.auto.item ∙ take.auto.item ∙ l.invariant.1,
      round.auto.work ∙ take.auto.work ∙ l.invariant.2,
      round.auto.res ∙ l.invariant.3,
      λ see d v.
          let given = turn-given (tries_in see a.words.now) v (λ lim q. tries-few see d.readable lim (view_of v.graph) q) l.invariant.0 (l.invariant.4 see d v)
          take.ensures c.in-Ok-Expand.next (c.in-Ok-Expand.is ∙ ap (λ (t : Round S.Search). Ok t) c.in-Ok-Expand.field-0-is) in
          turn-again (tries_in see a.words.now) v (λ lim q. tries-few see d.readable lim (view_of v.graph) q) l.invariant.0 (l.invariant.4 see d v) take.ensures
          c.in-Ok-Expand.next (c.in-Ok-Expand.is ∙ ap (λ (t : Round S.Search). Ok t) c.in-Ok-Expand.field-0-is) (round.ensures.by_index see d given) c.in-Ok.s c.in-Ok.is round.new.item
          (round.ensures.clears given) {k = get_or take.new.item 0 0} refl,
    )

pub returns-in-Err-round : goal.returns-in-Err-round
returns-in-Err-round c =
    let round = c.round in
    let take = c.take in
    let l = c.loop-finished in
    let a = c.args in
    λ see d v.
    turn-refused (tries_in see a.words.now) v (λ lim q. tries-few see d.readable lim (view_of v.graph) q) l.invariant.0 (l.invariant.4 see d v)
    take.ensures c.in-Ok-Expand.next (c.in-Ok-Expand.is ∙ ap (λ (t : Round S.Search). Ok t) c.in-Ok-Expand.field-0-is) (round.ensures.by_index see d
    (turn-given (tries_in see a.words.now) v (λ lim q. tries-few see d.readable lim (view_of v.graph) q) l.invariant.0 (l.invariant.4 see d v)
    take.ensures c.in-Ok-Expand.next (c.in-Ok-Expand.is ∙ ap (λ (t : Round S.Search). Ok t) c.in-Ok-Expand.field-0-is))) c.in-Err-round.r c.in-Err-round.is
