use Rattle.std.specs.Prelude.{Err}
use mathlib.Core.Path.{sym, subst}
use mathlib.Core.Bool.{Bool}
use Rattle.semantics.specs.declared.refusal.SearchRefusal.TheVariants as Search
use Rattle.search_state.specs.Extensions.{ExtendsTo}
use Rattle.search_state.specs.Extensions.Laws.{extend-only, extend-full, extend-kept, extend-push}
use Rattle.search_state.proofs.search.Search.extend.Goals as goal

pub record_complete-recorded-requires : goal.record_complete-recorded-requires
record_complete-recorded-requires c = let p = c.requires in (p.fits, p.room, p.pushable.slot, p.few)

pub returns-in_default : goal.returns-in_default
returns-in_default c =
    let record-complete = c.record_complete-recorded in
    let if1 = c.if-complete in
    let a = c.args in
    subst (λ (b : Bool).
    ExtendsTo a.self b a.work.now a.res.now a.item.now (Err Search.NoResultSlot) a.work.now
    record-complete.new.res) (sym if1.true) (extend-full a.self a.work.now a.res.now a.item.now
    record-complete.ensures.value record-complete.ensures.res_after c.in_default.is)

pub push-requires : goal.push-requires
push-requires c =
    let p = c.requires in
    extend-push c.in-Some.state p c.with_state.ensures

pub returns-then-complete : goal.returns-then-complete
returns-then-complete c =
    let push = c.push in
    let record-complete = c.record_complete-recorded in
    let if1 = c.if-complete in
    let a = c.args in
    subst (λ (b : Bool).
    ExtendsTo a.self b a.work.now a.res.now a.item.now push.result push.new.work record-complete.new.res)
    (sym if1.true) (extend-kept a.self a.work.now a.res.now a.item.now record-complete.ensures.value
    record-complete.ensures.res_after c.in-Some.state c.in-Some.is c.with_state.ensures
    push.ensures)

pub push-requires-2 : goal.push-requires-2
push-requires-2 c = let p = c.requires in p.pushable

pub returns : goal.returns
returns c =
    let push2 = c.push-2 in
    let a = c.args in
    subst (λ (b : Bool). ExtendsTo a.self b a.work.now a.res.now a.item.now push2.result push2.new.work a.res.now)
    (sym c.if-complete.false) (extend-only a.res.now push2.ensures)
