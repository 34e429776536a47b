use Rattle.std.specs.Prelude.{Ok, Err}
use mathlib.Core.Path.{sym, subst}
use mathlib.Core.Bool.{Bool}
use Rattle.semantics.specs.declared.refusal.LinearRefusal.TheVariants as Linear
use Rattle.linear_search.specs.Walks.{Chosen}
use Rattle.linear_search.specs.Walks.Laws.{choose-only, choose-kept, choose-full}
use Rattle.linear_search.proofs.linear.choose.Goals as goal

pub record_complete-recorded-requires : goal.record_complete-recorded-requires
record_complete-recorded-requires c = let p = c.requires in (p.fits, p.room, p.slot, p.few)

pub returns-in_default : goal.returns-in_default
returns-in_default c =
    let record-complete = c.record_complete-recorded in
    let a = c.args in
    subst
    (λ (b : Bool). Chosen a.state a.link b a.res.now a.item.now (Err Linear.NoResultSlot) record-complete.new.res)
    (sym c.if-complete.true)
    (choose-full a.state a.link a.res.now a.item.now record-complete.ensures.value record-complete.ensures.res_after
    c.in_default.is)

pub returns-then-complete : goal.returns-then-complete
returns-then-complete c =
    let record-complete = c.record_complete-recorded in
    let if1 = c.if-complete in
    let a = c.args in
    subst (λ (b : Bool).
    Chosen a.state a.link b a.res.now a.item.now (Ok (record { state = c.in-Some.next; found = a.link }))
    record-complete.new.res) (sym if1.true) (choose-kept a.state a.link a.res.now a.item.now record-complete.ensures.value
    record-complete.ensures.res_after c.in-Some.next c.in-Some.is)

pub returns : goal.returns
returns c =
    let a = c.args in
    subst (λ (b : Bool).
    Chosen a.state a.link b a.res.now a.item.now (Ok (record { state = a.state; found = a.link })) a.res.now)
    (sym c.if-complete.false) (choose-only a.state a.link a.res.now a.item.now)
