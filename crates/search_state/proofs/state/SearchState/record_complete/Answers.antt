use native.Mathlib.Omega.{arith}
use Rattle.search_state.specs.States.Laws.{record-kept, record-full, record-not}
use Rattle.search_state.proofs.state.SearchState.record_complete.Goals as goal

pub returns-then-kept-self : goal.returns-then-kept-self
returns-then-kept-self c =
    let with-budget = c.with_budget-next in
    let admitted-complete = c.admitted_complete-asked in
    let a = c.args in
    let whole = record-kept a.self admitted-complete.ensures with-budget.ensures a.item.now a.res.now
    c.if-asked.true (omega (arith, c.if-kept-self.true))
    c.write_slot.ensures in
    record { value = whole.0; res_after = whole.1 }

pub returns-then-asked : goal.returns-then-asked
returns-then-asked c =
    let a = c.args in
    let whole = record-full a.self c.admitted_complete-asked.ensures c.with_budget-next.ensures
    a.item.now a.res.now c.if-asked.true (omega (arith, c.if-kept-self.false)) in
    record { value = whole.0; res_after = whole.1 }

pub returns : goal.returns
returns c = let a = c.args in
    let whole = record-not a.self c.admitted_complete-asked.ensures c.with_budget-next.ensures a.item.now a.res.now c.if-asked.false in
    record { value = whole.0; res_after = whole.1 }
