use Rattle.std.specs.Prelude.{Ok}
use Rattle.search_state.specs.declared.search.Search as S
use Rattle.search_state.specs.declared.search.Round.{Round}
use native.Mathlib.Omega.{arith}
use mathlib.Core.Path.{sym, ap, ◌∙◌}
use Rattle.search_state.specs.Searches.{taken_of}
use Rattle.search_state.specs.Searches.Laws.{take-many, take-expand, take-over}
use Rattle.search_state.proofs.search.Search.take.Goals as goal

pub pop-requires : goal.pop-requires
pop-requires c = let p = c.requires in (p.framed, p.short, p.slot, p.clear)

pub returns-in_default : goal.returns-in_default
returns-in_default c =
    let pop = c.pop in
    let a = c.args in
    record { popped = pop.result; pops = pop.ensures; is = ap (λ (r : Round S.Search). Ok r) c.over.ensures ∙ sym (ap (taken_of a.self) c.in_default.is) }

pub returns-then-budget-ge-MAX_EXPANSIONS : goal.returns-then-budget-ge-MAX_EXPANSIONS
returns-then-budget-ge-MAX_EXPANSIONS c =
    let pop = c.pop in
    let a = c.args in
    record {
      popped = pop.result;
      pops = pop.ensures;
      is = take-many a.self c.in-Some.frontier c.in-Some.is c.admitted_expansion-asked.ensures
          c.with_budget-state.ensures c.if-asked.true (omega (arith, c.if-budget-ge-MAX_EXPANSIONS.true));
    }

pub returns-then-asked : goal.returns-then-asked
returns-then-asked c =
    let pop = c.pop in
    let a = c.args in
    record {
      popped = pop.result;
      pops = pop.ensures;
      is = take-expand a.self c.in-Some.frontier c.in-Some.is c.admitted_expansion-asked.ensures
          c.with_budget-state.ensures c.if-asked.true (omega (arith, c.if-budget-ge-MAX_EXPANSIONS.false));
    }

pub returns : goal.returns
returns c =
    let pop = c.pop in
    let a = c.args in
    record {
      popped = pop.result;
      pops = pop.ensures;
      is = take-over a.self c.in-Some.frontier c.in-Some.is c.admitted_expansion-asked.ensures
          c.with_budget-state.ensures c.if-asked.false c.over-2.ensures;
    }
