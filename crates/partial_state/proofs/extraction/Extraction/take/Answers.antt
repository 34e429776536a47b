use native.Mathlib.Omega.{arith}
use Rattle.partial_state.specs.Extractions.Laws.{frontier-given, take-empty, take-many, take-expand, take-over}
use Rattle.partial_state.specs.Extractions.Laws.{expansion-given}
use Rattle.partial_state.proofs.extraction.Extraction.take.Goals as goal

pub pop-popped-requires : goal.pop-popped-requires
pop-popped-requires c = let a = c.args in let p = c.requires in frontier-given a.frame a.self c.frontier.ensures a.work.now a.item.now (p.0, p.1)

pub returns-in_default : goal.returns-in_default
returns-in_default c =
    let frontier = c.frontier in
    let a = c.args in
    take-empty a.frame a.self frontier.ensures c.pop-popped.ensures c.in_default.is

pub admitted_expansion-asked-requires : goal.admitted_expansion-asked-requires
admitted_expansion-asked-requires c =
    let a = c.args in
    let p = c.requires in
    expansion-given a.frame a.self c.budget.ensures p.2

pub returns-then-self-ge-MAX_EXPANSIONS : goal.returns-then-self-ge-MAX_EXPANSIONS
returns-then-self-ge-MAX_EXPANSIONS c =
    let pop = c.pop-popped in
    let frontier = c.frontier in
    let a = c.args in
    take-many a.frame a.self frontier.ensures pop.ensures c.in-Some.next c.in-Some.is
    c.budget.ensures c.admitted_expansion-asked.ensures
    c.with_budget-after.ensures c.if-asked.true (omega (arith, c.if-self-ge-MAX_EXPANSIONS.true))

pub returns-then-asked : goal.returns-then-asked
returns-then-asked c =
    let admitted-expansion = c.admitted_expansion-asked in
    let pop = c.pop-popped in
    let frontier = c.frontier in
    let a = c.args in
    take-expand a.frame a.self frontier.ensures pop.ensures c.in-Some.next c.in-Some.is
    c.budget.ensures admitted-expansion.ensures
    c.with_budget-after.ensures c.if-asked.true (omega (arith, c.if-self-ge-MAX_EXPANSIONS.false))
    c.with_frontier.ensures

pub returns : goal.returns
returns c =
    let pop = c.pop-popped in
    let frontier = c.frontier in
    let a = c.args in
    take-over a.frame a.self frontier.ensures pop.ensures c.in-Some.next c.in-Some.is
    c.budget.ensures c.admitted_expansion-asked.ensures c.with_budget-after.ensures c.if-asked.false
