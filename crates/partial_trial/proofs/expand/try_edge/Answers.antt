use Rattle.partial_state.specs.Extractions.{at, going_at}
use native.Mathlib.Omega.{arith}
use Prim.Native.Nat.{◌+◌}
use mathlib.Core.Path.{ap}
use Rattle.partial_state.specs.Extractions.Laws.{length-asked, length-left}
use Rattle.partial_trial.specs.Expansions.Laws.{given-cycles, given-short, given-slice, tried-cut, tried-overlong, tried-bound, tried-longer}
use Rattle.partial_trial.proofs.expand.try_edge.Goals as goal

pub overflow_add-k : goal.overflow_add-k
overflow_add-k c = let p = c.requires in let h = given-short p.looking.given in omega (arith, h)

pub slice_bounds-contains-end : goal.slice_bounds-contains-end
slice_bounds-contains-end c = let p = c.requires in given-slice p.looking.given

pub cut-requires : goal.cut-requires
cut-requires c = let p = c.requires in let h = given-cycles p.looking.given in omega (arith, h)

pub returns-then-contains : goal.returns-then-contains
returns-then-contains c = let a = c.args in λ v. tried-cut v c.contains.ensures c.if-contains.true (ap (at a.frame) c.cut.ensures)

pub overflow_add-k-2 : goal.overflow_add-k-2
overflow_add-k-2 c = let p = c.requires in let h = given-short p.looking.given in omega (arith, h)

pub lengthen-requires : goal.lengthen-requires
lengthen-requires c =
    let p = c.requires in
    (p, omega (arith, c.if-k-lt-MAX_EDGES.true))

pub returns-then-k-lt-MAX_EDGES : goal.returns-then-k-lt-MAX_EDGES
returns-then-k-lt-MAX_EDGES c =
    let lengthen = c.lengthen in
    let if3 = c.if-k-lt-MAX_EDGES in
    let if2 = c.if-asked in
    let admitted-length = c.admitted_length-asked in
    let budget = c.budget in
    let if1 = c.if-contains in
    let contains = c.contains in
    let a = c.args in
    λ v.
    tried-longer v contains.ensures if1.false (length-asked a.frame a.extraction (a.k + 1) budget.ensures admitted-length.ensures)
    if2.true (omega (arith, if3.true)) (going_at a.frame lengthen.result) lengthen.new.item
    lengthen.new.work lengthen.new.words (lengthen.ensures v)

pub returns-then-asked : goal.returns-then-asked
returns-then-asked c =
    let a = c.args in
    λ v.
    tried-bound v c.contains.ensures c.if-contains.false
    (length-asked a.frame a.extraction (a.k + 1) c.budget.ensures c.admitted_length-asked.ensures)
    c.if-asked.true (omega (arith, c.if-k-lt-MAX_EDGES.false))

pub returns : goal.returns
returns c =
    let admitted-length = c.admitted_length-asked.ensures in
    let a = c.args in
    λ v.
    tried-overlong v c.contains.ensures c.if-contains.false
    (length-asked a.frame a.extraction (a.k + 1) c.budget.ensures admitted-length) c.if-asked.false
    (length-left a.frame a.extraction (a.k + 1) c.budget.ensures admitted-length c.with_budget.ensures)
