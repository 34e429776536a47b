use Rattle.std.specs.Prelude.{Option, Ok, Err, ◌≡◌}
use borrow.Author.Rules.{rules}
use Rattle.linear_search.specs.declared.linear.Expansion.{Expansion}
use Prim.Native.Nat.{ℕ, ◌<◌}
use native.Mathlib.Omega.{arith}
use mathlib.Core.Path.{refl, sym, ap, subst, ◌∙◌}
use borrow.Author.Tests.{not-true, not-false}
use Rattle.semantics.specs.Limits.{looked_ever}
use Rattle.semantics.specs.declared.refusal.LinearRefusal.TheVariants as Linear
use Rattle.semantics.specs.Graph.{node_id}
use Rattle.storage.specs.Index.Use.{left}
use Rattle.semantics.specs.declared.replayed.Step.{Step}
use Rattle.linear_search.specs.Walks.{Pace, Paced}
use Rattle.linear_search.specs.Walks.Edges.{mid_start, mid-walk, mid-less, mid-second, mid-refused, mid-again}
use Rattle.linear_search.specs.Walks.Rounds.{turn-start, turn-short, turn-fits, turn-over, turn-opening, turn-refused, turn-none, turn-room, turn-ready, turn-accepted, turn-again}
use Rattle.linear_search.proofs.linear.walk.Goals as goal

pub expansions-init : goal.expansions-init
expansions-init c = (refl, refl, refl, λ v. turn-start v)

pub admitted_expansion-asked-requires : goal.admitted_expansion-asked-requires
admitted_expansion-asked-requires c =
    let e = c.expansions in
    let p = c.requires in
    let h = turn-short p e.invariant.0 (e.invariant.3 p) in
    let x = e.invariant.3 p in
    omega (arith, h, x.expanded)

pub returns-then-not-asked : goal.returns-then-not-asked
returns-then-not-asked c =
    let admitted-expansion = c.admitted_expansion-asked in
    let e = c.expansions in
    λ v.
    turn-over v e.invariant.0 (e.invariant.3 v) admitted-expansion.ensures c.with_budget-state.ensures
    (not-true admitted-expansion.result.allowed c.if-not-asked.true)

pub get_step-end-requires : goal.get_step-end-requires
get_step-end-requires c =
    let e = c.expansions in
    let p = c.requires in
    turn-fits p e.invariant.0 (e.invariant.3 p)

pub first-link-requires : goal.first-link-requires
first-link-requires c = let p = c.requires in p.loaded.long

pub loop-link-init : goal.loop-link-init
loop-link-init c =
    (refl, refl, λ w. mid_start w c.first-link.ensures)

pub try_edge-requires : goal.try_edge-requires
try_edge-requires c =
    let l = c.loop-link in
    let get-step = c.get_step-end in
    let if1 = c.if-not-asked in
    let with-budget = c.with_budget-state in
    let admitted-expansion = c.admitted_expansion-asked in
    let e = c.expansions in
    let p = c.requires in
    let opening = turn-opening p e.invariant.0 (e.invariant.3 p) admitted-expansion.ensures with-budget.ensures
    (not-false admitted-expansion.result.allowed if1.false) (ap (λ (s : Step). s.end) get-step.ensures) in
    (mid-walk opening (l.invariant.2 opening) (omega (arith, c.loop-link-test.true)))

pub returns-in_err-next : goal.returns-in_err-next
returns-in_err-next c =
    let y = c.in_err-next.field-0.0 in
    let from_e : c.from_residual.result ≡ Err y = search rules in
    let try-edge = c.try_edge in
    let loop-test = c.loop-link-test in
    let l = c.loop-link in
    let get-step = c.get_step-end in
    let end_is = ap (λ (s : Step). s.end) get-step.ensures in
    let if1 = c.if-not-asked in
    let with-budget = c.with_budget-state in
    let admitted-expansion = c.admitted_expansion-asked in
    let allowed-told = not-false admitted-expansion.result.allowed if1.false in
    let e = c.expansions in
    let a = c.args in
    λ v.
    let opening = turn-opening v e.invariant.0 (e.invariant.3 v) admitted-expansion.ensures with-budget.ensures allowed-told end_is in
    let inv = l.invariant.2 opening in
    let walk = mid-walk opening inv (omega (arith, loop-test.true)) in
    rw from_e (turn-refused v e.invariant.0 (e.invariant.3 v) admitted-expansion.ensures with-budget.ensures allowed-told end_is y
    (mid-refused opening inv (omega (arith, loop-test.true)) try-edge.new.item try-edge.new.res
    y (subst (λ (q : Pace).
    Paced looked_ever a.index.now e.steps l.item e.k l.link l.on l.res walk q try-edge.new.item
    try-edge.new.res) c.in_err-next.was (try-edge.ensures walk))) try-edge.new.res)

pub next-link-requires : goal.next-link-requires
next-link-requires c =
    let p = c.requires in
    p.loaded.long

pub loop-link-smaller : goal.loop-link-smaller
loop-link-smaller c =
    let loop-test = c.loop-link-test in
    let l = c.loop-link in
    let get-step = c.get_step-end in
    let if1 = c.if-not-asked in
    let with-budget = c.with_budget-state in
    let admitted-expansion = c.admitted_expansion-asked in
    let e = c.expansions in
    let a = c.args in
    let p = c.requires in
    let opening = turn-opening p e.invariant.0 (e.invariant.3 p) admitted-expansion.ensures with-budget.ensures
    (not-false admitted-expansion.result.allowed if1.false) (ap (λ (s : Step). s.end) get-step.ensures) in
    subst (λ (n : ℕ). left a.index.now n < left a.index.now l.link) (sym c.next-link.ensures)
    (mid-less opening (l.invariant.2 opening) (omega (arith, loop-test.true)))

pub loop-link-preserved : goal.loop-link-preserved
loop-link-preserved c =
    let try-edge = c.try_edge in
    let loop-test = c.loop-link-test in
    let l = c.loop-link in
    let e = c.expansions in
    let a = c.args in (
      try-edge.auto.item ∙ l.invariant.0,
      try-edge.auto.res ∙ l.invariant.1,
      λ w.
          let walk = mid-walk w (l.invariant.2 w) (omega (arith, loop-test.true)) in
          mid-again w (l.invariant.2 w) (omega (arith, loop-test.true)) try-edge.new.item try-edge.new.res
          c.in-Some.next (subst (λ (q : Pace).
          Paced looked_ever a.index.now e.steps l.item e.k l.link l.on l.res walk q try-edge.new.item
          try-edge.new.res) (c.in_ok-next.was ∙ ap (λ (o : Option Expansion). Ok o) c.in-Some.is) (try-edge.ensures walk)) c.next-link.ensures,
    )

pub returns-then-on-lt1 : goal.returns-then-on-lt1
returns-then-on-lt1 c =
    let l = c.loop-link in
    let get-step = c.get_step-end in
    let end_is = ap (λ (s : Step). s.end) get-step.ensures in
    let if1 = c.if-not-asked in
    let with-budget = c.with_budget-state in
    let admitted-expansion = c.admitted_expansion-asked in
    let allowed-told = not-false admitted-expansion.result.allowed if1.false in
    let e = c.expansions in
    λ v.
    turn-none v e.invariant.0 (e.invariant.3 v) admitted-expansion.ensures with-budget.ensures allowed-told end_is
    (l.invariant.2 (turn-opening v e.invariant.0 (e.invariant.3 v) admitted-expansion.ensures with-budget.ensures allowed-told end_is))
    (omega (arith, c.loop-link-test.false)) (omega (arith, c.if-on-lt1.true))

pub overflow_cast-k : goal.overflow_cast-k
overflow_cast-k c =
    let e = c.expansions in
    let p = c.requires in
    let h = turn-short p e.invariant.0 (e.invariant.3 p) in
    omega (arith, h)

pub advance-requires : goal.advance-requires
advance-requires c =
    let if2 = c.if-on-lt1 in
    let loop-test = c.loop-link-test in
    let l = c.loop-link in
    let get-step = c.get_step-end in
    let end_is = ap (λ (s : Step). s.end) get-step.ensures in
    let if1 = c.if-not-asked in
    let with-budget = c.with_budget-state in
    let admitted-expansion = c.admitted_expansion-asked in
    let allowed-told = not-false admitted-expansion.result.allowed if1.false in
    let e = c.expansions in
    let p = c.requires in
    let inv = l.invariant.2 (turn-opening p e.invariant.0 (e.invariant.3 p) admitted-expansion.ensures with-budget.ensures allowed-told end_is) in (
      p.loaded.long,
      turn-ready p e.invariant.0 (e.invariant.3 p) admitted-expansion.ensures with-budget.ensures allowed-told end_is inv
          (omega (arith, loop-test.false)) (omega (arith, if2.false)),
      turn-room p e.invariant.0 (e.invariant.3 p) admitted-expansion.ensures with-budget.ensures allowed-told end_is inv
          (omega (arith, loop-test.false)) (omega (arith, if2.false)),
      turn-accepted p e.invariant.0 (e.invariant.3 p) admitted-expansion.ensures with-budget.ensures allowed-told end_is inv
          (omega (arith, loop-test.false)) (omega (arith, if2.false)),
    )

pub overflow_add-k : goal.overflow_add-k
overflow_add-k c =
    let e = c.expansions in
    let p = c.requires in
    let h = turn-short p e.invariant.0 (e.invariant.3 p) in
    omega (arith, h)

pub expansions-smaller : goal.expansions-smaller
expansions-smaller c =
    let e = c.expansions in
    let p = c.requires in
    let h = turn-short p e.invariant.0 (e.invariant.3 p) in
    omega (arith, h)

pub expansions-preserved : goal.expansions-preserved
expansions-preserved c =
    let if2 = c.if-on-lt1 in
    let loop-test = c.loop-link-test in
    let l = c.loop-link in
    let get-step = c.get_step-end in
    let end_is = ap (λ (s : Step). s.end) get-step.ensures in
    let if1 = c.if-not-asked in
    let with-budget = c.with_budget-state in
    let admitted-expansion = c.admitted_expansion-asked in
    let allowed-told = not-false admitted-expansion.result.allowed if1.false in
    let e = c.expansions in (
      c.advance.auto.steps ∙ e.invariant.0,
      l.invariant.0 ∙ e.invariant.1,
      l.invariant.1 ∙ e.invariant.2,
      λ v.
          let inv = l.invariant.2 (turn-opening v e.invariant.0 (e.invariant.3 v) admitted-expansion.ensures with-budget.ensures allowed-told end_is) in
          let t = turn-accepted v e.invariant.0 (e.invariant.3 v) admitted-expansion.ensures with-budget.ensures allowed-told end_is inv
          (omega (arith, loop-test.false)) (omega (arith, if2.false)) in
          turn-again v e.invariant.0 (e.invariant.3 v) admitted-expansion.ensures with-budget.ensures allowed-told end_is inv
          (omega (arith, loop-test.false)) (omega (arith, if2.false)) t (c.advance.ensures t),
    )

pub returns : goal.returns
returns c =
    let try-edge = c.try_edge in
    let loop-test = c.loop-link-test in
    let l = c.loop-link in
    let get-step = c.get_step-end in
    let end_is = ap (λ (s : Step). s.end) get-step.ensures in
    let if1 = c.if-not-asked in
    let with-budget = c.with_budget-state in
    let admitted-expansion = c.admitted_expansion-asked in
    let allowed-told = not-false admitted-expansion.result.allowed if1.false in
    let e = c.expansions in
    let a = c.args in
    λ v.
    let opening = turn-opening v e.invariant.0 (e.invariant.3 v) admitted-expansion.ensures with-budget.ensures allowed-told end_is in
    let inv = l.invariant.2 opening in
    let walk = mid-walk opening inv (omega (arith, loop-test.true)) in
    turn-refused v e.invariant.0 (e.invariant.3 v) admitted-expansion.ensures with-budget.ensures allowed-told end_is
    (Linear.MultipleEdges (node_id get-step.result.end)) (mid-second opening inv (omega (arith, loop-test.true)) try-edge.new.item
    try-edge.new.res (subst (λ (q : Pace).
    Paced looked_ever a.index.now e.steps l.item e.k l.link l.on l.res walk q try-edge.new.item
    try-edge.new.res) (c.in_ok-next.was ∙ ap (λ (o : Option Expansion). Ok o) c.in_default.is) (try-edge.ensures walk))) try-edge.new.res
