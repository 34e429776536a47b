-- `direct_search::direct::expand`: from one edge that lengthens the path to the next.
use Prim.Native.Nat.{ℕ, ◌<◌}
use native.Mathlib.Omega.{arith}
use Rattle.std.specs.Prelude.{Err}
use borrow.Author.Rules.{rules}
use mathlib.Core.Path.{◌≡◌, refl, sym, ap, subst, ◌∙◌}
use Rattle.semantics.specs.Limits.{looked_before}
use Rattle.storage.specs.Index.Use.{left}
use Rattle.semantics.specs.declared.replayed.Step.{Step}
use Rattle.search_state.specs.Searches.{Going}
use Rattle.direct_search.specs.Expansions.Laws.{given-short}
use Rattle.direct_search.specs.Expansions.Edges.{Mid, mid_start, mid-end}
use Rattle.direct_search.specs.Passes.{Turned}
use Rattle.direct_search.specs.Passes.Laws.{passing-of, turning-of, turn-less}
use Rattle.path_budget.specs.declared.budget.Budget.{Budget}
use Rattle.search_state.specs.Progresses.{at, course_at}
use Rattle.direct_search.proofs.direct.expand.Goals as goal

pub get_step-requires : goal.get_step-requires
get_step-requires c =
    let a = c.args in
    let p = c.requires in
    let h = given-short looked_before a.index.now a.steps.now a.item.now a.k (at a.frame a.progress) a.work.now
    a.res.now p in
    omega (arith, h, p.long)

pub first-link-requires : goal.first-link-requires
first-link-requires c = c.requires.loaded.long

pub loop-link-init : goal.loop-link-init
loop-link-init c =
    let a = c.args in (
      refl,
      refl,
      refl,
      ap (λ (b : Budget). b.max_length) c.budget-budget.ensures,
      λ v.
          mid_start looked_before a.index.now a.steps.now a.item.now a.k (at a.frame a.progress) a.work.now a.res.now v
          (ap (λ (s : Step). s.end) c.get_step.ensures) c.first-link.ensures,
    )

pub overflow_add-k : goal.overflow_add-k
overflow_add-k c =
    let a = c.args in
    let p = c.requires in
    let h = given-short looked_before a.index.now a.steps.now a.item.now a.k (at a.frame a.progress) a.work.now
    a.res.now p in
    omega (arith, h)

pub slice_bounds-pass_over-end : goal.slice_bounds-pass_over-end
slice_bounds-pass_over-end c =
    let l = c.loop-link in
    let a = c.args in
    let p = c.requires in
    let h = given-short looked_before a.index.now a.steps.now a.item.now a.k (at a.frame a.progress) a.work.now
    a.res.now p in
    omega (arith, h, (l.invariant.4 p).carried.long)

pub pass_over-pass-requires : goal.pass_over-pass-requires
pass_over-pass-requires c =
    let l = c.loop-link in
    let p = c.requires in
    passing-of (omega arith) (l.invariant.4 p) c.budget-budget.result l.invariant.3

pub onward-requires : goal.onward-requires
onward-requires c =
    let l = c.loop-link in
    let budget = c.budget-budget in
    let p = c.requires in
    turning-of (omega arith) (l.invariant.4 p) l.invariant.3
    (c.pass_over-pass.ensures (passing-of (omega arith) (l.invariant.4 p) budget.result l.invariant.3))

pub returns-in_err-on : goal.returns-in_err-on
returns-in_err-on c =
    let onward = c.onward in
    let pass-over = c.pass_over-pass in
    let l = c.loop-link in
    let budget = c.budget-budget in
    let a = c.args in
    let y = c.in_err-on.field-0.0 in
    let frame_is = ap (course_at a.frame) c.in_err-on.was in
    let e : c.from_residual.result ≡ Err y = search rules in
    record {
      expanded = λ v.
          let turning-of' = turning-of (omega arith) (l.invariant.4 v) l.invariant.3
          (pass-over.ensures (passing-of (omega arith) (l.invariant.4 v) budget.result l.invariant.3)) in
          rw e (subst (λ (g : Going).
          Turned pass-over.result l.item a.k (at a.frame l.on) l.work l.res turning-of' g onward.new.item
          onward.new.work onward.new.res) frame_is (onward.ensures turning-of'));
      clears = λ v. rw e tt;
    }

pub beyond-link-requires : goal.beyond-link-requires
beyond-link-requires c = c.requires.loaded.long

pub loop-link-smaller : goal.loop-link-smaller
loop-link-smaller c =
    let pass-over = c.pass_over-pass in
    let loop-test = c.loop-link-test in
    let l = c.loop-link in
    let budget = c.budget-budget in
    let a = c.args in
    let p = c.requires in
    subst (λ (n : ℕ). left a.index.now n < left a.index.now l.link) (sym c.beyond-link.ensures)
    (turn-less (omega arith) (l.invariant.4 p) l.invariant.3 (pass-over.ensures (passing-of (omega arith) (l.invariant.4 p) budget.result l.invariant.3))
    loop-test.true)

pub loop-link-preserved : goal.loop-link-preserved
loop-link-preserved c =
    let onward = c.onward in
    let pass-over = c.pass_over-pass in
    let l = c.loop-link in
    let budget = c.budget-budget in
    let a = c.args in (
      onward.auto.item ∙ l.invariant.0,
      onward.auto.work ∙ l.invariant.1,
      onward.auto.res ∙ l.invariant.2,
      l.invariant.3,
      λ v.
          let turning-of' = turning-of (omega arith) (l.invariant.4 v) l.invariant.3
          (pass-over.ensures (passing-of (omega arith) (l.invariant.4 v) budget.result l.invariant.3)) in
          subst (λ (n : ℕ).
          Mid looked_before a.index.now a.steps.now a.item.now a.k (at a.frame a.progress) a.work.now a.res.now v
          (at a.frame c.in_ok-on.on) onward.new.item onward.new.work onward.new.res n)
          (sym c.beyond-link.ensures) (subst (λ (g : Going).
          Turned pass-over.result l.item a.k (at a.frame l.on) l.work l.res turning-of' g onward.new.item
          onward.new.work onward.new.res) (ap (course_at a.frame) c.in_ok-on.was)
          (onward.ensures turning-of')),
    )

pub returns : goal.returns
returns c =
    let l = c.loop-link in
    let a = c.args in record {
      expanded = λ v.
          mid-end looked_before a.index.now a.steps.now a.item.now a.k (at a.frame a.progress) a.work.now a.res.now v
          (l.invariant.4 v) (omega (arith, c.loop-link-test.false));
      clears = λ v. (l.invariant.4 v).clear;
    }
