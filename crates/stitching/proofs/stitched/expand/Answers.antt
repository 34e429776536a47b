use Prim.Native.Nat.{ℕ, ◌<◌}
use native.Mathlib.Omega.{arith}
use mathlib.Core.Path.{◌≡◌, refl, sym, ap, subst, ◌∙◌}
use Rattle.semantics.specs.Limits.{looked_before, looked_ever}
use Rattle.semantics.specs.declared.replayed.Step.{Step}
use Rattle.stitching_trial.specs.Links.Laws.{left}
use borrow.Author.Rules.{rules}
use Rattle.std.specs.Prelude.{Err}
use Rattle.search_state.specs.Searches.{Going}
use Rattle.stitching.specs.Expansions.{Expanded}
use Rattle.stitching.specs.Expansions.Laws.{given-short}
use Rattle.stitching.specs.Expansions.Partials.{mid_start, mid-given, mid-tryable, mid-less, mid-again, mid-refused, mid-end}
use Rattle.stitching.proofs.stitched.expand.Goals as goal

pub get_step-requires : goal.get_step-requires
get_step-requires c =
    let a = c.args in
    let p = c.requires in
    let h = given-short looked_before a.index.now a.steps.now a.item.now a.k a.search a.work.now a.res.now p.1 in
    omega (arith, h, p.1.long)

pub first-link-requires : goal.first-link-requires
first-link-requires c = let p = c.requires in p.0.linked.long

pub loop-link-init : goal.loop-link-init
loop-link-init c =
    let a = c.args in (
      refl,
      refl,
      refl,
      refl,
      λ see d v.
          mid_start d looked_before a.index.now a.steps.now a.item.now a.k a.search a.work.now a.res.now v
          (ap (λ (s : Step). s.end) c.get_step.ensures) c.first-link.ensures,
    )

pub overflow_cast-i : goal.overflow_cast-i
overflow_cast-i c =
    let l = c.loop-link in
    let a = c.args in
    let p = c.requires in
    let h = (mid-tryable p.0.linked looked_before a.index.now a.steps.now a.item.now a.k a.search a.work.now a.res.now p.1
    l.invariant.0 l.invariant.1 (l.invariant.4 p.0.see p.0.linked p.1) (omega (arith, c.loop-link-test.true))).known in
    omega (arith, h)

pub try_partial-requires : goal.try_partial-requires
try_partial-requires c =
    let l = c.loop-link in
    let a = c.args in
    let p = c.requires in (
      mid-tryable p.0.linked looked_before a.index.now a.steps.now a.item.now a.k a.search a.work.now a.res.now p.1
          l.invariant.0 l.invariant.1 (l.invariant.4 p.0.see p.0.linked p.1) (omega (arith, c.loop-link-test.true)),
      mid-given p.0.linked looked_before a.index.now a.steps.now a.item.now a.k a.search a.work.now a.res.now p.1
          l.invariant.0 l.invariant.1 (l.invariant.4 p.0.see p.0.linked p.1) looked_ever (omega arith),
    )

pub returns-in_err-on : goal.returns-in_err-on
returns-in_err-on c =
    let try-partial = c.try_partial in
    let loop-test = c.loop-link-test in
    let l = c.loop-link in
    let a = c.args in
    let y = c.in_err-on.field-0.0 in
    let e : c.from_residual.result ≡ Err y = search rules in
    record {
      by_index = λ see d v.
          rw e
          (subst (λ (r : Going). Expanded a.words.now looked_before a.index.now a.steps.now a.item.now a.k a.search a.work.now a.res.now v see r try-partial.new.steps try-partial.new.work try-partial.new.res) c.in_err-on.was
          (mid-refused d looked_before a.index.now a.steps.now a.item.now a.k a.search a.work.now a.res.now v l.invariant.0
          l.invariant.1 (l.invariant.4 see d v) (omega (arith, loop-test.true)) (omega arith)
          (try-partial.ensures (mid-given d looked_before a.index.now a.steps.now a.item.now a.k a.search a.work.now
          a.res.now v l.invariant.0 l.invariant.1 (l.invariant.4 see d v) looked_ever (omega arith))) y c.in_err-on.was));
      clears = λ v. rw e tt;
    }

pub next-link-requires : goal.next-link-requires
next-link-requires c =
    let loop-test = c.loop-link-test in
    let l = c.loop-link in
    let a = c.args in
    let p = c.requires in (
      p.0.linked.long,
      (mid-tryable p.0.linked looked_before a.index.now a.steps.now a.item.now a.k a.search a.work.now a.res.now p.1
          l.invariant.0 l.invariant.1 (l.invariant.4 p.0.see p.0.linked p.1) (omega (arith, loop-test.true))).known,
    )

pub loop-link-smaller : goal.loop-link-smaller
loop-link-smaller c =
    let loop-test = c.loop-link-test in
    let l = c.loop-link in
    let a = c.args in
    let p = c.requires in
    subst (λ (n : ℕ). left a.links.now n < left a.links.now l.link) (sym c.next-link.ensures)
    (mid-less p.0.linked looked_before a.index.now a.steps.now a.item.now a.k a.search a.work.now a.res.now p.1 l.invariant.0
    l.invariant.1 (l.invariant.4 p.0.see p.0.linked p.1) (omega (arith, loop-test.true)))

pub loop-link-preserved : goal.loop-link-preserved
loop-link-preserved c =
    let try-partial = c.try_partial in
    let loop-test = c.loop-link-test in
    let l = c.loop-link in
    let a = c.args in (
      try-partial.auto.steps ∙ l.invariant.0,
      try-partial.auto.item ∙ l.invariant.1,
      try-partial.auto.work ∙ l.invariant.2,
      try-partial.auto.res ∙ l.invariant.3,
      λ see d v.
          mid-again d looked_before a.index.now a.steps.now a.item.now a.k a.search a.work.now a.res.now v l.invariant.0
          l.invariant.1 (l.invariant.4 see d v) (omega (arith, loop-test.true)) (omega arith)
          (try-partial.ensures (mid-given d looked_before a.index.now a.steps.now a.item.now a.k a.search a.work.now
          a.res.now v l.invariant.0 l.invariant.1 (l.invariant.4 see d v) looked_ever (omega arith))) c.in_ok-on.on
          c.in_ok-on.was c.next-link.ensures,
    )

pub returns : goal.returns
returns c =
    let l = c.loop-link in
    let a = c.args in
    let p = c.requires in record {
      by_index = λ see d v.
          mid-end d looked_before a.index.now a.steps.now a.item.now a.k a.search a.work.now a.res.now v l.invariant.0
          l.invariant.1 (l.invariant.4 see d v) (omega (arith, c.loop-link-test.false));
      clears = λ v. (l.invariant.4 p.0.see p.0.linked v).clear;
    }
