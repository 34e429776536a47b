use native.Mathlib.Omega.{arith}
use mathlib.Core.Path.{refl, ◌∙◌}
use Rattle.stitching_trial.specs.Trials.Laws.{mid_start, mid-ready, mid-room, mid-refused, mid-again, mid-end}
use Rattle.stitching_trial.proofs.trial.append_all.Goals as goal

pub loop-i-init : goal.loop-i-init
loop-i-init c = (refl, λ t. mid_start t)

pub overflow_add-k : goal.overflow_add-k
overflow_add-k c = let p = c.requires in omega (arith, c.loop-i-test.true, p.few)

pub overflow_cast-k : goal.overflow_cast-k
overflow_cast-k c = let p = c.requires in omega (arith, c.loop-i-test.true, p.few)

pub append-effect-requires : goal.append-effect-requires
append-effect-requires c =
    let l = c.loop-i in
    let p = c.requires in (
      p.loaded.long,
      mid-ready p l.invariant.0 (l.invariant.1 p) c.loop-i-test.true,
      mid-room p l.invariant.0 (l.invariant.1 p) c.loop-i-test.true,
    )

pub returns-in_default : goal.returns-in_default
returns-in_default c =
    let append = c.append-effect in
    let loop-test = c.loop-i-test in
    let l = c.loop-i in
    λ t.
    mid-refused t l.invariant.0 (l.invariant.1 t) loop-test.true append.ensures.value c.in_default.field-0 c.in_default.is
    append.ensures.steps_after

pub loop-i-preserved : goal.loop-i-preserved
loop-i-preserved c =
    let append = c.append-effect in
    let loop-test = c.loop-i-test in
    let l = c.loop-i in (
      append.auto.steps ∙ l.invariant.0,
      λ t.
          mid-again t l.invariant.0 (l.invariant.1 t) loop-test.true append.ensures.value c.in-Ok.field-0 c.in-Ok.is
          append.ensures.steps_after,
    )

pub overflow_add-k-2 : goal.overflow_add-k-2
overflow_add-k-2 c = let p = c.requires in omega (arith, p.few)

pub get_step-requires : goal.get_step-requires
get_step-requires c = let p = c.requires in let l = c.loop-i in omega (arith, p.few, p.long, l.invariant.0)

pub returns : goal.returns
returns c =
    let l = c.loop-i in
    λ t. mid-end t l.invariant.0 (l.invariant.1 t) (omega arith) (omega (arith, c.loop-i-test.false)) c.get_step.ensures
