-- `search_state::retrace::retrace`: from the edges that stand there already, step by step.
use Prim.Native.Nat.{◌+◌, ◌*◌, ◌≤◌}
use native.Mathlib.Omega.{arith}
use mathlib.Core.Path.{refl, ◌∙◌}
use lib.ListN.{length}
use Rattle.semantics.specs.Limits.{step_length}
use Rattle.search_state.specs.Retraces.Laws.{way_of, mid_start, mid-end, mid-edge, mid-node, mid-behind, mid-again, mid-last}
use Rattle.search_state.proofs.retrace.retrace.Goals as goal

pub shared-first-requires : goal.shared-first-requires
shared-first-requires c = let p = c.requires in (p.few, p.room)

pub get_step-last-requires : goal.get_step-last-requires
get_step-last-requires c = omega (arith, c.shared-first.ensures.inside, c.requires.room)

pub loop-i-init : goal.loop-i-init
loop-i-init c = (c.shared-first.ensures.inside, refl, c.get_step-last.ensures, λ t. mid_start t c.shared-first.ensures)

pub remake-last-requires : goal.remake-last-requires
remake-last-requires c =
    let a = c.args in
    let p = c.requires in
    let l = c.loop-i in
    let h = c.loop-i-test.true in
    let w = way_of p in
    let m = l.invariant.3 p in
    let room : step_length * length a.edges.now + step_length ≤ length l.steps = omega (arith, p.room, l.invariant.1) in (
      p.loaded.long,
      mid-edge m room h,
      mid-node m room h,
      mid-behind m room h l.invariant.2,
    )

pub loop-i-smaller : goal.loop-i-smaller
loop-i-smaller c = omega (arith, c.loop-i-test.true)

pub loop-i-preserved : goal.loop-i-preserved
loop-i-preserved c =
    let p = c.requires in
    let l = c.loop-i in
    let h = c.loop-i-test.true in
    let r = c.remake-last in (
      omega (arith, h),
      r.auto.steps ∙ l.invariant.1,
      mid-last (l.invariant.3 p) (omega (arith, p.room, l.invariant.1)) h r.result r.ensures.1,
      λ t. mid-again (l.invariant.3 t) (omega (arith, t.room, l.invariant.1)) h l.invariant.2 r.ensures.0 r.ensures.1,
    )

pub returns : goal.returns
returns c = let l = c.loop-i in λ t. mid-end t (l.invariant.3 t) l.invariant.0 (omega (arith, c.loop-i-test.false))
