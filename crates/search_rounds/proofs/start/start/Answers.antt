-- `search_rounds::start::start`: 10 or 11, or the first push.
use mathlib.Core.Path.{◌≡◌, ap, ◌∙◌}
use native.Mathlib.Omega.{arith}
use Prim.Native.Nat.{ℕ}
use mathlib.Core.List.{List}
use lib.ListN.{length, length-replicate}
use Rattle.semantics.specs.Limits.{steps_length}
use Rattle.stepping.specs.StepWords.{with_step}
use Rattle.search_rounds.specs.Starts.{made-extends, made-pushable, begin-refused, begin-begun, begin-started}
use Rattle.search_rounds.proofs.start.start.Goals as goal

pub begin-requires : goal.begin-requires
begin-requires c = c.requires.0.loaded.long

pub put_step-requires : goal.put_step-requires
put_step-requires c =
    let a = c.args in
    let p = c.requires in
    let h : length a.steps.now ≡ steps_length = ap length p.1 ∙ length-replicate {A = ℕ} steps_length 0 in
    omega (arith, h)

pub push-requires : goal.push-requires
push-requires c =
    let a = c.args in
    let p = c.requires in
    made-pushable a.order a.limits a.work.now a.res.now c.new.ensures c.new-in-Ok.ensures p.2

pub returns-in-Err : goal.returns-in-Err
returns-in-Err c =
    let a = c.args in
    record {
      started = λ tries g l rs.
          begin-refused tries l a.order a.limits a.work.now a.res.now a.reference c.begin.ensures rs c.in-Err.r c.in-Err.is;
      begun = λ tries g l rs.
          begin-refused tries l a.order a.limits a.work.now a.res.now a.reference c.begin.ensures rs c.in-Err.r c.in-Err.is;
    }

pub returns-in-Ok : goal.returns-in-Ok
returns-in-Ok c =
    let put_step = c.put_step in
    let begin = c.begin in
    let a = c.args in
    let p = c.requires in
    record {
      started = λ tries g l.
          begin-started tries l a.order a.limits a.work.now a.res.now a.reference begin.ensures c.in-Ok.first
          c.in-Ok.is p.3 p.2 (made-extends a.order a.limits a.work.now a.res.now
          c.new.ensures c.new-in-Ok.ensures c.push.ensures)
          (put_step.ensures ∙ ap (λ (z : List ℕ). with_step z 0 c.in-Ok.first) p.1);
      begun = λ tries g l.
          begin-begun tries l a.order a.limits a.work.now a.res.now a.reference begin.ensures c.in-Ok.first
          c.in-Ok.is p.3 p.2 (made-extends a.order a.limits a.work.now a.res.now
          c.new.ensures c.new-in-Ok.ensures c.push.ensures)
          (put_step.ensures ∙ ap (λ (z : List ℕ). with_step z 0 c.in-Ok.first) p.1);
    }
