-- `is_ahead` meets its contract: before what is left both are the same, so what is left decides.
use mathlib.Core.Path.{sym}
use mathlib.Core.Bool.{true≢false}
use native.Mathlib.Omega.{arith}
use Rattle.std.proofs.lemmas.Slice.Zip.{Zip-more}
use Rattle.reply.specs.Ascending.Laws.{ahead-here, ahead-on}
use Rattle.reply.proofs.ascending.is_ahead.Goals as goal

pub returns-then-x-y : goal.returns-then-x-y
returns-then-x-y c =
    let z = Zip-more c.loop-x.x-iterator c.next.new.self c.next.result (c.in-Some.x, c.in-Some.y) c.in-Some.is c.next.ensures.steps in
    λ e. c.loop-x.invariant (ahead-here z.0 z.1 (omega (arith, c.if-x-y.true)))

pub loop-x-preserved : goal.loop-x-preserved
loop-x-preserved c =
    let z = Zip-more c.loop-x.x-iterator c.next.new.self c.next.result (c.in-Some.x, c.in-Some.y) c.in-Some.is c.next.ensures.steps in
    λ h. c.loop-x.invariant (ahead-on z.0 z.1 (omega (arith, c.if-x-y.false, c.if-y-x.false)) h)
