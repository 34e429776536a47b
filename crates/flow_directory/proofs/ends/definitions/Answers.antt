-- `flow_directory::ends::definitions`: all ends so far are the first.
use Prim.Native.Nat.{ℕ, ◌<◌}
use native.Mathlib.Omega.{arith}
use mathlib.Core.Path.{sym, ◌∙◌}
use Rattle.flow_directory.specs.Ends.{slot_end}
use Rattle.flow_directory.specs.Ends.Laws.{same_more}
use Rattle.flow_directory.proofs.ends.definitions.Goals as goal

pub end-first-requires : goal.end-first-requires
end-first-requires c = let p = c.requires in (p.0, p.1 0 c.if-paths-gt0.true)

pub loop-i-init : goal.loop-i-init
loop-i-init c = (omega arith, λ (j : ℕ) (h : j < 0). absurd (omega (arith, h)))

pub end-requires : goal.end-requires
end-requires c = let p = c.requires in (p.0, p.1 c.loop-i.i c.loop-i-test.true)

pub returns-then-end-first : goal.returns-then-end-first
returns-then-end-first c = (
  c.loop-i.i,
  0,
  c.loop-i-test.true,
  c.if-paths-gt0.true,
  λ e. c.if-end-first.true (c.end.ensures ∙ e ∙ sym c.end-first.ensures),
)

pub loop-i-preserved : goal.loop-i-preserved
loop-i-preserved c = let a = c.args in (
  omega (arith, c.loop-i-test.true),
  same_more (slot_end a.index.now a.res.now) c.end-first.result c.loop-i.i c.loop-i.invariant.1 (sym c.end.ensures ∙ c.if-end-first.false),
)

pub returns-then-paths-gt0 : goal.returns-then-paths-gt0
returns-then-paths-gt0 c = (c.if-paths-gt0.true, λ (j : ℕ) h. c.loop-i.invariant.1 j (omega (arith, h, c.loop-i-test.false)))
