-- `finding::name::first_to`: none of the slots before this one does.
use Prim.Native.Nat.{ℕ, ◌<◌}
use native.Mathlib.Omega.{arith}
use borrow.Author.Rules.{rules}
use mathlib.Core.Path.{sym, ◌∙◌}
use Rattle.finding.specs.Names.{slot_to}
use Rattle.finding.specs.Names.Laws.{before_more}
use Rattle.finding.proofs.name.first_to.Goals as goal

pub loop-i-init : goal.loop-i-init
loop-i-init c = (omega arith, λ (j : ℕ) (h : j < 0). absurd (omega (arith, h)))

pub ends_at-requires : goal.ends_at-requires
ends_at-requires c = let p = c.requires in (p.0, p.1 c.loop-i.i c.loop-i-test.true)

pub returns-then-ends_at : goal.returns-then-ends_at
returns-then-ends_at c =
    let l = c.loop-i in
    record {
      first = record { within = l.invariant.0; before = l.invariant.1; here = λ h. sym c.ends_at.ensures ∙ c.if-ends_at.true };
      kept = search rules;
    }

pub loop-i-preserved : goal.loop-i-preserved
loop-i-preserved c =
    let l = c.loop-i in
    let a = c.args in (
      omega (arith, c.loop-i-test.true),
      before_more (slot_to a.index.now a.res.now a.node) l.i l.invariant.1
          (sym c.ends_at.ensures ∙ c.if-ends_at.false),
    )

pub returns : goal.returns
returns c =
    let l = c.loop-i in
    record {
      first = record { within = omega arith; before = λ (j : ℕ) h. l.invariant.1 j (omega (arith, h, c.loop-i-test.false)); here = λ h. absurd (omega (arith, h)) };
      kept = search rules;
    }
