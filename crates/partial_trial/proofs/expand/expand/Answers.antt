-- `partial_trial::expand::expand`: edge by edge.
use borrow.Author.Rules.{rules}
use Rattle.std.specs.Prelude.{Result}
use Rattle.semantics.specs.declared.refusal.PartialPathRefusal.{PartialPathRefusal}
use Rattle.partial_state.specs.declared.extraction.Extraction.{Extraction}
use Rattle.partial_trial.specs.Expansions.{Expanded}
use Prim.Native.Nat.{ℕ, ◌<◌}
use native.Mathlib.Omega.{arith}
use mathlib.Core.Path.{refl, sym, ap, subst, ◌∙◌}
use Rattle.semantics.specs.Limits.{looked_before, looked_ever}
use Rattle.storage.specs.Index.Use.{left}
use Rattle.partial_state.specs.Extractions.{at, going_at}
use Rattle.partial_trial.specs.Expansions.Edges.{mid_start, mid-owning, mid-less, mid-again, mid-refused, mid-end}
use Rattle.partial_trial.proofs.expand.expand.Goals as goal

pub sought_from-own-requires : goal.sought_from-own-requires
sought_from-own-requires c = c.requires.given.loaded.long

pub first-link-requires : goal.first-link-requires
first-link-requires c = c.requires.given.loaded.long

pub loop-link-init : goal.loop-link-init
loop-link-init c = (refl, refl, refl, c.sought_from-own.ensures, λ v. mid_start v c.first-link.ensures)

pub look_at-going-requires : goal.look_at-going-requires
look_at-going-requires c =
    let l = c.loop-link in
    let p = c.requires in
    mid-owning p (l.invariant.4 p) (omega (arith, c.loop-link-test.true)) l.invariant.2 looked_ever (omega arith) l.invariant.3

pub returns-in_default : goal.returns-in_default
returns-in_default c =
    let look_at = c.look_at-going in
    let loop-test = c.loop-link-test in
    let l = c.loop-link in
    let a = c.args in
    λ v.
    mid-refused v (l.invariant.4 v) (omega (arith, loop-test.true)) l.invariant.2 looked_ever (omega arith) (going_at a.frame look_at.result)
    look_at.new.item look_at.new.work look_at.new.words
    (look_at.ensures (mid-owning v (l.invariant.4 v) (omega (arith, loop-test.true)) l.invariant.2 looked_ever (omega arith) l.invariant.3))
    c.in_default.field-0 (ap (going_at a.frame) c.in_default.is)

pub next-link-requires : goal.next-link-requires
next-link-requires c = c.requires.given.loaded.long

pub loop-link-smaller : goal.loop-link-smaller
loop-link-smaller c =
    let loop-test = c.loop-link-test in
    let l = c.loop-link in
    let a = c.args in
    let p = c.requires in
    subst (λ (n : ℕ). left a.index.now n < left a.index.now l.link) (sym c.next-link.ensures)
    (mid-less p (l.invariant.4 p) (omega (arith, loop-test.true)))

pub loop-link-preserved : goal.loop-link-preserved
loop-link-preserved c =
    let look_at = c.look_at-going in
    let loop-test = c.loop-link-test in
    let l = c.loop-link in
    let a = c.args in (
      look_at.auto.item ∙ l.invariant.0,
      look_at.auto.work ∙ l.invariant.1,
      look_at.auto.words ∙ l.invariant.2,
      l.invariant.3,
      λ v.
          mid-again v (l.invariant.4 v) (omega (arith, loop-test.true)) l.invariant.2 looked_ever (omega arith) (going_at a.frame look_at.result)
          look_at.new.item look_at.new.work look_at.new.words
          (look_at.ensures (mid-owning v (l.invariant.4 v) (omega (arith, loop-test.true)) l.invariant.2 looked_ever (omega arith) l.invariant.3))
          (at a.frame c.in-Ok.next) (ap (going_at a.frame) c.in-Ok.is) c.next-link.ensures,
    )

pub returns : goal.returns
returns c = let l = c.loop-link in λ v. mid-end v (l.invariant.4 v) (omega (arith, c.loop-link-test.false))
