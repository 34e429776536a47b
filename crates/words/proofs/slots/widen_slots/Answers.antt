-- `widen_slots` meets its contract: the slots from i on are long, those below are as they were.
use mathlib.Core.Path.{◌≡◌, refl, ap, ◌∙◌, subst}
use mathlib.Core.List.{List, ◌++◌}
use Prim.Native.Nat.{ℕ, ◌+◌, ◌-◌}
use native.Mathlib.Omega.{arith}
use lib.ListN.{length, drop}
use lib.Seq.{drop_at}
use Rattle.words.specs.Slots.{slot_at}
use Rattle.words.specs.Slots.Laws.{length-slot_at}
use Rattle.words.specs.Slots.Wider.{zeros-drop, Widening, widening-start, widening-short, widening-long, widening-more, widening-end}
use borrow.Author.Rules.{rules}
use Rattle.words.proofs.slots.widen_slots.Goals as goal

pub loop-i-init : goal.loop-i-init
loop-i-init c =
    let a = c.args in
    (refl, search rules, ap (drop a.short) c.requires.3 ∙ zeros-drop a.short a.length, λ h f. widening-start a.length a.short a.n h a.area.now f)

pub widen_slot-requires : goal.widen_slot-requires
widen_slot-requires c =
    let l = c.loop-i in
    let a = c.args in
    let p = c.requires in
    let q : l.i ≡ l.i - 1 + 1 = omega (arith, c.loop-i-test.true) in
    let w = subst (Widening a.length a.short a.n p.2 a.area.now p.0 l.area) q (l.invariant.3 p.2 p.0) in (
      widening-short a.length a.short a.n p.2 a.area.now p.0 (l.i - 1) w,
      widening-long a.length a.short a.n p.2 a.area.now p.0 (l.i - 1) w,
      search rules,
      p.2,
    )

pub loop-i-preserved : goal.loop-i-preserved
loop-i-preserved c =
    let s = c.widen_slot in
    let loop-test = c.loop-i-test in
    let c₁' = c in
    let l = c₁'.loop-i in
    let a = c₁'.args in
    let p = c₁'.requires in
    let q : l.i ≡ l.i - 1 + 1 = omega (arith, loop-test.true) in
    let w = subst (Widening a.length a.short a.n p.2 a.area.now p.0 l.area) q (l.invariant.3 p.2 p.0) in
    let c₁ : length (slot_at a.short (l.i - 1) l.area) ≡ a.short = length-slot_at a.short (l.i - 1) l.area
    (widening-short a.length a.short a.n p.2 a.area.now p.0 (l.i - 1) w) in (
      search rules,
      search rules,
      ap (drop a.short) s.ensures.slot_after ∙ drop_at (slot_at a.short (l.i - 1) l.area) (drop a.short l.slot) a.short c₁ ∙ l.invariant.2,
      λ h f.
          widening-more a.length a.short a.n h a.area.now f (l.i - 1)
          (subst (Widening a.length a.short a.n h a.area.now f l.area) q (l.invariant.3 h f))
          (ap (λ (z : List ℕ). slot_at a.short (l.i - 1) l.area ++ z) l.invariant.2) s.ensures.area_after,
    )

pub returns : goal.returns
returns c =
    let l = c.loop-i in
    let a = c.args in
    let p = c.requires in
    let q : l.i ≡ 0 = omega (arith, c.loop-i-test.false) in
    widening-end a.length a.short a.n p.2 a.area.now p.0
    (subst (Widening a.length a.short a.n p.2 a.area.now p.0 l.area) q (l.invariant.3 p.2 p.0))
