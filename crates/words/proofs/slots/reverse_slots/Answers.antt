-- `reverse_slots` meets its contract: what is left to turn round, turned round, is what was asked.
use Rattle.std.proofs.Common.{◌≡◌, ℕ, ◌+◌, ◌-◌, ◌*◌, ◌≤◌, length, List, refl, sym, ap, ap₂, ◌∙◌, arith}
use Rattle.words.specs.Slots.{swap_slots, reverse_slots}
use Rattle.words.specs.Slots.Laws.{within, slots-few, slots-within}
use Rattle.words.specs.Slots.Reversed.{reverse-step, reverse-short}
use Rattle.words.proofs.slots.reverse_slots.Goals as goal

pub loop-k-init : goal.loop-k-init
loop-k-init c =
    let a = c.args in
    let e : a.lo + 0 ≡ a.lo = omega arith in
    let f : a.n - 2 * 0 ≡ a.n = omega arith in
    (refl, ap₂ (λ (i : ℕ) (k : ℕ). reverse_slots a.length i k a.area.now) e f)

pub overflow_add-lo : goal.overflow_add-lo
overflow_add-lo c = let a = c.args in omega (arith, slots-few a.length (a.lo + a.n) a.area.now c.requires.0 c.requires.1)

pub overflow_add-lo-in-loop-k : goal.overflow_add-lo-in-loop-k
overflow_add-lo-in-loop-k c = let a = c.args in omega (arith, slots-few a.length (a.lo + a.n) a.area.now c.requires.0 c.requires.1)

pub swap_slots-requires : goal.swap_slots-requires
swap_slots-requires c =
    let l = c.loop-k in
    let a = c.args in
    let e : a.length * (a.lo + a.n) ≤ length l.area = omega (arith, c.requires.1) in
    (within a.length (a.lo + a.n) (a.lo + l.k) l.area (omega arith) e, within a.length (a.lo + a.n) (a.lo + (a.n - 1 - l.k)) l.area (omega arith) e)

pub loop-k-preserved : goal.loop-k-preserved
loop-k-preserved c =
    let l = c.loop-k in
    let a = c.args in
    let at : ℕ = a.lo + l.k in
    let m : ℕ = a.n - 2 * (l.k + 1) in
    let q : m + 2 ≡ a.n - 2 * l.k = omega arith in
    let p : a.lo + (a.n - 1 - l.k) ≡ at + 1 + m = omega arith in
    let r : a.lo + (l.k + 1) ≡ at + 1 = omega arith in
    let e : a.length * (at + (m + 2)) ≤ length l.area = slots-within a.length (at + (m + 2)) (a.lo + a.n) l.area (omega arith) (omega (arith, c.requires.1)) in (
      omega arith,
      ap₂ (λ (i : ℕ) (w : List ℕ). reverse_slots a.length i m w) r (c.swap_slots.ensures ∙ ap (λ (j : ℕ). swap_slots a.length at j l.area) p)
          ∙ reverse-step a.length at m l.area e
          ∙ ap (λ (k : ℕ). reverse_slots a.length at k l.area) q
          ∙ l.invariant.1,
    )

pub returns : goal.returns
returns c =
    let l = c.loop-k in
    let a = c.args in
    sym (reverse-short a.length (a.lo + l.k) (a.n - 2 * l.k) l.area (omega arith)) ∙ l.invariant.1
