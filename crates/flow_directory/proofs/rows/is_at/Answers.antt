-- `flow_directory::rows::is_at`: the ISIN in two parts, the tranche, the leg.
use Prim.Native.Nat.{ℕ}
use mathlib.Core.Path.{ap₂, ◌∙◌}
use Rattle.semantics.specs.Halves.{joined}
use Rattle.flow_directory.specs.Keys.Laws.{other-high, other-low, other-tranche, same-tranche}
use Rattle.flow_directory.proofs.rows.is_at.Goals as goal

pub returns-then-high-sought_high : goal.returns-then-high-sought_high
returns-then-high-sought_high c = let a = c.args in other-high a.rows.now a.sought.isin.now a.i c.join-high.result c.long-low.result c.join-sought_high.result c.long-sought_low.result (c.join-high.ensures ∙ ap₂ (λ (x : ℕ) (y : ℕ). joined x y) c.long.ensures.value c.long-2.ensures.value) c.long-low.ensures.value (c.join-sought_high.ensures ∙ ap₂ (λ (x : ℕ) (y : ℕ). joined x y) c.long-3.ensures.value c.long-4.ensures.value) c.long-sought_low.ensures.value c.long-low.ensures.upper_bound c.long-sought_low.ensures.upper_bound c.if-high-sought_high.true a.sought.tranche a.sought.leg

pub returns-then-low-sought_low : goal.returns-then-low-sought_low
returns-then-low-sought_low c = let a = c.args in other-low a.rows.now a.sought.isin.now a.i c.join-high.result c.long-low.result c.join-sought_high.result c.long-sought_low.result (c.join-high.ensures ∙ ap₂ (λ (x : ℕ) (y : ℕ). joined x y) c.long.ensures.value c.long-2.ensures.value) c.long-low.ensures.value (c.join-sought_high.ensures ∙ ap₂ (λ (x : ℕ) (y : ℕ). joined x y) c.long-3.ensures.value c.long-4.ensures.value) c.long-sought_low.ensures.value c.long-low.ensures.upper_bound c.long-sought_low.ensures.upper_bound c.if-low-sought_low.true a.sought.tranche a.sought.leg

pub returns-then-short-sought : goal.returns-then-short-sought
returns-then-short-sought c = let a = c.args in other-tranche a.rows.now a.sought.isin.now a.i c.join-high.result c.long-low.result c.join-sought_high.result c.long-sought_low.result (c.join-high.ensures ∙ ap₂ (λ (x : ℕ) (y : ℕ). joined x y) c.long.ensures.value c.long-2.ensures.value) c.long-low.ensures.value (c.join-sought_high.ensures ∙ ap₂ (λ (x : ℕ) (y : ℕ). joined x y) c.long-3.ensures.value c.long-4.ensures.value) c.long-sought_low.ensures.value c.long-low.ensures.upper_bound c.long-sought_low.ensures.upper_bound c.if-high-sought_high.false c.if-low-sought_low.false a.sought.tranche a.sought.leg c.short.result c.short.ensures.value c.if-short-sought.true

pub returns : goal.returns
returns c = let a = c.args in same-tranche a.rows.now a.sought.isin.now a.i c.join-high.result c.long-low.result c.join-sought_high.result c.long-sought_low.result (c.join-high.ensures ∙ ap₂ (λ (x : ℕ) (y : ℕ). joined x y) c.long.ensures.value c.long-2.ensures.value) c.long-low.ensures.value (c.join-sought_high.ensures ∙ ap₂ (λ (x : ℕ) (y : ℕ). joined x y) c.long-3.ensures.value c.long-4.ensures.value) c.long-sought_low.ensures.value c.long-low.ensures.upper_bound c.long-sought_low.ensures.upper_bound c.if-high-sought_high.false c.if-low-sought_low.false a.sought.tranche a.sought.leg c.short.result c.short-2.result c.short.ensures.value c.if-short-sought.false c.short-2.ensures.value
