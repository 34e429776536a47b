-- `report`: the entries are lent to the scan; where there is no room for one there are none.
use mathlib.Core.Path.{sym, ap, ◌∙◌}
use mathlib.Core.List.{List}
use Prim.Native.Nat.{ℕ}
use native.Mathlib.Omega.{arith}
use Rattle.semantics.specs.Limits.{window_entries}
use Rattle.semantics.specs.Told.{told_trend}
use Rattle.semantics.specs.Window.{trend_of}
use Rattle.window.specs.Extent.{entries-lent, entries_none}
use Rattle.window.proofs.counts.report.Goals as goal

pub returns-then-end-gt-FIRST_ENTRY : goal.returns-then-end-gt-FIRST_ENTRY
returns-then-end-gt-FIRST_ENTRY c =
    let ws = c.args.words.now in
    let x = c.extent-end in
    ap told_trend (c.trend.ensures ∙ ap trend_of (entries-lent window_entries x.result ws x.ensures.0))

pub returns : goal.returns
unfolding trend_of
returns c =
    let ws = c.args.words.now in
    let x = c.extent-end in
    ap (λ (l : List ℕ). told_trend (trend_of l)) (sym (entries_none window_entries x.result ws x.ensures.0 (omega (arith, c.if-end-gt-FIRST_ENTRY.false))))
