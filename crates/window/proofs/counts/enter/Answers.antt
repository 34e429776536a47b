-- `enter`: refused before a word is touched; else two words are stored.
use mathlib.Core.Path.{sym, ap, ◌∙◌}
use native.Mathlib.Omega.{arith}
use Rattle.semantics.specs.Limits.{base, window_entries}
use Rattle.semantics.specs.Told.{told_entered}
use Rattle.semantics.specs.Window.{Entering}
use Rattle.semantics.proofs.Theorems.Window.Laws.{call-refused, call-entered}
use Rattle.window.specs.Extent.{entered-words}
use Rattle.window.proofs.counts.enter.Goals as goal

pub returns-then-count-gt-MAX_EXPANSIONS : goal.returns-then-count-gt-MAX_EXPANSIONS
returns-then-count-gt-MAX_EXPANSIONS c =
    let a = c.args in
    let e = call-refused base window_entries a.words.now a.count (omega (arith, c.if-count-gt-MAX_EXPANSIONS.true)) in
    record { result_value = ap (λ (t : Entering). told_entered t.answer) (sym e); words_after = ap (λ (t : Entering). t.window) (sym e) }

pub returns : goal.returns
returns c =
    let a = c.args in
    let e = call-entered base window_entries a.words.now a.count (omega (arith, c.if-count-gt-MAX_EXPANSIONS.false)) in
    let w = entered-words window_entries a.count a.words.now c.put.new.words c.put-2.new.words c.place-at.result c.room-room.result c.behind.result c.place-at.ensures.0 c.room-room.ensures.0 c.behind.ensures c.put.ensures c.put-2.ensures in
    record { result_value = ap (λ (t : Entering). told_entered t.answer) (sym e); words_after = w ∙ ap (λ (t : Entering). t.window) (sym e) }
