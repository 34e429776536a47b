-- `note` meets its contract: the edge at this place is reached as well, and those before it still are.
use mathlib.Core.Path.{sym, ◌∙◌}
use native.Mathlib.Omega.{arith}
use Rattle.semantics.specs.Limits.{slot_length}
use Rattle.reply.specs.Rivals.Noting.{note-removed, note-wordless, note-word}
use Rattle.reply.specs.Rivals.Laws.{best-inside}
use Rattle.reply.proofs.rivals.note.Goals as goal

pub returns-then-best-s : goal.returns-then-best-s
returns-then-best-s c =
    let a = c.args in
    let p = c.requires.at_in_bounds in
    let ix = a.index.now in
    let ws = a.res.now in
    let live = sym c.edge.ensures ∙ c.in-Live.is in
    note-wordless slot_length ix ws a.best.now a.at p.1 p.2 c.in-Live.source c.in-Live.target c.in-Live.precedence live c.if-best-s.true

pub greater-requires : goal.greater-requires
greater-requires c =
    let a = c.args in
    let p = c.requires.at_in_bounds in
    let ix = a.index.now in
    let ws = a.res.now in
    let known = best-inside ix ws a.best.now slot_length a.at (omega (arith, p.1.here)) p.2 c.in-Live.source.0 in
    record { blocks = c.requires.blocks; known_in_bounds = (omega (arith, known, p.0), p.0) }

pub returns-in-Removed : goal.returns-in-Removed
returns-in-Removed c =
    let a = c.args in
    let p = c.requires.at_in_bounds in
    let ix = a.index.now in
    let ws = a.res.now in
    note-removed slot_length ix ws a.best.now a.at p.1 p.2 (sym c.edge.ensures ∙ c.in-Removed.is)

pub returns-else-best-s : goal.returns-else-best-s
returns-else-best-s c =
    let a = c.args in
    let p = c.requires.at_in_bounds in
    let ix = a.index.now in
    let ws = a.res.now in
    let live = sym c.edge.ensures ∙ c.in-Live.is in
    note-word slot_length ix ws a.best.now a.at p.1 p.2 c.in-Live.source c.in-Live.target c.in-Live.precedence live c.greater.result c.if-best-s.false c.greater.ensures
