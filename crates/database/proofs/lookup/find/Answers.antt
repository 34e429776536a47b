-- `lookup::find`: words that meet 35, a number beyond use, then the record.
use mathlib.Core.Path.{sym, ◌∙◌}
use native.Mathlib.Omega.{arith}
use Rattle.semantics.specs.Limits.{base}
use Rattle.semantics.specs.Database.{known_owners}
use Rattle.database.specs.Records.Laws.{within}
use Rattle.database.specs.Checks.Laws.{formed-whole}
use Rattle.database.specs.Parts.Laws.{lookup-malformed, lookup-beyond, lookup-used}
use Rattle.database.proofs.lookup.find.Goals as goal

pub number-requires : goal.number-requires
number-requires c = omega (arith, formed-whole base known_owners c.args.words.now (sym c.well_formed-2.ensures ∙ c.if-well_formed.true))

pub edges_of-requires : goal.edges_of-requires
edges_of-requires c =
    let a = c.args in
    within base a.number a.words.now (omega (arith, c.number.ensures.0, c.if-i-number.true)) (formed-whole base known_owners a.words.now (sym c.well_formed-2.ensures ∙ c.if-well_formed.true))

pub returns-then-i-number : goal.returns-then-i-number
returns-then-i-number c =
    let a = c.args in
    c.edges_of.ensures ∙ sym (lookup-used base known_owners a.number a.words.now (sym c.well_formed-2.ensures ∙ c.if-well_formed.true) (omega (arith, c.number.ensures.0, c.if-i-number.true)))

pub returns-else-i-number : goal.returns-else-i-number
returns-else-i-number c =
    let a = c.args in
    sym (lookup-beyond base known_owners a.number a.words.now (sym c.well_formed-2.ensures ∙ c.if-well_formed.true) (omega (arith, c.number.ensures.0, c.if-i-number.false)))

pub returns-else-well_formed : goal.returns-else-well_formed
returns-else-well_formed c =
    let a = c.args in
    sym (lookup-malformed base known_owners a.number a.words.now (sym c.well_formed-2.ensures ∙ c.if-well_formed.false))
