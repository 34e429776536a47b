-- `check::check`: 35, then 34 for the nodes or for the files.
use mathlib.Core.Path.{sym, ◌∙◌}
use native.Mathlib.Omega.{arith}
use Rattle.semantics.specs.Limits.{base}
use Rattle.semantics.specs.Database.{known_owners}
use Rattle.database.specs.Checks.Laws.{formed-whole, check-malformed, check-nodes, check-files, check_sound}
use Rattle.database.proofs.check.check.Goals as goal
use Rattle.database.proofs.check.check.Goals.{then-nodes-words-via-then-nodes-words, then-nodes-words-via-else-nodes-words+then-files-words}

pub returns-then-not-well_formed : goal.returns-then-not-well_formed
returns-then-not-well_formed c = λ g n f. check-malformed base known_owners g c.args.words.now (sym c.well_formed-2.ensures ∙ c.if-not-well_formed.true)

pub bounds-words-1 : goal.bounds-words-1
bounds-words-1 c = omega (arith, formed-whole base known_owners c.args.words.now (sym c.well_formed-2.ensures ∙ c.if-not-well_formed.false))

pub bounds-words-2 : goal.bounds-words-2
bounds-words-2 c = omega (arith, formed-whole base known_owners c.args.words.now (sym c.well_formed-2.ensures ∙ c.if-not-well_formed.false))

pub returns-then-nodes-words : goal.returns-then-nodes-words
returns-then-nodes-words c =
    let a = c.args in
    let formed = sym c.well_formed-2.ensures ∙ c.if-not-well_formed.false in
    λ g n f.
    elim c.then-nodes-words.branch [
      | then-nodes-words-via-then-nodes-words w ↦ check-nodes base known_owners g a.words.now formed (omega (arith, n, w.if-nodes-words.true))
      | then-nodes-words-via-else-nodes-words+then-files-words w ↦ check-files base known_owners g a.words.now formed (omega (arith, n, w.if-nodes-words.false)) (omega (arith, f, w.if-files-words.true))
    ]

pub returns : goal.returns
returns c =
    let a = c.args in
    λ g n f.
    check_sound base known_owners g a.words.now
    (sym c.well_formed-2.ensures ∙ c.if-not-well_formed.false)
    (omega (arith, n, c.if-nodes-words.false)) (omega (arith, f, c.if-files-words.false))
