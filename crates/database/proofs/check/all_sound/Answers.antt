-- `check::all_sound`: what is left to test decides as all records do.
use mathlib.Core.Path.{refl, sym, ap, ◌∙◌}
use native.Mathlib.Omega.{arith}
use Rattle.database.specs.Records.{bounded}
use Rattle.semantics.specs.Database.{known_owners, records}
use Rattle.database.specs.Records.Laws.{record_is, within}
use Rattle.database.specs.Checks.{tests}
use Rattle.database.specs.Checks.Laws.{count-records, every-passed, every-failed, every-done}
use borrow.Author.Rules.{rules}
use Rattle.database.proofs.check.all_sound.Goals as goal

pub loop-i-init : goal.loop-i-init
loop-i-init c = (search rules, refl)

pub sound-requires : goal.sound-requires
sound-requires c = let a = c.args in within (bounded a.most) c.loop-i.i a.words.now (omega arith) c.requires

pub returns-then-not-sound : goal.returns-then-not-sound
returns-then-not-sound c =
    let a = c.args in
    let bd = bounded a.most in
    let ws = a.words.now in
    let i = c.loop-i.i in
    let e = ap (tests bd known_owners ws) (record_is bd i ws (omega arith)) ∙ sym c.sound.ensures ∙ c.if-not-sound.true in
    sym (every-failed (tests bd known_owners ws) (records bd ws) i (omega (arith, count-records bd ws)) e) ∙ c.loop-i.invariant.1

pub loop-i-preserved : goal.loop-i-preserved
loop-i-preserved c =
    let a = c.args in
    let bd = bounded a.most in
    let ws = a.words.now in
    let i = c.loop-i.i in
    let e = ap (tests bd known_owners ws) (record_is bd i ws (omega arith)) ∙ sym c.sound.ensures ∙ c.if-not-sound.false in
    (omega arith, every-passed (tests bd known_owners ws) (records bd ws) i (omega (arith, count-records bd ws)) e ∙ c.loop-i.invariant.1)

pub returns : goal.returns
returns c =
    let a = c.args in
    let bd = bounded a.most in
    let ws = a.words.now in
    sym (every-done (tests bd known_owners ws) (records bd ws) c.loop-i.i (omega (arith, count-records bd ws))) ∙ c.loop-i.invariant.1
