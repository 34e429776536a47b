-- `compact`: the three outcomes.
use mathlib.Core.Path.{sym, ◌∙◌}
use native.Mathlib.Omega.{arith}
use lib.ListN.{length}
use Rattle.semantics.specs.Limits.{base}
use Rattle.semantics.specs.Database.{known_owners}
use Rattle.database.specs.Checks.Laws.{formed-whole}
use Rattle.compaction.specs.Moves.Laws.{outcome-malformed, outcome-short, outcome-done, left-used, left-length, left-freed}
use Rattle.compaction.proofs.compact.compact.Goals as goal

pub returns-then-not-well_formed : goal.returns-then-not-well_formed
returns-then-not-well_formed c =
    let a = c.args in
    let f = sym c.well_formed-2.ensures ∙ c.if-not-well_formed.true in
    let o = outcome-malformed base known_owners a.words.now (length a.list.now) c.zero.new.area f c.zero.ensures in
    record { result_value = o.0; words_after = o.1; list_after = o.2 }

pub count_live-live-requires : goal.count_live-live-requires
count_live-live-requires c = formed-whole base known_owners c.args.words.now (sym c.well_formed-2.ensures ∙ c.if-not-well_formed.false)

pub returns-then-list-live : goal.returns-then-list-live
returns-then-list-live c =
    let a = c.args in
    let f = sym c.well_formed-2.ensures ∙ c.if-not-well_formed.false in
    let o = outcome-short base known_owners a.words.now (length a.list.now) c.zero.new.area f (omega (arith, c.if-list-live.true, c.zero.auto.area, c.count_live-live.ensures.0)) c.zero.ensures in
    record { result_value = o.0; words_after = o.1; list_after = o.2 }

pub close_up-last-requires : goal.close_up-last-requires
close_up-last-requires c =
    let a = c.args in
    let f = sym c.well_formed-2.ensures ∙ c.if-not-well_formed.false in
    (formed-whole base known_owners a.words.now f, omega (arith, c.if-list-live.false, c.count_live-live.ensures.0))

pub free_rest-requires : goal.free_rest-requires
free_rest-requires c =
    let a = c.args in
    let f = sym c.well_formed-2.ensures ∙ c.if-not-well_formed.false in
    let w = formed-whole base known_owners a.words.now f in
    let e = c.close_up-last.ensures in
    let u = left-used base a.words.now c.close_up-last.new.words e.words_after w in
    let n = left-length base a.words.now c.close_up-last.new.words e.words_after w in
    (omega (arith, u, n, w), omega (arith, u, e.value.1), e.value.2)

pub returns : goal.returns
returns c =
    let a = c.args in
    let f = sym c.well_formed-2.ensures ∙ c.if-not-well_formed.false in
    let w = formed-whole base known_owners a.words.now f in
    let e = c.close_up-last.ensures in
    let x = c.free_rest.ensures ∙ left-freed base a.words.now c.close_up-last.new.words e.words_after w c.close_up-last.result e.value.0 in
    let o = outcome-done base known_owners a.words.now (length a.list.now) c.count_live-live.result c.zero.new.area c.close_up-last.new.list c.free_rest.new.words f (omega (arith, c.if-list-live.false, c.count_live-live.ensures.0, c.zero.auto.area)) c.count_live-live.ensures.0 x c.zero.ensures e.list_after in
    record { result_value = o.0; words_after = o.1; list_after = o.2 }
