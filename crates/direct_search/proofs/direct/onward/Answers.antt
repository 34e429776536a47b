-- `direct_search::direct::onward`: nothing more, the bound, or the path with one edge more.
use mathlib.Core.Path.{ap, ◌∙◌}
use native.Mathlib.Omega.{arith}
use Rattle.direct_search.specs.Passes.Laws.{turn-cycles, turn-rejected, turned-end, turned-bound, turn-link, turn-short, turn-long, turn-extends, turned-extended}
use Rattle.search_state.specs.Progresses.{at, course_at}
use Rattle.search_state.specs.Progresses.Laws.{at-passed}
use Rattle.direct_search.proofs.direct.onward.Goals as goal

pub passed_by-on-requires : goal.passed_by-on-requires
passed_by-on-requires c = let p = c.requires in let y = turn-cycles p in let z = turn-rejected p in (omega (arith, y), omega (arith, z))

pub overflow_sub-pass : goal.overflow_sub-pass
overflow_sub-pass c =
    let p = c.requires in
    let h = turn-link p c.in-Extended.complete c.in-Extended.is in
    omega (arith, h)

pub with_edge-requires : goal.with_edge-requires
with_edge-requires c =
    let p = c.requires in
    let h = turn-short p c.in-Extended.complete c.in-Extended.is in
    let l = turn-long p c.in-Extended.complete c.in-Extended.is in
    (omega (arith, h, l), omega (arith, l))

pub extend-requires : goal.extend-requires
extend-requires c =
    let passed-by = c.passed_by-on in
    let a = c.args in
    let p = c.requires in
    turn-extends p c.in-Extended.complete c.in-Extended.is c.with_edge.ensures
    (ap (at a.frame) passed-by.ensures ∙ at-passed a.frame a.pass.passed a.progress)

pub returns-in-End : goal.returns-in-End
returns-in-End c = let a = c.args in λ x. turned-end x c.in-End.is (ap (at a.frame) c.passed_by-on.ensures ∙ at-passed a.frame a.pass.passed a.progress)

pub returns-in-TooLong : goal.returns-in-TooLong
returns-in-TooLong c = λ x. turned-bound x c.in-TooLong.is

pub returns-in-Extended : goal.returns-in-Extended
returns-in-Extended c =
    let extend = c.extend in
    let with-edge = c.with_edge in
    let passed-by = c.passed_by-on in
    let a = c.args in
    λ x.
    turned-extended x c.in-Extended.complete c.in-Extended.is with-edge.ensures extend.new.work extend.new.res
    (course_at a.frame extend.result) (ap (at a.frame) passed-by.ensures ∙ at-passed a.frame a.pass.passed a.progress)
    extend.ensures
