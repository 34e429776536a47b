-- `direct_search::direct::pass_over`: edge by edge, what is counted is what the enumeration counts.
use Prim.Native.Nat.{ℕ, ◌<◌}
use native.Mathlib.Omega.{arith}
use mathlib.Core.Path.{sym, subst, ◌∙◌}
use Rattle.storage.specs.Index.Use.{left}
use Rattle.search_state.specs.declared.dead_ends.DeadEnds.{DeadEnds}
use Rattle.search_state.specs.Passes.{nothing_passed}
use Rattle.direct_search.specs.Passes.Laws.{Over, over-start, over-ready, over-cycles, over-rejected, over-less, over-more, over-bound, over-extended, over-end}
use Rattle.direct_search.specs.Passes.TooLong.{passed-all}
use Rattle.direct_search.proofs.direct.pass_over.Goals as goal

pub all_too_long-requires : goal.all_too_long-requires
all_too_long-requires c =
    let a = c.args in
    let p = c.requires in
    (p.v.loaded.long, over-ready p nothing_passed a.first (over-start p))

pub returns-then-all_too_long : goal.returns-then-all_too_long
returns-then-all_too_long c =
    let a = c.args in
    λ x. passed-all a.index.now a.steps.now a.edges.now a.budget a.first x (sym c.all_too_long.ensures ∙ c.if-all_too_long.true) c.pass_all.result c.pass_all.ensures

pub loop-link-init : goal.loop-link-init
loop-link-init c = let a = c.args in (omega arith, λ x. subst (λ (p : DeadEnds). Over x p a.first) (sym c.nothing-passed.ensures) (over-start x))

pub judge_edge-trial-requires : goal.judge_edge-trial-requires
judge_edge-trial-requires c = let p = c.requires in let l = c.loop-link in (p.v.loaded.long, over-ready p l.passed l.link (l.invariant.1 p))

pub count-requires : goal.count-requires
count-requires c =
    let l = c.loop-link in
    let p = c.requires in
    let y = over-cycles p l.passed l.link (l.invariant.1 p) in
    let z = over-rejected p l.passed l.link (l.invariant.1 p) in
    (omega (arith, y), omega (arith, z))

pub returns-in-TooLong : goal.returns-in-TooLong
returns-in-TooLong c =
    let l = c.loop-link in
    λ x.
    over-bound x l.passed l.link (l.invariant.1 x) c.loop-link-test.true
    c.judge_edge-trial.ensures (sym c.in-TooLong.is ∙ c.count.ensures) l.invariant.0

pub returns-in-Extended : goal.returns-in-Extended
returns-in-Extended c =
    let l = c.loop-link in
    λ x.
    over-extended x l.passed l.link (l.invariant.1 x) c.loop-link-test.true
    c.judge_edge-trial.ensures c.in-Extended.complete
    (sym c.in-Extended.is ∙ c.count.ensures) l.invariant.0

pub next-link-requires : goal.next-link-requires
next-link-requires c = c.requires.v.loaded.long

pub loop-link-smaller : goal.loop-link-smaller
loop-link-smaller c =
    let loop-test = c.loop-link-test in
    let l = c.loop-link in
    let a = c.args in
    let p = c.requires in
    subst (λ (n : ℕ). left a.index.now n < left a.index.now l.link) (sym c.next-link.ensures)
    (over-less p l.passed l.link (l.invariant.1 p) loop-test.true)

pub loop-link-preserved : goal.loop-link-preserved
loop-link-preserved c =
    let loop-test = c.loop-link-test in
    let l = c.loop-link in
    let a = c.args in
    let p = c.requires in
    let d = subst (λ (n : ℕ). left a.index.now n < left a.index.now l.link) (sym c.next-link.ensures)
    (over-less p l.passed l.link (l.invariant.1 p) loop-test.true) in (
      omega (arith, d, l.invariant.0),
      λ x.
          over-more x l.passed l.link (l.invariant.1 x) loop-test.true c.judge_edge-trial.ensures
          c.in-More.next (sym c.in-More.is ∙ c.count.ensures)
          c.next-link.ensures,
    )

pub returns : goal.returns
returns c = let l = c.loop-link in λ x. over-end x l.passed l.link (l.invariant.1 x) (omega (arith, c.loop-link-test.false)) l.invariant.0
