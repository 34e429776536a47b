-- `direct_search::direct::search_counted`: the start, then the rounds.
use Rattle.std.specs.Prelude.{Err}
use borrow.Author.Rules.{rules}
use Prim.Native.Nat.{ℕ}
use mathlib.Core.Path.{◌≡◌, refl, sym, ap, subst, ◌∙◌}
use mathlib.Core.List.{List}
use lib.ListN.{replicate}
use Rattle.semantics.specs.declared.search.SearchLimits.{SearchLimits}
use Rattle.semantics.specs.declared.search.SearchOrder.{SearchOrder}
use Rattle.semantics.specs.Limits.{slot_length}
use Rattle.semantics.specs.Words.{zeros}
use Rattle.semantics.specs.Entries.{request_of}
use Rattle.search_state.specs.declared.search.Search as S
use Rattle.search_state.specs.Progresses.{at}
use Rattle.search_state.specs.Progresses.Laws.{at-is}
use Rattle.search_rounds.specs.Drives.{Driving, Ends, DrivenTo}
use Rattle.search_rounds.specs.Starts.{answer_to, Begins, first-driving, first-driven, first-begins, first-refused}
use Rattle.direct_search.specs.DirectAnswers.{edge_tries}
use Rattle.direct_search.specs.DirectAnswers.Laws.{direct-ends}
use Rattle.direct_search.specs.Counting.{Counting, run_on, Tallies, none_kept}
use Rattle.direct_search.specs.Counting.Laws.{low_zeros, start-counting, start-tallied, start-refused}
use Rattle.direct_search.proofs.direct.search_counted.Goals as goal

pub start-requires : goal.start-requires
start-requires c =
    let p = c.requires in (p.0, refl, refl, p.1)

pub drive-requires : goal.drive-requires
drive-requires c =
    let a = c.args in
    let p = c.requires in
    let s = c.start.new.steps in
    let w = c.start.new.work in
    let g = p.0.graph in (
      subst (λ (z : S.Search). Driving a.index.now s (replicate slot_length 0) z w a.res.now) (sym (at-is c.in_ok-on.on c.frame.ensures c.progress.ensures))
          (first-driving edge_tries a.index.now g a.order a.limits a.work.now a.res.now a.reference (replicate slot_length 0) s w a.res.now (c.start.ensures.begun edge_tries g p.0.loaded) c.in_ok-on.on c.in_ok-on.was),
      low_zeros a.numbers.now (at c.frame.result c.progress.result) p.2,
    )

pub returns : goal.returns
returns c =
    let a = c.args in
    let p = c.requires in
    let s = c.start.new.steps in
    let w = c.start.new.work in
    let d = c.drive.ensures in record {
      ends = (λ g l.
          direct-ends g (request_of a.order a.limits a.work.now a.res.now a.reference) c.drive.result c.drive.new.res
          (first-driven edge_tries a.index.now g a.order a.limits a.work.now a.res.now a.reference (replicate slot_length 0) s w a.res.now (c.start.ensures.begun edge_tries g l) c.in_ok-on.on c.in_ok-on.was c.drive.result c.drive.new.res
          (subst (λ (z : S.Search). (v : Driving a.index.now s (replicate slot_length 0) z w a.res.now) → DrivenTo edge_tries a.index.now s (replicate slot_length 0) z w a.res.now v c.drive.result c.drive.new.res) (at-is c.in_ok-on.on c.frame.ensures c.progress.ensures) d.driven_to
          (first-driving edge_tries a.index.now g a.order a.limits a.work.now a.res.now a.reference (replicate slot_length 0) s w a.res.now (c.start.ensures.begun edge_tries g l) c.in_ok-on.on c.in_ok-on.was))));
      tallies = (λ o m n g l.
          let h = c.start.ensures.begun edge_tries g l in
          let v = first-driving edge_tries a.index.now g a.order a.limits a.work.now a.res.now a.reference (replicate slot_length 0) s w a.res.now h c.in_ok-on.on c.in_ok-on.was in
          let b = subst (λ (y : SearchOrder). Begins g y none_kept a.work.now a.res.now a.reference a.index.now s (replicate slot_length 0) c.in_ok-on.on w a.res.now v) o
          (subst (λ (y : SearchLimits). Begins g a.order y a.work.now a.res.now a.reference a.index.now s (replicate slot_length 0) c.in_ok-on.on w a.res.now v) m
          (first-begins edge_tries a.index.now g a.order a.limits a.work.now a.res.now a.reference (replicate slot_length 0) s w a.res.now h c.in_ok-on.on c.in_ok-on.was)) in
          start-tallied v b c.drive.result c.drive.new.numbers
          (subst (λ (ns : List ℕ). (x : Counting a.index.now s (replicate slot_length 0) c.in_ok-on.on w a.res.now ns) → Tallies c.drive.result c.drive.new.numbers (run_on x)) (p.2 ∙ ap zeros n)
          (subst (λ (z : S.Search). (x : Counting a.index.now s (replicate slot_length 0) z w a.res.now a.numbers.now) → Tallies c.drive.result c.drive.new.numbers (run_on x)) (at-is c.in_ok-on.on c.frame.ensures c.progress.ensures) d.tallies)
          (start-counting v b)));
    }

pub returns-in_err-on : goal.returns-in_err-on
returns-in_err-on c =
    let a = c.args in
    let s = c.start.new.steps in
    let w = c.start.new.work in
    let y = c.in_err-on.field-0.0 in
    let e : c.from_residual.result ≡ Err y = search rules in
    record {
      ends = (λ g l.
          rw e (direct-ends g (request_of a.order a.limits a.work.now a.res.now a.reference) (Err y) a.res.now
          (first-refused edge_tries a.index.now g a.order a.limits a.work.now a.res.now a.reference (replicate slot_length 0) s w a.res.now (c.start.ensures.begun edge_tries g l) y c.in_err-on.was a.res.now)));
      tallies = (λ o m n g l.
          rw e (start-refused g a.work.now a.res.now a.reference y a.res.now a.numbers.now
          (subst (λ (o : SearchOrder). Ends (Err y) a.res.now (answer_to edge_tries g o none_kept a.work.now a.res.now a.reference)) o
          (subst (λ (l : SearchLimits). Ends (Err y) a.res.now (answer_to edge_tries g a.order l a.work.now a.res.now a.reference)) m
          (first-refused edge_tries a.index.now g a.order a.limits a.work.now a.res.now a.reference (replicate slot_length 0) s w a.res.now (c.start.ensures.begun edge_tries g l) y c.in_err-on.was a.res.now)))));
    }
