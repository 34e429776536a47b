-- `direct_search::direct::drive`: the run from here is the run from the start; behind each round the numbers are those of the paths that were found so far.
use Prim.Native.Nat.{ℕ, ◌+◌}
use native.Mathlib.Omega.{arith}
use mathlib.Core.Path.{◌≡◌, refl, sym, ◌∙◌, ap, subst}
use mathlib.Core.List.{List}
use lib.ListN.{get_or}
use Rattle.search_rounds.specs.Drives.Laws.{round-short, turn-start, turn-over, turn_many, turn-given, turn-refused, turn-counts, turn-again}
use Rattle.direct_search.specs.DirectAnswers.{edge_tries}
use Rattle.direct_search.specs.Expansions.Rounds.{tries-few}
use Rattle.std.specs.Prelude.{Ok, Err}
use borrow.Author.Rules.{rules}
use Rattle.search_state.specs.declared.search.Round.{Round}
use Rattle.search_state.specs.declared.progress.Frame.{Frame}
use Rattle.search_state.specs.declared.progress.Progress.{Progress}
use Rattle.search_state.specs.Progresses.{Next, at, course_at, round_at, next_at}
use Rattle.direct_search.specs.Counting.{Low}
use Rattle.direct_search.specs.Counting.Laws.{round-less, round-fits, round-low, Standing, stand-start, stand-over, stand-many, stand-refused, stand-again}
use Rattle.direct_search.proofs.direct.drive.Goals as goal

-- what the top of the round opened, as the search that it stands for
opens : (f : Frame) {a : Next} {r q : Round Progress} → a ≡ Ok r → r ≡ q → next_at f a ≡ Ok (round_at f q)
opens f w e = ap (next_at f) (w ∙ ap (λ (x : Round Progress). Ok x) e)

pub loop-finished-init : goal.loop-finished-init
loop-finished-init c = (refl, refl, refl, refl, refl, (λ v. turn-start edge_tries v (tries-few v.loaded)), c.requires.1, λ x. stand-start x)

pub take-requires : goal.take-requires
take-requires c =
    let p = c.requires.0 in
    let t = c.loop-finished.invariant.5 p in
    record {
      framed = t.stood.stands.0.framed;
      short = t.stood.sized.wider.longer;
      slot = c.loop-finished.invariant.1 ∙ p.slot;
      clear = t.clear;
      few = omega (arith, t.expanded);
    }

pub returns-in-Over : goal.returns-in-Over
returns-in-Over c =
    let f = c.args.frame in record { driven_to = (λ v. turn-over edge_tries v (tries-few v.loaded) c.loop-finished.invariant.0 (c.loop-finished.invariant.5 v) c.take.ensures c.in-Over.finished (opens f c.in_ok-finished.was c.in-Over.is)); tallies = (λ x. stand-over x c.loop-finished.invariant.0 (c.loop-finished.invariant.7 x) c.take.ensures c.in-Over.finished (opens f c.in_ok-finished.was c.in-Over.is)) }

pub returns-in_err-finished : goal.returns-in_err-finished
returns-in_err-finished c =
    let f = c.args.frame in
    let y = c.in_err-finished.field-0.0 in
    let e : c.from_residual.result ≡ Err y = search rules in
    record {
      driven_to = (λ v. rw e (turn_many edge_tries v (tries-few v.loaded) c.loop-finished.invariant.0 (c.loop-finished.invariant.5 v) c.take.ensures y (ap (next_at f) c.in_err-finished.was)));
      tallies = (λ x. rw e (stand-many x c.loop-finished.invariant.0 (c.loop-finished.invariant.7 x) c.take.ensures y (ap (next_at f) c.in_err-finished.was)));
    }

pub bounds-item-0 : goal.bounds-item-0
bounds-item-0 c = omega (arith, c.take.auto.item, c.loop-finished.invariant.1, c.requires.0.slot)

pub round-requires : goal.round-requires
round-requires c =
    let p = c.requires.0 in
    let f = c.args.frame in
    turn-given edge_tries p (tries-few p.loaded) c.loop-finished.invariant.0 (c.loop-finished.invariant.5 p) c.take.ensures (at f c.in-Expand.next) (opens f c.in_ok-finished.was c.in-Expand.is)

pub overflow_add-k : goal.overflow_add-k
overflow_add-k c =
    let take = c.take in
    let l = c.loop-finished in
    let p = c.requires.0 in
    let h = round-short (turn-given edge_tries p (tries-few p.loaded) l.invariant.0 (l.invariant.5 p) take.ensures
    (at c.args.frame c.in-Expand.next) (opens c.args.frame c.in_ok-finished.was c.in-Expand.is))
    {k = get_or take.new.item 0 0} refl in
    record { fits = omega (arith, h) }

pub overflow_sub-s : goal.overflow_sub-s
overflow_sub-s c =
    let p = c.requires.0 in
    let f = c.args.frame in
    let given = turn-given edge_tries p (tries-few p.loaded) c.loop-finished.invariant.0 (c.loop-finished.invariant.5 p) c.take.ensures (at f c.in-Expand.next) (opens f c.in_ok-finished.was c.in-Expand.is) in
    round-less p c.loop-finished.invariant.0 (c.loop-finished.invariant.5 p) c.take.ensures (at f c.in-Expand.next) (opens f c.in_ok-finished.was c.in-Expand.is) (c.round.ensures.rounded given) (at f c.in_ok-s-in-Expand.s) (ap (course_at f) c.in_ok-s-in-Expand.was)

pub add-requires : goal.add-requires
add-requires c =
    let p = c.requires.0 in
    let f = c.args.frame in
    let given = turn-given edge_tries p (tries-few p.loaded) c.loop-finished.invariant.0 (c.loop-finished.invariant.5 p) c.take.ensures (at f c.in-Expand.next) (opens f c.in_ok-finished.was c.in-Expand.is) in
    round-fits p c.loop-finished.invariant.0 (c.loop-finished.invariant.5 p) c.take.ensures (at f c.in-Expand.next) (opens f c.in_ok-finished.was c.in-Expand.is) (c.round.ensures.rounded given) (at f c.in_ok-s-in-Expand.s) (ap (course_at f) c.in_ok-s-in-Expand.was) c.loop-finished.numbers _ c.round.new.item (c.round.ensures.clears given) c.loop-finished.invariant.6

pub loop-finished-smaller : goal.loop-finished-smaller
loop-finished-smaller c =
    let p = c.requires.0 in
    let f = c.args.frame in
    let given = turn-given edge_tries p (tries-few p.loaded) c.loop-finished.invariant.0 (c.loop-finished.invariant.5 p) c.take.ensures (at f c.in-Expand.next) (opens f c.in_ok-finished.was c.in-Expand.is) in
    let h = turn-counts edge_tries p (tries-few p.loaded) c.loop-finished.invariant.0 (c.loop-finished.invariant.5 p) c.take.ensures (at f c.in-Expand.next) (opens f c.in_ok-finished.was c.in-Expand.is) (c.round.ensures.rounded given) (at f c.in_ok-s-in-Expand.s) (ap (course_at f) c.in_ok-s-in-Expand.was) in
    omega (arith, h.0, h.1)

pub loop-finished-preserved : goal.loop-finished-preserved
loop-finished-preserved c =
    let p = c.requires.0 in
    let f = c.args.frame in
    let given = turn-given edge_tries p (tries-few p.loaded) c.loop-finished.invariant.0 (c.loop-finished.invariant.5 p) c.take.ensures (at f c.in-Expand.next) (opens f c.in_ok-finished.was c.in-Expand.is) in
    let k = get_or c.take.new.item 0 0 in (
      c.round.auto.steps ∙ c.loop-finished.invariant.0,
      c.round.auto.item ∙ c.take.auto.item ∙ c.loop-finished.invariant.1,
      c.round.auto.work ∙ c.take.auto.work ∙ c.loop-finished.invariant.2,
      c.round.auto.res ∙ c.loop-finished.invariant.3,
      c.add.auto.numbers ∙ c.loop-finished.invariant.4,
      (λ v.
          let given-v = turn-given edge_tries v (tries-few v.loaded) c.loop-finished.invariant.0 (c.loop-finished.invariant.5 v) c.take.ensures (at f c.in-Expand.next) (opens f c.in_ok-finished.was c.in-Expand.is) in
          turn-again edge_tries v (tries-few v.loaded) c.loop-finished.invariant.0 (c.loop-finished.invariant.5 v) c.take.ensures (at f c.in-Expand.next) (opens f c.in_ok-finished.was c.in-Expand.is) (c.round.ensures.rounded given-v) (at f c.in_ok-s-in-Expand.s) (ap (course_at f) c.in_ok-s-in-Expand.was) c.round.new.item (c.round.ensures.clears given-v) {k = k} refl),
      subst (λ (ns : List ℕ). Low ns (at f c.in_ok-s-in-Expand.s)) (sym c.add.ensures) (round-low p c.loop-finished.invariant.0 (c.loop-finished.invariant.5 p) c.take.ensures (at f c.in-Expand.next) (opens f c.in_ok-finished.was c.in-Expand.is) (c.round.ensures.rounded given) (at f c.in_ok-s-in-Expand.s) (ap (course_at f) c.in_ok-s-in-Expand.was) c.loop-finished.numbers (k + 1) c.loop-finished.invariant.6),
      (λ x.
          let given-x = turn-given edge_tries x.driving (tries-few x.driving.loaded) c.loop-finished.invariant.0 (c.loop-finished.invariant.7 x).turning c.take.ensures (at f c.in-Expand.next) (opens f c.in_ok-finished.was c.in-Expand.is) in
          subst (λ (ns : List ℕ). Standing x (at f c.in_ok-s-in-Expand.s) c.round.new.steps c.round.new.item c.round.new.work c.round.new.res k ns) (sym c.add.ensures)
          (stand-again x c.loop-finished.invariant.0 (c.loop-finished.invariant.7 x) c.take.ensures (at f c.in-Expand.next) (opens f c.in_ok-finished.was c.in-Expand.is) (c.round.ensures.rounded given-x) (at f c.in_ok-s-in-Expand.s) (ap (course_at f) c.in_ok-s-in-Expand.was) c.round.new.item (c.round.ensures.clears given-x) {k = k} refl)),
    )

pub returns-in_err-s-in-Expand : goal.returns-in_err-s-in-Expand
returns-in_err-s-in-Expand c =
    let f = c.args.frame in
    let y = c.in_err-s-in-Expand.field-0.0 in
    let e : c.from_residual-in_err-s-in-Expand.result ≡ Err y = search rules in
    record {
      driven_to = (λ v.
          let given = turn-given edge_tries v (tries-few v.loaded) c.loop-finished.invariant.0 (c.loop-finished.invariant.5 v) c.take.ensures (at f c.in-Expand.next) (opens f c.in_ok-finished.was c.in-Expand.is) in
          rw e (turn-refused edge_tries v (tries-few v.loaded) c.loop-finished.invariant.0 (c.loop-finished.invariant.5 v) c.take.ensures (at f c.in-Expand.next) (opens f c.in_ok-finished.was c.in-Expand.is) (c.round.ensures.rounded given) y (ap (course_at f) c.in_err-s-in-Expand.was)));
      tallies = (λ x.
          let given = turn-given edge_tries x.driving (tries-few x.driving.loaded) c.loop-finished.invariant.0 (c.loop-finished.invariant.7 x).turning c.take.ensures (at f c.in-Expand.next) (opens f c.in_ok-finished.was c.in-Expand.is) in
          rw e (stand-refused x c.loop-finished.invariant.0 (c.loop-finished.invariant.7 x) c.take.ensures (at f c.in-Expand.next) (opens f c.in_ok-finished.was c.in-Expand.is) (c.round.ensures.rounded given) y (ap (course_at f) c.in_err-s-in-Expand.was)));
    }
