use native.Mathlib.Omega.{arith}
use mathlib.Core.Path.{refl}
use lib.ListN.{get_or}
use Rattle.search_rounds.specs.Drives.Laws.{round-long, round-short, round-retraces}
use Rattle.stitching.specs.Expansions.Rounds.{round-given, rounded}
use Rattle.stitching.proofs.stitched.round.Goals as goal

pub bounds-item-0 : goal.bounds-item-0
bounds-item-0 c = let p = c.requires in let h = round-long p.1 in omega (arith, h)

pub overflow_add-k : goal.overflow_add-k
overflow_add-k c = let a = c.args in let p = c.requires in let h = round-short p.1 {k = get_or a.item.now 0 0} refl in omega (arith, h)

pub slice_bounds-retrace-end : goal.slice_bounds-retrace-end
slice_bounds-retrace-end c =
    let a = c.args in
    let p = c.requires in
    let h = round-short p.1 {k = get_or a.item.now 0 0} refl in
    let n = round-long p.1 in
    omega (arith, h, n)

pub retrace-requires : goal.retrace-requires
retrace-requires c = let a = c.args in let p = c.requires in round-retraces p.1 {k = get_or a.item.now 0 0} refl

pub expand-requires : goal.expand-requires
expand-requires c =
    let retrace = c.retrace in
    let a = c.args in
    let p = c.requires in
    (p.0, round-given a.words.now p.1 {k = get_or a.item.now 0 0} refl retrace.new.steps retrace.auto.steps retrace.ensures)

pub returns : goal.returns
returns c =
    let expand = c.expand in
    let retrace = c.retrace in
    let a = c.args in record {
      by_index = λ see d v.
          rounded a.words.now v refl retrace.new.steps retrace.auto.steps retrace.ensures
          (expand.ensures.by_index see d
          (round-given a.words.now v {k = get_or a.item.now 0 0} refl retrace.new.steps retrace.auto.steps retrace.ensures));
      clears = λ v.
          expand.ensures.clears
          (round-given a.words.now v {k = get_or a.item.now 0 0} refl retrace.new.steps retrace.auto.steps retrace.ensures);
    }
