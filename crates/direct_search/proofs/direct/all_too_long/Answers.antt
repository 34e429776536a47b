-- `direct_search::direct::all_too_long`: the limit on the length, then the sources of the path's edges.
use Prim.Native.Nat.{◌+◌}
use mathlib.Core.Path.{ap, ◌∙◌}
use lib.ListN.{length}
use Rattle.storage.specs.Index.{edge_row}
use Rattle.semantics.specs.declared.replayed.Step.{Step}
use Rattle.edge_trial.specs.Trials.Laws.{asked-within}
use Rattle.direct_search.specs.Passes.{leaves_by}
use Rattle.direct_search.specs.Passes.TooLong.{short-enough, too-long-unless}
use Rattle.direct_search.proofs.direct.all_too_long.Goals as goal

pub returns-then-asked : goal.returns-then-asked
returns-then-asked c =
    let a = c.args in
    short-enough a.index.now a.steps.now a.edges.now a.budget
    (asked-within (length a.edges.now + 1) a.budget c.admitted_length-asked.ensures c.if-asked.true)

pub returns : goal.returns
returns c =
    let a = c.args in
    too-long-unless a.index.now a.steps.now a.edges.now a.budget
    (asked-within (length a.edges.now + 1) a.budget c.admitted_length-asked.ensures c.if-asked.false)
    c.leaves.result
    (c.leaves.ensures ∙ ap (λ (s : Step). leaves_by (edge_row a.index.now) s.end a.edges.now) c.get_step.ensures)
