use native.Mathlib.Omega.{arith}
use mathlib.Core.Path.{ap, ◌∙◌}
use Rattle.semantics.specs.PartialPaths.{target_of}
use Rattle.storage.specs.Index.{edge_row}
use Rattle.partial_state.specs.Routes.{source_of}
use Rattle.partial_state.specs.Routes.Laws.{ends_some, ends-none}
use Rattle.partial_state.proofs.route.ends_of.Goals as goal

pub returns-then-count-gt0 : goal.returns-then-count-gt0
returns-then-count-gt0 c =
    let a = c.args in
    ends_some (edge_row a.index.now) a.item.now (omega (arith, c.if-count-gt0.true))
    (c.source_of.ensures ∙ ap source_of c.edge-first.ensures)
    (c.target_of.ensures ∙ ap target_of c.edge-last.ensures)

pub returns : goal.returns
returns c = let a = c.args in ends-none (edge_row a.index.now) a.item.now (omega (arith, c.if-count-gt0.false))
