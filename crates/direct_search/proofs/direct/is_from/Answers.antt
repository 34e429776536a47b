-- `direct_search::direct::is_from`: by the kind of the edge.
use mathlib.Core.Path.{sym, ap, ◌∙◌}
use Rattle.direct_search.specs.Passes.{is_from}
use Rattle.direct_search.proofs.direct.is_from.Goals as goal

pub returns-in-Removed : goal.returns-in-Removed
returns-in-Removed c = ap (is_from c.args.node) (sym c.in-Removed.is ∙ c.edge.ensures)

pub returns-in-Live : goal.returns-in-Live
returns-in-Live c = ap (is_from c.args.node) (sym c.in-Live.is ∙ c.edge.ensures)
