-- `finding::name::leads_to`: by the kind of the edge.
use mathlib.Core.Path.{sym, ap, ◌∙◌}
use Rattle.finding.specs.Names.{leads_to}
use Rattle.finding.proofs.name.leads_to.Goals as goal

pub returns-in-Removed : goal.returns-in-Removed
returns-in-Removed c = ap (leads_to c.args.node) (sym c.in-Removed.is ∙ c.edge.ensures)

pub returns-in-Live : goal.returns-in-Live
returns-in-Live c = ap (leads_to c.args.node) (sym c.in-Live.is ∙ c.edge.ensures)
