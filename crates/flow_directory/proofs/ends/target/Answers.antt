-- `flow_directory::ends::target`: by the kind of the edge.
use mathlib.Core.Path.{sym, ap, ◌∙◌}
use Rattle.flow_directory.specs.Ends.{target_of}
use Rattle.flow_directory.proofs.ends.target.Goals as goal

pub returns-in-Removed : goal.returns-in-Removed
returns-in-Removed c = ap target_of (sym c.in-Removed.is ∙ c.edge.ensures)

pub returns-in-Live : goal.returns-in-Live
returns-in-Live c = ap target_of (sym c.in-Live.is ∙ c.edge.ensures)
