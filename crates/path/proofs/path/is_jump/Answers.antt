use mathlib.Core.Path.{sym, ap, ◌∙◌}
use Rattle.path.specs.Values.{is_jump_edge}
use Rattle.path.proofs.path.is_jump.Goals as goal

pub returns-in-Removed : goal.returns-in-Removed
returns-in-Removed c = ap is_jump_edge (sym c.in-Removed.is ∙ c.edge.ensures)

pub returns-in-Live : goal.returns-in-Live
returns-in-Live c = ap is_jump_edge (sym c.in-Live.is ∙ c.edge.ensures)
