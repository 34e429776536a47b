use mathlib.Core.Path.{sym, ap}
use Rattle.partial_state.specs.Routes.{source_of}
use Rattle.partial_state.proofs.route.source_of.Goals as goal

pub returns-in-Removed : goal.returns-in-Removed
unfolding source_of
returns-in-Removed c = sym (ap source_of c.in-Removed.is)

pub returns-in-Live : goal.returns-in-Live
unfolding source_of
returns-in-Live c = sym (ap source_of c.in-Live.is)
