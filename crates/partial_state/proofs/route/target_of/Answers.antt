use mathlib.Core.Path.{sym, ap}
use Rattle.semantics.specs.PartialPaths.{target_of}
use Rattle.partial_state.proofs.route.target_of.Goals as goal

pub returns-in-Removed : goal.returns-in-Removed
unfolding target_of
returns-in-Removed c = sym (ap target_of c.in-Removed.is)

pub returns-in-Live : goal.returns-in-Live
unfolding target_of
returns-in-Live c = sym (ap target_of c.in-Live.is)
