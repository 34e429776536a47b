-- `flow_directory::isin::is_in_form`: what stands from i on decides.
use mathlib.Core.Path.{◌≡◌}
use lib.ListN.{drop}
use Rattle.semantics.specs.Isin.{in_form}
use Rattle.flow_directory.proofs.isin.is_in_form.Given as goal

abbrev pub invariant-loop-i : goal.invariant-loop-i
invariant-loop-i l = (in_form 0 l.isin ≡ in_form l.i (drop l.i l.isin))
