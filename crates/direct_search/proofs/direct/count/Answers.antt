-- `direct_search::direct::count`: what each trial adds or leads to.
use mathlib.Core.Path.{sym, ap, ◌∙◌}
use Rattle.direct_search.specs.declared.direct.Counted.TheVariants as Counted
use Rattle.direct_search.specs.Passes.{counted_by}
use Rattle.direct_search.proofs.direct.count.Goals as goal

pub returns-in-Cut : goal.returns-in-Cut
returns-in-Cut c = ap Counted.More c.cut.ensures ∙ sym (ap (counted_by c.args.passed) c.in-Cut.is)

pub returns-in-Overlong : goal.returns-in-Overlong
returns-in-Overlong c = ap Counted.More c.measure.ensures ∙ sym (ap (counted_by c.args.passed) c.in-Overlong.is)

pub returns-in-Rejected : goal.returns-in-Rejected
returns-in-Rejected c = ap Counted.More c.reject.ensures ∙ sym (ap (counted_by c.args.passed) c.in-Rejected.is)

pub returns-in-TooLong : goal.returns-in-TooLong
returns-in-TooLong c = sym (ap (counted_by c.args.passed) c.in-TooLong.is)

pub returns-in-Extended : goal.returns-in-Extended
returns-in-Extended c = sym (ap (counted_by c.args.passed) c.in-Extended.is)
