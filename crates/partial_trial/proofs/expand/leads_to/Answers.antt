-- `partial_trial::expand::leads_to`: by the file, or by lacking one.
use mathlib.Core.Path.{◌∙◌}
use Rattle.storage.specs.Index.{node_row}
use Rattle.partial_trial.specs.Expansions.Laws.{to-file, to-fileless, to_none}
use Rattle.partial_trial.proofs.expand.leads_to.Goals as goal

pub returns-then-own : goal.returns-then-own
returns-then-own c = let a = c.args in c.is_of_file.ensures ∙ to-file a.owner a.own (node_row a.index.now a.target.0) c.if-own.true

pub returns-then-own-2 : goal.returns-then-own-2
returns-then-own-2 c = let a = c.args in c.lacks_file.ensures ∙ to-fileless a.owner a.own (node_row a.index.now a.target.0) c.if-own.false c.if-own-2.true

pub returns : goal.returns
returns c = let a = c.args in to_none a.owner a.own (node_row a.index.now a.target.0) c.if-own.false c.if-own-2.false
