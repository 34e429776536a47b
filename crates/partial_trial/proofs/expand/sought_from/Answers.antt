-- `partial_trial::expand::sought_from`: nobody first, then what the node is.
use Rattle.storage.specs.Index.{node_row}
use Rattle.partial_trial.specs.Expansions.Laws.{from-nobody, from-file}
use Rattle.partial_trial.proofs.expand.sought_from.Goals as goal

pub returns-then-owner-eq-NOBODY : goal.returns-then-owner-eq-NOBODY
returns-then-owner-eq-NOBODY c = let a = c.args in from-nobody (node_row a.index.now a.node) c.if-owner-eq-NOBODY.true c.lacks_file.ensures

pub returns : goal.returns
returns c = let a = c.args in from-file (node_row a.index.now a.node) c.if-owner-eq-NOBODY.false c.is_of_file.ensures
