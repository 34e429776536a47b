-- `direct_search::direct::add`: behind the last number there is nothing to add to.
use Rattle.direct_search.specs.Counting.Laws.{added-behind}
use Rattle.direct_search.proofs.direct.add.Goals as goal

pub returns-else-at-numbers : goal.returns-else-at-numbers
returns-else-at-numbers c = let a = c.args in added-behind a.numbers.now a.at a.more c.if-at-numbers.false
