-- `pop` meets its contract: the slot in the front of the item, and zeros behind.
use mathlib.Core.Path.{◌≡◌}
use lib.ListN.{length}
use Rattle.search_state.specs.Items.Laws.{clear-back}
use borrow.Author.Rules.{rules}
use Rattle.search_state.proofs.search.pop.Goals as goal

pub returns : goal.returns
returns c =
    let a = c.args in
    let p = c.requires in
    let w = c.pop.new.into in
    record { words = w; pops = c.pop.ensures; laid = let l : length w ≡ a.frontier.length = search rules in clear-back a.frontier.length w a.item.now l p.3 }
