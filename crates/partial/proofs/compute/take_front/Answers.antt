-- `take_front` meets its contract: the front of the item comes back as the route.
use mathlib.Core.Path.{◌≡◌, subst}
use mathlib.Core.List.{List}
use Prim.Native.Nat.{ℕ}
use lib.ListN.{length}
use Rattle.partial_state.specs.Extractions.{at, taken_at, Taking}
use Rattle.search_state.specs.Items.Laws.{front-back}
use borrow.Author.Rules.{rules}
use Rattle.partial.proofs.compute.take_front.Goals as goal

pub returns : goal.returns
returns c =
    let take = c.take in
    let a = c.args in
    let e : length take.new.item ≡ a.frame.slot = search rules in
    subst (λ (i : List ℕ). Taking (at a.frame a.on) a.work.now (taken_at a.frame take.result) i take.new.work)
    (front-back a.frame.slot take.new.item a.item.now e) take.ensures
