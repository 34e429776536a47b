-- one word behind the other
use mathlib.Core.List.{[], ◌∷◌}
use Rattle.path_words.specs.PathWords.Laws.{adds_then}
use Rattle.path_words.proofs.put.put_wide.Goals as goal

pub returns : goal.returns
returns c =
    let put = c.put in
    let put_item = c.put_item-next in
    let a = c.args in
    adds_then a.area.now put_item.new.area put.new.area a.at put_item.result put.result (a.kind ∷ a.high ∷ []) (a.low ∷ [])
    put_item.ensures put.ensures
