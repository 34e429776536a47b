-- one word behind the other
use mathlib.Core.List.{[], ◌∷◌}
use Rattle.path_words.specs.PathWords.Laws.{adds_then}
use Rattle.path_words.proofs.put.put_item.Goals as goal

pub returns : goal.returns
returns c =
    let put2 = c.put in
    let put = c.put-next in
    let a = c.args in
    adds_then a.area.now put.new.area put2.new.area a.at put.result put2.result (a.kind ∷ []) (a.number ∷ []) put.ensures
    put2.ensures
