use Rattle.std.specs.Prelude.{◌+◌, ◌||◌, Bool, true, false, eqb, drop, get_or, refl}
use mathlib.Core.Path.{◌≡◌, ap, ◌∙◌}
use Rattle.semantics.specs.Lists.{or, has}
use Rattle.search_state.specs.Items.Laws.{has_one, has_all}
use Rattle.search_state.proofs.path_slot.contains.Goals as goal

turned : (a b : Bool) → (a || b) ≡ or b a
turned true true = refl
turned true false = refl
turned false true = refl
turned false false = refl

pub loop-other-preserved : goal.loop-other-preserved
loop-other-preserved c =
    let a = c.args in
    let l = c.loop-other in
    ap (λ (f : Bool). or f (has a.edge (drop (l.other-index + 1) a.edges.now))) (turned l.found (eqb a.edge (get_or a.edges.now l.other-index 0)))
    ∙ has_one a.edge a.edges.now l.other-index l.found c.loop-other-test.true
    ∙ l.invariant

pub returns : goal.returns
returns c = let a = c.args in let l = c.loop-other in has_all a.edge a.edges.now l.other-index l.found c.loop-other-test.false ∙ l.invariant
