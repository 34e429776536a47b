-- `storage::store::is_start`: the kind and the flag decide.
use mathlib.Core.Path.{◌∙◌}
use mathlib.Core.Bool.{false}
use mathlib.Core.List.{[], ◌∷◌}
use mathlib.Core.Logic.{inl, inr, ⊎_elim}
use Rattle.storage.specs.Index.Laws.{marked-one, marked-none, start-row}
use Rattle.storage.proofs.store.is_start.Goals as goal

pub returns-in-3 : goal.returns-in-3
returns-in-3 c =
    let a = c.args in let w = c.word in
    c.is_marked.ensures ∙ marked-one (3 ∷ 4 ∷ 6 ∷ []) false a.index.now a.n.0 w.result w.ensures (inl c.in-3.is) ∙ start-row a.index.now a.n.0

pub returns-in-4 : goal.returns-in-4
returns-in-4 c =
    let a = c.args in let w = c.word in
    c.is_marked-in-4.ensures ∙ marked-one (3 ∷ 4 ∷ 6 ∷ []) false a.index.now a.n.0 w.result w.ensures (inr c.in-4.is) ∙ start-row a.index.now a.n.0

pub returns-in_default : goal.returns-in_default
returns-in_default c =
    let a = c.args in let w = c.word in
    marked-none (3 ∷ 4 ∷ 6 ∷ []) false a.index.now a.n.0 w.result w.ensures (⊎_elim c.in_default.in_default-own.rest.0.1 c.in_default.in_default-own.rest.1) ∙ start-row a.index.now a.n.0
