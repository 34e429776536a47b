-- `storage::store::is_reference`: the kind and the flag decide.
use mathlib.Core.Path.{◌∙◌}
use mathlib.Core.Bool.{false}
use mathlib.Core.List.{[], ◌∷◌}
use Rattle.storage.specs.Index.Laws.{marked-one, marked-none, reference-row}
use Rattle.storage.proofs.store.is_reference.Goals as goal

pub returns-in-4 : goal.returns-in-4
returns-in-4 c =
    let a = c.args in let w = c.word in
    c.is_marked.ensures ∙ marked-one (4 ∷ 6 ∷ []) false a.index.now a.n.0 w.result w.ensures c.in-4.is ∙ reference-row a.index.now a.n.0

pub returns-in_default : goal.returns-in_default
returns-in_default c =
    let a = c.args in let w = c.word in
    marked-none (4 ∷ 6 ∷ []) false a.index.now a.n.0 w.result w.ensures c.in_default.in_default-own.rest.1 ∙ reference-row a.index.now a.n.0
