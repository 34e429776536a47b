-- `storage::store::is_definition`: the kind and the flag decide.
use mathlib.Core.Path.{◌∙◌}
use mathlib.Core.Bool.{false}
use mathlib.Core.List.{[], ◌∷◌}
use Rattle.storage.specs.Index.Laws.{marked-one, marked-none, definition-row}
use Rattle.storage.proofs.store.is_definition.Goals as goal

pub returns-in-5 : goal.returns-in-5
returns-in-5 c =
    let a = c.args in let w = c.word in
    c.is_marked.ensures ∙ marked-one (5 ∷ 7 ∷ []) false a.index.now a.n.0 w.result w.ensures c.in-5.is ∙ definition-row a.index.now a.n.0

pub returns-in_default : goal.returns-in_default
returns-in_default c =
    let a = c.args in let w = c.word in
    marked-none (5 ∷ 7 ∷ []) false a.index.now a.n.0 w.result w.ensures c.in_default.in_default-own.rest.1 ∙ definition-row a.index.now a.n.0
