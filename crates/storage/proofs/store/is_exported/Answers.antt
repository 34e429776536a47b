-- `storage::store::is_exported`: the kind and the flag decide.
use mathlib.Core.Path.{◌∙◌}
use mathlib.Core.Bool.{false}
use mathlib.Core.List.{[], ◌∷◌}
use Rattle.storage.specs.Index.Laws.{marked-one, marked-none, exported-row}
use Rattle.storage.proofs.store.is_exported.Goals as goal

pub returns-in-3 : goal.returns-in-3
returns-in-3 c =
    let a = c.args in let w = c.word in
    c.is_marked.ensures ∙ marked-one (3 ∷ []) false a.index.now a.n.0 w.result w.ensures c.in-3.is ∙ exported-row a.index.now a.n.0

pub returns-in_default : goal.returns-in_default
returns-in_default c =
    let a = c.args in let w = c.word in
    marked-none (3 ∷ []) false a.index.now a.n.0 w.result w.ensures c.in_default.in_default-own.rest.1 ∙ exported-row a.index.now a.n.0
