-- `storage::store::is_endpoint`: root and jump by their kinds, for others the kind and the flag decide.
use Prim.Native.Nat.{ℕ}
use mathlib.Core.Path.{sym, ap, ◌∙◌}
use mathlib.Core.List.{[], ◌∷◌}
use mathlib.Core.Logic.{⊎_elim}
use Rattle.semantics.specs.Lists.{has}
use Rattle.semantics.specs.Graph.{is_endpoint}
use Rattle.storage.specs.Index.{cell, KIND, node_of}
use Rattle.storage.specs.Index.Laws.{node_in, has-none, marked-one, marked-none, endpoint-row}
use Rattle.storage.proofs.store.is_endpoint.Goals as goal

pub returns-in-1 : goal.returns-in-1
unfolding cell node_of
returns-in-1 c =
    let a = c.args in let w = c.word in
    ap is_endpoint (node_in a.index.now a.n.0 1 (sym w.ensures ∙ c.in-1.is))

pub returns-in-2 : goal.returns-in-2
unfolding cell node_of
returns-in-2 c =
    let a = c.args in let w = c.word in
    ap is_endpoint (node_in a.index.now a.n.0 2 (sym w.ensures ∙ c.in-2.is))

pub returns-in-3 : goal.returns-in-3
returns-in-3 c =
    let a = c.args in let w = c.word in
    c.is_marked.ensures ∙ marked-one (3 ∷ 5 ∷ 7 ∷ []) (has (cell a.index.now KIND a.n.0) (1 ∷ 2 ∷ [])) a.index.now a.n.0 w.result w.ensures c.in-3.is ∙ endpoint-row a.index.now a.n.0

pub returns-in_default : goal.returns-in_default
returns-in_default c =
    let w = c.word in
    let a = c.args in
    sym (ap (λ (k : ℕ). has k (1 ∷ 2 ∷ [])) (sym w.ensures)
    ∙ has-none (1 ∷ 2 ∷ []) w.result (⊎_elim c.in_default.in_default-own.rest.0.0.1 c.in_default.in_default-own.rest.0.1))
    ∙ marked-none (3 ∷ 5 ∷ 7 ∷ []) (has (cell a.index.now KIND a.n.0) (1 ∷ 2 ∷ [])) a.index.now a.n.0 w.result w.ensures
    c.in_default.in_default-own.rest.1
    ∙ endpoint-row a.index.now a.n.0
