-- `storage::refs::edge_fits`: removed, or both ends by their words.
use mathlib.Core.Path.{sym, ap, ap₂, ◌∙◌}
use Prim.Native.Nat.{ℕ, ◌-◌}
use native.Mathlib.Omega.{arith}
use Rattle.semantics.specs.declared.graph.Edge.TheVariants as E
use Rattle.semantics.specs.Acceptance.{edge_fits}
use Rattle.semantics.specs.Bytes.{signed}
use Rattle.semantics.specs.Graph.{node_id, view_of}
use Rattle.storage.specs.Index.{PRECEDENCE, cell}
use Rattle.storage.specs.References.Laws.{edge-removed, edge-live}
use Rattle.storage.proofs.refs.edge_fits.Goals as goal

pub returns-then-source-lt1 : goal.returns-then-source-lt1
unfolding edge_fits
returns-then-source-lt1 c =
    let a = c.args in
    λ g k. sym (ap (edge_fits (view_of g)) (edge-removed g a.index.now k a.e (omega (arith, c.word-source.ensures))))

pub returns : goal.returns
returns c =
    let a = c.args in let l = a.index.now in
    λ g k. c.ends_fit.ensures g (signed (cell l PRECEDENCE a.e)) k
    ∙ ap₂ (λ (s t : ℕ). edge_fits (view_of g) (E.Live (node_id (s - 1)) (node_id t) (signed (cell l PRECEDENCE a.e)))) c.word-source.ensures c.word.ensures
    ∙ sym (ap (edge_fits (view_of g)) (edge-live g l k a.e (omega (arith, c.word-source.ensures))))
