-- `storage::store::edge`: removed, or live with the precedence that its word stands for.
use Prim.Native.Nat.{◌+◌, ◌*◌, ◌-◌}
use mathlib.Core.Path.{ap, ◌∙◌}
use lib.ListN.{get_or}
use mir.Syntax.{w32}
use mir.ValLaws.{to_z-of_z}
use Rattle.semantics.specs.declared.graph.Edge.TheVariants as E
use Rattle.semantics.specs.Graph.{node_id}
use Rattle.storage.specs.Index.Laws.{edge_in, edge-out, words-removed, words-live}
use Rattle.storage.specs.Index.{BLOCK, SOURCE, TARGET, PRECEDENCE}
use Rattle.storage.proofs.store.edge.Goals as goal

pub returns-then-index-at : goal.returns-then-index-at
returns-then-index-at c = edge-out c.args.index.now c.args.e.0 c.if-index-at.true

pub returns-then-source-lt1 : goal.returns-then-source-lt1
returns-then-source-lt1 c =
    let l = c.args.index.now in let k = c.args.e.0 in
    words-removed (get_or l (BLOCK * k + SOURCE) 0) (get_or l (BLOCK * k + TARGET) 0) (get_or l (BLOCK * k + PRECEDENCE) 0) c.if-source-lt1.true ∙ edge_in l k

pub returns : goal.returns
returns c =
    let l = c.args.index.now in let k = c.args.e.0 in
    let z = to_z-of_z w32 _ (record { sfits = c.signed.type_inv }) in
    ap (E.Live (node_id (get_or l (BLOCK * k + SOURCE) 0 - 1)) (node_id (get_or l (BLOCK * k + TARGET) 0))) (z ∙ c.signed.ensures)
    ∙ words-live (get_or l (BLOCK * k + SOURCE) 0) (get_or l (BLOCK * k + TARGET) 0) (get_or l (BLOCK * k + PRECEDENCE) 0) c.if-source-lt1.false ∙ edge_in l k
