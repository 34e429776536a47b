-- `storage::store::node`: each kind reads its words.
use Prim.Native.Nat.{◌+◌, ◌*◌}
use mathlib.Core.Path.{refl, ap, ◌∙◌}
use lib.ListN.{get_or}
use Rattle.semantics.specs.declared.graph.Node.TheVariants as N
use Rattle.semantics.specs.Graph.{node_id, file_id}
use Rattle.semantics.specs.Halves.{joined}
use Rattle.storage.specs.Index.{BLOCK, KIND, FLAG, FILE, SYMBOL, SYMBOL-HIGH, SCOPE, node_of}
use Rattle.storage.specs.Index.Laws.{node_in, node-out, no_kind}
use Rattle.storage.proofs.store.node.Goals as goal

pub returns-then-index-at : goal.returns-then-index-at
returns-then-index-at c = node-out c.args.index.now c.args.n.0 c.if-index-at.true

pub returns-in-1 : goal.returns-in-1
unfolding node_of
returns-in-1 c = node_in c.args.index.now c.args.n.0 1 c.in-1.is

pub returns-in-2 : goal.returns-in-2
unfolding node_of
returns-in-2 c = node_in c.args.index.now c.args.n.0 2 c.in-2.is

pub returns-in-3 : goal.returns-in-3
unfolding node_of
returns-in-3 c =
    let l = c.args.index.now in let k = c.args.n.0 in
    ap (N.Scope (file_id (get_or l (BLOCK * k + FILE) 0))) c.flag.ensures ∙ node_in l k 3 c.in-3.is

pub returns-in-4 : goal.returns-in-4
unfolding node_of
returns-in-4 c =
    let l = c.args.index.now in let k = c.args.n.0 in
    (λ i. N.Push (file_id (get_or l (BLOCK * k + FILE) 0)) (c.symbol.ensures i) (c.flag-in-4.ensures i)) ∙ node_in l k 4 c.in-4.is

pub returns-in-5 : goal.returns-in-5
unfolding node_of
returns-in-5 c =
    let l = c.args.index.now in let k = c.args.n.0 in
    (λ i. N.Pop (file_id (get_or l (BLOCK * k + FILE) 0)) (c.symbol-in-5.ensures i) (c.flag-in-5.ensures i)) ∙ node_in l k 5 c.in-5.is

pub returns-in-6 : goal.returns-in-6
unfolding node_of
returns-in-6 c =
    let l = c.args.index.now in let k = c.args.n.0 in
    (λ i. N.PushScoped (file_id (get_or l (BLOCK * k + FILE) 0)) (c.symbol-in-6.ensures i) (node_id (get_or l (BLOCK * k + SCOPE) 0)) (c.flag-in-6.ensures i)) ∙ node_in l k 6 c.in-6.is

pub returns-in-7 : goal.returns-in-7
unfolding node_of
returns-in-7 c =
    let l = c.args.index.now in let k = c.args.n.0 in
    (λ i. N.PopScoped (file_id (get_or l (BLOCK * k + FILE) 0)) (c.symbol-in-7.ensures i) (c.flag-in-7.ensures i)) ∙ node_in l k 7 c.in-7.is

pub returns-in-8 : goal.returns-in-8
unfolding node_of
returns-in-8 c = node_in c.args.index.now c.args.n.0 8 c.in-8.is

pub returns-in_default : goal.returns-in_default
returns-in_default c =
    let l = c.args.index.now in let k = c.args.n.0 in let r = c.in_default.in_default-own.rest in
    no_kind (get_or l (BLOCK * k + KIND) 0) (get_or l (BLOCK * k + FLAG) 0) (get_or l (BLOCK * k + FILE) 0) (joined (get_or l (BLOCK * k + SYMBOL) 0) (get_or l (BLOCK * k + SYMBOL-HIGH) 0)) (get_or l (BLOCK * k + SCOPE) 0)
    r.0.0.0.0.0.0.0.1 r.0.0.0.0.0.0.1 r.0.0.0.0.0.1 r.0.0.0.0.1 r.0.0.0.1 r.0.0.1 r.0.1 r.1
    ∙ node_in l k (get_or l (BLOCK * k + KIND) 0) refl
