-- `finding::name::turn_back`: removed or not.
use mathlib.Core.Path.{◌≡◌, sym, ap, ◌∙◌}
use mathlib.Core.Bool.{true, false}
use Rattle.semantics.specs.declared.graph.Node.{Node}
use Rattle.semantics.specs.Graph.{traits}
use Rattle.storage.specs.Index.{node_row}
use Rattle.finding.proofs.name.turn_back.Goals as goal

pub returns-then-is_removed : goal.returns-then-is_removed
returns-then-is_removed c =
    let a = c.args in
    let e : (traits (node_row a.index.now a.node)).removed ≡ true = ap (λ (x : Node). (traits x).removed)
    (sym c.node.ensures) ∙ sym c.is_removed.ensures ∙ c.if-is_removed.true in
    rw e

pub returns : goal.returns
returns c =
    let a = c.args in
    let e : (traits (node_row a.index.now a.node)).removed ≡ false = ap (λ (x : Node). (traits x).removed)
    (sym c.node.ensures) ∙ sym c.is_removed.ensures ∙ c.if-is_removed.false in
    rw e
