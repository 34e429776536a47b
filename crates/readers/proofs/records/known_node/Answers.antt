-- `readers::records::known_node`: removed or not.
use mathlib.Core.Path.{◌≡◌, sym, ap, ◌∙◌}
use mathlib.Core.Bool.{true, false}
use Rattle.semantics.specs.Graph.{traits}
use Rattle.semantics.specs.Reading.{node_unless, node_read}
use Rattle.readers.proofs.records.known_node.Goals as goal

pub returns-then-is_removed : goal.returns-then-is_removed
unfolding node_unless
returns-then-is_removed c =
    let a = c.args in
    let x = c.node-node.result in
    let e : (traits x).removed ≡ true = sym c.is_removed.ensures ∙ c.if-is_removed.true in
    sym (ap (λ b. node_unless b a.n x) e) ∙ ap (node_read a.n) c.node-node.ensures

pub returns : goal.returns
unfolding node_unless
returns c =
    let a = c.args in
    let x = c.node-node.result in
    let e : (traits x).removed ≡ false = sym c.is_removed.ensures ∙ c.if-is_removed.false in
    sym (ap (λ b. node_unless b a.n x) e) ∙ ap (node_read a.n) c.node-node.ensures
