-- `rewriting::symbols::count_symbols`: the count is that of the nodes passed so far.
use Prim.Native.Nat.{ℕ}
use native.Mathlib.Omega.{arith}
use mathlib.Core.Path.{◌≡◌, refl, ap, ◌∙◌}
use Rattle.semantics.specs.declared.graph.Node.{Node}
use Rattle.semantics.specs.Image.Encoding.{symbol_of, one_if, symbols_in}
use Rattle.storage.specs.Index.{node_row}
use Rattle.rewriting.specs.Held.{first_of, nodes_in, one-most, symbols-next}
use Rattle.rewriting.proofs.symbols.count_symbols.Goals as goal

pub loop-n-init : goal.loop-n-init
unfolding first_of
loop-n-init c = (omega arith, refl)

pub overflow_add-count : goal.overflow_add-count
overflow_add-count c =
    let a = c.args in let l = c.loop-n in
    let e : c.symbols-count.result ≡ one_if (symbol_of (node_row a.index.now l.n)) = c.symbols-count.ensures ∙ ap (λ (x : Node). one_if (symbol_of x)) c.node.ensures in
    let b = one-most (symbol_of (node_row a.index.now l.n)) in
    omega arith

pub loop-n-preserved : goal.loop-n-preserved
loop-n-preserved c =
    let a = c.args in let l = c.loop-n in
    let e : c.symbols-count.result ≡ one_if (symbol_of (node_row a.index.now l.n)) = c.symbols-count.ensures ∙ ap (λ (x : Node). one_if (symbol_of x)) c.node.ensures in
    let b = one-most (symbol_of (node_row a.index.now l.n)) in
    let s = symbols-next (node_row a.index.now) l.n in
    (omega arith, omega arith)

pub returns : goal.returns
returns c =
    let a = c.args in let l = c.loop-n in
    let z : l.n ≡ a.nodes = omega arith in
    record { value = l.invariant.1 ∙ ap (λ (i : ℕ). symbols_in (nodes_in a.index.now i)) z; upper_bound = omega arith }
