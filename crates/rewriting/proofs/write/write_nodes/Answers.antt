-- `rewriting::write::write_nodes`: the nodes passed so far are written, and `at` is the place behind them.
use Prim.Native.Nat.{ℕ, ◌+◌, ◌≤◌}
use native.Mathlib.Omega.{arith}
use mathlib.Core.Path.{◌≡◌, refl, ap, ◌∙◌}
use lib.ListN.{length}
use Rattle.semantics.specs.declared.graph.Node.{Node}
use Rattle.semantics.specs.Bytes.Placed.{put}
use Rattle.semantics.specs.Image.Encoding.{encode_node, encode_nodes}
use Rattle.storage.specs.Index.{node_row}
use Rattle.rewriting.specs.Held.{first_of, nodes_in, none_written, next_fits, next_place, next-written, nodes-next}
use Rattle.image.specs.Versions.{width_of}
use Rattle.rewriting.proofs.write.write_nodes.Goals as goal

pub loop-n-init : goal.loop-n-init
unfolding first_of encode_nodes
loop-n-init c = let a = c.args in (refl, omega arith, none_written a.from a.area.now)

pub write_node-at-requires : goal.write_node-at-requires
write_node-at-requires c =
    let a = c.args in let l = c.loop-n in
    let h : l.at + length (encode_node (width_of a.version) (node_row a.index.now l.n)) ≤ length a.area.now = next_fits (encode_nodes (width_of a.version)) (encode_node (width_of a.version)) (nodes-next (width_of a.version)) (node_row a.index.now) a.from l.n a.nodes l.at (length a.area.now)
    c.loop-n-test.true l.invariant.1 c.requires.nodes_in_bounds in
    let e = ap (λ (x : Node). length (encode_node (width_of a.version) x)) c.node.ensures in
    omega arith

pub loop-n-preserved : goal.loop-n-preserved
loop-n-preserved c =
    let a = c.args in let l = c.loop-n in
    let h : l.at + length (encode_node (width_of a.version) (node_row a.index.now l.n)) ≤ length a.area.now = next_fits (encode_nodes (width_of a.version)) (encode_node (width_of a.version)) (nodes-next (width_of a.version)) (node_row a.index.now) a.from l.n a.nodes l.at (length a.area.now)
    c.loop-n-test.true l.invariant.1 c.requires.nodes_in_bounds in
    let e = ap (λ (x : Node). length (encode_node (width_of a.version) x)) c.node.ensures in
    let r : c.write_node-at.result ≡ l.at + length (encode_node (width_of a.version) (node_row a.index.now l.n)) = c.write_node-at.ensures.value ∙ ap (λ (i : ℕ). l.at + i) e in
    let written = c.write_node-at.ensures.area_after ∙ ap (λ (x : Node). put l.at (encode_node (width_of a.version) x) l.area) c.node.ensures in (
      omega arith,
      next_place (encode_nodes (width_of a.version)) (encode_node (width_of a.version)) (nodes-next (width_of a.version)) (node_row a.index.now) a.from l.n l.at _ l.invariant.1 r,
      next-written (encode_nodes (width_of a.version)) (encode_node (width_of a.version)) (nodes-next (width_of a.version)) (node_row a.index.now) a.from l.n l.at a.area.now l.invariant.1 h l.invariant.2 written,
    )

pub returns : goal.returns
returns c =
    let a = c.args in let l = c.loop-n in
    let z : l.n ≡ a.nodes = omega arith in
    record { value = l.invariant.1 ∙ ap (λ (i : ℕ). a.from + length (encode_nodes (width_of a.version) (nodes_in a.index.now i))) z; area_after = l.invariant.2 ∙ ap (λ (i : ℕ). put a.from (encode_nodes (width_of a.version) (nodes_in a.index.now i)) a.area.now) z }
