-- `rewriting::write::write_edges`: the edges passed so far are written, and `at` is the place behind them.
use Prim.Native.Nat.{ℕ, ◌+◌, ◌≤◌}
use native.Mathlib.Omega.{arith}
use mathlib.Core.Path.{◌≡◌, refl, ap, ◌∙◌}
use lib.ListN.{length}
use Rattle.semantics.specs.declared.graph.Edge.{Edge}
use Rattle.semantics.specs.Bytes.Placed.{put}
use Rattle.semantics.specs.Image.Encoding.{encode_edge, encode_edges}
use Rattle.storage.specs.Index.{edge_row}
use Rattle.rewriting.specs.Held.{first_of, edges_in, none_written, next_fits, next_place, next-written, edges-next}
use Rattle.rewriting.proofs.write.write_edges.Goals as goal

pub loop-e-init : goal.loop-e-init
unfolding first_of encode_edges
loop-e-init c = let a = c.args in (refl, omega arith, none_written a.from a.area.now)

pub write_edge-at-requires : goal.write_edge-at-requires
write_edge-at-requires c =
    let a = c.args in let l = c.loop-e in
    let h : l.at + length (encode_edge (edge_row a.index.now l.e)) ≤ length a.area.now = next_fits encode_edges encode_edge edges-next (edge_row a.index.now) a.from l.e a.edges l.at (length a.area.now) c.loop-e-test.true l.invariant.1 c.requires.edges_in_bounds in
    let e = ap (λ (x : Edge). length (encode_edge x)) c.edge.ensures in
    omega arith

pub loop-e-preserved : goal.loop-e-preserved
loop-e-preserved c =
    let a = c.args in let l = c.loop-e in
    let h : l.at + length (encode_edge (edge_row a.index.now l.e)) ≤ length a.area.now = next_fits encode_edges encode_edge edges-next (edge_row a.index.now) a.from l.e a.edges l.at (length a.area.now) c.loop-e-test.true l.invariant.1
    c.requires.edges_in_bounds in
    let e = ap (λ (x : Edge). length (encode_edge x)) c.edge.ensures in
    let r : c.write_edge-at.result ≡ l.at + length (encode_edge (edge_row a.index.now l.e)) = c.write_edge-at.ensures.value ∙ ap (λ (i : ℕ). l.at + i) e in
    let written = c.write_edge-at.ensures.area_after ∙ ap (λ (x : Edge). put l.at (encode_edge x) l.area) c.edge.ensures in (
      omega arith,
      next_place encode_edges encode_edge edges-next (edge_row a.index.now) a.from l.e l.at _ l.invariant.1 r,
      next-written encode_edges encode_edge edges-next (edge_row a.index.now) a.from l.e l.at a.area.now l.invariant.1 h l.invariant.2 written,
    )

pub returns : goal.returns
returns c =
    let a = c.args in let l = c.loop-e in
    let z : l.e ≡ a.edges = omega arith in
    l.invariant.2 ∙ ap (λ (i : ℕ). put a.from (encode_edges (edges_in a.index.now i)) a.area.now) z
