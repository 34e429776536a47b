-- `rewriting::write::write_image`: header, nodes and edges, one behind the other.
use native.Mathlib.Omega.{arith}
use Rattle.std.proofs.Common.{ℕ, ◌-◌, ap, ◌∙◌}
use Rattle.semantics.specs.Bytes.Placed.{put}
use Rattle.image.specs.Versions.{number_of, width_of, number-byte}
use Rattle.rewriting.specs.Whole.{header_bytes, size-parts, image-written}
use Rattle.rewriting.proofs.write.write_image.Goals as goal

pub overflow_sub-follow : goal.overflow_sub-follow
overflow_sub-follow c =
    let a = c.args in
    let t = size-parts (number_of a.version) (width_of a.version) a.size a.counts a.index.now c.requires.size_value in
    omega arith

pub write_header-requires : goal.write_header-requires
write_header-requires c =
    let a = c.args in
    let t = size-parts (number_of a.version) (width_of a.version) a.size a.counts a.index.now c.requires.size_value in
    record { version_bound = omega (arith, c.number.ensures, number-byte a.version); in_bounds = omega arith }

pub write_nodes-middle-requires : goal.write_nodes-middle-requires
write_nodes-middle-requires c =
    let a = c.args in
    let t = size-parts (number_of a.version) (width_of a.version) a.size a.counts a.index.now c.requires.size_value in
    record { blocks = c.requires.blocks; nodes_in_bounds = omega arith }

pub write_edges-requires : goal.write_edges-requires
write_edges-requires c =
    let a = c.args in
    let t = size-parts (number_of a.version) (width_of a.version) a.size a.counts a.index.now c.requires.size_value in
    record { blocks = c.requires.blocks; edges_in_bounds = omega (arith, c.write_nodes-middle.ensures.value) }

pub returns : goal.returns
returns c =
    let a = c.args in
    image-written (number_of a.version) (width_of a.version) a.size a.counts a.index.now c.requires.size_value a.area.now c.write_nodes-middle.result
    c.requires.size_in_bounds (c.write_header.ensures ∙ ap (λ (v : ℕ). put 0 (header_bytes v (a.size - 5) a.counts) a.area.now) c.number.ensures) c.write_nodes-middle.ensures.value
    c.write_nodes-middle.ensures.area_after c.write_edges.ensures
