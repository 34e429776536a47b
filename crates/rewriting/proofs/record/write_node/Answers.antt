-- `rewriting::record::write_node`: each kind of node has its record.
use native.Mathlib.Omega.{arith}
use Prim.Native.Nat.{◌+◌}
use Rattle.semantics.specs.Image.{body_size}
use Rattle.semantics.specs.Image.Encoding.{encode_node}
use Rattle.rewriting.specs.Records.{node-room, node-written}
use Rattle.image.specs.Versions.{width_of}
use Rattle.rewriting.proofs.record.write_node.Goals as goal

pub write_bare-requires : goal.write_bare-requires
unfolding body_size
write_bare-requires c =
    let a = c.args in
    let h = node-room (width_of a.version) a.at _ a.node _ c.in-Removed.is c.requires in
    record { kind_bound = omega arith; at_in_bounds = omega arith }

pub write_bare-requires-in-Root : goal.write_bare-requires-in-Root
unfolding body_size
write_bare-requires-in-Root c =
    let a = c.args in
    let h = node-room (width_of a.version) a.at _ a.node _ c.in-Root.is c.requires in
    record { kind_bound = omega arith; at_in_bounds = omega arith }

pub write_bare-requires-in-JumpToScope : goal.write_bare-requires-in-JumpToScope
unfolding body_size
write_bare-requires-in-JumpToScope c =
    let a = c.args in
    let h = node-room (width_of a.version) a.at _ a.node _ c.in-JumpToScope.is c.requires in
    record { kind_bound = omega arith; at_in_bounds = omega arith }

pub write_scope-requires : goal.write_scope-requires
unfolding body_size
write_scope-requires c =
    let a = c.args in
    let h = node-room (width_of a.version) a.at _ a.node _ c.in-Scope.is c.requires in
    omega arith

pub write_named-requires : goal.write_named-requires
unfolding body_size
write_named-requires c =
    let a = c.args in
    let h = node-room (width_of a.version) a.at _ a.node _ c.in-Push.is c.requires in
    record { kind_bound = omega arith; version_in_bounds = omega arith }

pub write_named-requires-in-Pop : goal.write_named-requires-in-Pop
unfolding body_size
write_named-requires-in-Pop c =
    let a = c.args in
    let h = node-room (width_of a.version) a.at _ a.node _ c.in-Pop.is c.requires in
    record { kind_bound = omega arith; version_in_bounds = omega arith }

pub write_attached-requires : goal.write_attached-requires
unfolding body_size
write_attached-requires c =
    let a = c.args in
    let h = node-room (width_of a.version) a.at _ a.node _ c.in-PushScoped.is c.requires in
    omega arith

pub write_named-requires-in-PopScoped : goal.write_named-requires-in-PopScoped
unfolding body_size
write_named-requires-in-PopScoped c =
    let a = c.args in
    let h = node-room (width_of a.version) a.at _ a.node _ c.in-PopScoped.is c.requires in
    record { kind_bound = omega arith; version_in_bounds = omega arith }

pub write_drop-requires : goal.write_drop-requires
unfolding body_size
write_drop-requires c =
    let a = c.args in
    let h = node-room (width_of a.version) a.at _ a.node _ c.in-DropScopes.is c.requires in
    omega arith

pub returns-in-Removed : goal.returns-in-Removed
unfolding body_size encode_node
returns-in-Removed c =
    let a = c.args in
    let whole = node-written (width_of a.version) a.at a.area.now a.node _ _ (2) c.in-Removed.is (omega arith) c.write_bare.ensures.value c.write_bare.ensures.area_after in
    record { value = whole.0; area_after = whole.1 }

pub returns-in-Root : goal.returns-in-Root
unfolding body_size encode_node
returns-in-Root c =
    let a = c.args in
    let whole = node-written (width_of a.version) a.at a.area.now a.node _ _ (2) c.in-Root.is (omega arith) c.write_bare-in-Root.ensures.value c.write_bare-in-Root.ensures.area_after in
    record { value = whole.0; area_after = whole.1 }

pub returns-in-JumpToScope : goal.returns-in-JumpToScope
unfolding body_size encode_node
returns-in-JumpToScope c =
    let a = c.args in
    let whole = node-written (width_of a.version) a.at a.area.now a.node _ _ (2) c.in-JumpToScope.is (omega arith) c.write_bare-in-JumpToScope.ensures.value c.write_bare-in-JumpToScope.ensures.area_after in
    record { value = whole.0; area_after = whole.1 }

pub returns-in-Scope : goal.returns-in-Scope
unfolding body_size encode_node
returns-in-Scope c =
    let a = c.args in
    let whole = node-written (width_of a.version) a.at a.area.now a.node _ _ (5) c.in-Scope.is (omega arith) c.write_scope.ensures.value c.write_scope.ensures.area_after in
    record { value = whole.0; area_after = whole.1 }

pub returns-in-Push : goal.returns-in-Push
unfolding body_size encode_node
returns-in-Push c =
    let a = c.args in
    let whole = node-written (width_of a.version) a.at a.area.now a.node _ _ (5 + (width_of a.version)) c.in-Push.is (omega arith) c.write_named.ensures.value c.write_named.ensures.area_after in
    record { value = whole.0; area_after = whole.1 }

pub returns-in-Pop : goal.returns-in-Pop
unfolding body_size encode_node
returns-in-Pop c =
    let a = c.args in
    let whole = node-written (width_of a.version) a.at a.area.now a.node _ _ (5 + (width_of a.version)) c.in-Pop.is (omega arith) c.write_named-in-Pop.ensures.value c.write_named-in-Pop.ensures.area_after in
    record { value = whole.0; area_after = whole.1 }

pub returns-in-PushScoped : goal.returns-in-PushScoped
unfolding body_size encode_node
returns-in-PushScoped c =
    let a = c.args in
    let whole = node-written (width_of a.version) a.at a.area.now a.node _ _ (7 + (width_of a.version)) c.in-PushScoped.is (omega arith) c.write_attached.ensures.value c.write_attached.ensures.area_after in
    record { value = whole.0; area_after = whole.1 }

pub returns-in-PopScoped : goal.returns-in-PopScoped
unfolding body_size encode_node
returns-in-PopScoped c =
    let a = c.args in
    let whole = node-written (width_of a.version) a.at a.area.now a.node _ _ (5 + (width_of a.version)) c.in-PopScoped.is (omega arith) c.write_named-in-PopScoped.ensures.value c.write_named-in-PopScoped.ensures.area_after in
    record { value = whole.0; area_after = whole.1 }

pub returns-in-DropScopes : goal.returns-in-DropScopes
unfolding body_size encode_node
returns-in-DropScopes c =
    let a = c.args in
    let whole = node-written (width_of a.version) a.at a.area.now a.node _ _ (4) c.in-DropScopes.is (omega arith) c.write_drop.ensures.value c.write_drop.ensures.area_after in
    record { value = whole.0; area_after = whole.1 }
