-- `image::record::body_size`: each kind as the definition has it.
use mathlib.Core.Path.{sym, ◌∙◌}
use native.Mathlib.Omega.{arith}
use Rattle.image.specs.Records.Laws.{width_few, size-scope, size-named, size-plain, size-drop, size-bare}
use Rattle.image.specs.Versions.{width_of, width-known}
use Rattle.image.proofs.record.body_size.Goals as goal

pub overflow_add-result : goal.overflow_add-result
overflow_add-result c = omega (arith, width_few (width-known c.args.version))

pub returns-then-kind-eq-PUSH_SCOPED : goal.returns-then-kind-eq-PUSH_SCOPED
returns-then-kind-eq-PUSH_SCOPED c = let e = size-scope (width_of c.args.version) c.if-kind-eq-PUSH_SCOPED.true in omega (arith, e)

pub overflow_add-result-then-has_symbol : goal.overflow_add-result-then-has_symbol
overflow_add-result-then-has_symbol c = omega (arith, width_few (width-known c.args.version))

pub returns-then-has_symbol : goal.returns-then-has_symbol
returns-then-has_symbol c =
    let e = size-named (width_of c.args.version) c.args.kind c.requires (sym c.has_symbol.ensures ∙ c.if-has_symbol.true) c.if-kind-eq-PUSH_SCOPED.false in
    omega (arith, e)

pub returns-then-kind-eq-SCOPE : goal.returns-then-kind-eq-SCOPE
returns-then-kind-eq-SCOPE c = sym (size-plain (width_of c.args.version) c.if-kind-eq-SCOPE.true)

pub returns-then-kind-eq-DROP_SCOPES : goal.returns-then-kind-eq-DROP_SCOPES
returns-then-kind-eq-DROP_SCOPES c = sym (size-drop (width_of c.args.version) c.if-kind-eq-DROP_SCOPES.true)

pub returns : goal.returns
returns c =
    size-bare (width_of c.args.version) c.args.kind c.requires (sym c.has_symbol.ensures ∙ c.if-has_symbol.false) c.if-kind-eq-SCOPE.false c.if-kind-eq-DROP_SCOPES.false
