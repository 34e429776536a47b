-- `image::record::node`: each outcome of the record's test, and the node's words where it goes on.
use Prim.Native.Nat.{◌+◌}
use native.Mathlib.Omega.{arith}
use mathlib.Core.Path.{◌≡◌, refl, sym, ap, ◌∙◌}
use Rattle.semantics.specs.Answer.{ok}
use Rattle.semantics.specs.Bytes.{byte_at}
use Rattle.semantics.specs.Image.{body_size, next_place}
use Rattle.image.specs.Records.Laws.{whole, node-cut, no_kind, misplaced, miscounted, bare, by-fields, bare-put}
use Rattle.image.specs.Reached.Laws.{never}
use Rattle.image.specs.Versions.{width_of, width-known}
use Rattle.image.proofs.record.node.Goals as goal

pub returns-then-is_cut : goal.returns-then-is_cut
returns-then-is_cut c =
    let a = c.args in
    record { result_value = node-cut (width_of a.version) a.image.now a.files a.n a.at {kind = _} refl (sym c.is_cut.ensures ∙ c.if-is_cut.true); by_index = λ x e. absurd (never e) }

pub overflow_add-at : goal.overflow_add-at
overflow_add-at c = let w = whole c.args.image.now c.args.at (sym c.is_cut.ensures ∙ c.if-is_cut.false) in omega (arith, w.1)

pub byte-kind-requires : goal.byte-kind-requires
byte-kind-requires c = let w = whole c.args.image.now c.args.at (sym c.is_cut.ensures ∙ c.if-is_cut.false) in omega (arith, w.0, w.1)

pub overflow_cast-result : goal.overflow_cast-result
overflow_cast-result c = let w = whole c.args.image.now c.args.at (sym c.is_cut.ensures ∙ c.if-is_cut.false) in omega (arith, w.1)

pub returns-then-kind-gt-DROP_SCOPES : goal.returns-then-kind-gt-DROP_SCOPES
returns-then-kind-gt-DROP_SCOPES c =
    let a = c.args in
    record { result_value = no_kind (width_of a.version) a.image.now a.files a.n a.at (sym c.byte-kind.ensures.value) (sym c.is_cut.ensures ∙ c.if-is_cut.false) c.if-kind-gt-DROP_SCOPES.true; by_index = λ x e. absurd (never e) }

pub overflow_cast-result-then-not-may_stand : goal.overflow_cast-result-then-not-may_stand
overflow_cast-result-then-not-may_stand c =
    let a = c.args in
    let w = whole a.image.now a.at
    (sym c.is_cut.ensures ∙ c.if-is_cut.false) in
    omega (arith, w.1)

pub returns-then-not-may_stand : goal.returns-then-not-may_stand
returns-then-not-may_stand c =
    let a = c.args in record {
      result_value = misplaced (width_of a.version) a.image.now a.files a.n a.at (sym c.byte-kind.ensures.value)
          (sym c.is_cut.ensures ∙ c.if-is_cut.false) c.if-kind-gt-DROP_SCOPES.false
          (sym c.may_stand.ensures ∙ c.if-not-may_stand.true);
      by_index = λ x e. absurd (never e);
    }

pub byte-count-requires : goal.byte-count-requires
byte-count-requires c =
    let a = c.args in
    let w = whole a.image.now a.at
    (sym c.is_cut.ensures ∙ c.if-is_cut.false) in
    omega (arith, w.1)

pub returns-then-count-body_size : goal.returns-then-count-body_size
returns-then-count-body_size c =
    let may-stand = c.may_stand in
    let if1 = c.if-is_cut in
    let is_cut = c.is_cut in
    let a = c.args in record {
      result_value = miscounted (width_of a.version) a.image.now a.files a.n a.at (sym c.byte-kind.ensures.value)
          (sym is_cut.ensures ∙ if1.false) c.if-kind-gt-DROP_SCOPES.false
          (sym may-stand.ensures ∙ c.if-not-may_stand.false)
          (λ e. c.if-count-body_size.true (c.byte-count.ensures.value ∙ e ∙ sym c.body_size.ensures));
      by_index = λ x e. absurd (never e);
    }

pub overflow_add-result : goal.overflow_add-result
overflow_add-result c =
    let if1 = c.if-is_cut in
    let is_cut = c.is_cut in
    let a = c.args in
    let w = whole a.image.now a.at (sym is_cut.ensures ∙ if1.false) in
    omega (arith, w.1)

pub overflow_add-result-then-kind-lt-SCOPE : goal.overflow_add-result-then-kind-lt-SCOPE
overflow_add-result-then-kind-lt-SCOPE c =
    let if1 = c.if-is_cut in
    let is_cut = c.is_cut in
    let a = c.args in
    let w = whole a.image.now a.at (sym is_cut.ensures ∙ if1.false) in
    omega (arith, w.1)

pub returns-then-kind-lt-SCOPE : goal.returns-then-kind-lt-SCOPE
returns-then-kind-lt-SCOPE c =
    let if5 = c.if-kind-lt-SCOPE.true in
    let body-size = c.body_size in
    let byte2 = c.byte-count in
    let if3 = c.if-not-may_stand in
    let may-stand = c.may_stand in
    let if2 = c.if-kind-gt-DROP_SCOPES in
    let byte = c.byte-kind in
    let if1 = c.if-is_cut in
    let is_cut = c.is_cut in
    let a = c.args in
    let p = c.requires in
    let im = a.image.now in
    let s : byte_at im a.at ≡ body_size (width_of a.version) byte.result = sym byte2.ensures.value
    ∙ c.if-count-body_size.false
    ∙ body-size.ensures in
    let z : a.at + byte2.result + 1 ≡ next_place im a.at = omega (arith, byte2.ensures.value) in record {
      result_value = ap ok z
          ∙ bare (width_of a.version) im a.files a.n a.at (sym byte.ensures.value) (sym is_cut.ensures ∙ if1.false) if2.false
          (sym may-stand.ensures ∙ if3.false) s if5;
      by_index = λ x e. bare-put (width_of a.version) im a.n a.at a.index.now p.n_in_bounds (sym byte.ensures.value) if5 c.put_node.ensures;
    }

pub fields-requires : goal.fields-requires
fields-requires c =
    let if2 = c.if-kind-gt-DROP_SCOPES in
    let byte = c.byte-kind in
    let if1 = c.if-is_cut in
    let is_cut = c.is_cut in
    let a = c.args in
    let p = c.requires in
    let im = a.image.now in
    let s : byte_at im a.at ≡ body_size (width_of a.version) byte.result = sym c.byte-count.ensures.value
    ∙ c.if-count-body_size.false
    ∙ c.body_size.ensures in
    let w = whole im a.at (sym is_cut.ensures ∙ if1.false) in record {
      fielded = (
        record {
          low = c.if-kind-lt-SCOPE.false;
          high = if2.false;
          reads = sym byte.ensures.value;
          size = s;
          whole = omega (arith, w.1, s);
          small = p.image_len_bound;
          known = width-known a.version;
        },
        c.byte-count.ensures.value,
      );
      blocks = p.blocks;
      n_in_bounds = p.n_in_bounds;
    }

pub returns : goal.returns
returns c =
    let body-size = c.body_size in
    let byte2 = c.byte-count in
    let if3 = c.if-not-may_stand in
    let may-stand = c.may_stand in
    let if2 = c.if-kind-gt-DROP_SCOPES in
    let byte = c.byte-kind in
    let if1 = c.if-is_cut in
    let is_cut = c.is_cut in
    let a = c.args in
    let im = a.image.now in
    let s : byte_at im a.at ≡ body_size (width_of a.version) byte.result = sym byte2.ensures.value
    ∙ c.if-count-body_size.false
    ∙ body-size.ensures in record {
      result_value = c.fields.ensures.result_value
          ∙ by-fields (width_of a.version) im a.files a.n a.at (sym byte.ensures.value) (sym is_cut.ensures ∙ if1.false) if2.false
          (sym may-stand.ensures ∙ if3.false) s c.if-kind-lt-SCOPE.false;
      by_index = c.fields.ensures.by_index;
    }
