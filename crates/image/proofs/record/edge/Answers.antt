-- `image::record::edge`: each outcome of the record's test, and the edge's words where it goes on.
use Prim.Native.Nat.{◌+◌}
use native.Mathlib.Omega.{arith}
use mathlib.Core.Path.{◌≡◌, refl, sym, ap, ◌∙◌}
use Rattle.semantics.specs.Answer.{ok}
use Rattle.semantics.specs.Image.{next_place}
use Rattle.image.specs.Records.Laws.{whole, edge-cut, no-edge-kind, edge-miscounted, edge-sized, removed-put, live-put}
use Rattle.image.specs.Reached.Laws.{never}
use Rattle.image.proofs.record.edge.Goals as goal

pub returns-then-is_cut : goal.returns-then-is_cut
returns-then-is_cut c =
    let a = c.args in
    record { result_value = edge-cut a.image.now a.at {kind = _} refl (sym c.is_cut.ensures ∙ c.if-is_cut.true); by_index = λ x e. absurd (never e) }

pub overflow_add-at : goal.overflow_add-at
overflow_add-at c = let w = whole c.args.image.now c.args.at (sym c.is_cut.ensures ∙ c.if-is_cut.false) in omega (arith, w.1)

pub byte-kind-requires : goal.byte-kind-requires
byte-kind-requires c = let w = whole c.args.image.now c.args.at (sym c.is_cut.ensures ∙ c.if-is_cut.false) in omega (arith, w.0, w.1)

pub overflow_cast-result : goal.overflow_cast-result
overflow_cast-result c = let w = whole c.args.image.now c.args.at (sym c.is_cut.ensures ∙ c.if-is_cut.false) in omega (arith, w.1)

pub returns-then-kind-gt-LIVE : goal.returns-then-kind-gt-LIVE
returns-then-kind-gt-LIVE c =
    let a = c.args in
    record { result_value = no-edge-kind a.image.now a.at (sym c.byte-kind.ensures.value) (sym c.is_cut.ensures ∙ c.if-is_cut.false) c.if-kind-gt-LIVE.true; by_index = λ x e. absurd (never e) }

pub byte-count-requires : goal.byte-count-requires
byte-count-requires c = let w = whole c.args.image.now c.args.at (sym c.is_cut.ensures ∙ c.if-is_cut.false) in omega (arith, w.1)

pub returns-then-count-kind : goal.returns-then-count-kind
returns-then-count-kind c =
    let a = c.args in record {
      result_value = edge-miscounted a.image.now a.at (sym c.byte-kind.ensures.value)
          (sym c.is_cut.ensures ∙ c.if-is_cut.false) c.if-kind-gt-LIVE.false
          (λ e. c.if-count-kind.true (omega (arith, c.byte-count.ensures.value, e)));
      by_index = λ x e. absurd (never e);
    }

pub overflow_add-result : goal.overflow_add-result
overflow_add-result c =
    let if1 = c.if-is_cut in
    let is_cut = c.is_cut in
    let a = c.args in
    let w = whole a.image.now a.at (sym is_cut.ensures ∙ if1.false) in
    omega (arith, w.1)

pub returns-then-kind-lt-LIVE : goal.returns-then-kind-lt-LIVE
returns-then-kind-lt-LIVE c =
    let if3 = c.if-count-kind in
    let byte2 = c.byte-count in
    let if2 = c.if-kind-gt-LIVE in
    let byte = c.byte-kind in
    let if1 = c.if-is_cut in
    let is_cut = c.is_cut in
    let a = c.args in
    let p = c.requires in
    let im = a.image.now in
    let z : a.at + 2 ≡ next_place im a.at = omega (arith, byte2.ensures.value, if3.false) in record {
      result_value = ap ok z ∙ edge-sized im a.at (sym byte.ensures.value) (sym is_cut.ensures ∙ if1.false) if2.false (sym byte2.ensures.value ∙ if3.false);
      by_index = λ x e.
          removed-put im a.e a.at a.index.now p.e_in_bounds (sym byte.ensures.value) c.if-kind-lt-LIVE.true
          c.put_edge.ensures;
    }

pub overflow_add-at-2 : goal.overflow_add-at-2
overflow_add-at-2 c =
    let is_cut = c.is_cut in
    let a = c.args in
    let w = whole a.image.now a.at (sym is_cut.ensures ∙ c.if-is_cut.false) in
    omega (arith, w.1)

pub short-requires : goal.short-requires
short-requires c =
    let is_cut = c.is_cut in
    let a = c.args in
    let w = whole a.image.now a.at (sym is_cut.ensures ∙ c.if-is_cut.false) in
    omega (arith, w.1, c.byte-count.ensures.value)

pub overflow_add-at-3 : goal.overflow_add-at-3
overflow_add-at-3 c =
    let if1 = c.if-is_cut in
    let is_cut = c.is_cut in
    let a = c.args in
    let w = whole a.image.now a.at (sym is_cut.ensures ∙ if1.false) in
    omega (arith, w.1)

pub short-requires-2 : goal.short-requires-2
short-requires-2 c =
    let if1 = c.if-is_cut in
    let is_cut = c.is_cut in
    let a = c.args in
    let w = whole a.image.now a.at (sym is_cut.ensures ∙ if1.false) in
    omega (arith, w.1, c.byte-count.ensures.value)

pub overflow_add-at-4 : goal.overflow_add-at-4
overflow_add-at-4 c =
    let if1 = c.if-is_cut in
    let is_cut = c.is_cut in
    let a = c.args in
    let w = whole a.image.now a.at (sym is_cut.ensures ∙ if1.false) in
    omega (arith, w.1)

pub long-requires : goal.long-requires
long-requires c =
    let if1 = c.if-is_cut in
    let is_cut = c.is_cut in
    let a = c.args in
    let w = whole a.image.now a.at (sym is_cut.ensures ∙ if1.false) in
    omega (arith, w.1, c.byte-count.ensures.value)

pub overflow_add-result-2 : goal.overflow_add-result-2
overflow_add-result-2 c =
    let if1 = c.if-is_cut in
    let is_cut = c.is_cut in
    let a = c.args in
    let w = whole a.image.now a.at (sym is_cut.ensures ∙ if1.false) in
    omega (arith, w.1)

pub returns : goal.returns
returns c =
    let if3 = c.if-count-kind in
    let byte2 = c.byte-count in
    let if2 = c.if-kind-gt-LIVE in
    let byte = c.byte-kind in
    let if1 = c.if-is_cut in
    let is_cut = c.is_cut in
    let a = c.args in
    let p = c.requires in
    let im = a.image.now in
    let k : byte.result ≡ 1 = omega arith in
    let z : a.at + 10 ≡ next_place im a.at = omega (arith, byte2.ensures.value, if3.false) in record {
      result_value = ap ok z ∙ edge-sized im a.at (sym byte.ensures.value) (sym is_cut.ensures ∙ if1.false) if2.false (sym byte2.ensures.value ∙ if3.false);
      by_index = λ x e.
          live-put im a.e a.at a.index.now p.e_in_bounds (sym byte.ensures.value) k c.short.ensures.value
          c.short-2.ensures.value c.long.ensures.value c.put_edge-2.ensures;
    }
