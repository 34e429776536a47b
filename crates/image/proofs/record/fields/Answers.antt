-- `image::record::fields`: each outcome of the fields' test, and the node's words where it goes on.
use Prim.Native.Nat.{ℕ, ◌+◌}
use native.Mathlib.Omega.{arith}
use mathlib.Core.Path.{◌≡◌, ap, ◌∙◌}
use Rattle.semantics.specs.Answer.{ok}
use Rattle.semantics.specs.Bytes.{byte_at}
use Rattle.semantics.specs.Image.{next_place}
use Rattle.image.specs.Records.Laws.{size-least, bad-file, drop-fits, bad-flag, flag-fits, drop-put, scope-put, named, full_put}
use Rattle.image.specs.Reached.Laws.{never}
use Rattle.image.specs.Versions.{width_of}
use Rattle.image.proofs.record.fields.Goals as goal

pub short-file-requires : goal.short-file-requires
short-file-requires c =
    let a = c.args in
    let p = c.requires.fielded.0 in
    omega (arith, p.whole, size-least (width_of a.version) a.kind p.low p.high)

pub returns-then-files-file : goal.returns-then-files-file
returns-then-files-file c =
    let a = c.args in let im = a.image.now in
    record { result_value = bad-file im a.files a.at a.kind (byte_at im a.at) (next_place im a.at) c.short-file.ensures.value (omega arith); by_index = λ x e. absurd (never e) }

pub returns-then-kind-eq-DROP_SCOPES : goal.returns-then-kind-eq-DROP_SCOPES
returns-then-kind-eq-DROP_SCOPES c =
    let if2 = c.if-kind-eq-DROP_SCOPES.true in
    let short = c.short-file in
    let a = c.args in
    let p = c.requires in
    let im = a.image.now in
    let z : a.at + a.count + 1 ≡ next_place im a.at = omega (arith, p.fielded.1) in record { result_value = ap ok z ∙ drop-fits im a.files a.at a.kind (byte_at im a.at) (next_place im a.at) short.ensures.value (omega arith) if2; by_index = λ x e. drop-put a.n a.index.now p.n_in_bounds p.fielded.0 if2 short.ensures.value c.put_node.ensures }

pub returns-then-flag-gt1 : goal.returns-then-flag-gt1
returns-then-flag-gt1 c =
    let a = c.args in
    let p = c.requires in
    let im = a.image.now in
    let f : c.byte-flag.result ≡ byte_at im (a.at + byte_at im a.at) = c.byte-flag.ensures.value ∙ ap (λ (k : ℕ). byte_at im (a.at + k)) p.fielded.1 in
    record { result_value = bad-flag im a.files a.at a.kind (byte_at im a.at) (next_place im a.at) c.short-file.ensures.value (omega arith) c.if-kind-eq-DROP_SCOPES.false (omega (arith, f)); by_index = λ x e. absurd (never e) }

pub returns-then-kind-eq-SCOPE : goal.returns-then-kind-eq-SCOPE
returns-then-kind-eq-SCOPE c =
    let if4 = c.if-kind-eq-SCOPE in
    let byte = c.byte-flag in
    let if2 = c.if-kind-eq-DROP_SCOPES in
    let short = c.short-file in
    let a = c.args in
    let p = c.requires in
    let im = a.image.now in
    let f : byte.result ≡ byte_at im (a.at + byte_at im a.at) = byte.ensures.value ∙ ap (λ (k : ℕ). byte_at im (a.at + k)) p.fielded.1 in
    let z : a.at + a.count + 1 ≡ next_place im a.at = omega (arith, p.fielded.1) in record {
      result_value = ap ok z
          ∙ flag-fits im a.files a.at a.kind (byte_at im a.at) (next_place im a.at) short.ensures.value (omega arith) if2.false
          (omega (arith, f));
      by_index = λ x e. scope-put a.n a.index.now p.n_in_bounds p.fielded.0 if4.true f short.ensures.value c.put_node-then-kind-eq-SCOPE.ensures;
    }

pub symbol_low-low-requires : goal.symbol_low-low-requires
symbol_low-low-requires c = named c.requires.fielded.0 c.if-kind-eq-DROP_SCOPES.false c.if-kind-eq-SCOPE.false

pub symbol_high-high-requires : goal.symbol_high-high-requires
symbol_high-high-requires c = named c.requires.fielded.0 c.if-kind-eq-DROP_SCOPES.false c.if-kind-eq-SCOPE.false

pub returns : goal.returns
returns c =
    let if4 = c.if-kind-eq-SCOPE in
    let byte = c.byte-flag in
    let if2 = c.if-kind-eq-DROP_SCOPES in
    let short = c.short-file in
    let a = c.args in
    let p = c.requires in
    let im = a.image.now in
    let f : byte.result ≡ byte_at im (a.at + byte_at im a.at) = byte.ensures.value ∙ ap (λ (k : ℕ). byte_at im (a.at + k)) p.fielded.1 in
    let z : a.at + a.count + 1 ≡ next_place im a.at = omega (arith, p.fielded.1) in record {
      result_value = ap ok z
          ∙ flag-fits im a.files a.at a.kind (byte_at im a.at) (next_place im a.at) short.ensures.value (omega arith) if2.false
          (omega (arith, f));
      by_index = λ x e.
          full_put a.n a.index.now p.n_in_bounds p.fielded.0 if2.false if4.false f short.ensures.value c.symbol_low-low.ensures
          c.symbol_high-high.ensures c.scope-scope.ensures c.put_node-2.ensures;
    }
