-- `rewriting::back::narrow_graph`: the first symbol that does not fit, or four bytes less for each symbol.
use Prim.Native.Nat.{◌-◌, ◌*◌}
use native.Mathlib.Omega.{arith}
use mathlib.Core.Path.{◌≡◌, ◌∙◌}
use lib.ListN.{length}
use Rattle.semantics.specs.Bytes.Written.{AllBytes}
use Rattle.semantics.specs.Image.Encoding.{encode_image}
use Rattle.rewriting.specs.Rewrites.{size-held, front-held, narrow_size, narrow_short, first-place, first-none, does-wide, does-cramped, does-write}
use Rattle.rewriting.proofs.back.narrow_graph.Goals as goal

pub returns-in-Some : goal.returns-in-Some
returns-in-Some c =
    let a = c.args in
    let d = c.requires.given in
    let q = does-wide 1 4 d.is a.image.now (length a.area.now) c.requires.area_value _ (first-place d 4 c.in-Some.ensures.1 c.in-Some.ensures.0) in
    (c.wide_symbol.ensures ∙ q.0, q.1)

pub overflow_sub-size : goal.overflow_sub-size
overflow_sub-size c =
    let a = c.args in
    let im = a.image.now in
    let d = c.requires.given in
    let b : AllBytes im = λ i. omega (arith, c.shared_slice_known-1.given i) in
    let s = narrow_size b d c.count_symbols.ensures.value in
    omega arith

pub returns-then-area-size : goal.returns-then-area-size
returns-then-area-size c =
    let a = c.args in
    let im = a.image.now in
    let d = c.requires.given in
    let b : AllBytes im = λ i. omega (arith, c.shared_slice_known-1.given i) in
    let s = narrow_size b d c.count_symbols.ensures.value in
    let k : length im - 4 * c.count_symbols.result ≡ length (encode_image 1 4 d.graph) = omega arith in
    let m = narrow_short b d in
    let f = first-none d 4 c.in_default.ensures (omega arith) in
    does-cramped 1 4 d.is im (length a.area.now) c.requires.area_value f k (omega arith) (omega arith)

pub overflow_cast-length : goal.overflow_cast-length
overflow_cast-length c =
    let a = c.args in
    let im = a.image.now in
    let d = c.requires.given in
    let b : AllBytes im = λ i. omega (arith, c.shared_slice_known-1.given i) in
    let s = narrow_size b d c.count_symbols.ensures.value in
    let k : length im - 4 * c.count_symbols.result ≡ length (encode_image 1 4 d.graph) = omega arith in
    let m = narrow_short b d in
    omega arith

pub write_image-requires : goal.write_image-requires
write_image-requires c =
    let a = c.args in
    let im = a.image.now in
    let d = c.requires.given in
    let b : AllBytes im = λ i. omega (arith, c.shared_slice_known-1.given i) in
    let s = narrow_size b d c.count_symbols.ensures.value in
    let k : length im - 4 * c.count_symbols.result ≡ length (encode_image 1 4 d.graph) = omega arith in
    let m = narrow_short b d in
    record { blocks = d.loaded.long; size_value = size-held d 1 4 k; size_in_bounds = omega arith }

pub returns : goal.returns
returns c =
    let a = c.args in
    let im = a.image.now in
    let d = c.requires.given in
    let b : AllBytes im = λ i. omega (arith, c.shared_slice_known-1.given i) in
    let s = narrow_size b d c.count_symbols.ensures.value in
    let k : length im - 4 * c.count_symbols.result ≡ length (encode_image 1 4 d.graph) = omega arith in
    let m = narrow_short b d in
    let f = first-none d 4 c.in_default.ensures (omega arith) in
    does-write 1 4 d.is im (length a.area.now) c.requires.area_value f k (omega arith) (omega arith) (front-held d 1 4 a.area.now c.write_image.ensures)
