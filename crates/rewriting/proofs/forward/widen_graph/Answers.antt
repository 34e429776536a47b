-- `rewriting::forward::widen_graph`: four bytes more for each symbol are the size of the result.
use native.Mathlib.Omega.{arith}
use lib.ListN.{length}
use Rattle.semantics.specs.Bytes.Written.{AllBytes}
use Rattle.rewriting.specs.Rewrites.{size-held, front-held, widen-fits, widen-size, does-long, does-cramped, does-write}
use Rattle.rewriting.proofs.forward.widen_graph.Goals as goal

pub returns-then-size-gt-MOST_BYTES : goal.returns-then-size-gt-MOST_BYTES
returns-then-size-gt-MOST_BYTES c =
    let a = c.args in
    let im = a.image.now in
    let d = c.requires.given in
    let b : AllBytes im = λ i. omega (arith, c.shared_slice_known-1.given i) in
    let s = widen-size b d c.count_symbols.ensures.value in
    does-long 2 8 d.is im (length a.area.now) c.requires.area_value (widen-fits b d) s (omega arith)

pub returns-then-area-size : goal.returns-then-area-size
returns-then-area-size c =
    let a = c.args in
    let im = a.image.now in
    let d = c.requires.given in
    let b : AllBytes im = λ i. omega (arith, c.shared_slice_known-1.given i) in
    let s = widen-size b d c.count_symbols.ensures.value in
    does-cramped 2 8 d.is im (length a.area.now) c.requires.area_value (widen-fits b d) s (omega arith) (omega arith)

pub write_image-requires : goal.write_image-requires
write_image-requires c =
    let a = c.args in
    let im = a.image.now in
    let d = c.requires.given in
    let b : AllBytes im = λ i. omega (arith, c.shared_slice_known-1.given i) in
    let s = widen-size b d c.count_symbols.ensures.value in
    record { blocks = d.loaded.long; size_value = size-held d 2 8 s; size_in_bounds = omega arith }

pub returns : goal.returns
returns c =
    let a = c.args in
    let im = a.image.now in
    let d = c.requires.given in
    let b : AllBytes im = λ i. omega (arith, c.shared_slice_known-1.given i) in
    let s = widen-size b d c.count_symbols.ensures.value in
    does-write 2 8 d.is im (length a.area.now) c.requires.area_value (widen-fits b d) s (omega arith) (omega arith) (front-held d 2 8 a.area.now c.write_image.ensures)
