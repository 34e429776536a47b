-- `rewriting::record::write_attached`: symbol, scope and flag stand behind the file, in this order.
use borrow.Author.Rules.{rules}
use Rattle.std.proofs.Common.{◌≡◌, ℕ, ◌+◌, ap, ◌∙◌, arith}
use Rattle.semantics.specs.Bytes.Placed.{put}
use Rattle.semantics.specs.Bytes.Written.{be}
use Rattle.rewriting.specs.Records.{begun, known-most, attached-written}
use Rattle.image.specs.Versions.{width_of, width-known}
use Rattle.rewriting.proofs.record.write_attached.Goals as goal

pub overflow_add-width : goal.overflow_add-width
overflow_add-width c = omega (arith, known-most (width-known c.args.version), c.symbol_bytes-width.ensures)

pub begin-requires : goal.begin-requires
begin-requires c = let k = known-most (width-known c.args.version) in search rules

pub returns : goal.returns
returns c =
    let a = c.args in
    let w : ℕ = width_of a.version in
    let q : c.symbol_bytes-width.result ≡ w = c.symbol_bytes-width.ensures in
    record {
      value = omega arith;
      area_after = attached-written a.at a.area.now (6 + w) 6 a.file w a.symbol a.scope c.flag.result a.marked c.requires
          (c.begin.ensures ∙ ap (λ (i : ℕ). put a.at (begun (6 + i) 6 a.file) a.area.now) q) c.write_symbol.ensures
          (c.put_short.ensures ∙ ap (λ (i : ℕ). put (a.at + 4 + i) (be 2 a.scope) c.write_symbol.new.area) q)
          (c.put_byte.ensures ∙ ap (λ (i : ℕ). put (a.at + 4 + i + 2) (be 1 c.flag.result) c.put_short.new.area) q) c.flag.ensures;
    }
