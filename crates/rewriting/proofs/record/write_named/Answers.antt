-- `rewriting::record::write_named`: the symbol and the flag stand behind the file.
use borrow.Author.Rules.{rules}
use Rattle.std.proofs.Common.{◌≡◌, ℕ, ◌+◌, ap, ◌∙◌, arith}
use Rattle.semantics.specs.Bytes.Placed.{put}
use Rattle.semantics.specs.Bytes.Written.{be}
use Rattle.rewriting.specs.Records.{begun, known-most, named-written}
use Rattle.image.specs.Versions.{width_of, width-known}
use Rattle.rewriting.proofs.record.write_named.Goals as goal

pub overflow_add-width : goal.overflow_add-width
overflow_add-width c = omega (arith, known-most (width-known c.args.version), c.symbol_bytes-width.ensures)

pub begin-requires : goal.begin-requires
begin-requires c = let k = known-most (width-known c.args.version) in search rules

pub write_symbol-requires : goal.write_symbol-requires
write_symbol-requires c = omega arith

pub returns : goal.returns
returns c =
    let a = c.args in
    let w : ℕ = width_of a.version in
    let q : c.symbol_bytes-width.result ≡ w = c.symbol_bytes-width.ensures in
    record {
      value = omega arith;
      area_after = named-written a.at a.area.now (4 + w) a.kind a.file w a.symbol c.flag.result a.marked c.requires.version_in_bounds
          (c.begin.ensures ∙ ap (λ (i : ℕ). put a.at (begun (4 + i) a.kind a.file) a.area.now) q) c.write_symbol.ensures
          (c.put_byte.ensures ∙ ap (λ (i : ℕ). put (a.at + 4 + i) (be 1 c.flag.result) c.write_symbol.new.area) q) c.flag.ensures;
    }
