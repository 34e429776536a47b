-- `rewriting::record::write_symbol`: the low word, or both, the high one first.
use Rattle.std.proofs.Common.{ℕ, ◌+◌, List, ap, ◌∙◌}
use Rattle.semantics.specs.Bytes.Placed.{put}
use Rattle.semantics.specs.Bytes.Written.{be}
use Rattle.rewriting.specs.Records.{narrow-written, wide-written}
use Rattle.image.specs.Versions.{width_of}
use Rattle.rewriting.proofs.record.write_symbol.Goals as goal

pub returns-in-Narrow : goal.returns-in-Narrow
returns-in-Narrow c =
    let a = c.args in
    narrow-written a.at a.area.now (width_of a.version) a.symbol (ap width_of c.in-Narrow.is) (c.put_long.ensures ∙ ap (λ (x : ℕ). put a.at (be 4 x) a.area.now) c.low.ensures)

pub returns-in-Wide : goal.returns-in-Wide
returns-in-Wide c =
    let a = c.args in
    let x : List ℕ = c.put_long-in-Wide.new.area in
    wide-written a.at a.area.now (width_of a.version) a.symbol (ap width_of c.in-Wide.is) c.requires
    (c.put_long-in-Wide.ensures ∙ ap (λ (i : ℕ). put a.at (be 4 i) a.area.now) c.high.ensures)
    (c.put_long-in-Wide-2.ensures ∙ ap (λ (i : ℕ). put (a.at + 4) (be 4 i) x) c.low-in-Wide.ensures)
