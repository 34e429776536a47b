-- `rewriting::record::write_edge`: each kind of edge has its record.
use borrow.Author.Rules.{rules}
use native.Mathlib.Omega.{arith}
use mathlib.Core.Path.{refl, ap, ◌∙◌}
use mathlib.Core.List.{◌++◌}
use lib.IntN.{ℤ}
use mir.Syntax.{w32}
use mir.Val.{SFits}
use mir.ValLaws.{to_z-of_z}
use Rattle.semantics.specs.Bytes.Placed.{put}
use Rattle.semantics.specs.Bytes.Written.{be, unsigned}
use Rattle.semantics.specs.Image.Encoding.{encode_edge}
use Rattle.rewriting.specs.Records.{begun, edge-room, edge-written}
use Rattle.rewriting.proofs.record.write_edge.Goals as goal

pub write_bare-requires : goal.write_bare-requires
unfolding encode_edge
write_bare-requires c = let a = c.args in record { kind_bound = omega arith; at_in_bounds = edge-room a.at _ a.edge _ 2 c.in-Removed.is refl c.requires }

pub write_live-requires : goal.write_live-requires
unfolding encode_edge be
write_live-requires c = let a = c.args in edge-room a.at _ a.edge _ 10 c.in-Live.is refl c.requires

pub returns-in-Removed : goal.returns-in-Removed
unfolding encode_edge
returns-in-Removed c = let a = c.args in
    let whole = edge-written a.at a.area.now a.edge _ _ 2 c.in-Removed.is refl c.write_bare.ensures.value c.write_bare.ensures.area_after in
    record { value = whole.0; area_after = whole.1 }

pub returns-in-Live : goal.returns-in-Live
unfolding encode_edge be
returns-in-Live c =
    let a = c.args in
    let f : SFits w32 c.in-Live.precedence = search rules in
    let e = c.write_live.ensures.area_after ∙ ap (λ (p : ℤ). put a.at (begun 9 1 c.in-Live.source.0 ++ (be 2 c.in-Live.target.0 ++ be 4 (unsigned p))) a.area.now) (to_z-of_z w32 c.in-Live.precedence f) in
    let whole = edge-written a.at a.area.now a.edge _ _ 10 c.in-Live.is refl c.write_live.ensures.value e in
    record { value = whole.0; area_after = whole.1 }
