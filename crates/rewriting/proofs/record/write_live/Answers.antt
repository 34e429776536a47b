-- `rewriting::record::write_live`: source, target and precedence, one behind the other.
use borrow.Author.Rules.{rules}
use Prim.Native.Nat.{ℕ, ◌+◌}
use native.Mathlib.Omega.{arith}
use mathlib.Core.Path.{ap, ◌∙◌}
use mir.Syntax.{w32}
use mir.Val.{SFits}
use mir.ValLaws.{to_z-of_z}
use Rattle.semantics.specs.Bytes.Placed.{put}
use Rattle.semantics.specs.Bytes.Written.{be, unsigned}
use Rattle.rewriting.specs.Records.{live_written}
use Rattle.rewriting.proofs.record.write_live.Goals as goal

pub returns : goal.returns
returns c =
    let a = c.args in
    let f : SFits w32 a.precedence = search rules in
    let e = live_written a.at a.area.now 9 1 a.source a.target (unsigned a.precedence) c.requires
    c.begin.ensures c.put_short.ensures
    (c.put_long.ensures ∙ ap (λ (x : ℕ). put (a.at + 6) (be 4 x) c.put_short.new.area) (c.unsigned.ensures ∙ ap unsigned (to_z-of_z w32 a.precedence f))) in
    record { value = omega arith; area_after = e }
