-- `fits`: by the first word and the count.
use mathlib.Core.Path.{ap, ◌∙◌}
use Prim.Native.Nat.{ℕ, ◌-◌}
use native.Mathlib.Omega.{arith}
use Rattle.semantics.specs.Limits.{base, former}
use Rattle.semantics.specs.Database.{known_owners}
use lib.Dec.{leb}
use Rattle.conversion.specs.Slots.Laws.{there, fits-there, fits-gone}
use Rattle.conversion.proofs.convert.fits.Goals as goal

pub owner-requires : goal.owner-requires
owner-requires c = let a = c.args in there former known_owners a.old.now c.requires.0 a.i c.requires.1

pub count-requires : goal.count-requires
count-requires c = let a = c.args in there former known_owners a.old.now c.requires.0 a.i c.requires.1

pub returns-then-owner-gt0 : goal.returns-then-owner-gt0
returns-then-owner-gt0 c =
    let a = c.args in
    ap (λ (n : ℕ). leb n 63) c.count.ensures
    ∙ fits-there former known_owners a.old.now c.requires.0 a.i c.requires.1 (c.owner.result - 1) (omega (arith, c.owner.ensures, c.if-owner-gt0.true)) base

pub returns : goal.returns
returns c = let a = c.args in fits-gone former known_owners a.old.now c.requires.0 a.i c.requires.1 base (omega (arith, c.owner.ensures, c.if-owner-gt0.false))
