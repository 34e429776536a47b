use native.Mathlib.Omega.{arith}
use Rattle.partial.specs.Replacements.Laws.{replaced-unknown, replaced-known}
use Rattle.partial.proofs.replace.replace_known.Goals as goal

pub returns-then-counts-file : goal.returns-then-counts-file
returns-then-counts-file c =
    let a = c.args in
    λ v. replaced-unknown a.file a.config a.work.now v (omega (arith, c.if-counts-file.true))

pub replace_owner-requires : goal.replace_owner-requires
replace_owner-requires c =
    let p = c.requires in
    (p.0, omega (arith, c.if-counts-file.false, p.1))

pub returns : goal.returns
returns c =
    let replace-owner = c.replace_owner in
    let if1 = c.if-counts-file in
    let a = c.args in
    let p = c.requires in
    λ v.
    replaced-known a.file a.config a.work.now v p.1 (omega (arith, if1.false)) replace-owner.result
    replace-owner.new.words (replace-owner.ensures v)
