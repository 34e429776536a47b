use native.Mathlib.Omega.{arith}
use Rattle.partial.specs.Replacements.Laws.{inspected-not, inspected-replaces, inspected-file, inspected-nobody}
use Rattle.partial.proofs.replace.replace_loaded.Goals as goal

pub replace_known-requires : goal.replace_known-requires
replace_known-requires c =
    let check = c.check in
    let a = c.args in
    let p = c.requires in
    (inspected-replaces a.counts a.owner a.config a.work.now a.words.now p check.result check.ensures c.in-Ok.is, p.few)

pub replace_owner-requires : goal.replace_owner-requires
replace_owner-requires c =
    let check = c.check in
    let a = c.args in
    let p = c.requires in
    (inspected-replaces a.counts a.owner a.config a.work.now a.words.now p check.result check.ensures c.in-Ok.is, omega arith)

pub returns-in-Err : goal.returns-in-Err
returns-in-Err c =
    let check = c.check in
    let a = c.args in
    λ v.
    inspected-not a.counts a.owner a.config a.work.now a.words.now v check.result check.ensures c.in-Err.r c.in-Err.is

pub returns-in-Some : goal.returns-in-Some
returns-in-Some c =
    let replace-known = c.replace_known in
    let check = c.check in
    let a = c.args in
    λ v.
    inspected-file a.counts a.owner a.config a.work.now a.words.now v check.result check.ensures c.in-Ok.is c.in-Some.file c.in-Some.is replace-known.result
    replace-known.new.words
    (replace-known.ensures (inspected-replaces a.counts a.owner a.config a.work.now a.words.now v check.result check.ensures c.in-Ok.is))

pub returns-in-None : goal.returns-in-None
returns-in-None c =
    let replace-owner = c.replace_owner in
    let check = c.check in
    let a = c.args in
    λ v.
    inspected-nobody a.counts a.owner a.config a.work.now a.words.now v check.result check.ensures c.in-Ok.is c.in-None.is replace-owner.result
    replace-owner.new.words
    (replace-owner.ensures (inspected-replaces a.counts a.owner a.config a.work.now a.words.now v check.result check.ensures c.in-Ok.is))
