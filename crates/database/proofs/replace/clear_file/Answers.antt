-- `replace::clear_file`: the first i records are cleared.
use mathlib.Core.Path.{refl, ◌∙◌}
use native.Mathlib.Omega.{arith}
use Rattle.semantics.specs.Limits.{base}
use Rattle.database.specs.Filing.Laws.{cleared-none, cleared_more, cleared-all}
use Rattle.database.proofs.replace.clear_file.Goals as goal

pub loop-i-init : goal.loop-i-init
loop-i-init c = (omega arith, c.number-used.ensures.0, refl, cleared-none base c.args.file c.args.words.now)

pub clear_record-requires : goal.clear_record-requires
clear_record-requires c = omega (arith, c.requires)

pub loop-i-preserved : goal.loop-i-preserved
loop-i-preserved c =
    let l = c.loop-i in
    let a = c.args in
    (omega arith, l.invariant.1, c.clear_record.auto.words ∙ l.invariant.2, c.clear_record.ensures ∙ cleared_more base a.file l.i a.words.now l.words l.invariant.3 (omega (arith, c.requires)))

pub returns : goal.returns
returns c =
    let l = c.loop-i in
    let a = c.args in
    l.invariant.3 ∙ cleared-all base a.file l.i a.words.now (omega arith)
