use Rattle.search_state.specs.Progresses.Laws.{extend-given, extends-course}
use mathlib.Core.Path.{sym, ap, ◌∙◌}
use Rattle.std.specs.Prelude.{Ok}
use borrow.Author.Rules.{rules}
use Rattle.search_state.specs.declared.progress.Progress.{Progress}
use Rattle.search_state.specs.Progresses.{course_of}
use Rattle.search_state.proofs.progress.Progress.extend.Goals as goal

pub extend-requires : goal.extend-requires
extend-requires c = let a = c.args in extend-given a.frame a.self c.at.ensures a.complete a.work.now a.res.now a.item.now c.requires

pub returns : goal.returns
returns c =
    let extend = c.extend in
    let a = c.args in
    extends-course a.frame a.self c.at.ensures a.complete a.work.now a.res.now a.item.now extend.result
    extend.new.work extend.new.res extend.ensures (ap (λ (p : Progress). Ok p) c.progress.ensures ∙ sym (ap course_of c.in_ok-extend.was))

pub returns-in_err-extend : goal.returns-in_err-extend
returns-in_err-extend c =
    let extend = c.extend in
    let a = c.args in
    extends-course a.frame a.self c.at.ensures a.complete a.work.now a.res.now a.item.now extend.result
    extend.new.work extend.new.res extend.ensures (search rules ∙ sym (ap course_of c.in_err-extend.was))
