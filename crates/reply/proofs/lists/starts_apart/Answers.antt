-- `starts_apart` meets its contract: equal lists have the same first number.
use mathlib.Core.Path.{sym, ap, ◌∙◌}
use mathlib.Core.Bool.{not, true≢false}
use Rattle.std.proofs.Common.{get_or, eq-eqb}
use Rattle.reply.specs.EdgeLists.Laws.{same-starts}
use Rattle.reply.proofs.lists.starts_apart.Goals as goal

pub returns-then-left-gt0 : goal.returns-then-left-gt0
returns-then-left-gt0 c =
    let l = c.args.left.now in
    let r = c.args.right.now in
    λ e. same-starts l r (λ q. true≢false (sym e ∙ ap not (eq-eqb (get_or l 0 0) (get_or r 0 0) q)))
