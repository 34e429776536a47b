-- `exceeds` meets its contract, by the kind of the edge.
use mathlib.Core.Path.{◌≡◌, sym, ap, ap₂, ◌∙◌}
use lib.Signed.{lt_z}
use mir.Syntax.{w32}
use mir.Val.{to_z, of_z}
use mir.ValLaws.{to_z-of_z}
use Rattle.reply.specs.Beatable.{exceeds}
use borrow.Author.Rules.{rules}
use Rattle.reply.proofs.rivals.exceeds.Goals as goal

pub returns-in-Removed : goal.returns-in-Removed
returns-in-Removed c =
    sym (ap (exceeds c.args.precedence) (sym c.edge.ensures ∙ c.in-Removed.is))

pub returns-in-Live : goal.returns-in-Live
returns-in-Live c =
    let a = c.args in
    let x : to_z w32 (of_z w32 c.in-Live.other) ≡ c.in-Live.other = to_z-of_z w32 c.in-Live.other (search rules) in
    let y : to_z w32 (of_z w32 a.precedence) ≡ a.precedence = to_z-of_z w32 a.precedence c.ranges.precedence in
    ap₂ lt_z y x ∙ sym (ap (exceeds a.precedence) (sym c.edge.ensures ∙ c.in-Live.is))
