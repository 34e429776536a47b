use borrow.Author.Rules.{rules}
use borrow.Author.Rules.{rules}
use mathlib.Core.Path.{◌≡◌, sym, ap, ap₂, ◌∙◌}
use lib.Signed.{lt_z}
use mir.Syntax.{w32}
use mir.Val.{to_z, of_z}
use mir.ValLaws.{to_z-of_z}
use Rattle.semantics.specs.declared.graph.Edge.TheVariants as E
use Rattle.semantics.specs.Graph.{node_id}
use Rattle.path.specs.Shadows.{meet}
use Rattle.path.specs.Shadows.Laws.{meet-apart, meet-greater, meet-on}
use Rattle.path.proofs.shadows.compare.Goals as goal

pub returns-then-source-s : goal.returns-then-source-s
returns-then-source-s c =
    let a = c.args in
    meet-apart a.source c.in-Live.s.0 a.target c.in-Live.t.0 a.precedence c.in-Live.p c.if-source-s.true
    ∙ sym (ap (meet (E.Live (node_id a.source) (node_id a.target) a.precedence)) c.in-Live.is)

pub returns-then-p-precedence : goal.returns-then-p-precedence
returns-then-p-precedence c =
    let a = c.args in
    let x : to_z w32 (of_z w32 c.in-Live.p) ≡ c.in-Live.p = to_z-of_z w32 c.in-Live.p
    (search rules) in
    let y : to_z w32 (of_z w32 a.precedence) ≡ a.precedence = to_z-of_z w32 a.precedence
    c.ranges.precedence in
    meet-greater a.source c.in-Live.s.0 a.target c.in-Live.t.0 a.precedence c.in-Live.p c.if-source-s.false
    (ap₂ lt_z (sym x) (sym y) ∙ c.if-p-precedence.true)
    ∙ sym (ap (meet (E.Live (node_id a.source) (node_id a.target) a.precedence)) c.in-Live.is)

pub returns-in-Removed : goal.returns-in-Removed
unfolding meet
returns-in-Removed c = let a = c.args in sym (ap (meet (E.Live (node_id a.source) (node_id a.target) a.precedence)) c.in-Removed.is)

pub returns-else-p-precedence : goal.returns-else-p-precedence
returns-else-p-precedence c =
    let a = c.args in
    let fits = c.ranges in
    let x : to_z w32 (of_z w32 c.in-Live.p) ≡ c.in-Live.p = to_z-of_z w32 c.in-Live.p
    (search rules) in
    let y : to_z w32 (of_z w32 a.precedence) ≡ a.precedence = to_z-of_z w32 a.precedence fits.precedence in
    c.both.ensures
    ∙ meet-on a.source c.in-Live.s.0 a.target c.in-Live.t.0 a.precedence c.in-Live.p c.if-source-s.false
    (ap₂ lt_z (sym x) (sym y) ∙ c.if-p-precedence.false)
    ∙ sym (ap (meet (E.Live (node_id a.source) (node_id a.target) a.precedence)) c.in-Live.is)
