use borrow.Author.Rules.{rules}
use mathlib.Core.Path.{◌≡◌, sym, ap, ap₂, ◌∙◌}
use lib.IntN.{ℤ}
use mir.Syntax.{w32}
use mir.Val.{to_z, of_z}
use mir.ValLaws.{to_z-of_z}
use Rattle.semantics.specs.declared.graph.Edge.{Edge}
use Rattle.semantics.specs.declared.graph.Edge.TheVariants as E
use Rattle.storage.specs.Index.{edge_row}
use Rattle.path.specs.Shadows.{meet}
use Rattle.path.proofs.shadows.meet_edges.Goals as goal

pub returns-in-Removed : goal.returns-in-Removed
unfolding meet
returns-in-Removed c = let a = c.args in ap (λ (x : Edge). meet x (edge_row a.index.now a.right)) (sym c.in-Removed.is ∙ c.edge.ensures)

pub returns-in-Live : goal.returns-in-Live
returns-in-Live c =
    let x : to_z w32 (of_z w32 c.in-Live.precedence) ≡ c.in-Live.precedence = to_z-of_z w32 c.in-Live.precedence
    (search rules) in
    c.compare.ensures
    ∙ ap (λ (z : ℤ). meet (E.Live c.in-Live.source c.in-Live.target z) c.edge-in-Live.result) x
    ∙ ap₂ meet (sym c.in-Live.is ∙ c.edge.ensures)
    c.edge-in-Live.ensures
