-- `readers::records::known_edge`: by its kind.
use mathlib.Core.Path.{◌≡◌, sym, ap, ◌∙◌}
use mir.Val.{to_z, of_z}
use mir.ValLaws.{to_z-of_z}
use mir.Syntax.{w32}
use Rattle.semantics.specs.Reading.{edge_read}
use borrow.Author.Rules.{rules}
use Rattle.readers.proofs.records.known_edge.Goals as goal
use Rattle.semantics.specs.PublicAnswers.{edge_answer}

pub returns-in-Removed : goal.returns-in-Removed
unfolding edge_read
returns-in-Removed c = let a = c.args in ap (edge_read a.e) (sym c.in-Removed.is ∙ c.edge.ensures)

pub returns-in-Live : goal.returns-in-Live
unfolding edge_read
returns-in-Live c =
    let a = c.args in
    let x : to_z w32 (of_z w32 c.in-Live.precedence) ≡ c.in-Live.precedence = to_z-of_z w32 c.in-Live.precedence (search rules) in
    ap (λ p. edge_answer c.in-Live.source c.in-Live.target p) x ∙ ap (edge_read a.e) (sym c.in-Live.is ∙ c.edge.ensures)
