-- `shadows` on edge lists alone: jump steps need no storage, as an edge into node 1 is followed by one.
-- Document 01, "Path": "walk both step lists together until the shorter ends".
use Rattle.std.specs.Prelude.{ℕ, Bool, true, false, List, [], ◌∷◌, eqb, Option, Some, None}
use Rattle.std.specs.Int.Signed.{lt_z}
use Rattle.semantics.specs.declared.graph.Edge.{Edge}
use Rattle.semantics.specs.declared.graph.Edge.TheVariants as E
use Rattle.semantics.specs.Lists.{pick}
pub mod ByPlace
pub mod Laws

-- what two edges decide, or that the walk goes on
abbrev pub Met : Type 0
Met = Option Bool

-- both into jump, or neither
abbrev pub alike : Bool → Bool → Met
alike true true = None
alike true false = Some false
alike false true = Some false
alike false false = None

-- different sources: no; left precedence greater: yes; only one jumps: no, as the next sources differ
unfoldable pub meet : Edge → Edge → Met
meet E.Removed y = Some false
meet (E.Live s t p) E.Removed = Some false
meet (E.Live s t p) (E.Live a b q) = pick (eqb s.0 a.0) (pick (lt_z q p) (Some true) (alike (eqb t.0 1) (eqb b.0 1))) (Some false)

abbrev pub after : Met → Bool → Bool
after (Some b) rest = b
after None rest = rest

unfoldable pub shadows_edges : (ℕ → Edge) → List ℕ → List ℕ → Bool
unfolding meet
shadows_edges edges [] right = false
shadows_edges edges (x ∷ left) [] = false
shadows_edges edges (x ∷ left) (y ∷ right) = after (meet (edges x) (edges y)) (shadows_edges edges left right)
