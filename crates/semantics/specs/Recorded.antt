-- The recorded paths of a search, copies dropped, and the returned ones, nothing shadowed.
-- Document 01, "Answer": `from_complete`.
use Rattle.std.specs.Prelude.{ℕ, Bool, true, false, not, List, [], ◌∷◌, ◌++◌}
use Rattle.semantics.specs.Lists.{or, and, same}
use Rattle.semantics.specs.Path.{Path, shadows}
use Rattle.semantics.specs.Enumeration.{State}
pub mod Laws

abbrev pub edge_lists : List Path → List (List ℕ)
edge_lists [] = []
edge_lists (p ∷ ps) = p.edges ∷ edge_lists ps

unfoldable pub has_path : Path → List Path → Bool
unfolding same
has_path p [] = false
has_path p (q ∷ qs) = or (same p.edges q.edges) (has_path p qs)

unfoldable pub add_unless : Bool → List Path → Path → List Path
add_unless true seen p = seen
add_unless false seen p = seen ++ (p ∷ [])

-- copies dropped, the first of each kept
unfoldable pub distinct : List Path → List Path → List Path
unfolding has_path add_unless
distinct seen [] = seen
distinct seen (p ∷ ps) = distinct (add_unless (has_path p seen) seen p) ps

-- is p beaten by another path of the list
unfoldable pub beaten : (Path → Path → Bool) → Path → List Path → Bool
unfolding same
beaten beats p [] = false
beaten beats p (q ∷ qs) = or (and (not (same p.edges q.edges)) (beats q p)) (beaten beats p qs)

unfoldable pub cons_unless : Bool → Path → List Path → List Path
cons_unless true p ps = ps
cons_unless false p ps = p ∷ ps

-- a beaten path still beats others
unfoldable pub unbeaten : (Path → Path → Bool) → List Path → List Path → List Path
unfolding beaten cons_unless
unbeaten beats all [] = []
unbeaten beats all (p ∷ ps) = cons_unless (beaten beats p all) p (unbeaten beats all ps)

unfoldable pub recorded : State Path → List Path
unfolding distinct
recorded s = distinct [] s.kept

-- the recorded paths that no other recorded one shadows
unfoldable pub returned : State Path → List Path
unfolding recorded unbeaten shadows
returned s = unbeaten shadows (recorded s) (recorded s)
