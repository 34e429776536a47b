-- What the checks 3, 4 and 5 of an image see to in the decoded graph, as a test.
-- Document 01, "Turned back", the rows of 3, 4 and 5; the places are the image's.
use Rattle.std.specs.Prelude.{ℕ, suc, Bool, true, not, List, [], ◌∷◌, eqb, leb, ltb, length}
use Rattle.std.proofs.Math.Option.{Option, none, some}
use Rattle.semantics.specs.declared.graph.Node.{Node}
use Rattle.semantics.specs.declared.graph.Node.TheVariants as N
use Rattle.semantics.specs.declared.graph.Edge.{Edge}
use Rattle.semantics.specs.declared.graph.Edge.TheVariants as E
use Rattle.semantics.specs.Lists.{and}
use Rattle.semantics.specs.Graph.{Graph, View, view_of, traits, file_of, is_file, is_exported}

-- the test passes at each entry and its place, counted from i
abbrev pub every_from {ℓ} : {A : Type ℓ} → (ℕ → A → Bool) → ℕ → List A → Bool
every_from t i [] = true
every_from t i (x ∷ xs) = and (t i x) (every_from t (suc i) xs)

unfoldable pub file_fits : ℕ → Option ℕ → Bool
file_fits files none = true
file_fits files (some f) = ltb f files

-- root is node 0, jump is node 1, and neither stands elsewhere
unfoldable pub place_fits : ℕ → Node → Bool
place_fits i N.Removed = leb 2 i
place_fits i N.Root = eqb i 0
place_fits i N.JumpToScope = eqb i 1
place_fits i (N.Scope f x) = leb 2 i
place_fits i (N.Push f s r) = leb 2 i
place_fits i (N.Pop f s d) = leb 2 i
place_fits i (N.PushScoped f s a r) = leb 2 i
place_fits i (N.PopScoped f s d) = leb 2 i
place_fits i (N.DropScopes f) = leb 2 i

unfoldable pub exported_in : ℕ → Node → Bool
unfolding is_file
exported_in f n = and (is_exported n) (is_file f (file_of n))

-- an attached scope is a live exported scope of the node's file
unfoldable pub node_fits : View → Node → Bool
unfolding exported_in
node_fits g N.Removed = true
node_fits g N.Root = true
node_fits g N.JumpToScope = true
node_fits g (N.Scope f x) = true
node_fits g (N.Push f s r) = true
node_fits g (N.Pop f s d) = true
node_fits g (N.PushScoped f s a r) = exported_in f.0 (g.node a.0)
node_fits g (N.PopScoped f s d) = true
node_fits g (N.DropScopes f) = true

-- ends not in two files
unfoldable pub one_file : Option ℕ → Option ℕ → Bool
one_file none b = true
one_file (some x) none = true
one_file (some x) (some y) = eqb x y

abbrev pub is_live : Node → Bool
is_live n = not (traits n).removed

-- both ends live, not from jump, not in two files
unfoldable pub edge_fits : View → Edge → Bool
unfolding one_file
edge_fits g E.Removed = true
edge_fits g (E.Live s t p) = and (one_file (file_of (g.node s.0)) (file_of (g.node t.0))) (and (is_live (g.node s.0)) (and (is_live (g.node t.0)) (not (eqb s.0 1))))

-- F, N and M within their bounds
unfoldable pub count_fits : Graph → Bool
count_fits g = and (leb g.files 256) (and (leb 2 (length g.nodes)) (and (leb (length g.nodes) 2048) (leb (length g.edges) 4096)))

-- an accepted graph; whatever an image decodes to that is not refused is one (Image/Laws: image-accepted)
unfoldable pub accepts : Graph → Bool
unfolding place_fits file_fits node_fits edge_fits count_fits view_of
accepts g = and (count_fits g) (and (every_from (λ i n. and (place_fits i n) (and (file_fits g.files (file_of n)) (node_fits (view_of g) n))) 0 g.nodes) (every_from (λ i e. edge_fits (view_of g) e) 0 g.edges))
