-- Edges that were appended once are appended again: the steps of a popped path.
-- Document 01, "Answer": "Waiting paths are held likewise".
use Rattle.std.specs.Prelude.{ℕ, ◌+◌, ◌*◌, ◌<◌, ◌≤◌, ◌≡◌, List, length, get_or, drop}
use Rattle.semantics.specs.ReplayedPaths.{step_at}
use Rattle.semantics.specs.Limits.{base, max_edges, step_length}
use Rattle.semantics.specs.Answer.{ok}
use Rattle.semantics.specs.Graph.{Graph, View, view_of}
use Rattle.semantics.specs.Path.{Path, append_all}
use Rattle.storage.specs.Index.{Loaded}
use Rattle.stepping.specs.Judged.{Stepped}
pub mod Laws

-- step by step up to step n, the words stand for the paths that the edges in them lead to
abbrev pub Laid : View → Path → List ℕ → ℕ → Type 0
Laid g first ws n = (j : ℕ) → j ≤ n → (p : Path) × Stepped ws j p × (append_all base g first p.edges ≡ ok p)

-- steps 0 to n stand in the words, and these edges lead from step 0 to a path
pub record Retraces (index ws edges : List ℕ) (n : ℕ) : Type 0 where
  pub graph : Graph
  pub loaded : Loaded graph index
  pub first : Path
  pub path : Path
  pub appended : append_all base (view_of graph) first edges ≡ ok path
  pub begun : Stepped ws 0 first
  pub laid : Laid (view_of graph) first ws n
  pub few : length edges ≤ max_edges
  pub room : step_length * length edges + step_length ≤ length ws

-- the steps of that path stand there, step 0 as before
pub record Retraced (index ws edges : List ℕ) (n : ℕ) (t : Retraces index ws edges n) (ws' : List ℕ) : Type 0 where
  pub stepped : Stepped ws' (length edges) t.path
  pub begun : Stepped ws' 0 t.first
  pub laid : Laid (view_of t.graph) t.first ws' (length edges)

-- what the edges lead to, which stays the same while their steps are laid out
pub record Way (index edges : List ℕ) : Type 0 where
  pub graph : Graph
  pub loaded : Loaded graph index
  pub first : Path
  pub path : Path
  pub few : length edges ≤ max_edges

-- behind i edges the steps stand for a path from which the others lead on
pub record Mid (index edges : List ℕ) (w : Way index edges) (ws : List ℕ) (i : ℕ) : Type 0 where
  pub path : Path
  pub stepped : Stepped ws i path
  pub begun : Stepped ws 0 w.first
  pub led : append_all base (view_of w.graph) w.first path.edges ≡ ok path
  pub laid : Laid (view_of w.graph) w.first ws i
  pub onward : append_all base (view_of w.graph) path (drop i edges) ≡ ok w.path

-- the first c edges stand in the words already
pub record Shared (ws edges : List ℕ) (n c : ℕ) : Type 0 where
  pub within : c ≤ n
  pub inside : c ≤ length edges
  pub same : (j : ℕ) → j < c → (step_at ws (j + 1)).edge ≡ get_or edges j 0
