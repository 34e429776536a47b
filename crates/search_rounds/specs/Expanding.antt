-- The path under expansion, for every choice of what is tried on it and of what stands in the item behind its edges.
-- Document 01, "Answer".
use Rattle.std.specs.Prelude.{ℕ, ◌≤◌, ◌≡◌, List, length}
use Rattle.semantics.specs.Limits.{steps_length}
use Rattle.semantics.specs.Graph.{Graph, view_of}
use Rattle.semantics.specs.Path.{Path}
use Rattle.semantics.specs.Enumeration.{State}
use Rattle.storage.specs.Index.{Loaded}
use Rattle.stepping.specs.Judged.{Stepped}
use Rattle.search_state.specs.declared.search.Search as S
use Rattle.search_state.specs.Items.{Clear}
use Rattle.search_state.specs.Reps.{Replayed, Rep}

-- THE PATH UNDER EXPANSION: its k edges in the item, its steps, and the state of the enumeration; at most `most` were looked at
pub record Expanding (Carried : ℕ → List ℕ → List ℕ → Type 0) (most : ℕ) (index steps item : List ℕ) (k : ℕ) (s : S.Search) (ws rs : List ℕ) : Type 0 where
  pub graph : Graph
  pub loaded : Loaded graph index
  pub reference : ℕ
  pub path : Path
  pub count : length path.edges ≡ k
  pub stepped : Stepped steps k path
  pub long : steps_length ≤ length steps
  pub carries : Carried k item path.edges
  pub clear : Clear s.frontier.length item
  pub good : Replayed (view_of graph) reference path
  pub model : State Path
  pub rep : Rep (view_of graph) reference s ws rs model
  pub small : model.tally.looked ≤ most
