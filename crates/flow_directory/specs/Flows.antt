-- What resolving a flow does in code and lent words, against its definition.
-- Document 02, order 11.
use Rattle.std.specs.Prelude.{ℕ, ◌≡◌, List, length}
use Rattle.semantics.specs.Limits.{base}
use Rattle.semantics.specs.Answer.{ok}
use Rattle.semantics.specs.Graph.{Graph, view_of}
use Rattle.semantics.specs.Calls.{Request, Outcome}
use Rattle.semantics.specs.Directory.{FlowRequest, flow_outcome, resolved, flow_call}
use Rattle.semantics.specs.Entries.{Does}
use Rattle.storage.specs.Index.{Loaded}
use Rattle.path.specs.Shadows.Laws.{JumpAt}
use Rattle.search_rounds.specs.Drives.{SearchEnd, Ends}
use Rattle.direct_search.specs.DirectAnswers.{direct_of}
use Rattle.semantics.specs.PublicAnswers.{Flow}
pub mod Laws

-- a graph of an accepted image in the index
pub record Searchable (index : List ℕ) : Type 0 where
  pub graph : Graph
  pub loaded : Loaded graph index
  pub jump : JumpAt (view_of graph)

-- a direct search on it has ended
pub record Ended (index : List ℕ) (d : SearchEnd) (rs : List ℕ) : Type 0 where
  pub there : Searchable index
  pub request : Request
  pub ends : Ends d rs (direct_of there.graph request)

-- what is then answered, in areas of these lengths
abbrev pub EndedAs : {index : List ℕ} {d : SearchEnd} {rs : List ℕ} → Ended index d rs → ℕ → Flow → List ℕ → List ℕ → Type 0
EndedAs {rs = rs} v w a ws' rs' = (q : FlowRequest) → w ≡ q.work → length rs ≡ q.result → Does (flow_outcome base q (direct_of v.there.graph v.request)) a ws' rs'

abbrev pub resolved_of : Graph → FlowRequest → ℕ → Outcome Flow
resolved_of g q r = resolved base g q r

abbrev pub listed_of : Graph → List ℕ → FlowRequest → Outcome Flow
listed_of g rows q = flow_call base (ok g) rows q
