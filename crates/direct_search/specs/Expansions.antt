-- The expansion of a path by its outgoing edges, in code against the enumeration.
-- Document 01, "Answer": `try_compute`.
use Rattle.std.specs.Prelude.{ℕ, List, length}
use Rattle.search_rounds.specs.Expanding.{Expanding}
use Rattle.semantics.specs.declared.refusal.SearchRefusal.{SearchRefusal}
use Rattle.semantics.specs.declared.refusal.SearchRefusal.TheVariants as Search
use Rattle.semantics.specs.Limits.{base, slot_length}
use Rattle.semantics.specs.Answer.{Answer}
use Rattle.semantics.specs.Graph.{view_of}
use Rattle.semantics.specs.Path.{Path}
use Rattle.semantics.specs.Enumeration.{State, one, each}
use Rattle.semantics.specs.Direct.{judge}
use Rattle.search_state.specs.declared.search.Search as S
use Rattle.search_state.specs.Searches.{Going}
use Rattle.search_state.specs.Items.{Carries}
use Rattle.search_state.specs.Searches.{Clears}
use Rattle.search_state.specs.Progresses.{frame_of}
use Rattle.search_state.specs.Reps.{setting_of, Tells}
use Rattle.direct_search.specs.DirectAnswers.{edge_tries}
pub mod Laws
pub mod Edges
pub mod Rounds

-- the path under expansion: the item holds its edges, and zeros behind them
abbrev pub Given : ℕ → List ℕ → List ℕ → List ℕ → ℕ → S.Search → List ℕ → List ℕ → Type 0
Given = Expanding (λ k item es. Carries slot_length item es)

module _ (most : ℕ) (index steps item : List ℕ) (k : ℕ) (s : S.Search) (ws rs : List ℕ) (v : Given most index steps item k s ws rs) where
  -- the enumeration's answer to one edge
  abbrev pub try_of : ℕ → Answer SearchRefusal (State Path)
  try_of e = one (setting_of (frame_of s)) v.model (judge Search.TooLong base (frame_of s).limits.length (view_of v.graph) v.path e)

  pub record Tried (e : ℕ) (a : Going) (item' ws' rs' : List ℕ) : Type 0 where
    pub tells : Tells (view_of v.graph) v.reference (frame_of s) a ws' rs' (try_of e)
    pub carries : Carries slot_length item' v.path.edges
    pub clears : Clears a item'

  -- the answer to all edges
  abbrev pub Expanded : Going → List ℕ → List ℕ → Type 0
  Expanded a ws' rs' = Tells (view_of v.graph) v.reference (frame_of s) a ws' rs' (each (setting_of (frame_of s)) v.model (edge_tries (frame_of s).limits.length (view_of v.graph) v.path))
