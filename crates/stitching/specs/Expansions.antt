-- The expansion of a path by the partial paths of a database, in code against the enumeration.
-- Document 01, "Partial paths": `try_compute_from_partials`.
use Rattle.std.specs.Prelude.{ℕ, ◌≡◌, Bool, List, length, take, drop}
use Rattle.search_rounds.specs.Expanding.{Expanding}
use Rattle.semantics.specs.declared.refusal.SearchRefusal.{SearchRefusal}
use Rattle.semantics.specs.Limits.{base, slot_length}
use Rattle.semantics.specs.Answer.{Answer}
use Rattle.semantics.specs.Graph.{view_of}
use Rattle.semantics.specs.Path.{Path}
use Rattle.semantics.specs.Enumeration.{State, one, each}
use Rattle.semantics.specs.Stitching.{judge_slot}
use Rattle.search_state.specs.declared.search.Search as S
use Rattle.search_state.specs.Searches.{Going, Clears}
use Rattle.search_state.specs.Progresses.{frame_of}
use Rattle.search_state.specs.Reps.{setting_of, Tells}
use Rattle.database.specs.Records.{edge_words}
use Rattle.stitching_trial.specs.Trials.{KeptTo}
use Rattle.stitching.specs.StitchedAnswers.{tries_in}
pub mod Laws
pub mod Partials
pub mod Rounds

-- the path under expansion: the item holds its edges, and behind them what an earlier trial stored there
abbrev pub Given : ℕ → List ℕ → List ℕ → List ℕ → ℕ → S.Search → List ℕ → List ℕ → Type 0
Given = Expanding (λ k item es. (length item ≡ slot_length) × (take k (drop 1 item) ≡ es))

module _ (words : List ℕ) (most : ℕ) (index steps item : List ℕ) (k : ℕ) (s : S.Search) (ws rs : List ℕ) (v : Given most index steps item k s ws rs) where
  -- the enumeration's answer to one partial path
  abbrev pub try_of : ℕ → Answer SearchRefusal (State Path)
  try_of i = one (setting_of (frame_of s)) v.model (judge_slot base (frame_of s).limits.length (view_of v.graph) v.path (edge_words base i words))

  pub record Tried (i : ℕ) (a : Going) (steps' item' ws' rs' : List ℕ) : Type 0 where
    pub tells : Tells (view_of v.graph) v.reference (frame_of s) a ws' rs' (try_of i)
    pub held : take k (drop 1 item') ≡ v.path.edges
    pub clears : Clears a item'
    pub kept : KeptTo k steps steps'

  -- the answer to all that are seen
  pub record Expanded (see : ℕ → Bool) (a : Going) (steps' ws' rs' : List ℕ) : Type 0 where
    pub tells : Tells (view_of v.graph) v.reference (frame_of s) a ws' rs' (each (setting_of (frame_of s)) v.model (tries_in see words (frame_of s).limits.length (view_of v.graph) v.path))
    pub kept : KeptTo k steps steps'
