-- Rivals among the recorded paths: for each node the place of an edge of the greatest precedence of those that leave it on a recorded path.
-- A path none of whose edges has a greater one there is shadowed by none, and need not be compared with the others.
-- For every slot length L. Document 01, "Path": "Different sources: no. Left precedence greater: yes."
use Rattle.std.specs.Prelude.{ℕ, ◌+◌, ◌*◌, ◌≤◌, ◌<◌, ◌≡◌, ◌⊎◌, false, List, ℤ, length, get_or}
use Rattle.semantics.specs.declared.graph.NodeId.{NodeId}
use Rattle.semantics.specs.declared.graph.Edge.TheVariants as E
use Rattle.storage.specs.Index.{edge_row}
use Rattle.reply.specs.Beatable.{exceeds, AsGreat}
use Rattle.reply.specs.ResultSlots.{count_of, Fitting}
pub mod Noting
pub mod Laws

-- at this place of the area stands an edge of a path
pub record Place (L : ℕ) (ws : List ℕ) (p : ℕ) : Type 0 where
  pub slot : ℕ
  pub at : ℕ
  pub fitting : Fitting L slot ws
  pub among : at < count_of L (get_or ws (L * slot) 0)
  pub here : p ≡ L * slot + 1 + at

-- the word of edge x's source, if it has one, is the place of an edge that is as great
abbrev pub Reached : List ℕ → List ℕ → List ℕ → ℕ → Type 0
Reached index ws best x =
    (s t : NodeId) (q : ℤ) → edge_row index x ≡ E.Live s t q → s.0 < length best → (0 < get_or best s.0 0) × AsGreat index (get_or ws (get_or best s.0 0) 0) x

-- the edges at the places before this one were looked at
pub record Best (L : ℕ) (index ws : List ℕ) (bound : ℕ) (best : List ℕ) : Type 0 where
  pub place : (n : ℕ) → 0 < get_or best n 0 → Place L ws (get_or best n 0) × (get_or best n 0 < bound)
  pub great : (p : ℕ) → Place L ws p → p < bound → Reached index ws best (get_or ws p 0)

-- of a known place, if it is one, and another, r has the greater edge
pub record Greater (index ws : List ℕ) (known at r : ℕ) : Type 0 where
  pub one : (r ≡ at) ⊎ ((r ≡ known) × (0 < known))
  pub new : AsGreat index (get_or ws r 0) (get_or ws at 0)
  pub old : 0 < known → AsGreat index (get_or ws r 0) (get_or ws known 0)

-- all words are less
abbrev pub Inside : ℕ → List ℕ → Type 0
Inside m best = (n : ℕ) → get_or best n 0 < m

-- edge y's source has a word, and the edge at that place does not exceed y
abbrev pub Unrivalled : List ℕ → List ℕ → List ℕ → ℕ → Type 0
Unrivalled index ws best y =
    (s t : NodeId) (q : ℤ) → edge_row index y ≡ E.Live s t q → (s.0 < length best) × (0 < get_or best s.0 0 → exceeds q (edge_row index (get_or ws (get_or best s.0 0) 0)) ≡ false)

-- the same of the edges at all these places
abbrev pub UnrivalledFrom : List ℕ → List ℕ → List ℕ → ℕ → ℕ → Type 0
UnrivalledFrom index ws best from to = (p : ℕ) → from ≤ p → p < to → Unrivalled index ws best (get_or ws p 0)

-- and of the edges in slot i
abbrev pub SlotUnrivalled : ℕ → List ℕ → List ℕ → List ℕ → ℕ → Type 0
SlotUnrivalled L index ws best i = UnrivalledFrom index ws best (L * i + 1) (L * i + 1 + count_of L (get_or ws (L * i) 0))
