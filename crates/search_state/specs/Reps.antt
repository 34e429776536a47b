-- What it means that a search held in code and lent words stands for a state of the enumeration.
-- Document 01, "Answer": result slots, waiting slots, statistics and flags.
use Rattle.std.specs.Prelude.{ℕ, ◌<◌, ◌≤◌, ◌≡◌, ◌⊎◌, length, Ok, Err}
use mathlib.Core.List.{List, Memᴰ}
use Rattle.semantics.specs.declared.search.SearchStats.{SearchStats}
use Rattle.semantics.specs.declared.refusal.SearchRefusal.{SearchRefusal}
use Rattle.semantics.specs.Limits.{base, slot_length}
use Rattle.semantics.specs.Answer.{Answer, ok, refuse}
use Rattle.semantics.specs.Graph.{View}
use Rattle.semantics.specs.Path.{Path, replay}
use Rattle.semantics.specs.Enumeration.{State, Setting}
use Rattle.semantics.specs.Direct.{search_setting}
use Rattle.semantics.specs.Recorded.{edge_lists}
use Rattle.semantics.specs.Words.{encode, area}
use Rattle.words.specs.Slots.{SlotsIn}
use Rattle.path_frontier.specs.declared.frontier.Frontier.{Frontier}
use Rattle.path_frontier.specs.Frontier.{Wider}
use Rattle.path_frontier.specs.Frontier.Stands.{Stands}
use Rattle.search_state.specs.declared.state.SearchState.{SearchState}
use Rattle.search_state.specs.declared.search.Search as S
use Rattle.search_state.specs.Searches.{Going}
use Rattle.search_state.specs.declared.progress.Frame.{Frame}
use Rattle.search_state.specs.States.{stats_in}
use Rattle.search_state.specs.Progresses.{frame_of}
pub mod Laws
pub mod Rounds

-- a path waits as the slot of its edges, of so many words
abbrev pub slot_in : ℕ → Path → List ℕ
slot_in L p = encode L p.edges

-- and is kept, and expanded, in a slot of full length
abbrev pub slot_of : Path → List ℕ
slot_of p = slot_in slot_length p

-- counts, flags and kept paths
pub record Counts (st : SearchState) (rs : List ℕ) (m : State Path) : Type 0 where
  pub stats : stats_in st ≡ m.stats
  pub kept : st.kept ≡ length m.kept
  pub fits : st.kept ≤ st.results
  pub room : SlotsIn slot_length st.results rs
  pub words : rs ≡ area slot_length (length rs) (edge_lists m.kept)

-- no count is above n: a sum of 64 bits holds one more
pub record Few (n : ℕ) (t : SearchStats) : Type 0 where
  pub complete : t.complete ≤ n
  pub rejected : t.rejected ≤ n
  pub cycles : t.cycles ≤ n

abbrev pub setting_of : Frame → Setting SearchRefusal
setting_of f = search_setting f.order f.limits f.waiting f.results

-- the path is what its edges replay to from the reference
abbrev pub Replayed : View → ℕ → Path → Type 0
Replayed g r p = replay base g r p.edges ≡ ok p

-- waiting slots have a word for the count and each edge of a path that waits, and lie in the area with the words of a result slot as well
pub record Slotted (f : Frontier) (ws : List ℕ) (rest pending : List Path) : Type 0 where
  pub wider : Wider f ws slot_length
  pub fits : (p : Path) → Memᴰ p rest ⊎ Memᴰ p pending → length p.edges < f.length

-- the search in code, its work area and its result area stand for a state of the enumeration
pub record Rep (g : View) (r : ℕ) (s : S.Search) (ws rs : List ℕ) (m : State Path) : Type 0 where
  pub sized : Slotted s.frontier ws m.rest m.pending
  pub stands : Stands (slot_in s.frontier.length) s.frontier ws m
  pub counts : Counts s.state rs m
  pub few : Few m.tally.looked m.stats
  pub replays : (p : Path) → Memᴰ p m.rest ⊎ Memᴰ p m.pending → Replayed g r p

-- the search that goes on stands for the state answered, or it is refused alike
abbrev pub Tells : View → ℕ → Frame → Going → List ℕ → List ℕ → Answer SearchRefusal (State Path) → Type 0
Tells g r f (Ok s) ws rs (ok m) = (frame_of s ≡ f) × Rep g r s ws rs m
Tells g r f (Ok s) ws rs (refuse y) = ⊥
Tells g r f (Err x) ws rs (ok m) = ⊥
Tells g r f (Err x) ws rs (refuse y) = x ≡ y
