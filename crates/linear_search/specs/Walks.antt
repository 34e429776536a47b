-- A linear search in code against the enumeration: one path grows, edge by edge, and nothing waits.
-- Document 01, "Answer": `try_compute_linear`.
use Rattle.std.specs.Prelude.{ℕ, ◌+◌, ◌-◌, ◌<◌, ◌≤◌, ◌^◌, ◌≡◌, ◌⊎◌, Bool, true, false, List, [], ◌∷◌, ltb, length, Some, None, Ok, Err, Result, Option}
use Rattle.semantics.specs.declared.search.SearchLimits.{SearchLimits}
use Rattle.semantics.specs.declared.refusal.LinearRefusal.{LinearRefusal}
use Rattle.semantics.specs.declared.refusal.LinearRefusal.TheVariants as Linear
use Rattle.semantics.specs.Limits.{base, slot_length, steps_length, max_edges, max_expansions}
use Rattle.semantics.specs.Answer.{Answer, ok, refuse}
use Rattle.semantics.specs.Graph.{node_id, Graph, View, view_of}
use Rattle.semantics.specs.Path.{Path, from_reference, append}
use Rattle.semantics.specs.Enumeration.{State, Setting, Try, keep, each, run}
use Rattle.semantics.specs.Direct.{judge}
use Rattle.semantics.specs.Linear.{first, later, only_tries, linear_setting}
use Rattle.words.specs.Slots.{IsSlot, SlotsIn}
use Rattle.storage.specs.Index.{Loaded}
use Rattle.stepping.specs.Judged.{Stepped}
use Rattle.path_budget.specs.Budget.{limits_of}
use Rattle.search_state.specs.declared.state.SearchState.{SearchState}
use Rattle.search_state.specs.Items.{Carries}
use Rattle.search_state.specs.Reps.{slot_of, Counts, Few, Replayed}
use Rattle.search_state.specs.Reps.Laws.{Kept}
use Rattle.linear_search.specs.declared.linear.Expansion.{Expansion}
pub mod Laws
pub mod Edges
pub mod Rounds

abbrev pub with_state : SearchState → Expansion → Expansion
with_state t s = record { state = t; found = s.found }

-- what a linear search never changes: its limits and its result slots
pub record Frame : Type 0 where
  pub limits : SearchLimits
  pub results : ℕ

abbrev pub frame_of : SearchState → Frame
frame_of s = record { limits = limits_of s.budget; results = s.results }

abbrev pub setting_of : Frame → Setting LinearRefusal
setting_of f = linear_setting f.limits f.results

-- the tries that are left: until an edge was appended, and after it
abbrev pub rest_tries : Bool → ℕ → List (Try LinearRefusal Path) → List (Try LinearRefusal Path)
rest_tries false n ts = first n ts
rest_tries true n ts = later n ts

-- what one edge does: the expansion goes on, or a second edge could be appended, or the search is refused
abbrev pub Pace : Type 0
Pace = Result (Option Expansion) LinearRefusal

-- the search is over, or refused
abbrev pub Walked : Type 0
Walked = Result SearchState LinearRefusal

-- ---- a complete path is recorded

pub record Choosing (s : SearchState) (rs item : List ℕ) : Type 0 where
  pub fits : s.kept ≤ s.results
  pub room : SlotsIn slot_length s.results rs
  pub slot : IsSlot slot_length item
  pub few : s.budget.complete + 1 < 2 ^ 64

-- an expansion that goes on, or a refusal
abbrev pub Chose : Type 0
Chose = Result Expansion LinearRefusal

abbrev pub Chooses : SearchState → ℕ → State Path → Chose → List ℕ → Answer LinearRefusal (State Path) → Type 0
Chooses s link m (Ok n) rs (ok u) = (n.found ≡ link) × Kept s n.state rs m u
Chooses s link m (Ok n) rs (refuse y) = ⊥
Chooses s link m (Err x) rs (ok u) = ⊥
Chooses s link m (Err x) rs (refuse y) = x ≡ y

abbrev pub Chosen : SearchState → ℕ → Bool → List ℕ → List ℕ → Chose → List ℕ → Type 0
Chosen s link complete rs item a rs' = (m : State Path) (q : Path) → Counts s rs m → item ≡ slot_of q → Chooses s link m a rs' (keep complete (setting_of (frame_of s)) m q)

-- the expansion with the edge that was chosen
abbrev pub pace_of : Chose → Pace
pace_of (Ok n) = Ok (Some n)
pace_of (Err x) = Err x

-- ---- the path under expansion

pub record Track (index steps item : List ℕ) (k : ℕ) : Type 0 where
  pub graph : Graph
  pub loaded : Loaded graph index
  pub reference : ℕ
  pub path : Path
  pub count : length path.edges ≡ k
  pub stepped : Stepped steps k path
  pub long : steps_length ≤ length steps
  pub carries : Carries slot_length item path.edges
  pub good : Replayed (view_of graph) reference path

-- no edge was appended yet, or the path with it stands in the item and is the one to go on with
abbrev pub Standing : View → Path → ℕ → List ℕ → List Path → Type 0
Standing g p found item pending = ((found ≡ 0) × (pending ≡ [])) ⊎ ((0 < found) × (q : Path) × (pending ≡ q ∷ []) × (append g p (found - 1) ≡ ok q) × (item ≡ slot_of q) × (ltb (length p.edges) max_edges ≡ true))

-- in the middle of an expansion
pub record Walk (most : ℕ) (index steps item : List ℕ) (k link : ℕ) (on : Expansion) (rs : List ℕ) : Type 0 where
  pub track : Track index steps item k
  pub linked : 0 < link
  pub model : State Path
  pub counts : Counts on.state rs model
  pub few : Few model.tally.looked model.stats
  pub small : model.tally.looked ≤ most
  pub none : model.rest ≡ []
  pub standing : Standing (view_of track.graph) track.path on.found item model.pending

abbrev pub judge_of : (g : Graph) → SearchState → Path → ℕ → Try LinearRefusal Path
judge_of g s p e = judge Linear.TooLong base s.budget.max_length (view_of g) p e

module _ (most : ℕ) (index steps item : List ℕ) (k link : ℕ) (on : Expansion) (rs : List ℕ) (v : Walk most index steps item k link on rs) where
  -- the enumeration's answer to this edge and the tries behind it
  abbrev pub answer_of : List (Try LinearRefusal Path) → Answer LinearRefusal (State Path)
  answer_of ts = each (setting_of (frame_of on.state)) v.model (rest_tries (ltb 0 on.found) v.track.path.end (judge_of v.track.graph on.state v.track.path (link - 1) ∷ ts))

  pub record Goes (n : Expansion) (item' rs' : List ℕ) : Type 0 where
    pub state : State Path
    pub counted : Counts n.state rs' state
    pub fewer : Few state.tally.looked state.stats
    pub looked : state.tally.looked ≡ v.model.tally.looked + 1
    pub rest : state.rest ≡ []
    pub stands : Standing (view_of v.track.graph) v.track.path n.found item' state.pending
    pub carried : Carries slot_length item' v.track.path.edges
    pub frame : frame_of n.state ≡ frame_of on.state
    pub expanded : n.state.budget.expanded ≡ on.state.budget.expanded
    pub onward : (ts : List (Try LinearRefusal Path)) → answer_of ts ≡ each (setting_of (frame_of on.state)) state (rest_tries (ltb 0 n.found) v.track.path.end ts)

  abbrev pub Paced : Pace → List ℕ → List ℕ → Type 0
  Paced (Ok (Some n)) item' rs' = Goes n item' rs'
  Paced (Ok None) item' rs' = (ts : List (Try LinearRefusal Path)) → answer_of ts ≡ refuse (Linear.MultipleEdges (node_id v.track.path.end))
  Paced (Err x) item' rs' = (ts : List (Try LinearRefusal Path)) → answer_of ts ≡ refuse x

-- ---- the whole search

pub record Walking (index steps item : List ℕ) (s : SearchState) (rs : List ℕ) : Type 0 where
  pub graph : Graph
  pub loaded : Loaded graph index
  pub reference : ℕ
  pub first : Path
  pub starts : from_reference (view_of graph) reference ≡ ok first
  pub none : first.edges ≡ []
  pub begun : Stepped steps 0 first
  pub long : steps_length ≤ length steps
  pub words : item ≡ slot_of first
  pub model : State Path
  pub counts : Counts s rs model
  pub few : Few model.tally.looked model.stats
  pub unlooked : model.tally.looked ≡ 0
  pub rest : model.rest ≡ first ∷ []
  pub pending : model.pending ≡ []
  pub unexpanded : s.budget.expanded ≡ 0

abbrev pub Ends : Walked → List ℕ → Answer LinearRefusal (State Path) → Type 0
Ends (Ok st) rs (ok u) = Counts st rs u
Ends (Ok st) rs (refuse y) = ⊥
Ends (Err x) rs (ok u) = ⊥
Ends (Err x) rs (refuse y) = x ≡ y

module _ (index steps item : List ℕ) (s : SearchState) (rs : List ℕ) (v : Walking index steps item s rs) where
  abbrev pub run_of : Answer LinearRefusal (State Path)
  run_of = run (setting_of (frame_of s)) (only_tries base s.budget.max_length (view_of v.graph)) max_expansions v.model

  abbrev pub WalkedTo : Walked → List ℕ → Type 0
  WalkedTo a rs' = Ends a rs' run_of
