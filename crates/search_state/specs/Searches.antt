-- A search on the way, as code holds it: what a push and the top of a round answer.
-- Document 01, "Answer" and "Budget and frontier"; 31 and 36 of "Turned back".
use Rattle.std.specs.Prelude.{Result, ℕ, ◌+◌, ◌<◌, ◌≤◌, ◌^◌, ◌≡◌, List, leb, take, get_or, Option, Some, None, Ok, Err}
use Rattle.semantics.specs.Limits.{slot_length, max_expansions}
use Rattle.semantics.specs.declared.refusal.SearchRefusal.{SearchRefusal}
use Rattle.semantics.specs.declared.refusal.SearchRefusal.TheVariants as Search
use Rattle.semantics.specs.declared.search.SearchStats.{SearchStats}
use Rattle.semantics.specs.Lists.{pick}
use Rattle.semantics.specs.Enumeration.{figured}
use Rattle.path_frontier.specs.declared.frontier.Frontier.{Frontier}
use Rattle.path_budget.specs.Budget.{expansion}
use Rattle.words.specs.Slots.{IsSlot, padded}
use Rattle.path_frontier.specs.Frontier.{greatest_in, Framed, Wider, MakesRoom, Pushes, Pops}
use Rattle.search_state.specs.declared.state.SearchState.{SearchState}
use Rattle.search_state.specs.declared.search.Search as S
use Rattle.search_state.specs.declared.search.Finished.{Finished}
use Rattle.search_state.specs.declared.search.Round.{Round}
use Rattle.search_state.specs.declared.search.Round.TheVariants.{Over, Expand}
use Rattle.search_state.specs.States.{with_budget, stats_in}
use Rattle.search_state.specs.Items.{Clear}
pub mod Laws

-- a search that goes on, or its refusal
abbrev pub Going : Type 0
Going = Result S.Search SearchRefusal

-- what the top of a round opens, or the refusal of an expansion too many
abbrev pub Taken : Type 0
Taken = Result (Round S.Search) SearchRefusal

abbrev pub with_state : SearchState → S.Search → S.Search
with_state t s = record { frontier = s.frontier; state = t }

-- what a search that is over tells
abbrev pub report_in : Finished → SearchStats
report_in f = figured f.waited (stats_in f.state)

-- it is over with this frontier
abbrev pub over_by : Frontier → SearchState → Round S.Search
over_by f t = Over (record { state = t; waited = greatest_in f })

abbrev pub going_of : SearchState → Option Frontier → Going
going_of s (Some f) = Ok (record { frontier = f; state = s })
going_of s None = Err Search.NoWaitingSlot

-- an item has the words of a slot and fewer edges; the waiting slots may have fewer words, and lie in the area with so many as well
pub record Pushable (s : S.Search) (ws item : List ℕ) : Type 0 where
  pub framed : Framed s.frontier ws
  pub wider : Wider s.frontier ws slot_length
  pub slot : IsSlot slot_length item
  pub short : get_or item 0 0 < slot_length

-- room is made for the item's count and edges, and so much of it is pushed into the frontier; the search with it
pub record Extends (s : S.Search) (ws item : List ℕ) (a : Going) (ws' : List ℕ) : Type 0 where
  pub roomy : Frontier
  pub words : List ℕ
  pub makes : MakesRoom s.frontier ws (get_or item 0 0 + 1) roomy words
  pub pushed : Option Frontier
  pub pushes : Pushes roomy words (take roomy.length item) pushed ws'
  pub is : a ≡ going_of s.state pushed

-- a search that goes on finds the item clear behind the words of a slot
abbrev pub Clears : Going → List ℕ → Type 0
Clears (Ok s) item = Clear s.frontier.length item
Clears (Err x) item = Unit {0}

-- the expansion is put to the budget, then to the bound
abbrev pub admitted_of : S.Search → Frontier → Taken
admitted_of s f =
    pick (expansion s.state.budget).allowed
    (pick (leb max_expansions s.state.budget.expanded) (Err Search.TooManyExpansions) (Ok (Expand (record { frontier = f; state = with_budget (expansion s.state.budget).budget s.state }))))
    (Ok (over_by s.frontier (with_budget (expansion s.state.budget).budget s.state)))

abbrev pub taken_of : S.Search → Option Frontier → Taken
taken_of s (Some f) = admitted_of s f
taken_of s None = Ok (over_by s.frontier s.state)

-- a slot has its place in the front of the item, behind which are zeros, and one more expansion can be counted
pub record Takeable (s : S.Search) (ws item : List ℕ) : Type 0 where
  pub framed : Framed s.frontier ws
  pub short : s.frontier.length ≤ slot_length
  pub slot : IsSlot slot_length item
  pub clear : Clear s.frontier.length item
  pub few : s.state.budget.expanded + 1 < 2 ^ 64

-- a pop from the frontier, and the item with zeros behind the popped slot
pub record PopsInto (f : Frontier) (ws : List ℕ) (a : Option Frontier) (item ws' : List ℕ) : Type 0 where
  pub words : List ℕ
  pub pops : Pops f ws a words ws'
  pub laid : item ≡ padded slot_length words

-- the same, and the round that it opens
pub record Taking (s : S.Search) (ws : List ℕ) (a : Taken) (item ws' : List ℕ) : Type 0 where
  pub popped : Option Frontier
  pub pops : PopsInto s.frontier ws popped item ws'
  pub is : a ≡ taken_of s popped
