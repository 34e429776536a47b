-- The computation of partial paths on the way, as code holds it: each operation as an equation, what a push and the top of a round answer.
-- Document 01, "Partial paths" and "Budget and frontier"; 31 and 36 of "Turned back".
use Rattle.std.specs.Prelude.{ℕ, ◌+◌, ◌≡◌, false, List, leb, Option, Some, None, Result, Ok, Err}
use Rattle.semantics.specs.Limits.{max_expansions}
use Rattle.semantics.specs.declared.search.SearchStats.{SearchStats}
use Rattle.semantics.specs.declared.search.PartialPathStats.{PartialPathStats}
use Rattle.semantics.specs.declared.refusal.PartialPathRefusal.TheVariants.{NoWaitingSlot, TooManyExpansions}
use Rattle.semantics.specs.Lists.{pick}
use Rattle.path_budget.specs.declared.budget.Budget.{Budget}
use Rattle.path_frontier.specs.declared.frontier.Frontier.{Frontier}
use Rattle.path_budget.specs.Budget.{fresh, with_max_length, with_max_paths, expansion, stats_of}
use Rattle.path_frontier.specs.Frontier.{short_slot, empty, greatest_in, Pushes, Pops, Widens}
use Rattle.semantics.specs.declared.refusal.PartialPathRefusal.{PartialPathRefusal}
use Rattle.partial_state.specs.declared.extraction.Config.{Config}
use Rattle.partial_state.specs.declared.extraction.ExtractionFrame.{ExtractionFrame}
use Rattle.partial_state.specs.declared.extraction.Extraction.{Extraction}
use Rattle.partial_state.specs.declared.extraction.ExtractionTurn.{ExtractionTurn}
use Rattle.partial_state.specs.declared.extraction.ExtractionTurn.TheVariants.{Over, Expand}
pub mod Laws

-- ---- what is handed on in code

abbrev pub frame_with : Config → ℕ → ExtractionFrame
frame_with c waiting = record { order = c.order; length = c.length; expansions = c.expansions; waiting = waiting; slot = short_slot }

-- with slots of so many words
abbrev pub slotted_by : ℕ → ExtractionFrame → ExtractionFrame
slotted_by L fr = record { order = fr.order; length = fr.length; expansions = fr.expansions; waiting = fr.waiting; slot = L }

-- the budget that a computation in this frame begins with
abbrev pub budget_in : ExtractionFrame → Budget
budget_in fr = with_max_paths fr.expansions (with_max_length fr.length fresh)

abbrev pub nothing_yet : Extraction
nothing_yet = record { first = 0; count = 0; pending = 0; most = 0; expanded = 0; cycles = 0; found = 0; length_limited = false; count_limited = false }

-- a budget with the counts and flags that a computation has come to
abbrev pub resumed : Extraction → Budget → Budget
resumed p b = record { max_length = b.max_length; max_paths = b.max_paths; max_complete = b.max_complete; expanded = p.expanded; complete = b.complete; length_limited = p.length_limited; count_limited = p.count_limited; complete_limited = b.complete_limited }

-- with the counts and flags of this budget
abbrev pub counted_by : Budget → Extraction → Extraction
counted_by b p = record { first = p.first; count = p.count; pending = p.pending; most = p.most; expanded = b.expanded; cycles = p.cycles; found = p.found; length_limited = b.length_limited; count_limited = b.count_limited }

-- with the place of this frontier
abbrev pub placed_by : Frontier → Extraction → Extraction
placed_by f p = record { first = f.first; count = f.count; pending = f.pending; most = f.most; expanded = p.expanded; cycles = p.cycles; found = p.found; length_limited = p.length_limited; count_limited = p.count_limited }

abbrev pub cut_in : Extraction → Extraction
cut_in p = record { first = p.first; count = p.count; pending = p.pending; most = p.most; expanded = p.expanded; cycles = p.cycles + 1; found = p.found; length_limited = p.length_limited; count_limited = p.count_limited }

abbrev pub found_in : Extraction → Extraction
found_in p = record { first = p.first; count = p.count; pending = p.pending; most = p.most; expanded = p.expanded; cycles = p.cycles; found = p.found + 1; length_limited = p.length_limited; count_limited = p.count_limited }

-- ---- the whole of it

-- a computation with its frontier and its budget
pub record Computation : Type 0 where
  pub frontier : Frontier
  pub budget : Budget
  pub cycles : ℕ
  pub found : ℕ

-- it goes on, or stops with a refusal
pub data Course : Type 0 where
  goes : Computation → Course
  stops : PartialPathRefusal → Course

-- at the top of a round: it is over, or a route is to be expanded, or it stops with a refusal
pub data Opening : Type 0 where
  closing : Computation → Opening
  opening : Computation → Opening
  refusing : PartialPathRefusal → Opening

-- what is handed on, in its frame
abbrev pub at : ExtractionFrame → Extraction → Computation
at fr p = record {
  frontier = record { order = fr.order; length = fr.slot; first = p.first; count = p.count; pending = p.pending; capacity = fr.waiting; most = p.most };
  budget = resumed p (budget_in fr);
  cycles = p.cycles;
  found = p.found;
}

abbrev pub going_at : ExtractionFrame → Result Extraction PartialPathRefusal → Course
going_at fr (Ok p) = goes (at fr p)
going_at fr (Err r) = stops r

abbrev pub taken_at : ExtractionFrame → Result ExtractionTurn PartialPathRefusal → Opening
taken_at fr (Ok (Over p)) = closing (at fr p)
taken_at fr (Ok (Expand p)) = opening (at fr p)
taken_at fr (Err r) = refusing r

abbrev pub new_computation : Config → ℕ → Computation
new_computation c capacity = record { frontier = empty c.order short_slot capacity; budget = budget_in (frame_with c capacity); cycles = 0; found = 0 }

abbrev pub with_budget : Budget → Computation → Computation
with_budget b x = record { frontier = x.frontier; budget = b; cycles = x.cycles; found = x.found }

abbrev pub with_frontier : Frontier → Computation → Computation
with_frontier f x = record { frontier = f; budget = x.budget; cycles = x.cycles; found = x.found }

abbrev pub cut_one : Computation → Computation
cut_one x = record { frontier = x.frontier; budget = x.budget; cycles = x.cycles + 1; found = x.found }

abbrev pub found_one : Computation → Computation
found_one x = record { frontier = x.frontier; budget = x.budget; cycles = x.cycles; found = x.found + 1 }

-- statistics with so many complete paths, none of them refused by a limit
abbrev pub counting : ℕ → SearchStats → SearchStats
counting n s = record { expanded = s.expanded; complete = n; rejected = s.rejected; cycles = s.cycles; length_limited = s.length_limited; count_limited = s.count_limited; complete_limited = false; waited = s.waited }

-- what is counted, as an enumeration counts it: a found path is a complete one
abbrev pub stats_in : Computation → SearchStats
stats_in x = counting x.found (stats_of x.budget 0 x.cycles)

-- what a computation that is over tells
abbrev pub partial_of : Computation → PartialPathStats
partial_of x = record { expanded = x.budget.expanded; found = x.found; cycles = x.cycles; length_limited = x.budget.length_limited; count_limited = x.budget.count_limited; waited = greatest_in x.frontier }

abbrev pub course_of : Computation → Option Frontier → Course
course_of x (Some f) = goes (with_frontier f x)
course_of x None = stops NoWaitingSlot

-- a push into the frontier, and the computation with it
pub record Extends (x : Computation) (ws item : List ℕ) (a : Course) (ws' : List ℕ) : Type 0 where
  pub pushed : Option Frontier
  pub pushes : Pushes x.frontier ws item pushed ws'
  pub is : a ≡ course_of x pushed

-- the expansion is put to the budget, then to the bound
abbrev pub admitted_of : Computation → Frontier → Opening
admitted_of x f =
    pick (expansion x.budget).allowed
    (pick (leb max_expansions x.budget.expanded) (refusing TooManyExpansions) (opening (with_frontier f (with_budget (expansion x.budget).budget x))))
    (closing (with_budget (expansion x.budget).budget x))

abbrev pub opening_of : Computation → Option Frontier → Opening
opening_of x (Some f) = admitted_of x f
opening_of x None = closing x

-- a pop from the frontier, and the round that it opens
pub record Taking (x : Computation) (ws : List ℕ) (a : Opening) (item ws' : List ℕ) : Type 0 where
  pub popped : Option Frontier
  pub pops : Pops x.frontier ws popped item ws'
  pub is : a ≡ opening_of x popped

-- the waiting slots get so many words
pub record Grows (x : Computation) (ws : List ℕ) (L : ℕ) (y : Computation) (ws' : List ℕ) : Type 0 where
  pub frontier : Frontier
  pub widens : Widens x.frontier ws L frontier ws'
  pub is : y ≡ with_frontier frontier x
