-- What a search counts and keeps: the budget, cycle cuts, rejections, and result slots. Each operation as an equation.
-- Document 01, "Answer" and "Budget and frontier"; 32 of "Turned back".
use Rattle.std.specs.Prelude.{ℕ, ◌+◌, List, ltb, Option, Some, None}
use Rattle.semantics.specs.Limits.{slot_length}
use Rattle.semantics.specs.declared.search.SearchLimits.{SearchLimits}
use Rattle.semantics.specs.declared.search.SearchStats.{SearchStats}
use Rattle.semantics.specs.Lists.{pick}
use Rattle.words.specs.Slots.{put_slot}
use Rattle.path_budget.specs.declared.budget.Budget.{Budget}
use Rattle.path_budget.specs.Budget.{budget_of, lengthening, completion, stats_of}
use Rattle.search_state.specs.declared.state.SearchState.{SearchState}
pub mod Laws

abbrev pub new_state : SearchLimits → ℕ → SearchState
new_state l results = record { budget = budget_of l; cycles = 0; rejected = 0; kept = 0; results = results }

abbrev pub cut_one : SearchState → SearchState
cut_one s = record { budget = s.budget; cycles = s.cycles + 1; rejected = s.rejected; kept = s.kept; results = s.results }

abbrev pub rejected_one : SearchState → SearchState
rejected_one s = record { budget = s.budget; cycles = s.cycles; rejected = s.rejected + 1; kept = s.kept; results = s.results }

abbrev pub with_budget : Budget → SearchState → SearchState
with_budget b s = record { budget = b; cycles = s.cycles; rejected = s.rejected; kept = s.kept; results = s.results }

-- the budget is asked for a length
abbrev pub overlong_by : ℕ → SearchState → SearchState
overlong_by n s = with_budget (lengthening n s.budget).budget s

-- one more result slot is taken
abbrev pub kept_one : SearchState → SearchState
kept_one s = record { budget = s.budget; cycles = s.cycles; rejected = s.rejected; kept = s.kept + 1; results = s.results }

-- the state with the budget that was asked for one more complete path
abbrev pub asked : SearchState → SearchState
asked s = with_budget (completion s.kept s.budget).budget s

-- a complete path: not kept by the limit, else 32 when all result slots are taken
unfoldable pub recorded_by : SearchState → Option SearchState
recorded_by s = pick (completion s.kept s.budget).allowed (pick (ltb s.kept s.results) (Some (kept_one (asked s))) None) (Some (asked s))

-- its words stand in the next slot where it is kept
unfoldable pub result_after : SearchState → List ℕ → List ℕ → List ℕ
result_after s item ws = pick (completion s.kept s.budget).allowed (pick (ltb s.kept s.results) (put_slot slot_length s.kept item ws) ws) ws

abbrev pub stats_in : SearchState → SearchStats
stats_in s = stats_of s.budget s.rejected s.cycles
