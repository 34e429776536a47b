-- A search's budget: its limits, counts and flags, and what each question put to it answers and leaves.
-- Document 01, "Budget and frontier": "A length is refused only above its limit. Expansion is refused when the count has reached its limit. A complete path is counted even when not kept."
use Rattle.std.specs.Prelude.{ℕ, ◌+◌, Bool, true, false, None}
use Rattle.semantics.specs.declared.search.SearchLimits.{SearchLimits}
use Rattle.semantics.specs.declared.search.SearchStats.{SearchStats}
use Rattle.semantics.specs.Limits.{within, below, Limit}
use Rattle.path_budget.specs.declared.budget.Budget.{Budget}
use Rattle.path_budget.specs.declared.budget.Admitted.{Admitted}
pub mod Laws

-- no limits, and nothing counted
abbrev pub fresh : Budget
fresh = record { max_length = None; max_paths = None; max_complete = None; expanded = 0; complete = 0; length_limited = false; count_limited = false; complete_limited = false }

-- the limit on the length of a path; the last one set holds
abbrev pub with_max_length : Limit → Budget → Budget
with_max_length limit b = record { max_length = limit; max_paths = b.max_paths; max_complete = b.max_complete; expanded = b.expanded; complete = b.complete; length_limited = b.length_limited; count_limited = b.count_limited; complete_limited = b.complete_limited }

-- the limit on expansions
abbrev pub with_max_paths : Limit → Budget → Budget
with_max_paths limit b = record { max_length = b.max_length; max_paths = limit; max_complete = b.max_complete; expanded = b.expanded; complete = b.complete; length_limited = b.length_limited; count_limited = b.count_limited; complete_limited = b.complete_limited }

-- the limit on the complete paths that are kept
abbrev pub with_max_complete : Limit → Budget → Budget
with_max_complete limit b = record { max_length = b.max_length; max_paths = b.max_paths; max_complete = limit; expanded = b.expanded; complete = b.complete; length_limited = b.length_limited; count_limited = b.count_limited; complete_limited = b.complete_limited }

-- one more expansion
abbrev pub one_expanded : Budget → Budget
one_expanded b = record { max_length = b.max_length; max_paths = b.max_paths; max_complete = b.max_complete; expanded = b.expanded + 1; complete = b.complete; length_limited = b.length_limited; count_limited = b.count_limited; complete_limited = b.complete_limited }

-- one more complete path
abbrev pub one_complete : Budget → Budget
one_complete b = record { max_length = b.max_length; max_paths = b.max_paths; max_complete = b.max_complete; expanded = b.expanded; complete = b.complete + 1; length_limited = b.length_limited; count_limited = b.count_limited; complete_limited = b.complete_limited }

-- an expansion was refused
abbrev pub refused_count : Budget → Budget
refused_count b = record { max_length = b.max_length; max_paths = b.max_paths; max_complete = b.max_complete; expanded = b.expanded; complete = b.complete; length_limited = b.length_limited; count_limited = true; complete_limited = b.complete_limited }

-- a length was refused
abbrev pub refused_length : Budget → Budget
refused_length b = record { max_length = b.max_length; max_paths = b.max_paths; max_complete = b.max_complete; expanded = b.expanded; complete = b.complete; length_limited = true; count_limited = b.count_limited; complete_limited = b.complete_limited }

-- a complete path was not kept
abbrev pub refused_complete : Budget → Budget
refused_complete b = record { max_length = b.max_length; max_paths = b.max_paths; max_complete = b.max_complete; expanded = b.expanded; complete = b.complete; length_limited = b.length_limited; count_limited = b.count_limited; complete_limited = true }

-- the answer to a test: one budget where it holds, the other where it does not
abbrev pub answer_by : Bool → Budget → Budget → Admitted
answer_by true granted refused = record { allowed = true; budget = granted }
answer_by false granted refused = record { allowed = false; budget = refused }

-- an answer and the budget beside it
abbrev pub admitted_by : Bool → Budget → Admitted
admitted_by a b = record { allowed = a; budget = b }

-- an expansion is refused when the count has reached its limit
unfoldable pub expansion : Budget → Admitted
expansion b = answer_by (below b.expanded b.max_paths) (one_expanded b) (refused_count b)

-- a length is refused only above its limit
unfoldable pub lengthening : ℕ → Budget → Admitted
lengthening length b = answer_by (within length b.max_length) b (refused_length b)

-- a complete path is counted even when not kept
unfoldable pub completion : ℕ → Budget → Admitted
completion kept b = answer_by (below kept b.max_complete) (one_complete b) (refused_complete (one_complete b))

-- what the search tells of its work; rejections and cycle cuts are counted beside the budget, and what waits beside both
abbrev pub stats_of : Budget → ℕ → ℕ → SearchStats
stats_of b rejected cycles = record { expanded = b.expanded; complete = b.complete; rejected = rejected; cycles = cycles; length_limited = b.length_limited; count_limited = b.count_limited; complete_limited = b.complete_limited; waited = 0 }

-- the limits that were set
abbrev pub limits_of : Budget → SearchLimits
limits_of b = record { length = b.max_length; expansions = b.max_paths; complete = b.max_complete }

-- a budget with these limits that counts nothing yet
abbrev pub budget_of : SearchLimits → Budget
budget_of limits = with_max_complete limits.complete (with_max_paths limits.expansions (with_max_length limits.length fresh))
