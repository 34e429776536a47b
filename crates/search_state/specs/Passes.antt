-- What edges that lead nowhere add to the counts of a search, in one sum.
-- Document 01, "Answer": cycle cuts, rejections, and the length flag.
use Rattle.std.specs.Prelude.{◌+◌, Bool, true, false}
use Rattle.path_budget.specs.declared.budget.Budget.{Budget}
use Rattle.path_budget.specs.Budget.{refused_length}
use Rattle.search_state.specs.declared.state.SearchState.{SearchState}
use Rattle.search_state.specs.declared.search.Search as S
use Rattle.search_state.specs.declared.dead_ends.DeadEnds.{DeadEnds}
use Rattle.search_state.specs.Searches.{with_state}
pub mod Laws

abbrev pub nothing_passed : DeadEnds
nothing_passed = record { cycles = 0; rejected = 0; overlong = false }

abbrev pub passed_cut : DeadEnds → DeadEnds
passed_cut p = record { cycles = p.cycles + 1; rejected = p.rejected; overlong = p.overlong }

abbrev pub passed_rejection : DeadEnds → DeadEnds
passed_rejection p = record { cycles = p.cycles; rejected = p.rejected + 1; overlong = p.overlong }

abbrev pub passed_length : DeadEnds → DeadEnds
passed_length p = record { cycles = p.cycles; rejected = p.rejected; overlong = true }

-- the budget with its length flag set, if a length was above its limit
abbrev pub flagged_if : Bool → Budget → Budget
flagged_if true b = refused_length b
flagged_if false b = b

abbrev pub passing : DeadEnds → SearchState → SearchState
passing p s = record { budget = flagged_if p.overlong s.budget; cycles = s.cycles + p.cycles; rejected = s.rejected + p.rejected; kept = s.kept; results = s.results }

-- the search behind these edges
abbrev pub passed_by : DeadEnds → S.Search → S.Search
passed_by p s = with_state (passing p s.state) s
