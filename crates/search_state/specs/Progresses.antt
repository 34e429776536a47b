-- A search as its progress in a frame: what goes round its loops in code, and the search that it stands for.
-- Document 01, "Answer" and "Budget and frontier".
use Rattle.std.specs.Prelude.{Result, ◌+◌, Bool, true, Ok, Err}
use Rattle.semantics.specs.declared.refusal.SearchRefusal.{SearchRefusal}
use Rattle.semantics.specs.Lists.{pick}
use Rattle.path_budget.specs.declared.budget.Budget.{Budget}
use Rattle.path_budget.specs.Budget.{limits_of, budget_of}
use Rattle.search_state.specs.declared.dead_ends.DeadEnds.{DeadEnds}
use Rattle.search_state.specs.declared.search.Search as S
use Rattle.search_state.specs.Searches.{Going, Taken}
use Rattle.search_state.specs.declared.search.Round.{Round}
use Rattle.search_state.specs.declared.search.Round.TheVariants.{Over, Expand}
use Rattle.search_state.specs.declared.progress.Frame.{Frame}
use Rattle.search_state.specs.declared.progress.Progress.{Progress}
pub mod Laws

-- a search that goes on in a frame, or its refusal
abbrev pub Course : Type 0
Course = Result Progress SearchRefusal

-- the top of a round in a frame
abbrev pub Next : Type 0
Next = Result (Round Progress) SearchRefusal

-- what a search never changes: its order, limits, and areas
abbrev pub frame_of : S.Search → Frame
frame_of s = record { order = s.frontier.order; limits = limits_of s.state.budget; waiting = s.frontier.capacity; results = s.state.results }

-- what it changes: the frontier's place, counts and flags
abbrev pub progress_of : S.Search → Progress
progress_of s = record {
  first = s.frontier.first;
  count = s.frontier.count;
  pending = s.frontier.pending;
  most = s.frontier.most;
  slot = s.frontier.length;
  expanded = s.state.budget.expanded;
  complete = s.state.budget.complete;
  cycles = s.state.cycles;
  rejected = s.state.rejected;
  kept = s.state.kept;
  length_limited = s.state.budget.length_limited;
  count_limited = s.state.budget.count_limited;
  complete_limited = s.state.budget.complete_limited;
}

-- a budget with the counts and flags that a search has come to
abbrev pub resumed : Progress → Budget → Budget
resumed p b = record { max_length = b.max_length; max_paths = b.max_paths; max_complete = b.max_complete; expanded = p.expanded; complete = p.complete; length_limited = p.length_limited; count_limited = p.count_limited; complete_limited = p.complete_limited }

-- the search that has come so far in a frame
abbrev pub at : Frame → Progress → S.Search
at f p = record {
  frontier = record { order = f.order; length = p.slot; first = p.first; count = p.count; pending = p.pending; capacity = f.waiting; most = p.most };
  state = record {
    budget = resumed p (budget_of f.limits);
    cycles = p.cycles;
    rejected = p.rejected;
    kept = p.kept;
    results = f.results;
  };
}

abbrev pub course_of : Going → Course
course_of (Ok s) = Ok (progress_of s)
course_of (Err x) = Err x

abbrev pub course_at : Frame → Course → Going
course_at f (Ok p) = Ok (at f p)
course_at f (Err x) = Err x

abbrev pub round_of : Round S.Search → Round Progress
round_of (Over f) = Over f
round_of (Expand s) = Expand (progress_of s)

abbrev pub round_at : Frame → Round Progress → Round S.Search
round_at f (Over e) = Over e
round_at f (Expand p) = Expand (at f p)

abbrev pub next_of : Taken → Next
next_of (Ok r) = Ok (round_of r)
next_of (Err x) = Err x

abbrev pub next_at : Frame → Next → Taken
next_at f (Ok r) = Ok (round_at f r)
next_at f (Err x) = Err x

-- behind edges that lead nowhere, with this length flag
abbrev pub counted_on : Bool → DeadEnds → Progress → Progress
counted_on b d p = record {
  first = p.first;
  count = p.count;
  pending = p.pending;
  most = p.most;
  slot = p.slot;
  expanded = p.expanded;
  complete = p.complete;
  cycles = p.cycles + d.cycles;
  rejected = p.rejected + d.rejected;
  kept = p.kept;
  length_limited = b;
  count_limited = p.count_limited;
  complete_limited = p.complete_limited;
}

abbrev pub progress_by : DeadEnds → Progress → Progress
progress_by d p = counted_on (pick d.overlong true p.length_limited) d p
