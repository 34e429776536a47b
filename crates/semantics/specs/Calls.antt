-- The public calls, each as one definition: from what the image decodes to, numbers, limits, area lengths and database words
-- to the answer and every word left behind. Document 01, "Path", "Answer", "Partial paths" and the order of checks in "Turned back".
use Rattle.std.specs.Prelude.{ℕ, Bool, true, false, List, [], ◌∷◌, leb, length, Err, Ok}
use Rattle.semantics.specs.declared.search.SearchOrder.{SearchOrder}
use Rattle.semantics.specs.declared.search.SearchLimits.{SearchLimits}
use Rattle.semantics.specs.declared.refusal.ImageRefusal.{ImageRefusal}
use Rattle.semantics.specs.declared.refusal.DatabaseRefusal.{DatabaseRefusal}
use Rattle.semantics.specs.declared.refusal.PartialPathRefusal.{PartialPathRefusal}
use Rattle.semantics.specs.declared.refusal.ReplayRefusal.{ReplayRefusal}
use Rattle.semantics.specs.declared.refusal.SearchRefusal.{SearchRefusal}
use Rattle.semantics.specs.declared.refusal.LinearRefusal.{LinearRefusal}
use Rattle.semantics.specs.Limits.{Bounds, slot_words, nobody, Limit}
use Rattle.semantics.specs.Answer.{Answer, ok, refuse}
use Rattle.semantics.specs.Graph.{Graph, View, view_of}
use Rattle.semantics.specs.Path.{Symbol, Step, along, jumped, Path, replay, is_complete, shadows}
use Rattle.semantics.specs.Enumeration.{Setting, State, figured, report_of}
use Rattle.semantics.specs.Recorded.{edge_lists}
use Rattle.semantics.specs.Direct.{direct, search_setting}
use Rattle.semantics.specs.Linear.{linear, linear_setting}
use Rattle.semantics.specs.PartialPaths.{Route, Slot, file_partials, alias_routes, partial_setting, partial_stats}
use Rattle.semantics.specs.Hidden.{seen_slot, seen_slots}
use Rattle.semantics.specs.Stitching.{stitched}
use Rattle.semantics.specs.Words.{zeros, whole_slots, area}
use Rattle.semantics.specs.Database.{check_database, fresh_words, has_room, replace_words}
use Rattle.semantics.specs.PublicAnswers.{Checked, Creation, Judgement, LinearResolution, Replacement, Replayed, Resolution, accepted, resolved}
use Rattle.semantics.specs.declared.answer.CreationRefusal.{CreationRefusal}
use Rattle.semantics.specs.declared.answer.ReplacementRefusal.{ReplacementRefusal}
use Rattle.semantics.specs.declared.answer.ResolutionRefusal.{ResolutionRefusal}
use Rattle.semantics.specs.declared.answer.TurnedBack.{TurnedBack}
pub mod Filing
pub mod Whole

-- THE CHECK OF AN IMAGE
unfoldable pub check_call : Answer ImageRefusal Graph → Checked
check_call (ok g) = accepted g.files (length g.nodes) (length g.edges)
check_call (refuse r) = Err r

-- REPLAY, COMPLETENESS, SHADOWING

-- a step as it is answered: the edge's number, or the scope that was jumped to
pub data Passage : Type 0 where
  edge : ℕ → Passage
  jump : ℕ → Passage

abbrev pub passages : List Step → List Passage
passages [] = []
passages (along e source precedence ∷ ss) = edge e ∷ passages ss
passages (jumped scope ∷ ss) = jump scope ∷ passages ss

-- the path that a replay answers: its end, its steps in order, both stacks with their tops first
pub record ReplayedPath : Type 0 where
  pub end : ℕ
  pub steps : List Passage
  pub symbols : List Symbol
  pub scopes : List ℕ

-- what stands in its place where the replay is refused
abbrev pub no_path : ReplayedPath
no_path = record { end = 0; steps = []; symbols = []; scopes = [] }

pub record ReplayOutcome : Type 0 where
  pub answer : Replayed
  pub path : ReplayedPath

unfoldable pub replay_answer : Answer ReplayRefusal Path → ReplayOutcome
replay_answer (ok p) = record { answer = Ok tt; path = record { end = p.end; steps = passages p.steps; symbols = p.stacks.symbols; scopes = p.stacks.scopes } }
replay_answer (refuse r) = record { answer = Err (TurnedBack.Refused r); path = no_path }

unfoldable pub complete_answer : View → Answer ReplayRefusal Path → Judgement
unfolding is_complete
complete_answer g (ok p) = Ok (is_complete g p)
complete_answer g (refuse r) = Err (TurnedBack.Refused r)

unfoldable pub shadows_answer : Path → Answer ReplayRefusal Path → Judgement
unfolding shadows
shadows_answer p (ok q) = Ok (shadows p q)
shadows_answer p (refuse r) = Err (TurnedBack.Refused r)

-- the left path is replayed before the right one
unfoldable pub left_first : Answer ReplayRefusal Path → Answer ReplayRefusal Path → Judgement
unfolding shadows_answer
left_first (ok p) right = shadows_answer p right
left_first (refuse r) right = Err (TurnedBack.Refused r)

-- a reference and an edge list
unfoldable pub replay_call : (bd : Bounds) → Answer ImageRefusal Graph → ℕ → List ℕ → ReplayOutcome
unfolding replay_answer replay view_of
replay_call bd (ok g) r es = replay_answer (replay bd (view_of g) r es)
replay_call bd (refuse x) r es = record { answer = Err (TurnedBack.Image x); path = no_path }

-- is the path of a reference and an edge list complete
unfoldable pub complete_call : (bd : Bounds) → Answer ImageRefusal Graph → ℕ → List ℕ → Judgement
unfolding complete_answer replay view_of
complete_call bd (ok g) r es = complete_answer (view_of g) (replay bd (view_of g) r es)
complete_call bd (refuse x) r es = Err (TurnedBack.Image x)

-- does the left path shadow the right one
unfoldable pub shadows_call : (bd : Bounds) → Answer ImageRefusal Graph → ℕ → List ℕ → ℕ → List ℕ → Judgement
unfolding left_first replay view_of
shadows_call bd (ok g) l ls r rs = left_first (replay bd (view_of g) l ls) (replay bd (view_of g) r rs)
shadows_call bd (refuse x) l ls r rs = Err (TurnedBack.Image x)

-- THE SEARCHES

-- what a search is asked: the reference; work and result are the lengths of the lent areas in words
pub record Request : Type 0 where
  pub order : SearchOrder
  pub limits : SearchLimits
  pub work : ℕ
  pub result : ℕ
  pub node : ℕ

-- linear search has no order and lends no work area
pub record LinearRequest : Type 0 where
  pub limits : SearchLimits
  pub result : ℕ
  pub node : ℕ

-- an answer, and every word of the work area and of the result area
pub record Outcome (A : Type 0) : Type 0 where
  pub answer : A
  pub work : List ℕ
  pub result : List ℕ

-- a refused call leaves both areas all zero
abbrev pub refused : {A : Type 0} → Request → A → Outcome A
refused q a = record { answer = a; work = zeros q.work; result = zeros q.result }

abbrev pub refused_linear : {A : Type 0} → LinearRequest → A → Outcome A
refused_linear q a = record { answer = a; work = []; result = zeros q.result }

abbrev pub setting_of : (bd : Bounds) → Request → Setting SearchRefusal
setting_of bd q = search_setting q.order q.limits (whole_slots (slot_words bd) q.work) (whole_slots (slot_words bd) q.result)

abbrev pub linear_setting_of : (bd : Bounds) → LinearRequest → Setting LinearRefusal
linear_setting_of bd q = linear_setting q.limits (whole_slots (slot_words bd) q.result)

-- which paths of a search that has ended are put into the slots: the returned, or the recorded ones
abbrev pub Reply : Type 0
Reply = State Path → List Path

-- what a finished or refused search leaves
unfoldable pub search_outcome : (bd : Bounds) (reply : Reply) → Request → Answer SearchRefusal (State Path) → Outcome Resolution
unfolding area
search_outcome bd reply q (ok s) = record { answer = resolved (length (reply s)) (report_of s); work = zeros q.work; result = area (slot_words bd) q.result (edge_lists (reply s)) }
search_outcome bd reply q (refuse r) = refused q (Err (ResolutionRefusal.Refused r))

-- the image, then the node. This and the calls below are asked of the image as a desk sees it: Hidden, `seen_image`
unfoldable pub direct_call : (bd : Bounds) (reply : Reply) → Answer ImageRefusal Graph → Request → Outcome Resolution
unfolding search_outcome direct view_of
direct_call bd reply (ok g) q = search_outcome bd reply q (direct bd q.limits.length (setting_of bd q) (view_of g) q.node)
direct_call bd reply (refuse x) q = refused q (Err (ResolutionRefusal.Image x))

-- only the slots of the visible owners are searched
unfoldable pub stitched_outcome : (bd : Bounds) (reply : Reply) (see : ℕ → Bool) → Graph → Request → Answer DatabaseRefusal (List Slot) → Outcome Resolution
unfolding search_outcome stitched view_of seen_slot
stitched_outcome bd reply see g q (ok db) = search_outcome bd reply q (stitched bd q.limits.length (setting_of bd q) (view_of g) (seen_slots see db) q.node)
stitched_outcome bd reply see g q (refuse r) = refused q (Err (ResolutionRefusal.Database r))

-- the image, 35, 34, then the node; `known` are the owners that a database may name, `see` the files that are visible: 35 and 34 look at every slot.
-- The database is only read
unfoldable pub stitched_call : (bd : Bounds) (reply : Reply) (known : ℕ → ℕ → Bool) (see : ℕ → Bool) → Answer ImageRefusal Graph → List ℕ → Request → Outcome Resolution
unfolding stitched_outcome check_database
stitched_call bd reply known see (ok g) words q = stitched_outcome bd reply see g q (check_database bd known g words)
stitched_call bd reply known see (refuse x) words q = refused q (Err (ResolutionRefusal.Image x))

-- nothing waits in a linear search: its figure is 0
unfoldable pub linear_outcome : (bd : Bounds) (reply : Reply) → LinearRequest → Answer LinearRefusal (State Path) → Outcome LinearResolution
unfolding area
linear_outcome bd reply q (ok s) = record { answer = resolved (length (reply s)) (figured 0 s.stats); work = []; result = area (slot_words bd) q.result (edge_lists (reply s)) }
linear_outcome bd reply q (refuse r) = refused_linear q (Err (TurnedBack.Refused r))

unfoldable pub linear_call : (bd : Bounds) (reply : Reply) → Answer ImageRefusal Graph → LinearRequest → Outcome LinearResolution
unfolding linear_outcome linear view_of
linear_call bd reply (ok g) q = linear_outcome bd reply q (linear bd q.limits.length (linear_setting_of bd q) (view_of g) q.node)
linear_call bd reply (refuse x) q = refused_linear q (Err (TurnedBack.Image x))

-- THE DATABASE

-- an answer, and every word of the work area and of the database
pub record Change (A : Type 0) : Type 0 where
  pub answer : A
  pub work : List ℕ
  pub database : List ℕ

-- 35 for under 3 words; a fresh database has no work area
unfoldable pub creation_outcome : Bool → Graph → List ℕ → Change Creation
creation_outcome true g words = record { answer = Ok tt; work = []; database = fresh_words g (length words) }
creation_outcome false g words = record { answer = Err CreationRefusal.Malformed; work = []; database = words }

unfoldable pub fresh_call : Answer ImageRefusal Graph → List ℕ → Change Creation
unfolding creation_outcome
fresh_call (ok g) words = creation_outcome (leb 3 (length words)) g words
fresh_call (refuse x) words = record { answer = Err (CreationRefusal.Image x); work = []; database = words }

-- what replacing a file is asked: the limits on length and expansions; work is the length of the lent area in words
pub record FileRequest : Type 0 where
  pub order : SearchOrder
  pub length : Limit
  pub expansions : Limit
  pub work : ℕ
  pub file : ℕ

-- a refused replacement alters no word of the database
abbrev pub unaltered : {A : Type 0} → FileRequest → List ℕ → A → Change A
unaltered q words a = record { answer = a; work = zeros q.work; database = words }

abbrev pub file_setting_of : (bd : Bounds) → FileRequest → Setting PartialPathRefusal
file_setting_of bd q = partial_setting q.order q.expansions (whole_slots (slot_words bd) q.work)

-- 33 follows a finished computation
unfoldable pub filing_outcome : (bd : Bounds) → Bool → Graph → FileRequest → List ℕ → State Route → Change Replacement
unfolding replace_words
filing_outcome bd true g q words s = record { answer = Ok (partial_stats s); work = zeros q.work; database = replace_words bd g q.file s words }
filing_outcome bd false g q words s = unaltered q words (Err ReplacementRefusal.Full)

unfoldable pub computation_outcome : (bd : Bounds) → Graph → FileRequest → List ℕ → Answer PartialPathRefusal (State Route) → Change Replacement
unfolding filing_outcome has_room
computation_outcome bd g q words (ok s) = filing_outcome bd (has_room bd s words) g q words s
computation_outcome bd g q words (refuse r) = unaltered q words (Err (ReplacementRefusal.Refused r))

unfoldable pub replacement_outcome : (bd : Bounds) → Graph → FileRequest → List ℕ → Answer DatabaseRefusal (List Slot) → Change Replacement
unfolding computation_outcome file_partials
replacement_outcome bd g q words (ok db) = computation_outcome bd g q words (file_partials bd q.length (file_setting_of bd q) g q.file)
replacement_outcome bd g q words (refuse r) = unaltered q words (Err (ReplacementRefusal.Database r))

-- the image, 35, 34, 21, the computation, then 33; `known` as above
unfoldable pub replace_call : (bd : Bounds) (known : ℕ → ℕ → Bool) → Answer ImageRefusal Graph → FileRequest → List ℕ → Change Replacement
unfolding replacement_outcome check_database
replace_call bd known (ok g) q words = replacement_outcome bd g q words (check_database bd known g words)
replace_call bd known (refuse x) q words = unaltered q words (Err (ReplacementRefusal.Image x))

-- what replacing the alias set is asked
abbrev pub alias_request : SearchOrder → Limit → Limit → ℕ → FileRequest
alias_request order most expansions work = record { order = order; length = most; expansions = expansions; work = work; file = nobody }

unfoldable pub alias_outcome : (bd : Bounds) → Graph → FileRequest → List ℕ → Answer DatabaseRefusal (List Slot) → Change Replacement
unfolding computation_outcome alias_routes
alias_outcome bd g q words (ok db) = computation_outcome bd g q words (alias_routes bd q.length (file_setting_of bd q) g)
alias_outcome bd g q words (refuse r) = unaltered q words (Err (ReplacementRefusal.Database r))

-- the image, 35, 34, the computation, then 33; never 21
unfoldable pub alias_call : (bd : Bounds) (known : ℕ → ℕ → Bool) → Answer ImageRefusal Graph → FileRequest → List ℕ → Change Replacement
unfolding alias_outcome check_database
alias_call bd known (ok g) q words = alias_outcome bd g q words (check_database bd known g words)
alias_call bd known (refuse x) q words = unaltered q words (Err (ReplacementRefusal.Image x))
