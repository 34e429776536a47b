-- A computation and a replacement as they are asked for in code, and what they leave.
-- Document 01, "Partial paths"; the order of 35, 34, 21 and 33 in "Turned back"; document 02, order 5.
use Rattle.std.specs.Prelude.{ℕ, ◌+◌, ◌≤◌, ◌<◌, ◌^◌, ◌≡◌, List, length, Option, Some, None, Result}
use Rattle.semantics.specs.Entries.{file_request_of}
use Rattle.semantics.specs.declared.refusal.ImageRefusal.{ImageRefusal}
use Rattle.semantics.specs.declared.refusal.PartialPathRefusal.{PartialPathRefusal}
use Rattle.semantics.specs.Limits.{base, nobody}
use Rattle.semantics.specs.Answer.{Answer, ok}
use Rattle.semantics.specs.Graph.{Graph, view_of}
use Rattle.semantics.specs.Enumeration.{State}
use Rattle.semantics.specs.PartialPaths.{Route, owned_by, partials, file_partials}
use Rattle.semantics.specs.Database.{used_in, capacity, known_owners, check_database}
use Rattle.semantics.specs.Calls.{Change, FileRequest, file_setting_of, computation_outcome, replacement_outcome, alias_outcome, replace_call, alias_call}
use Rattle.storage.specs.Index.{Loaded, HoldsNodes, Sized}
use Rattle.partial_state.specs.declared.filing.Filing.{Filing}
use Rattle.partial_state.specs.declared.extraction.Config.{Config}
use Rattle.partial_state.specs.Filings.{Fits, filed_in}
use Rattle.semantics.specs.declared.search.PartialPathStats.{PartialPathStats}
use Rattle.partial_trial.specs.Seeds.{starts_of}
use Rattle.semantics.specs.declared.graph.FileId.{FileId}
use Rattle.semantics.specs.declared.answer.Counts.{Counts}
use Rattle.partial.specs.Rounds.{Ends}
use Rattle.semantics.specs.PublicAnswers.{Replacement}
pub mod Laws

abbrev pub asked_by : Config → List ℕ → ℕ → FileRequest
asked_by c ws file = file_request_of c.order c.length c.expansions ws file

-- the number of an owner, a file or nobody, which its slots have plus 1
abbrev pub number_of : Option FileId → ℕ
number_of (Some f) = f.0
number_of None = nobody

-- an owner's partial paths, as the definitions find them
abbrev pub routes_of : Graph → FileRequest → Answer PartialPathRefusal (State Route)
routes_of g q = partials base q.length (file_setting_of base q) (view_of g) (owned_by (view_of g) q.file) (starts_of g q.file)

-- A COMPUTATION
pub record Computing (index : List ℕ) (nodes : ℕ) (f : Filing) (db : List ℕ) : Type 0 where
  pub holds : HoldsNodes index nodes
  pub fits : Fits f db

abbrev pub ComputedTo : List ℕ → ℕ → Filing → Config → List ℕ → List ℕ → Result PartialPathStats PartialPathRefusal → List ℕ → Type 0
ComputedTo index nodes f c ws db a db' = (g : Graph) → Loaded g index → nodes ≡ length g.nodes → Ends f db a db' (routes_of g (asked_by c ws f.file))

-- what a computation finds that is not refused is filed
abbrev pub FiledTo : List ℕ → ℕ → Filing → Config → List ℕ → List ℕ → List ℕ → Type 0
FiledTo index nodes f c ws db db' = (g : Graph) → Loaded g index → nodes ≡ length g.nodes → (u : State Route) → routes_of g (asked_by c ws f.file) ≡ ok u → db' ≡ filed_in f u.kept db

-- A REPLACEMENT, from its end: the paths were counted and have room
pub record Storing (index : List ℕ) (n : Counts) (f : Filing) (c : Config) (ws db : List ℕ) : Type 0 where
  pub sized : Sized index n.nodes n.files
  pub found : State Route
  pub is : routes_of sized.holds.graph (asked_by c ws f.file) ≡ ok found
  pub first : f.first ≡ used_in db
  pub room : f.room ≡ length found.kept
  pub few : f.first + f.room < 2 ^ 32
  pub fits : Fits f db

-- an accepted graph has few files, so none of them has nobody's number
pub record Few (index : List ℕ) (n : Counts) : Type 0 where
  pub sized : Sized index n.nodes n.files
  pub few : n.files < nobody

-- the words meet neither 35 nor 34
pub record Replacing (index : List ℕ) (n : Counts) (db : List ℕ) : Type 0 where
  pub sized : Sized index n.nodes n.files
  pub long : 3 ≤ length db
  pub used : used_in db ≤ capacity base db

-- what the definitions answer: to a computation, for an owner on sound words, on any words, and on any bytes
abbrev pub computed_on : Graph → FileRequest → List ℕ → Change Replacement
computed_on g q db = computation_outcome base g q db (routes_of g q)

abbrev pub replaced_on : Graph → FileRequest → List ℕ → Change Replacement
replaced_on g q db = computation_outcome base g q db (file_partials base q.length (file_setting_of base q) g q.file)

abbrev pub inspected_on : Option FileId → Graph → FileRequest → List ℕ → Change Replacement
inspected_on (Some f) g q db = replacement_outcome base g q db (check_database base known_owners g db)
inspected_on None g q db = alias_outcome base g q db (check_database base known_owners g db)

abbrev pub call_for : Option FileId → Answer ImageRefusal Graph → FileRequest → List ℕ → Change Replacement
call_for (Some f) x q db = replace_call base known_owners x q db
call_for None x q db = alias_call base known_owners x q db
