-- A partial path tried on the path under expansion: its edges appended in order, and what a trial says of the judgement.
-- Document 01, "Answer": per partial path in stitching cycle, length, the bound on edges, append, completeness.
use Rattle.std.specs.Prelude.{ℕ, ◌+◌, ◌≤◌, ◌≡◌, true, false, List, length, Result, Ok, Err}
use Rattle.semantics.specs.ReplayedPaths.{step_at}
use Rattle.semantics.specs.declared.refusal.PathRefusal.{PathRefusal}
use Rattle.semantics.specs.declared.refusal.PathRefusal.TheVariants as P
use Rattle.semantics.specs.declared.refusal.ReplayRefusal.TheVariants as Replay
use Rattle.semantics.specs.declared.refusal.SearchRefusal.{SearchRefusal}
use Rattle.semantics.specs.declared.refusal.SearchRefusal.TheVariants as Search
use Rattle.semantics.specs.Limits.{base, within, max_edges, steps_length, Limit}
use Rattle.semantics.specs.Answer.{ok, refuse}
use Rattle.semantics.specs.Graph.{Graph, View, view_of, is_reference}
use Rattle.semantics.specs.Path.{Path, append_all}
use Rattle.semantics.specs.Enumeration.{cut, overlong, reject, stop, go}
use Rattle.semantics.specs.Stitching.{judge_slot}
use Rattle.storage.specs.Index.{Loaded}
use Rattle.stepping.specs.Steps.{Effect}
use Rattle.std.specs.Prelude.{Ok, Err}
use Rattle.stepping.specs.Judged.{Stepped}
use Rattle.stitching_trial.specs.declared.trial.StitchTrial.{StitchTrial}
use Rattle.stitching_trial.specs.declared.trial.StitchTrial.TheVariants.{Cut, Overlong, Rejected, Extended}
pub mod Laws

-- an unknown edge ends the search, any other refusal of the path rules is a rejection
unfoldable pub ended_by : PathRefusal → Result StitchTrial SearchRefusal
ended_by (P.UnknownNode n) = Ok Rejected
ended_by (P.NotReference n) = Ok Rejected
ended_by (P.UnknownEdge e) = Err (Search.Path (P.UnknownEdge e))
ended_by (P.IncorrectSource x y) = Ok Rejected
ended_by (P.EmptySymbolStack n) = Ok Rejected
ended_by (P.IncorrectPoppedSymbol n) = Ok Rejected
ended_by (P.UnexpectedAttachedScopes n) = Ok Rejected
ended_by (P.MissingAttachedScopes n) = Ok Rejected
ended_by (P.EmptyScopeStack n) = Ok Rejected
ended_by (P.UnknownAttachedScope n) = Ok Rejected

-- the steps up to step k stand for the same paths as before
abbrev pub KeptTo : ℕ → List ℕ → List ℕ → Type 0
KeptTo k ws ws' = (j : ℕ) (p : Path) → j ≤ k → Stepped ws j p → Stepped ws' j p

-- A LIST OF EDGES behind the k edges of a path
pub record Appends (index ws : List ℕ) (k : ℕ) (edges : List ℕ) : Type 0 where
  pub graph : Graph
  pub loaded : Loaded graph index
  pub path : Path
  pub stepped : Stepped ws k path
  pub few : k + length edges ≤ max_edges
  pub long : steps_length ≤ length ws

module _ (index ws : List ℕ) (k : ℕ) (edges : List ℕ) (v : Appends index ws k edges) where
  -- the path rules append them to a path whose last step this is, or refuse alike
  abbrev pub AppendedBy : Effect → List ℕ → Type 0
  AppendedBy (Ok s) ws' = (q : Path) × (append_all base (view_of v.graph) v.path edges ≡ ok q) × Stepped ws' (k + length edges) q × (s ≡ step_at ws' (k + length edges))
  AppendedBy (Err z) ws' = append_all base (view_of v.graph) v.path edges ≡ refuse (Replay.Path z)

  pub record AppendsTo (x : Effect) (ws' : List ℕ) : Type 0 where
    pub appended : AppendedBy x ws'
    pub kept : KeptTo k ws ws'

-- WHAT A TRIAL SAYS of the judgement
abbrev pub Judged : Limit → View → Path → List ℕ → Result StitchTrial SearchRefusal → Type 0
Judged lim g p es (Ok Cut) = judge_slot base lim g p es ≡ cut
Judged lim g p es (Ok Overlong) = (judge_slot base lim g p es ≡ overlong) × (within (length p.edges + length es) lim ≡ false)
Judged lim g p es (Ok Rejected) = judge_slot base lim g p es ≡ reject
Judged lim g p es (Err z) = judge_slot base lim g p es ≡ stop z
Judged lim g p es (Ok (Extended b)) = (q : Path) × (judge_slot base lim g p es ≡ go b q) × (append_all base g p es ≡ ok q) × (length p.edges + length es ≤ max_edges)

-- a partial path is tried on a path from a reference, whose edges these are
pub record Judging (index ws path edges : List ℕ) : Type 0 where
  pub graph : Graph
  pub loaded : Loaded graph index
  pub on : Path
  pub are : path ≡ on.edges
  pub starts : is_reference ((view_of graph).node on.start) ≡ true
  pub stepped : Stepped ws (length path) on
  pub short : length path ≤ max_edges
  pub few : length edges ≤ max_edges
  pub long : steps_length ≤ length ws

pub record JudgedAs (index ws path edges : List ℕ) (v : Judging index ws path edges) (lim : Limit) (t : Result StitchTrial SearchRefusal) (ws' : List ℕ) : Type 0 where
  pub says : Judged lim (view_of v.graph) v.on edges t
  pub kept : KeptTo (length path) ws ws'
