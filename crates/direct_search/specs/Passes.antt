-- Edges that lead nowhere are passed over, and the search goes on behind them, in code against the enumeration.
-- Document 01, "Answer": `try_compute`.
use Rattle.std.specs.Prelude.{ℕ, ◌+◌, ◌-◌, ◌<◌, ◌≤◌, ◌≡◌, Bool, false, not, List, [], ◌∷◌, eqb, ltb, length, Ok, Err}
use Rattle.semantics.specs.ReplayedPaths.{step_at}
use Rattle.semantics.specs.declared.graph.Edge.{Edge}
use Rattle.semantics.specs.declared.graph.Edge.TheVariants as E
use Rattle.semantics.specs.declared.refusal.SearchRefusal.TheVariants as Search
use Rattle.semantics.specs.Lists.{or, pick}
use Rattle.semantics.specs.Limits.{within, looked_ever, Limit}
use Rattle.semantics.specs.Graph.{View, view_of}
use Rattle.semantics.specs.Path.{Path}
use Rattle.storage.specs.Index.{edge_row, next_row}
use Rattle.storage.specs.Index.Use.{left}
use Rattle.path_budget.specs.declared.budget.Budget.{Budget}
use Rattle.search_state.specs.declared.search.Search as S
use Rattle.search_state.specs.Searches.{Going}
use Rattle.search_state.specs.declared.dead_ends.DeadEnds.{DeadEnds}
use Rattle.search_state.specs.Passes.{passed_cut, passed_rejection, passed_length, passed_by}
use Rattle.edge_trial.specs.declared.trial.EdgeTrial.{EdgeTrial}
use Rattle.edge_trial.specs.declared.trial.EdgeTrial.TheVariants as EdgeTrial
use Rattle.edge_trial.specs.Trials.Laws.{Judged}
use Rattle.direct_search.specs.declared.direct.Pass.{Pass}
use Rattle.direct_search.specs.declared.direct.Led.{Led}
use Rattle.direct_search.specs.declared.direct.Led.TheVariants as Led
use Rattle.direct_search.specs.declared.direct.Counted.{Counted}
use Rattle.direct_search.specs.declared.direct.Counted.TheVariants as Counted
use Rattle.direct_search.specs.Expansions.{Given, Expanded}
use Rattle.direct_search.specs.Expansions.Edges.{Mid}
pub mod Laws
pub mod TooLong

-- what one trial adds, or what it leads to
abbrev pub counted_by : DeadEnds → EdgeTrial → Counted
counted_by p EdgeTrial.Cut = Counted.More (passed_cut p)
counted_by p EdgeTrial.Overlong = Counted.More (passed_length p)
counted_by p EdgeTrial.Rejected = Counted.More (passed_rejection p)
counted_by p EdgeTrial.TooLong = Counted.TooLong
counted_by p (EdgeTrial.Extended b) = Counted.Extended b

-- the link behind this one; none behind none
abbrev pub beyond_row : List ℕ → ℕ → ℕ
beyond_row index link = pick (ltb 0 link) (next_row index (link - 1)) 0

-- does the edge leave this node
abbrev pub is_from : ℕ → Edge → Bool
is_from n E.Removed = false
is_from n (E.Live s t p) = eqb s.0 n

-- does one of these edges leave it
unfoldable pub leaves_by : (ℕ → Edge) → ℕ → List ℕ → Bool
leaves_by edge n [] = false
leaves_by edge n (e ∷ es) = or (is_from n (edge e)) (leaves_by edge n es)

-- one edge more is above the limit, and the path did not leave its end before
abbrev pub all_too_long : List ℕ → List ℕ → List ℕ → Budget → Bool
all_too_long index steps edges b = pick (within (length edges + 1) b.max_length) false (not (leaves_by (edge_row index) (step_at steps (length edges)).end edges))

-- what becomes of the edges from a link on where all are too long: if there is one, the flag is set
abbrev pub all_passed : ℕ → Pass
all_passed first = record { passed = record { cycles = 0; rejected = 0; overlong = ltb 0 first }; link = 0; led = Led.End }

-- what the edge at a link does to the path
abbrev pub LedTo : Limit → View → Path → ℕ → Led → Type 0
LedTo lim g p link Led.End = link ≡ 0
LedTo lim g p link Led.TooLong = (0 < link) × Judged Search.TooLong lim g p (link - 1) EdgeTrial.TooLong
LedTo lim g p link (Led.Extended b) = (0 < link) × Judged Search.TooLong lim g p (link - 1) (EdgeTrial.Extended b)

-- at a link of an expansion: these are the path's edges, and the budget has the search's limit on the length
pub record Passing (index steps edges : List ℕ) (b : Budget) (first : ℕ) : Type 0 where
  pub most : ℕ
  pub small : most + 4096 ≤ looked_ever
  pub item₀ : List ℕ
  pub k : ℕ
  pub s : S.Search
  pub ws₀ : List ℕ
  pub rs₀ : List ℕ
  pub v : Given most index steps item₀ k s ws₀ rs₀
  pub on : S.Search
  pub item : List ℕ
  pub ws : List ℕ
  pub rs : List ℕ
  pub mid : Mid most index steps item₀ k s ws₀ rs₀ v on item ws rs first
  pub edges_are : edges ≡ v.path.edges
  pub limit : b.max_length ≡ s.state.budget.max_length

-- the edges before the link led nowhere, and the one at the link does what is said
pub record Passes (index steps edges : List ℕ) (b : Budget) (first : ℕ) (x : Passing index steps edges b first) (r : Pass) : Type 0 where
  pub mid : Mid x.most index steps x.item₀ x.k x.s x.ws₀ x.rs₀ x.v (passed_by r.passed x.on) x.item x.ws x.rs r.link
  pub led : LedTo x.s.state.budget.max_length (view_of x.v.graph) x.v.path r.link r.led
  pub less : left index r.link ≤ left index first

-- the same of the search that is to go on
pub record Turning (r : Pass) (item : List ℕ) (k : ℕ) (on : S.Search) (ws rs : List ℕ) : Type 0 where
  pub index : List ℕ
  pub steps : List ℕ
  pub most : ℕ
  pub small : most + 4096 ≤ looked_ever
  pub item₀ : List ℕ
  pub s : S.Search
  pub ws₀ : List ℕ
  pub rs₀ : List ℕ
  pub v : Given most index steps item₀ k s ws₀ rs₀
  pub mid : Mid most index steps item₀ k s ws₀ rs₀ v (passed_by r.passed on) item ws rs r.link
  pub led : LedTo s.state.budget.max_length (view_of v.graph) v.path r.link r.led

-- it goes on at the next link, or the expansion is refused
abbrev pub Turned : (r : Pass) (item : List ℕ) (k : ℕ) (on : S.Search) (ws rs : List ℕ) → Turning r item k on ws rs → Going → List ℕ → List ℕ → List ℕ → Type 0
Turned r item k on ws rs x (Ok next) item' ws' rs' = Mid x.most x.index x.steps x.item₀ k x.s x.ws₀ x.rs₀ x.v next item' ws' rs' (beyond_row x.index r.link)
Turned r item k on ws rs x (Err z) item' ws' rs' = Expanded x.most x.index x.steps x.item₀ k x.s x.ws₀ x.rs₀ x.v (Err z) ws' rs'
