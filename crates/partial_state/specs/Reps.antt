-- What it means that a computation held in code and lent words stands for a state of the enumeration.
-- Document 01, "Partial paths": waiting routes, statistics and flags, and found paths in the order found.
use Rattle.std.specs.Prelude.{ℕ, ◌+◌, ◌≤◌, ◌<◌, ◌^◌, ◌≡◌, ◌⊎◌, Bool, length, get_or}
use mathlib.Core.List.{List, Memᴰ}
use Rattle.semantics.specs.Limits.{slot_length}
use Rattle.semantics.specs.declared.search.SearchStats.{SearchStats}
use Rattle.semantics.specs.declared.refusal.PartialPathRefusal.{PartialPathRefusal}
use Rattle.semantics.specs.Answer.{Answer, ok, refuse, and_then}
use Rattle.semantics.specs.Graph.{View}
use Rattle.semantics.specs.Enumeration.{State, Setting, keep, push_item}
use Rattle.semantics.specs.PartialPaths.{Route, partial_setting}
use Rattle.words.specs.Slots.{IsSlot, SlotsIn}
use Rattle.path_frontier.specs.declared.frontier.Frontier.{Frontier}
use Rattle.path_frontier.specs.Frontier.{Framed}
use Rattle.path_frontier.specs.Frontier.Stands.{Stands}
use Rattle.partial_state.specs.declared.route.Ends.{Ends}
use Rattle.partial_state.specs.declared.filing.Filing.{Filing}
use Rattle.partial_state.specs.declared.extraction.ExtractionFrame.{ExtractionFrame}
use Rattle.partial_state.specs.Routes.{held, ends_of, Waiting}
use Rattle.partial_state.specs.Filings.{Fits, filed_in}
use Rattle.partial_state.specs.Extractions.{Computation, Course, goes, stops, stats_in}
pub mod Laws
pub mod Rounds

-- counts and flags
pub record Counts (x : Computation) (m : State Route) : Type 0 where
  pub stats : stats_in x ≡ m.stats
  pub found : x.found ≡ length m.kept

-- no count is above n: a sum of 64 bits holds one more
pub record Few (n : ℕ) (t : SearchStats) : Type 0 where
  pub complete : t.complete ≤ n
  pub cycles : t.cycles ≤ n

-- what a computation never changes
abbrev pub frame_of : Computation → ExtractionFrame
frame_of x = record { order = x.frontier.order; length = x.budget.max_length; expansions = x.budget.max_paths; waiting = x.frontier.capacity; slot = x.frontier.length }

abbrev pub setting_of : ExtractionFrame → Setting PartialPathRefusal
setting_of f = partial_setting f.order f.expansions f.waiting

-- a slot has words for a count and a start, and the area as many slots of full length
pub record Sized (f : Frontier) (ws : List ℕ) : Type 0 where
  pub start : 2 ≤ f.length
  pub most : f.length ≤ slot_length
  pub room : SlotsIn slot_length f.capacity ws

-- the computation in code, its work area and the database stand for a state of the enumeration; `origin` is the database without what was filed
pub record Rep (g : View) (f : Filing) (origin : List ℕ) (x : Computation) (ws db : List ℕ) (m : State Route) : Type 0 where
  pub sized : Sized x.frontier ws
  pub stands : Stands (held x.frontier.length) x.frontier ws m
  pub counts : Counts x m
  pub few : Few m.tally.looked m.stats
  pub filed : db ≡ filed_in f m.kept origin
  pub traced : (r : Route) → Memᴰ r m.rest ⊎ Memᴰ r m.pending → Waiting g f.file x.frontier.length r

-- where nothing may be filed the database is as it was
abbrev pub Untouched : Filing → List ℕ → List ℕ → Type 0
Untouched f origin db = f.room ≡ 0 → db ≡ origin

-- the computation that goes on stands for the state answered, or it is refused alike
abbrev pub Tells : View → Filing → List ℕ → ExtractionFrame → Course → List ℕ → List ℕ → Answer PartialPathRefusal (State Route) → Type 0
Tells g f origin fr (goes x) ws db (ok m) = (frame_of x ≡ fr) × Rep g f origin x ws db m
Tells g f origin fr (goes x) ws db (refuse y) = ⊥
Tells g f origin fr (stops r) ws db (ok m) = ⊥
Tells g f origin fr (stops r) ws db (refuse y) = (r ≡ y) × Untouched f origin db

-- the areas have their slots, and one more path can be counted and filed
pub record Extendable (x : Computation) (f : Filing) (item ws db : List ℕ) : Type 0 where
  pub framed : Framed x.frontier ws
  pub slot : IsSlot x.frontier.length item
  pub most : x.frontier.length ≤ slot_length
  pub short : get_or item 0 0 < x.frontier.length
  pub few : x.found + 1 < 2 ^ 64
  pub fits : Fits f db

-- the enumeration keeps and pushes alike; the edge that led here is among those looked at
abbrev pub ExtendsTo : Computation → Bool → Ends → Filing → List ℕ → List ℕ → List ℕ → Course → List ℕ → List ℕ → Type 0
ExtendsTo x endpoint e f item ws db a ws' db' =
    (g : View) (origin : List ℕ) (m : State Route) (q : Route) (n : ℕ) → Rep g f origin x ws db m → Few n m.stats → n + 1 ≡ m.tally.looked → Waiting g f.file x.frontier.length q → e ≡ ends_of q → item ≡ held x.frontier.length q
    → Tells g f origin (frame_of x) a ws' db' (and_then (keep endpoint (setting_of (frame_of x)) m q) (push_item (setting_of (frame_of x)) q))
