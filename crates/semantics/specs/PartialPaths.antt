-- The partial paths of a file and those of the alias set, and the slots of a database that hold them.
-- Document 01, "Partial paths": `StackPartialPathSet::compute`, `replace_file`; document 02, order 5.
use Rattle.std.specs.Prelude.{ℕ, suc, ◌≡◌, Bool, true, false, List, [], ◌∷◌, ◌++◌, map, eqb, ltb, length, None}
use Rattle.semantics.specs.declared.graph.Node.{Node}
use Rattle.semantics.specs.declared.graph.Edge.{Edge}
use Rattle.semantics.specs.declared.graph.Edge.TheVariants as E
use Rattle.semantics.specs.declared.search.SearchOrder.{SearchOrder}
use Rattle.semantics.specs.declared.search.PartialPathStats.{PartialPathStats}
use Rattle.semantics.specs.declared.refusal.PartialPathRefusal.{PartialPathRefusal}
use Rattle.semantics.specs.declared.refusal.PartialPathRefusal.TheVariants.{UnknownFile, TooLong, NoWaitingSlot, TooManyExpansions}
use Rattle.semantics.specs.Lists.{or, and, pick, cons_if, has, select}
use Rattle.semantics.specs.Limits.{Bounds, within, nobody, Limit}
use Rattle.semantics.specs.Answer.{Answer, refuse}
use Rattle.semantics.specs.Graph.{file_id, Graph, View, view_of, file_of, is_file, lacks_file, is_start, is_endpoint}
use Rattle.semantics.specs.Enumeration.{Try, go, tested, Setting, slots, unlimited, State, enumerate}

-- a partial path on the way: stacks are not examined
pub record Route : Type 0 where
  pub start : ℕ
  pub current : ℕ
  pub edges : List ℕ

-- a database slot: dead, or a partial path of an owner, which is a file or nobody
pub data Slot : Type 0 where
  dead : Slot
  slot : (owner start end : ℕ) (edges : List ℕ) → Slot

-- the live slots in their order
unfoldable pub only_live : List Slot → List Slot
only_live [] = []
only_live (dead ∷ ss) = only_live ss
only_live (slot f s e es ∷ ss) = slot f s e es ∷ only_live ss

-- slots among which the same are live, in the same order
abbrev pub SameLive : List Slot → List Slot → Type 0
SameLive db db' = only_live db ≡ only_live db'

-- an edge belongs to a file if either end does
unfoldable pub is_of_file : View → ℕ → Edge → Bool
unfolding is_file
is_of_file g f E.Removed = false
is_of_file g f (E.Live s t p) = or (is_file f (file_of (g.node s.0))) (is_file f (file_of (g.node t.0)))

unfoldable pub belongs : View → ℕ → ℕ → Bool
unfolding is_of_file
belongs g f e = is_of_file g f (g.edge e)

-- a live edge whose ends both lack a file: from root to root or to jump
unfoldable pub is_fileless : View → Edge → Bool
unfolding lacks_file
is_fileless g E.Removed = false
is_fileless g (E.Live s t p) = and (lacks_file (file_of (g.node s.0))) (lacks_file (file_of (g.node t.0)))

-- which edges an owner has: nobody those of the alias set, a file its own
unfoldable pub owned_by : View → ℕ → ℕ → Bool
unfolding is_fileless belongs
owned_by g f e = pick (eqb f nobody) (is_fileless g (g.edge e)) (belongs g f e)

unfoldable pub target_of : Edge → ℕ
target_of E.Removed = 0
target_of (E.Live s t p) = t.0

-- the route that an edge makes
abbrev pub longer : Route → ℕ → ℕ → Route
longer r e t = record { start = r.start; current = t; edges = r.edges ++ (e ∷ []) }

-- a route that passed the tests reaches an endpoint or not
unfoldable pub reached : View → Route → ℕ → Try PartialPathRefusal Route
unfolding target_of
reached g r e = go (is_endpoint (g.node (target_of (g.edge e)))) (longer r e (target_of (g.edge e)))

-- cycle, length, the bound, then whether it reaches an endpoint
unfoldable pub judge_route : Bounds → Limit → View → Route → ℕ → Try PartialPathRefusal Route
unfolding tested has reached
judge_route bd lim g r e = tested (has e r.edges) (within (suc (length r.edges)) lim) (ltb (length r.edges) bd.edges) TooLong (reached g r e)

-- only the owner's edges are looked at: `mine` tells them
unfoldable pub route_tries : Bounds → Limit → View → (ℕ → Bool) → Route → List (Try PartialPathRefusal Route)
unfolding judge_route select
route_tries bd lim g mine r = map (judge_route bd lim g r) (select mine (g.out r.current))

-- found paths take no result slots
abbrev pub partial_setting : SearchOrder → Limit → ℕ → Setting PartialPathRefusal
partial_setting order max_count waiting =
    record { order = order; max_count = max_count; max_complete = None; waiting = slots waiting NoWaitingSlot; results = unlimited; too_many = TooManyExpansions }

-- the partial paths of an owner, from these starts
unfoldable pub partials : Bounds → Limit → Setting PartialPathRefusal → View → (ℕ → Bool) → List Route → Answer PartialPathRefusal (State Route)
unfolding route_tries enumerate
partials bd lim c g mine starts = enumerate c (route_tries bd lim g mine) bd.expansions starts

-- a file's references and exported scopes by number, counted from i on
unfoldable pub starts_from : ℕ → ℕ → List Node → List ℕ
unfolding is_file
starts_from f i [] = []
starts_from f i (n ∷ ns) = cons_if (and (is_file f (file_of n)) (is_start n)) i (starts_from f (suc i) ns)

abbrev pub route_at : ℕ → Route
route_at n = record { start = n; current = n; edges = [] }

-- root, then the file's own starts
abbrev pub start_routes : Graph → ℕ → List Route
start_routes g f = route_at 0 ∷ map route_at (starts_from f 0 g.nodes)

unfoldable pub file_routes : Bounds → Limit → Setting PartialPathRefusal → Graph → ℕ → Answer PartialPathRefusal (State Route)
unfolding partials belongs starts_from view_of
file_routes bd lim c g f = partials bd lim c (view_of g) (belongs (view_of g) f) (start_routes g f)

unfoldable pub if_known : Bool → Bounds → Limit → Setting PartialPathRefusal → Graph → ℕ → Answer PartialPathRefusal (State Route)
unfolding file_routes
if_known true bd lim c g f = file_routes bd lim c g f
if_known false bd lim c g f = refuse (UnknownFile (file_id f))

-- a file's partial paths, 21 for a file that is none
unfoldable pub file_partials : Bounds → Limit → Setting PartialPathRefusal → Graph → ℕ → Answer PartialPathRefusal (State Route)
unfolding if_known
file_partials bd lim c g f = if_known (ltb f g.files) bd lim c g f

-- the alias set: from root alone over just the edges whose ends both lack a file; there is no file that could be unknown
unfoldable pub alias_routes : Bounds → Limit → Setting PartialPathRefusal → Graph → Answer PartialPathRefusal (State Route)
unfolding partials owned_by view_of
alias_routes bd lim c g = partials bd lim c (view_of g) (owned_by (view_of g) nobody) (route_at 0 ∷ [])

abbrev pub partial_stats : State Route → PartialPathStats
partial_stats s =
    record {
      expanded = s.stats.expanded;
      found = s.stats.complete;
      cycles = s.stats.cycles;
      length_limited = s.stats.length_limited;
      count_limited = s.stats.count_limited;
      waited = s.tally.waited;
    }

unfoldable pub dead_if : Bool → Slot → Slot
dead_if true s = dead
dead_if false s = s

-- the slots of an owner become dead
unfoldable pub clear : ℕ → List Slot → List Slot
unfolding dead_if
clear f [] = []
clear f (dead ∷ ss) = dead ∷ clear f ss
clear f (slot x s e es ∷ ss) = dead_if (eqb x f) (slot x s e es) ∷ clear f ss

abbrev pub slot_of : ℕ → Route → Slot
slot_of f r = slot f r.start r.current r.edges

-- an owner is replaced: its slots become dead, the new ones are appended in the order found
unfoldable pub replaced : ℕ → List Slot → State Route → List Slot
unfolding clear
replaced f db s = clear f db ++ map (slot_of f) s.kept
