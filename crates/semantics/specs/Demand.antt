-- What demand 3 speaks of: the lists that the path rules take, partial paths, what a database holds, and the demand itself; and the same with the alias set.
-- The third demand; document 01, "Partial paths", last paragraph; document 02, order 5.
use Rattle.std.specs.Prelude.{ℕ, ◌≤◌, ◌<◌, ◌≡◌, ◌⊎◌, Bool, true, false, length, ℤ, None}
use Rattle.std.proofs.Math.Option.{some}
use mathlib.Core.List.{List, [], ◌∷◌, Memᴰ}
use Rattle.semantics.specs.declared.graph.NodeId.{NodeId}
use Rattle.semantics.specs.declared.graph.Node.TheVariants as N
use Rattle.semantics.specs.declared.graph.Edge.TheVariants as E
use Rattle.semantics.specs.declared.refusal.PartialPathRefusal.{PartialPathRefusal}
use Rattle.semantics.specs.Lists.{Distinct}
use Rattle.semantics.specs.Limits.{Bounds, within, nobody, Limit}
use Rattle.semantics.specs.Answer.{ok}
use Rattle.semantics.specs.Graph.{node_id, Graph, View, view_of, file_of, is_start, is_endpoint}
use Rattle.semantics.specs.Path.{Path, replay, is_complete}
use Rattle.semantics.specs.Enumeration.{Setting, State}
use Rattle.semantics.specs.PartialPaths.{Route, Slot, slot, belongs, is_fileless, owned_by, file_routes, alias_routes, replaced, SameLive}

-- LISTS THAT THE PATH RULES TAKE

-- distinct edges, within the length limit, that meet no refusal when they are appended in order from the reference
pub record Taken (bd : Bounds) (lim : Limit) (g : View) (r : ℕ) (l : List ℕ) (q : Path) : Type 0 where
  pub replayed : replay bd g r l ≡ ok q
  pub distinct : Distinct l
  pub short : within (length l) lim ≡ true

-- such a list that ends at a definition with both stacks empty
pub record Valid (bd : Bounds) (lim : Limit) (g : View) (r : ℕ) (l : List ℕ) : Type 0 where
  pub path : Path
  pub taken : Taken bd lim g r l path
  pub complete : is_complete g path ≡ true

-- no edge of the list has two ends that both lack a file
abbrev pub NoFileless : View → List ℕ → Type 0
NoFileless g [] = Unit {0}
NoFileless g (e ∷ es) = (is_fileless g (g.edge e) ≡ false) × NoFileless g es

-- PARTIAL PATHS

-- who owns partial paths, which edges an owner has, and where its partial paths may start
pub record Owners : Type 1 where
  pub Known : ℕ → Type 0
  pub owns : ℕ → ℕ → Bool
  pub Starts : ℕ → ℕ → Type 0

-- the base: the files; a file's partial paths start at root, at its references and at its exported scopes
abbrev pub file_owners : Graph → Owners
file_owners g =
    record {
      Known = λ f. f < g.files;
      owns = belongs (view_of g);
      Starts = λ f n. (n ≡ 0) ⊎ ((file_of ((view_of g).node n) ≡ some f) × (is_start ((view_of g).node n) ≡ true));
    }

-- with the alias set: the files, and nobody, which no node is of, so that its partial paths start at root alone
abbrev pub all_owners : Graph → Owners
all_owners g =
    record {
      Known = λ f. (f < g.files) ⊎ (f ≡ nobody);
      owns = owned_by (view_of g);
      Starts = (file_owners g).Starts;
    }

-- edges of an owner, each going on from the last one's target
pub data Walk (g : View) (mine : ℕ → Bool) : ℕ → List ℕ → ℕ → Type 0 where
  stay : {n : ℕ} → Walk g mine n [] n
  step : {n e m : ℕ} {t : NodeId} {es : List ℕ} (p : ℤ) → g.edge e ≡ E.Live (node_id n) t p → mine e ≡ true → Walk g mine t.0 es m → Walk g mine n (e ∷ es) m

-- a partial path of owner f: at least one and at most as many distinct edges of it as the bound says, from a start to an endpoint (for demand 3 the limit is absent)
pub record Partial (bd : Bounds) (lim : Limit) (g : View) (O : Owners) (f : ℕ) (r : Route) : Type 0 where
  pub begins : O.Starts f r.start
  pub walk : Walk g (O.owns f) r.start r.edges r.current
  pub some-edge : 1 ≤ length r.edges
  pub fits : length r.edges ≤ bd.edges
  pub distinct : Distinct r.edges
  pub short : within (length r.edges) lim ≡ true
  pub endpoint : is_endpoint (g.node r.current) ≡ true

-- the premise on databases: the live slots hold every owner's partial paths on this graph, and no others
pub record Holds (O : Owners) (bd : Bounds) (g : View) (db : List Slot) : Type 0 where
  pub every : (f : ℕ) (r : Route) → O.Known f → Partial bd None g O f r → Memᴰ (slot f r.start r.current r.edges) db
  pub only : (f s t : ℕ) (es : List ℕ) → Memᴰ (slot f s t es) db → O.Known f × Partial bd None g O f (record { start = s; current = t; edges = es })

-- every slot names a file of the graph or nobody
abbrev pub OwnersIn : Graph → List Slot → Type 0
OwnersIn g db = (f s t : ℕ) (es : List ℕ) → Memᴰ (slot f s t es) db → (all_owners g).Known f

-- no slot is of the alias set
abbrev pub NoAliases : List Slot → Type 0
NoAliases db = (s t : ℕ) (es : List ℕ) → Memᴰ (slot nobody s t es) db → ⊥

-- an unrefused computation without limits on this graph, for a file or for the alias set
pub data Computed (bd : Bounds) (g : Graph) : ℕ → State Route → Type 0 where
  of-file : {u : State Route} (f : ℕ) (c : Setting PartialPathRefusal) → f < g.files → file_routes bd None c g f ≡ ok u → c.max_count ≡ None → c.max_complete ≡ None → Computed bd g f u
  of-aliases : {u : State Route} (c : Setting PartialPathRefusal) → alias_routes bd None c g ≡ ok u → c.max_count ≡ None → c.max_complete ≡ None → Computed bd g nobody u

-- a database in which files and the alias set were then replaced on this graph, without limits and unrefused, in any order; the owners replaced so far.
-- Between these, dead slots may have been dropped.
-- It began with any slots that name these: a fresh one has none, and those of an earlier graph are such as long as the words meet neither 35 nor 34
pub data Built (bd : Bounds) (g : Graph) : List Slot → List ℕ → Type 0 where
  given : {db : List Slot} → OwnersIn g db → Built bd g db []
  after : {db : List Slot} {done : List ℕ} (f : ℕ) (u : State Route) → Built bd g db done → Computed bd g f u → Built bd g (replaced f db u) (f ∷ done)
  closed : {db db' : List Slot} {done : List ℕ} → Built bd g db done → SameLive db db' → Built bd g db' done

-- what stitching relies on; Acceptance/Laws shows it of every accepted graph and its files, Demand/Aliases of these and nobody
pub record Suited (g : View) (O : Owners) : Type 0 where
  pub root-first : (n : ℕ) → g.node n ≡ N.Root → n ≡ 0
  pub home : (n f : ℕ) → file_of (g.node n) ≡ some f → O.Known f
  pub from-root : (f : ℕ) → O.Known f → O.Starts f 0
  pub from_start : (n f : ℕ) → file_of (g.node n) ≡ some f → is_start (g.node n) ≡ true → O.Starts f n
  pub at_source : (e : ℕ) (s t : NodeId) (p : ℤ) (f : ℕ) → g.edge e ≡ E.Live s t p → file_of (g.node s.0) ≡ some f → O.owns f e ≡ true
  pub at_target : (e : ℕ) (s t : NodeId) (p : ℤ) (a b : ℕ) → g.edge e ≡ E.Live s t p → O.owns a e ≡ true → file_of (g.node t.0) ≡ some b → a ≡ b

-- an edge that a known owner has
abbrev pub Owned : Owners → ℕ → Type 0
Owned O e = (f : ℕ) × O.Known f × (O.owns f e ≡ true)

-- THE DEMAND

-- no list stands twice
abbrev pub Once : List (List ℕ) → Type 0
Once [] = Unit {0}
Once (x ∷ xs) = (Memᴰ x xs → ⊥) × Once xs

-- the same lists, in any order
pub record Agree (D S : List (List ℕ)) : Type 0 where
  pub to : (l : List ℕ) → Memᴰ l D → Memᴰ l S
  pub from : (l : List ℕ) → Memᴰ l S → Memᴰ l D

-- DEMAND 3, of the sets D and S that direct and stitched search recorded
pub record Demand (bd : Bounds) (g : View) (r : ℕ) (lim : Limit) (D S : List (List ℕ)) : Type 0 where
  pub direct : (l : List ℕ) → (Memᴰ l D → Valid bd lim g r l) × (Valid bd lim g r l → Memᴰ l D)
  pub direct-once : Once D
  pub stitched : (l : List ℕ) → (Memᴰ l S → Valid bd lim g r l × NoFileless g l) × (Valid bd lim g r l × NoFileless g l → Memᴰ l S)
  pub stitched-once : Once S
  pub agree : (Agree D S → (l : List ℕ) → Valid bd lim g r l → NoFileless g l) × (((l : List ℕ) → Valid bd lim g r l → NoFileless g l) → Agree D S)

-- ORDER 5, of the same sets where the database holds the alias set too: each is just the valid lists
pub record DemandAll (bd : Bounds) (g : View) (r : ℕ) (lim : Limit) (D S : List (List ℕ)) : Type 0 where
  pub direct : (l : List ℕ) → (Memᴰ l D → Valid bd lim g r l) × (Valid bd lim g r l → Memᴰ l D)
  pub direct-once : Once D
  pub stitched : (l : List ℕ) → (Memᴰ l S → Valid bd lim g r l) × (Valid bd lim g r l → Memᴰ l S)
  pub stitched-once : Once S
  pub agree : Agree D S
