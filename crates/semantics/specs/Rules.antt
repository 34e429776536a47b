-- The stack rules of Creager and van Antwerpen's paper as inference rules: premises above, what a node does to the two stacks below.
-- Document 01, "Path", and the rows 10 to 19 of "Turned back"; written apart from the executable `append`, which Path/Rules shows to be these.
use Rattle.std.specs.Prelude.{ℕ, ◌≡◌, Bool, true, false, List, [], ◌∷◌, ◌++◌, ℤ}
use Rattle.std.proofs.Math.Option.{none, some}
use Rattle.semantics.specs.declared.graph.NodeId.{NodeId}
use Rattle.semantics.specs.declared.graph.FileId.{FileId}
use Rattle.semantics.specs.declared.graph.Node.{Node}
use Rattle.semantics.specs.declared.graph.Node.TheVariants as N
use Rattle.semantics.specs.declared.graph.Edge.TheVariants as E
use Rattle.semantics.specs.declared.refusal.PathRefusal.{PathRefusal}
use Rattle.semantics.specs.declared.refusal.PathRefusal.TheVariants.{UnknownNode, NotReference, UnknownEdge, IncorrectSource, EmptySymbolStack, IncorrectPoppedSymbol, UnexpectedAttachedScopes, MissingAttachedScopes, EmptyScopeStack, UnknownAttachedScope}
use Rattle.semantics.specs.Graph.{node_id, edge_id, View, is_reference, is_exported}
use Rattle.semantics.specs.Path.{Symbol, Stacks}

-- a symbol without scopes, and one with scopes
abbrev pub bare : ℕ → Symbol
bare x = record { symbol = x; scopes = none }

abbrev pub attached : ℕ → List ℕ → Symbol
attached x scopes = record { symbol = x; scopes = some scopes }

-- symbol stack X and scope stack Y
abbrev pub with : List Symbol → List ℕ → Stacks
with X Y = record { symbols = X; scopes = Y }

-- the node turns the first stacks into the second
pub data Applies (g : View) : Node → Stacks → Stacks → Type 0 where
  root : {X : List Symbol} {Y : List ℕ}
      -- -----------------------------------------------
      → Applies g N.Root (with X Y) (with X Y)
  jump : {X : List Symbol} {Y : List ℕ}
      -- -----------------------------------------------
      → Applies g N.JumpToScope (with X Y) (with X Y)
  scope : {f : FileId} {exported : Bool} {X : List Symbol} {Y : List ℕ}
      -- -----------------------------------------------
      → Applies g (N.Scope f exported) (with X Y) (with X Y)
  push : {f : FileId} {x : ℕ} {reference : Bool} {X : List Symbol} {Y : List ℕ}
      -- -----------------------------------------------
      → Applies g (N.Push f x reference) (with X Y) (with (bare x ∷ X) Y)
  push-scoped : {f : FileId} {x : ℕ} {s : NodeId} {reference : Bool} {X : List Symbol} {Y : List ℕ}
      → is_exported (g.node s.0) ≡ true
      -- -----------------------------------------------
      → Applies g (N.PushScoped f x s reference) (with X Y) (with (attached x (s.0 ∷ Y) ∷ X) Y)
  pop : {f : FileId} {x : ℕ} {definition : Bool} {X : List Symbol} {Y : List ℕ}
      -- -----------------------------------------------
      → Applies g (N.Pop f x definition) (with (bare x ∷ X) Y) (with X Y)
  pop-scoped : {f : FileId} {x : ℕ} {definition : Bool} {X : List Symbol} {Y Z : List ℕ}
      -- -----------------------------------------------
      → Applies g (N.PopScoped f x definition) (with (attached x Z ∷ X) Y) (with X Z)
  drop-scopes : {f : FileId} {X : List Symbol} {Y : List ℕ}
      -- -----------------------------------------------
      → Applies g (N.DropScopes f) (with X Y) (with X [])

-- the node pops this symbol
pub data Pops : Node → ℕ → Type 0 where
  plain : {f : FileId} {x : ℕ} {definition : Bool} → Pops (N.Pop f x definition) x
  scoped : {f : FileId} {x : ℕ} {definition : Bool} → Pops (N.PopScoped f x definition) x

-- node n of this kind cannot be applied to the stacks: the premise that fails, and the refusal
pub data Fails (g : View) (n : ℕ) : Node → Stacks → PathRefusal → Type 0 where
  removed : {S : Stacks}
      -- -----------------------------------------------
      → Fails g n N.Removed S (UnknownNode (node_id n))
  unknown-scope : {f : FileId} {x : ℕ} {s : NodeId} {reference : Bool} {S : Stacks}
      → is_exported (g.node s.0) ≡ false
      -- -----------------------------------------------
      → Fails g n (N.PushScoped f x s reference) S (UnknownAttachedScope s)
  empty : {k : Node} {x : ℕ} {Y : List ℕ}
      → Pops k x
      -- -----------------------------------------------
      → Fails g n k (with [] Y) (EmptySymbolStack (node_id n))
  other : {k : Node} {x : ℕ} {y : Symbol} {X : List Symbol} {Y : List ℕ}
      → Pops k x → (y.symbol ≡ x → ⊥)
      -- -----------------------------------------------
      → Fails g n k (with (y ∷ X) Y) (IncorrectPoppedSymbol (node_id n))
  unexpected : {f : FileId} {x : ℕ} {definition : Bool} {X : List Symbol} {Y Z : List ℕ}
      -- -----------------------------------------------
      → Fails g n (N.Pop f x definition) (with (attached x Z ∷ X) Y) (UnexpectedAttachedScopes (node_id n))
  missing : {f : FileId} {x : ℕ} {definition : Bool} {X : List Symbol} {Y : List ℕ}
      -- -----------------------------------------------
      → Fails g n (N.PopScoped f x definition) (with (bare x ∷ X) Y) (MissingAttachedScopes (node_id n))

-- from node n with stacks S an edge leads to this end, with these stacks
pub data Steps (g : View) (n : ℕ) (S : Stacks) (e : ℕ) : ℕ → Stacks → Type 0 where
  onto : {t : NodeId} {pr : ℤ} {T : Stacks}
      → g.edge e ≡ E.Live (node_id n) t pr
      → (g.node t.0 ≡ N.JumpToScope → ⊥)
      → Applies g (g.node t.0) S T
      -- -----------------------------------------------
      → Steps g n S e t.0 T
  through : {t : NodeId} {pr : ℤ} {X : List Symbol} {Y : List ℕ} {s : ℕ}
      → g.edge e ≡ E.Live (node_id n) t pr
      → g.node t.0 ≡ N.JumpToScope
      → S ≡ with X (s ∷ Y)
      → is_exported (g.node s) ≡ true
      -- -----------------------------------------------
      → Steps g n S e s (with X Y)

-- from node n with stacks S an edge leads nowhere
pub data Stops (g : View) (n : ℕ) (S : Stacks) (e : ℕ) : PathRefusal → Type 0 where
  unknown-edge :
      g.edge e ≡ E.Removed
      -- -----------------------------------------------
      → Stops g n S e (UnknownEdge (edge_id e))
  wrong-source : {s t : NodeId} {pr : ℤ}
      → g.edge e ≡ E.Live s t pr → (s.0 ≡ n → ⊥)
      -- -----------------------------------------------
      → Stops g n S e (IncorrectSource (node_id n) s)
  target : {t : NodeId} {pr : ℤ} {r : PathRefusal}
      → g.edge e ≡ E.Live (node_id n) t pr
      → Fails g t.0 (g.node t.0) S r
      -- -----------------------------------------------
      → Stops g n S e r
  no-scope : {t : NodeId} {pr : ℤ} {X : List Symbol}
      → g.edge e ≡ E.Live (node_id n) t pr
      → g.node t.0 ≡ N.JumpToScope
      → S ≡ with X []
      -- -----------------------------------------------
      → Stops g n S e (EmptyScopeStack t)
  lost-scope : {t : NodeId} {pr : ℤ} {X : List Symbol} {Y : List ℕ} {s : ℕ}
      → g.edge e ≡ E.Live (node_id n) t pr
      → g.node t.0 ≡ N.JumpToScope
      → S ≡ with X (s ∷ Y)
      → is_exported (g.node s) ≡ false
      -- -----------------------------------------------
      → Stops g n S e (UnknownAttachedScope (node_id s))

-- a path begins at a reference, which is applied to empty stacks
pub data Begins (g : View) (r : ℕ) : Stacks → Type 0 where
  at-reference : {S : Stacks}
      → is_reference (g.node r) ≡ true
      → Applies g (g.node r) (with [] []) S
      -- -----------------------------------------------
      → Begins g r S

-- no path begins at a node
pub data NoBegin (g : View) (r : ℕ) : PathRefusal → Type 0 where
  unknown-node :
      g.node r ≡ N.Removed
      -- -----------------------------------------------
      → NoBegin g r (UnknownNode (node_id r))
  no-reference :
      (g.node r ≡ N.Removed → ⊥) → is_reference (g.node r) ≡ false
      -- -----------------------------------------------
      → NoBegin g r (NotReference (node_id r))
  failed : {x : PathRefusal}
      → is_reference (g.node r) ≡ true
      → Fails g r (g.node r) (with [] []) x
      -- -----------------------------------------------
      → NoBegin g r x

-- THE PATH RULES ON WHOLE LISTS: they take a list of edges, appended in order, from a reference to this end with these stacks
pub data Takes (g : View) (r : ℕ) : List ℕ → ℕ → Stacks → Type 0 where
  nothing : {S : Stacks}
      → Begins g r S
      -- -----------------------------------------------
      → Takes g r [] r S
  one_more : {l : List ℕ} {n e m : ℕ} {S T : Stacks}
      → Takes g r l n S → Steps g n S e m T
      -- -----------------------------------------------
      → Takes g r (l ++ (e ∷ [])) m T
