-- A path: its two stacks, what a node does to them, appending an edge, replay, completeness, shadowing.
-- Document 01, "Path".
use Rattle.std.specs.Prelude.{ℕ, Bool, true, false, List, [], ◌∷◌, ◌++◌, eqb, ltb, length, ℤ, pos}
use Rattle.std.proofs.Math.Option.{Option, none, some}
use Rattle.std.specs.Int.Signed.{lt_z}
use Rattle.semantics.specs.declared.graph.Node.{Node}
use Rattle.semantics.specs.declared.graph.Node.TheVariants as N
use Rattle.semantics.specs.declared.graph.Edge.{Edge}
use Rattle.semantics.specs.declared.graph.Edge.TheVariants as E
use Rattle.semantics.specs.declared.refusal.PathRefusal.{PathRefusal}
use Rattle.semantics.specs.declared.refusal.PathRefusal.TheVariants.{UnknownNode, NotReference, UnknownEdge, IncorrectSource, EmptySymbolStack, IncorrectPoppedSymbol, UnexpectedAttachedScopes, MissingAttachedScopes, EmptyScopeStack, UnknownAttachedScope}
use Rattle.semantics.specs.declared.refusal.ReplayRefusal.{ReplayRefusal}
use Rattle.semantics.specs.declared.refusal.ReplayRefusal.TheVariants as Replay
use Rattle.semantics.specs.Lists.{and}
use Rattle.semantics.specs.Limits.{Bounds}
use Rattle.semantics.specs.Answer.{Answer, ok, refuse, and_then, wrap}
use Rattle.semantics.specs.Graph.{node_id, edge_id, View, traits, is_reference, is_definition, is_exported}

-- a symbol, and the scopes attached to it with the top one first, if any are
pub record Symbol : Type 0 where
  pub symbol : ℕ
  pub scopes : Option (List ℕ)

-- both stacks, tops first
pub record Stacks : Type 0 where
  pub symbols : List Symbol
  pub scopes : List ℕ

abbrev pub no_stacks : Stacks
no_stacks = record { symbols = []; scopes = [] }

pub data Step : Type 0 where
  along : (edge source : ℕ) (precedence : ℤ) → Step
  jumped : (scope : ℕ) → Step

pub record Path : Type 0 where
  pub start : ℕ
  pub end : ℕ
  pub edges : List ℕ
  pub steps : List Step
  pub stacks : Stacks

-- what becomes of the stacks once an equal symbol with these scopes was popped by node n
unfoldable pub without_scopes : ℕ → Stacks → List Symbol → Option (List ℕ) → Answer PathRefusal Stacks
without_scopes n st rest none = ok (record { symbols = rest; scopes = st.scopes })
without_scopes n st rest (some l) = refuse (UnexpectedAttachedScopes (node_id n))

unfoldable pub with_scopes : ℕ → Stacks → List Symbol → Option (List ℕ) → Answer PathRefusal Stacks
with_scopes n st rest none = refuse (MissingAttachedScopes (node_id n))
with_scopes n st rest (some l) = ok (record { symbols = rest; scopes = l })

-- the symbol is compared before the scopes are looked at
unfoldable pub pop_equal : Bool → ℕ → Answer PathRefusal Stacks → Answer PathRefusal Stacks
pop_equal true n next = next
pop_equal false n next = refuse (IncorrectPoppedSymbol (node_id n))

unfoldable pub pop_top : ℕ → ℕ → (List Symbol → Option (List ℕ) → Answer PathRefusal Stacks) → List Symbol → Answer PathRefusal Stacks
unfolding pop_equal
pop_top n symbol next [] = refuse (EmptySymbolStack (node_id n))
pop_top n symbol next (top ∷ rest) = pop_equal (eqb top.symbol symbol) n (next rest top.scopes)

unfoldable pub push_attached : Bool → ℕ → ℕ → Stacks → Answer PathRefusal Stacks
push_attached true symbol scope st = ok (record { symbols = record { symbol = symbol; scopes = some (scope ∷ st.scopes) } ∷ st.symbols; scopes = st.scopes })
push_attached false symbol scope st = refuse (UnknownAttachedScope (node_id scope))

-- what node n does to the stacks, by its kind
unfoldable pub apply : View → ℕ → Node → Stacks → Answer PathRefusal Stacks
unfolding without_scopes with_scopes pop_top push_attached
apply g n N.Removed st = refuse (UnknownNode (node_id n))
apply g n N.Root st = ok st
apply g n N.JumpToScope st = ok st
apply g n (N.Scope f exported) st = ok st
apply g n (N.Push f symbol reference) st = ok (record { symbols = record { symbol = symbol; scopes = none } ∷ st.symbols; scopes = st.scopes })
apply g n (N.Pop f symbol definition) st = pop_top n symbol (without_scopes n st) st.symbols
apply g n (N.PushScoped f symbol scope reference) st = push_attached (is_exported (g.node scope.0)) symbol scope.0 st
apply g n (N.PopScoped f symbol definition) st = pop_top n symbol (with_scopes n st) st.symbols
apply g n (N.DropScopes f) st = ok (record { symbols = st.symbols; scopes = [] })

unfoldable pub start_reference : Bool → View → ℕ → Answer PathRefusal Path
unfolding apply
start_reference true g r = and_then (apply g r (g.node r) no_stacks) (λ st. ok (record { start = r; end = r; edges = []; steps = []; stacks = st }))
start_reference false g r = refuse (NotReference (node_id r))

unfoldable pub start_unless : Bool → View → ℕ → Answer PathRefusal Path
unfolding start_reference
start_unless true g r = refuse (UnknownNode (node_id r))
start_unless false g r = start_reference (is_reference (g.node r)) g r

-- the path that starts at a reference, which is applied
unfoldable pub from_reference : View → ℕ → Answer PathRefusal Path
unfolding start_unless
from_reference g r = start_unless (traits (g.node r)).removed g r

unfoldable pub jump_to : Bool → ℕ → List ℕ → Path → Answer PathRefusal Path
jump_to true scope rest p = ok (record { start = p.start; end = scope; edges = p.edges; steps = p.steps ++ (jumped scope ∷ []); stacks = record { symbols = p.stacks.symbols; scopes = rest } })
jump_to false scope rest p = refuse (UnknownAttachedScope (node_id scope))

unfoldable pub jump_top : View → ℕ → List ℕ → Path → Answer PathRefusal Path
unfolding jump_to
jump_top g n [] p = refuse (EmptyScopeStack (node_id n))
jump_top g n (scope ∷ rest) p = jump_to (is_exported (g.node scope)) scope rest p

-- on reaching jump, the top scope is taken and the path ends there
unfoldable pub land : View → ℕ → Node → Path → Answer PathRefusal Path
unfolding jump_top
land g n N.Removed p = ok p
land g n N.Root p = ok p
land g n N.JumpToScope p = jump_top g n p.stacks.scopes p
land g n (N.Scope f x) p = ok p
land g n (N.Push f s r) p = ok p
land g n (N.Pop f s d) p = ok p
land g n (N.PushScoped f s a r) p = ok p
land g n (N.PopScoped f s d) p = ok p
land g n (N.DropScopes f) p = ok p

-- an edge that leaves the path's end: its target is applied, then the edge is added
unfoldable pub extend : View → Path → ℕ → ℕ → ℤ → Answer PathRefusal Path
unfolding apply land
extend g p e target precedence =
    and_then (apply g target (g.node target) p.stacks) (λ st. land g target (g.node target)
    (record { start = p.start; end = target; edges = p.edges ++ (e ∷ []); steps = p.steps ++ (along e p.end precedence ∷ []); stacks = st }))

unfoldable pub append_from : Bool → View → Path → ℕ → ℕ → ℕ → ℤ → Answer PathRefusal Path
unfolding extend
append_from true g p e source target precedence = extend g p e target precedence
append_from false g p e source target precedence = refuse (IncorrectSource (node_id p.end) (node_id source))

unfoldable pub append_edge : View → Path → ℕ → Edge → Answer PathRefusal Path
unfolding append_from
append_edge g p e E.Removed = refuse (UnknownEdge (edge_id e))
append_edge g p e (E.Live source target precedence) = append_from (eqb source.0 p.end) g p e source.0 target.0 precedence

unfoldable pub append : View → Path → ℕ → Answer PathRefusal Path
unfolding append_edge
append g p e = append_edge g p e (g.edge e)

unfoldable pub append_if : Bool → View → Path → ℕ → Answer ReplayRefusal Path
unfolding append
append_if true g p e = wrap Replay.Path (append g p e)
append_if false g p e = refuse Replay.TooLong

-- the bound is tested, then the edge is appended
unfoldable pub append_under : Bounds → View → Path → ℕ → Answer ReplayRefusal Path
unfolding append_if
append_under bd g p e = append_if (ltb (length p.edges) bd.edges) g p e

unfoldable pub append_all : Bounds → View → Path → List ℕ → Answer ReplayRefusal Path
unfolding append_under
append_all bd g p [] = ok p
append_all bd g p (e ∷ es) = and_then (append_under bd g p e) (λ q. append_all bd g q es)

unfoldable pub replay : Bounds → View → ℕ → List ℕ → Answer ReplayRefusal Path
unfolding from_reference append_all
replay bd g r es = and_then (wrap Replay.Path (from_reference g r)) (λ p. append_all bd g p es)

unfoldable pub is_empty : {A : Type 0} → List A → Bool
is_empty [] = true
is_empty (x ∷ xs) = false

-- from a reference to a definition, both stacks empty
unfoldable pub is_complete : View → Path → Bool
unfolding is_empty
is_complete g p = and (is_reference (g.node p.start)) (and (is_definition (g.node p.end)) (and (is_empty p.stacks.symbols) (is_empty p.stacks.scopes)))

-- a jump leaves node 1
unfoldable pub source_of : Step → ℕ
source_of (along e source precedence) = source
source_of (jumped scope) = 1

unfoldable pub precedence_of : Step → ℤ
precedence_of (along e source precedence) = precedence
precedence_of (jumped scope) = pos 0

unfoldable pub if_greater : Bool → Bool → Bool
if_greater true onward = true
if_greater false onward = onward

unfoldable pub if_same_source : Bool → Bool → Bool
if_same_source true onward = onward
if_same_source false onward = false

unfoldable pub shadowing : List Step → List Step → Bool
unfolding if_same_source if_greater source_of precedence_of
shadowing [] right = false
shadowing (x ∷ left) [] = false
shadowing (x ∷ left) (y ∷ right) = if_same_source (eqb (source_of x) (source_of y)) (if_greater (lt_z (precedence_of y) (precedence_of x)) (shadowing left right))

unfoldable pub shadows : Path → Path → Bool
unfolding shadowing
shadows p q = shadowing p.steps q.steps
