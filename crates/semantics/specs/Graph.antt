-- A graph's records, what is asked of them, and the view of a graph that path rules and searches take.
-- Document 01, "Graph image"; which nodes start and end a partial path, "Partial paths".
use Rattle.std.specs.Prelude.{ℕ, suc, ◌<◌, ◌≡◌, Bool, true, false, eqb, get_or, ℤ}
use Rattle.std.proofs.Math.Option.{Option, none, some}
use mathlib.Core.List.{List, [], ◌∷◌, Memᴰ}
use Rattle.semantics.specs.declared.graph.NodeId.{NodeId}
use Rattle.semantics.specs.declared.graph.EdgeId.{EdgeId}
use Rattle.semantics.specs.declared.graph.FileId.{FileId}
use Rattle.semantics.specs.declared.graph.Node.{Node}
use Rattle.semantics.specs.declared.graph.Node.TheVariants as N
use Rattle.semantics.specs.declared.graph.Edge.{Edge}
use Rattle.semantics.specs.declared.graph.Edge.TheVariants as E
use Rattle.semantics.specs.Lists.{cons_if, or}
pub mod Laws

abbrev pub node_id : ℕ → NodeId
node_id n = record { 0 = n }

abbrev pub edge_id : ℕ → EdgeId
edge_id e = record { 0 = e }

abbrev pub file_id : ℕ → FileId
file_id f = record { 0 = f }

-- what a record says of its node, by kind
pub record Traits : Type 0 where
  pub removed : Bool
  pub shared : Bool
  pub file : Option ℕ
  pub reference : Bool
  pub definition : Bool
  pub exported : Bool

-- of root and of jump
abbrev pub of_no_file : Traits
of_no_file = record { removed = false; shared = true; file = none; reference = false; definition = false; exported = false }

abbrev pub of_file : FileId → Bool → Bool → Bool → Traits
of_file f reference definition exported = record { removed = false; shared = false; file = some f.0; reference = reference; definition = definition; exported = exported }

abbrev pub traits : Node → Traits
traits N.Removed = record { removed = true; shared = false; file = none; reference = false; definition = false; exported = false }
traits N.Root = of_no_file
traits N.JumpToScope = of_no_file
traits (N.Scope f exported) = of_file f false false exported
traits (N.Push f symbol reference) = of_file f reference false false
traits (N.Pop f symbol definition) = of_file f false definition false
traits (N.PushScoped f symbol scope reference) = of_file f reference false false
traits (N.PopScoped f symbol definition) = of_file f false definition false
traits (N.DropScopes f) = of_file f false false false

abbrev pub file_of : Node → Option ℕ
file_of n = (traits n).file

abbrev pub is_reference : Node → Bool
is_reference n = (traits n).reference

abbrev pub is_definition : Node → Bool
is_definition n = (traits n).definition

abbrev pub is_exported : Node → Bool
is_exported n = (traits n).exported

-- root, jump, an exported scope, a definition
abbrev pub is_endpoint : Node → Bool
is_endpoint n = or (traits n).shared (or (traits n).exported (traits n).definition)

-- a reference or an exported scope: a file's own starts
abbrev pub is_start : Node → Bool
is_start n = or (traits n).exported (traits n).reference

-- is this the file f
unfoldable pub is_file : ℕ → Option ℕ → Bool
is_file f none = false
is_file f (some x) = eqb x f

-- of live nodes only root and jump lack a file
unfoldable pub lacks_file : Option ℕ → Bool
lacks_file none = true
lacks_file (some f) = false

-- node and edge records by number from 0
pub record Graph : Type 0 where
  pub files : ℕ
  pub nodes : List Node
  pub edges : List Edge

-- the live edges of a node by ascending number, in a list that is numbered from i on
unfoldable pub outgoing : ℕ → ℕ → List Edge → List ℕ
outgoing n i [] = []
outgoing n i (E.Removed ∷ es) = outgoing n (suc i) es
outgoing n i (E.Live source target precedence ∷ es) = cons_if (eqb source.0 n) i (outgoing n (suc i) es)

-- what path rules and searches see of a graph; a number that is not known is a removed record
pub record View : Type 0 where
  pub node : ℕ → Node
  pub edge : ℕ → Edge
  pub out : ℕ → List ℕ

unfoldable pub view_of : Graph → View
unfolding outgoing
view_of g = record { node = λ n. get_or g.nodes n N.Removed; edge = λ e. get_or g.edges e E.Removed; out = λ n. outgoing n 0 g.edges }

abbrev pub Ascending : List ℕ → Type 0
Ascending [] = Unit {0}
Ascending (x ∷ xs) = ((y : ℕ) → Memᴰ y xs → x < y) × Ascending xs

-- `out` lists the live edges of a node, and no others, by ascending number
pub record Lawful (g : View) : Type 0 where
  pub lists : (n e : ℕ) (s t : NodeId) (p : ℤ) → g.edge e ≡ E.Live s t p → eqb s.0 n ≡ true → Memᴰ e (g.out n)
  pub live : (n e : ℕ) → Memᴰ e (g.out n) → (t : NodeId) × (p : ℤ) × (g.edge e ≡ E.Live (node_id n) t p)
  pub ascends : (n : ℕ) → Ascending (g.out n)
