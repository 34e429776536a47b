-- The first record that refers to what it may not, and what its absence says of the words.
-- Document 01, "Turned back", row 5: in record order.
use Rattle.std.specs.Prelude.{ℕ, ◌*◌, ◌<◌, ◌≤◌, ◌≡◌, Bool, true, false, List, length, Option, Some, None}
use Rattle.semantics.specs.Acceptance.{node_fits, edge_fits}
use Rattle.semantics.specs.Graph.{Graph, view_of}
use Rattle.storage.specs.Index.{BLOCK, SOURCE, cell}
pub mod Laws

-- k is the first number below `count` where the test fails, or `count`
pub record First (test : ℕ → Bool) (count k : ℕ) : Type 0 where
  pub bound : k ≤ count
  pub before : (j : ℕ) → j < k → test j ≡ true
  pub here : k < count → test k ≡ false

-- the first number below `count` where the test fails; none where it holds of all
abbrev pub FirstOf : (ℕ → Bool) → ℕ → Option ℕ → Type 0
FirstOf test count None = First test count count
FirstOf test count (Some k) = (k < count) × First test count k

abbrev pub node_test : Graph → ℕ → Bool
node_test g n = node_fits (view_of g) ((view_of g).node n)

abbrev pub edge_test : Graph → ℕ → Bool
edge_test g e = edge_fits (view_of g) ((view_of g).edge e)

-- the source of every live edge has a block; it is stored plus 1
abbrev pub Sources : List ℕ → Type 0
Sources index = (e : ℕ) → BLOCK * cell index SOURCE e ≤ length index
