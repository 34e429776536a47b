-- A route that waits, as the words of a slot, and the ends that are read from them.
-- Document 01, "Answer": "Waiting paths are held likewise, a partial path without edges keeping its start in the first edge word".
use Rattle.std.specs.Prelude.{ℕ, ◌≤◌, ◌<◌, List, [], ◌∷◌, ltb, length, take, get_or}
use Rattle.semantics.specs.Limits.{max_edges}
use Rattle.semantics.specs.declared.graph.Edge.{Edge}
use Rattle.semantics.specs.declared.graph.Edge.TheVariants as E
use Rattle.semantics.specs.Lists.{pick}
use Rattle.semantics.specs.Graph.{View}
use Rattle.semantics.specs.Words.{zeros, encode}
use Rattle.semantics.specs.PartialPaths.{Route, owned_by, target_of}
use Rattle.semantics.specs.Demand.{Walk}
use Rattle.partial_state.specs.declared.route.Ends.{Ends}
pub mod Laws

-- the start and the edges in a slot of L words
unfoldable pub held_by : ℕ → ℕ → List ℕ → List ℕ
unfolding encode
held_by L start [] = take L (0 ∷ start ∷ zeros L)
held_by L start (e ∷ es) = encode L (e ∷ es)

abbrev pub held : ℕ → Route → List ℕ
held L r = held_by L r.start r.edges

unfoldable pub source_of : Edge → ℕ
source_of E.Removed = 0
source_of (E.Live s t p) = s.0

-- the ends of the route in these words: those of its first and its last edge
unfoldable pub ends_in : (ℕ → Edge) → List ℕ → Ends
unfolding source_of target_of
ends_in edge item =
    pick (ltb 0 (get_or item 0 0))
    (record { start = source_of (edge (get_or item 1 0)); end = target_of (edge (get_or item (get_or item 0 0) 0)) })
    (record { start = get_or item 1 0; end = get_or item 1 0 })

abbrev pub ends_of : Route → Ends
ends_of r = record { start = r.start; end = r.current }

-- a route on the way: edges of the file, each going on from the last one's target, and no more than the longest slot has words for
pub record Traced (g : View) (file : ℕ) (r : Route) : Type 0 where
  pub walk : Walk g (owned_by g file) r.start r.edges r.current
  pub short : length r.edges ≤ max_edges

-- one that waits in a slot of L words
abbrev pub Waiting : View → ℕ → ℕ → Route → Type 0
Waiting g file L r = Traced g file r × (length r.edges < L)
