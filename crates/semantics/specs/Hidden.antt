-- What a desk sees of a graph and of a database when only some files are visible to it: a hidden record is a removed one, a hidden slot a dead one,
-- and numbers stay. Document 02, order 8.
use Rattle.std.specs.Prelude.{ℕ, Bool, true, false, List, map, eqb, ltb, get_or, ℤ}
use Rattle.std.proofs.Math.Option.{Option, none, some}
use Rattle.semantics.specs.declared.graph.NodeId.{NodeId}
use Rattle.semantics.specs.declared.graph.Node.{Node}
use Rattle.semantics.specs.declared.graph.Node.TheVariants as N
use Rattle.semantics.specs.declared.graph.Edge.{Edge}
use Rattle.semantics.specs.declared.graph.Edge.TheVariants as E
use Rattle.semantics.specs.declared.refusal.ImageRefusal.{ImageRefusal}
use Rattle.semantics.specs.Lists.{or, and}
use Rattle.semantics.specs.Limits.{nobody}
use Rattle.semantics.specs.Answer.{Answer, ok, refuse}
use Rattle.semantics.specs.Graph.{Graph, View, view_of, file_of}
use Rattle.semantics.specs.PartialPaths.{Slot, dead, slot}

-- THE SET as it is lent: a file is visible where its byte is there and not 0
abbrev pub sees : List ℕ → ℕ → Bool
sees visible f = ltb 0 (get_or visible f 0)

-- the set that hides no file
abbrev pub every_file : ℕ → Bool
every_file f = true

-- what has no file is visible to all
unfoldable pub sees_file : (ℕ → Bool) → Option ℕ → Bool
sees_file see none = true
sees_file see (some f) = see f

-- THE GRAPH

unfoldable pub node_if : Bool → Node → Node
node_if true n = n
node_if false n = N.Removed

unfoldable pub seen_node : (ℕ → Bool) → Node → Node
unfolding node_if sees_file
seen_node see n = node_if (sees_file see (file_of n)) n

unfoldable pub edge_if : Bool → NodeId → NodeId → ℤ → Edge
edge_if true s t p = E.Live s t p
edge_if false s t p = E.Removed

-- an edge belongs to a file by either end
unfoldable pub seen_edge : (ℕ → Bool) → View → Edge → Edge
unfolding edge_if sees_file
seen_edge see g E.Removed = E.Removed
seen_edge see g (E.Live s t p) = edge_if (and (sees_file see (file_of (g.node s.0))) (sees_file see (file_of (g.node t.0)))) s t p

-- the graph with the hidden files cleared: as many files and records, under the same numbers
unfoldable pub seen : (ℕ → Bool) → Graph → Graph
unfolding seen_node seen_edge view_of
seen see g = record { files = g.files; nodes = map (seen_node see) g.nodes; edges = map (seen_edge see (view_of g)) g.edges }

-- 1 to 5 see hidden records too
unfoldable pub seen_image : (ℕ → Bool) → Answer ImageRefusal Graph → Answer ImageRefusal Graph
unfolding seen
seen_image see (ok g) = ok (seen see g)
seen_image see (refuse r) = refuse r

-- THE DATABASE

-- the alias set is of no file
abbrev pub sees_owner : (ℕ → Bool) → ℕ → Bool
sees_owner see f = or (eqb f nobody) (see f)

unfoldable pub slot_if : Bool → Slot → Slot
slot_if true s = s
slot_if false s = dead

-- a partial path is of its owner, whatever it starts at or names
unfoldable pub seen_slot : (ℕ → Bool) → Slot → Slot
unfolding slot_if
seen_slot see dead = dead
seen_slot see (slot f s t es) = slot_if (sees_owner see f) (slot f s t es)

abbrev pub seen_slots : (ℕ → Bool) → List Slot → List Slot
seen_slots see db = map (seen_slot see) db
