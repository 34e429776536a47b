-- The bytes of a graph image: its header, the test of each record, what a record holds, and the whole check in document 01's order.
-- Document 01, "Graph image" and the rows 1 to 5 of "Turned back"; document 02, order 3. A symbol has w bytes; the version says how many.
use Rattle.std.specs.Prelude.{ℕ, zero, suc, ◌+◌, ◌*◌, Bool, true, false, not, List, [], ◌∷◌, eqb, leb, ltb, length, get_or}
use Rattle.semantics.specs.declared.graph.Node.{Node}
use Rattle.semantics.specs.declared.graph.Node.TheVariants as N
use Rattle.semantics.specs.declared.graph.Edge.{Edge}
use Rattle.semantics.specs.declared.graph.Edge.TheVariants as E
use Rattle.semantics.specs.declared.refusal.ImageRefusal.{ImageRefusal}
use Rattle.semantics.specs.declared.refusal.ImageRefusal.TheVariants as Image
use Rattle.semantics.specs.Lists.{pick}
use Rattle.semantics.specs.Answer.{Answer, ok, refuse, and_then}
use Rattle.semantics.specs.Bytes.{byte_at, short, long, wide, signed}
use Rattle.semantics.specs.Graph.{node_id, file_id, Graph, view_of}
use Rattle.semantics.specs.Acceptance.{node_fits, edge_fits}
pub mod Encoding

-- the bytes of a symbol, by version; 0 where there is no such version
abbrev pub symbol_bytes : ℕ → ℕ
symbol_bytes v = pick (eqb v 1) 4 (pick (eqb v 2) 8 0)

-- one version alone is wanted
abbrev pub only : (ℕ → ℕ) → ℕ → ℕ → ℕ
only widths wanted v = pick (eqb v wanted) (widths v) 0

-- the bytes of a symbol in an image, by its version
abbrev pub width_in : List ℕ → ℕ
width_in im = symbol_bytes (byte_at im 0)

-- how many bytes an image may have, and one of a version
abbrev pub longest_image : ℕ
longest_image = 65536

abbrev pub most_bytes : ℕ → ℕ
most_bytes v = pick (eqb v 1) 63499 longest_image

abbrev pub files_of : List ℕ → ℕ
files_of im = short im 5

abbrev pub nodes_of : List ℕ → ℕ
nodes_of im = short im 7

abbrev pub edges_of : List ℕ → ℕ
edges_of im = short im 9

-- where the first record stands
abbrev pub first_record : ℕ
first_record = 11

-- size and length, then the version, then the counts; the place of the first record
unfoldable pub header : (ℕ → ℕ) → List ℕ → Answer ImageRefusal ℕ
header widths im =
    pick (ltb (length im) 11) (refuse Image.Length)
    (pick (ltb longest_image (length im)) (refuse Image.Length)
    (pick (not (eqb (long im 1 + 5) (length im))) (refuse Image.Length)
    (pick (eqb (widths (byte_at im 0)) 0) (refuse Image.Version)
    (pick (ltb (most_bytes (byte_at im 0)) (length im)) (refuse Image.Length)
    (pick (ltb 256 (files_of im)) (refuse Image.Counts)
    (pick (ltb (nodes_of im) 2) (refuse Image.Counts)
    (pick (ltb 2048 (nodes_of im)) (refuse Image.Counts)
    (pick (ltb 4096 (edges_of im)) (refuse Image.Counts)
    (ok first_record)))))))))

-- a cut: no count byte, a count of 0, or a count that reaches behind the last byte
unfoldable pub is_cut : List ℕ → ℕ → Bool
is_cut im at = pick (leb (length im) at) true (pick (eqb (byte_at im at) 0) true (leb (length im) (at + byte_at im at)))

-- root is node 0 and jump is node 1, and neither stands elsewhere
unfoldable pub may_stand : ℕ → ℕ → Bool
may_stand kind n = pick (eqb n 0) (eqb kind 1) (pick (eqb n 1) (eqb kind 2) (pick (eqb kind 1) false (not (eqb kind 2))))

-- the count of each kind: the bytes behind the count byte
unfoldable pub body_size : ℕ → ℕ → ℕ
body_size w kind = get_or (1 ∷ 1 ∷ 1 ∷ 4 ∷ (4 + w) ∷ (4 + w) ∷ (6 + w) ∷ (4 + w) ∷ 3 ∷ []) kind 0

-- a file below F, and, but in drop-scopes, a flag of 0 or 1 as the last byte
unfoldable pub fields_fit : List ℕ → ℕ → ℕ → ℕ → ℕ → Bool
fields_fit im files kind at count = pick (leb files (short im (at + 2))) false (pick (eqb kind 8) true (ltb (byte_at im (at + count)) 2))

-- the record behind the one at a place
abbrev pub next_place : List ℕ → ℕ → ℕ
next_place im at = at + byte_at im at + 1

-- one node record: cut, kind and where it may stand, count, fields; the next place
unfoldable pub node_record : ℕ → List ℕ → ℕ → ℕ → ℕ → Answer ImageRefusal ℕ
unfolding is_cut may_stand body_size fields_fit
node_record w im files n at =
    pick (is_cut im at) (refuse Image.Length)
    (pick (ltb 8 (byte_at im (at + 1))) (refuse (Image.Record at))
    (pick (not (may_stand (byte_at im (at + 1)) n)) (refuse (Image.Record at))
    (pick (not (eqb (byte_at im at) (body_size w (byte_at im (at + 1))))) (refuse Image.Length)
    (pick (ltb (byte_at im (at + 1)) 3) (ok (next_place im at))
    (pick (fields_fit im files (byte_at im (at + 1)) at (byte_at im at)) (ok (next_place im at))
    (refuse (Image.Record at)))))))

-- one edge record, of 1 or 9 bytes behind the count byte
unfoldable pub edge_record : List ℕ → ℕ → Answer ImageRefusal ℕ
unfolding is_cut
edge_record im at =
    pick (is_cut im at) (refuse Image.Length)
    (pick (ltb 1 (byte_at im (at + 1))) (refuse (Image.Record at))
    (pick (eqb (byte_at im at) (byte_at im (at + 1) * 8 + 1)) (ok (next_place im at)) (refuse Image.Length)))

-- k records from record i and a place on, record i tested by `test i`: the place behind them, or the first refusal
unfoldable pub scan : (ℕ → ℕ → Answer ImageRefusal ℕ) → ℕ → ℕ → ℕ → Answer ImageRefusal ℕ
scan test i at zero = ok at
scan test i at (suc k) = and_then (test i at) (λ next. scan test (suc i) next k)

unfoldable pub flag_at : List ℕ → ℕ → Bool
flag_at im at = eqb (byte_at im at) 1

-- the node in the record at a place, by its kind
unfoldable pub node_in : ℕ → List ℕ → ℕ → ℕ → Node
unfolding flag_at wide
node_in w im at kind =
    pick (eqb kind 1) N.Root
    (pick (eqb kind 2) N.JumpToScope
    (pick (eqb kind 3) (N.Scope (file_id (short im (at + 2))) (flag_at im (at + 4)))
    (pick (eqb kind 4) (N.Push (file_id (short im (at + 2))) (wide w im (at + 4)) (flag_at im (at + 4 + w)))
    (pick (eqb kind 5) (N.Pop (file_id (short im (at + 2))) (wide w im (at + 4)) (flag_at im (at + 4 + w)))
    (pick (eqb kind 6) (N.PushScoped (file_id (short im (at + 2))) (wide w im (at + 4)) (node_id (short im (at + 4 + w))) (flag_at im (at + 6 + w)))
    (pick (eqb kind 7) (N.PopScoped (file_id (short im (at + 2))) (wide w im (at + 4)) (flag_at im (at + 4 + w)))
    (pick (eqb kind 8) (N.DropScopes (file_id (short im (at + 2)))) N.Removed)))))))

-- the edge in the record at a place, by its kind
unfoldable pub edge_in : List ℕ → ℕ → ℕ → Edge
unfolding signed
edge_in im at kind = pick (eqb kind 1) (E.Live (node_id (short im (at + 2))) (node_id (short im (at + 4))) (signed (long im (at + 6)))) E.Removed

-- the records from a place on, each found behind the one before
unfoldable pub nodes_from : ℕ → List ℕ → ℕ → ℕ → List Node
unfolding node_in
nodes_from w im at zero = []
nodes_from w im at (suc k) = node_in w im at (byte_at im (at + 1)) ∷ nodes_from w im (next_place im at) k

unfoldable pub edges_from : List ℕ → ℕ → ℕ → List Edge
unfolding edge_in
edges_from im at zero = []
edges_from im at (suc k) = edge_in im at (byte_at im (at + 1)) ∷ edges_from im (next_place im at) k

-- where record k stands, from a place on
unfoldable pub place_of : List ℕ → ℕ → ℕ → ℕ
place_of im at zero = at
place_of im at (suc k) = place_of im (next_place im at) k

-- where the first edge record stands
abbrev pub first_edge : List ℕ → ℕ
first_edge im = place_of im first_record (nodes_of im)

unfoldable pub graph_of : ℕ → List ℕ → Graph
unfolding nodes_from edges_from place_of
graph_of w im = record { files = files_of im; nodes = nodes_from w im first_record (nodes_of im); edges = edges_from im (first_edge im) (edges_of im) }

-- 5 in record order: attached scopes, then edge ends
unfoldable pub node_misfit : List ℕ → Graph → ℕ → List Node → Answer ImageRefusal ℕ → Answer ImageRefusal ℕ
unfolding node_fits view_of
node_misfit im g at [] next = next
node_misfit im g at (n ∷ ns) next = pick (node_fits (view_of g) n) (node_misfit im g (next_place im at) ns next) (refuse (Image.Reference at))

unfoldable pub edge_misfit : List ℕ → Graph → ℕ → List Edge → Answer ImageRefusal ℕ
unfolding edge_fits view_of
edge_misfit im g at [] = ok at
edge_misfit im g at (e ∷ es) = pick (edge_fits (view_of g) e) (edge_misfit im g (next_place im at) es) (refuse (Image.Reference at))

unfoldable pub references : List ℕ → Graph → Answer ImageRefusal ℕ
unfolding node_misfit edge_misfit place_of
references im g = node_misfit im g first_record g.nodes (edge_misfit im g (first_edge im) g.edges)

-- size, length, version, counts, the records in order, bytes left over, and last 5; a symbol has w bytes
unfoldable pub check_with : ℕ → (ℕ → ℕ) → List ℕ → Answer ImageRefusal Graph
unfolding header scan node_record edge_record references graph_of
check_with w widths im =
    and_then (header widths im) (λ first. and_then (scan (node_record w im (files_of im)) 0 first (nodes_of im)) (λ middle. and_then (scan (λ e. edge_record im) 0 middle (edges_of im))
    (λ last. pick (eqb last (length im)) (and_then (references im (graph_of w im)) (λ x. ok (graph_of w im))) (refuse Image.Length))))

-- the version says how many bytes a symbol has
unfoldable pub check_image : (ℕ → ℕ) → List ℕ → Answer ImageRefusal Graph
unfolding check_with
check_image widths im = check_with (widths (byte_at im 0)) widths im
