-- A graph read by number: a node, an edge, the references, and the edges that leave a node. What is answered is what the view has; a number that is not
-- known is 10 or 12, as in document 01's path rules.
use Rattle.std.specs.Prelude.{ℕ, Bool, true, false, List, leb, length, Err, Ok}
use Rattle.semantics.specs.declared.graph.Node.{Node}
use Rattle.semantics.specs.declared.graph.Edge.{Edge}
use Rattle.semantics.specs.declared.graph.Edge.TheVariants as E
use Rattle.semantics.specs.declared.refusal.ImageRefusal.{ImageRefusal}
use Rattle.semantics.specs.Answer.{Answer, ok, refuse}
use Rattle.semantics.specs.Graph.{node_id, edge_id, Graph, view_of, traits}
use Rattle.semantics.specs.Finding.{references_from}
use Rattle.semantics.specs.Words.{zeros}
use Rattle.semantics.specs.Written.{written}
use Rattle.semantics.specs.PublicAnswers.{EdgeReading, Listing, NodeReading, edge_answer}
use Rattle.semantics.specs.declared.answer.ListingRefusal.{ListingRefusal}
use Rattle.semantics.specs.declared.answer.ReadingRefusal.{ReadingRefusal}

-- A RECORD

unfoldable pub node_unless : Bool → ℕ → Node → NodeReading
node_unless true n x = Err (ReadingRefusal.Unknown (node_id n))
node_unless false n x = Ok x

-- 10 where it is removed or not there
abbrev pub node_read : ℕ → Node → NodeReading
node_read n x = node_unless (traits x).removed n x

unfoldable pub node_call : Answer ImageRefusal Graph → ℕ → NodeReading
unfolding node_unless view_of
node_call (ok g) n = node_read n ((view_of g).node n)
node_call (refuse r) n = Err (ReadingRefusal.Image r)

-- 12 likewise
unfoldable pub edge_read : ℕ → Edge → EdgeReading
edge_read e E.Removed = Err (ReadingRefusal.Unknown (edge_id e))
edge_read e (E.Live s t p) = edge_answer s t p

unfoldable pub edge_call : Answer ImageRefusal Graph → ℕ → EdgeReading
unfolding edge_read view_of
edge_call (ok g) e = edge_read e ((view_of g).edge e)
edge_call (refuse r) e = Err (ReadingRefusal.Image r)

-- A LIST in a lent area of so many words

-- the answer, and every word of the area
pub record Listed : Type 0 where
  pub answer : Listing
  pub result : List ℕ

abbrev pub unlisted : ℕ → Listing → Listed
unlisted words a = record { answer = a; result = zeros words }

-- 32
unfoldable pub listed_if : Bool → ℕ → List ℕ → Listed
unfolding written
listed_if true words ns = record { answer = Ok (length ns); result = written words ns }
listed_if false words ns = unlisted words (Err ListingRefusal.NoRoom)

-- the numbers in the first words, zeros behind them
abbrev pub listed : ℕ → List ℕ → Listed
listed words ns = listed_if (leb (length ns) words) words ns

-- the live references by ascending number
unfoldable pub references_call : Answer ImageRefusal Graph → ℕ → Listed
unfolding listed_if references_from
references_call (ok g) words = listed words (references_from 0 g.nodes)
references_call (refuse r) words = unlisted words (Err (ListingRefusal.Image r))

-- 10 before 32
unfoldable pub listed_unless : Bool → ℕ → ℕ → List ℕ → Listed
unfolding listed_if
listed_unless true n words es = unlisted words (Err (ListingRefusal.Unknown (node_id n)))
listed_unless false n words es = listed words es

-- the live edges that leave a node by ascending number, which is the order in which searches try them
unfoldable pub outgoing_call : Answer ImageRefusal Graph → ℕ → ℕ → Listed
unfolding listed_unless view_of
outgoing_call (ok g) n words = listed_unless (traits ((view_of g).node n)).removed n words ((view_of g).out n)
outgoing_call (refuse r) n words = unlisted words (Err (ListingRefusal.Image r))
