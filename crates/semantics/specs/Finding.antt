-- A name that reaches a definition: references are searched ascending, breadth-first, without count limits, each to its end.
-- Document 02, order 1.
use Rattle.std.specs.Prelude.{ℕ, suc, Bool, List, [], ◌∷◌, eqb, None, Err, Ok, Some}
use Rattle.std.proofs.Math.Bool.{true, false}
use Rattle.std.proofs.Math.Option.{Option, none, some}
use Rattle.semantics.specs.declared.graph.Node.{Node}
use Rattle.semantics.specs.declared.search.SearchLimits.{SearchLimits}
use Rattle.semantics.specs.declared.search.SearchOrder.TheVariants.{BreadthFirst}
use Rattle.semantics.specs.declared.refusal.ImageRefusal.{ImageRefusal}
use Rattle.semantics.specs.declared.refusal.SearchRefusal.{SearchRefusal}
use Rattle.semantics.specs.declared.refusal.SearchRefusal.TheVariants as Search
use Rattle.semantics.specs.declared.refusal.PathRefusal.TheVariants.{UnknownNode}
use Rattle.semantics.specs.Lists.{cons_if, pick}
use Rattle.semantics.specs.Limits.{Bounds, slot_words, Limit}
use Rattle.semantics.specs.Answer.{Answer, ok, refuse, and_then}
use Rattle.semantics.specs.Graph.{node_id, Graph, View, view_of, traits, is_reference, is_definition}
use Rattle.semantics.specs.Path.{Path}
use Rattle.semantics.specs.Enumeration.{State}
use Rattle.semantics.specs.Recorded.{recorded}
use Rattle.semantics.specs.Direct.{direct, search_setting}
use Rattle.semantics.specs.Words.{zeros, whole_slots, area}
use Rattle.semantics.specs.Calls.{Outcome}
use Rattle.semantics.specs.PublicAnswers.{Finding}
use Rattle.semantics.specs.declared.answer.FindingRefusal.{FindingRefusal}

-- a name that was found: the reference, and the edges of its path
pub record Name : Type 0 where
  pub reference : ℕ
  pub edges : List ℕ

-- the first path of a list that ends at the node
unfoldable pub first_to : ℕ → List Path → Option Path
first_to n [] = none
first_to n (p ∷ ps) = pick (eqb p.end n) (some p) (first_to n ps)

-- the live references by ascending number, counted from i
unfoldable pub references_from : ℕ → List Node → List ℕ
references_from i [] = []
references_from i (n ∷ ns) = cons_if (is_reference n) i (references_from (suc i) ns)

unfoldable pub named : {R : Type 0} → ℕ → Option Path → Answer R (Option Name) → Answer R (Option Name)
named r none onward = onward
named r (some p) onward = ok (some (record { reference = r; edges = p.edges }))

-- each is searched to its end, until one has such a path; a search refused before that is the reply
unfoldable pub find_in : {R : Type 0} → (ℕ → Answer R (State Path)) → ℕ → List ℕ → Answer R (Option Name)
unfolding named first_to recorded
find_in search n [] = ok none
find_in search n (r ∷ rs) = and_then (search r) (λ s. named r (first_to n (recorded s)) (find_in search n rs))

-- without count limits
abbrev pub only_length : Limit → SearchLimits
only_length lim = record { length = lim; expansions = None; complete = None }

-- the direct search from a reference, breadth-first
abbrev pub search_to : Bounds → Limit → ℕ → ℕ → View → ℕ → Answer SearchRefusal (State Path)
search_to bd lim waiting results g r = direct bd lim (search_setting BreadthFirst (only_length lim) waiting results) g r

unfoldable pub name_to : Bounds → Limit → ℕ → ℕ → Graph → ℕ → Answer SearchRefusal (Option Name)
unfolding find_in references_from view_of direct
name_to bd lim waiting results g n = find_in (search_to bd lim waiting results (view_of g)) n (references_from 0 g.nodes)

-- THE CALL

-- what is asked: the definition, and the limit on the length; work and result are the lengths of the lent areas in words
pub record FindRequest : Type 0 where
  pub length : Limit
  pub work : ℕ
  pub result : ℕ
  pub node : ℕ

-- both areas all zero
abbrev pub bare : FindRequest → Finding → Outcome Finding
bare q a = record { answer = a; work = zeros q.work; result = zeros q.result }

module _ (bd : Bounds) where
  -- the path is put in the first result slot, all else zero
  unfoldable pub found_as : FindRequest → Answer SearchRefusal (Option Name) → Outcome Finding
  unfolding area
  found_as q (ok (some m)) = record { answer = Ok (Some (node_id m.reference)); work = zeros q.work; result = area (slot_words bd) q.result (m.edges ∷ []) }
  found_as q (ok none) = bare q (Ok None)
  found_as q (refuse r) = bare q (Err (FindingRefusal.Refused r))

  -- 37
  unfoldable pub if_definition : Bool → Graph → FindRequest → Outcome Finding
  unfolding found_as name_to
  if_definition true g q = found_as q (name_to bd q.length (whole_slots (slot_words bd) q.work) (whole_slots (slot_words bd) q.result) g q.node)
  if_definition false g q = bare q (Err (FindingRefusal.NotDefinition (node_id q.node)))

  -- 10
  unfoldable pub unless_removed : Bool → Graph → FindRequest → Outcome Finding
  unfolding if_definition view_of
  unless_removed true g q = bare q (Err (FindingRefusal.Refused (Search.Path (UnknownNode (node_id q.node)))))
  unless_removed false g q = if_definition (is_definition ((view_of g).node q.node)) g q

  -- the image, 10, 37, then the searches
  unfoldable pub find_call : Answer ImageRefusal Graph → FindRequest → Outcome Finding
  unfolding unless_removed view_of
  find_call (ok g) q = unless_removed (traits ((view_of g).node q.node)).removed g q
  find_call (refuse x) q = bare q (Err (FindingRefusal.Image x))
