-- What finding a name does in code and lent words, against its definition.
-- Document 02, order 1.
use Rattle.std.specs.Prelude.{ℕ, ◌+◌, ◌*◌, ◌<◌, ◌≤◌, ◌≡◌, Bool, true, false, List, [], ◌∷◌, eqb, length, get_or, Result, Some, None, Ok, Err}
use Rattle.std.specs.declared.option.Option as Std
use Rattle.std.proofs.Math.Option.{Option, none, some}
use Rattle.semantics.specs.declared.graph.Node.{Node}
use Rattle.semantics.specs.declared.graph.Edge.{Edge}
use Rattle.semantics.specs.declared.graph.Edge.TheVariants as E
use Rattle.semantics.specs.declared.refusal.SearchRefusal.{SearchRefusal}
use Rattle.semantics.specs.declared.refusal.SearchRefusal.TheVariants as Search
use Rattle.semantics.specs.declared.refusal.PathRefusal.TheVariants.{UnknownNode}
use Rattle.semantics.specs.Lists.{cons_if, pick}
use Rattle.semantics.specs.Limits.{base, slot_length, Limit}
use Rattle.semantics.specs.Answer.{Answer, ok, refuse}
use Rattle.semantics.specs.Graph.{node_id, Graph, view_of, traits}
use Rattle.semantics.specs.Path.{Path}
use Rattle.semantics.specs.Enumeration.{State}
use Rattle.semantics.specs.Words.{zeros, whole_slots, area}
use Rattle.semantics.specs.Calls.{Outcome}
use Rattle.semantics.specs.Finding.{Name, references_from, find_in, search_to, FindRequest, find_call}
use Rattle.words.specs.Slots.{slot_at, put_slot}
use Rattle.storage.specs.Index.{edge_row}
use Rattle.reply.specs.ResultSlots.{count_of, clear_slots}
use Rattle.semantics.specs.PublicAnswers.{Finding}
use Rattle.semantics.specs.declared.answer.FindingRefusal.{FindingRefusal}
pub mod Laws

-- does the edge lead to the node
abbrev pub leads_to : ℕ → Edge → Bool
leads_to n E.Removed = false
leads_to n (E.Live s t p) = eqb t.0 n

-- does the last edge in slot i
abbrev pub slot_to : List ℕ → List ℕ → ℕ → ℕ → Bool
slot_to index rs n i = leads_to n (edge_row index (get_or rs (slot_length * i + count_of slot_length (get_or rs (slot_length * i) 0)) 0))

-- r is the first number below `most` for which the test holds, or `most`
pub record FirstIn (test : ℕ → Bool) (most r : ℕ) : Type 0 where
  pub within : r ≤ most
  pub before : (j : ℕ) → j < r → test j ≡ false
  pub here : r < most → test r ≡ true

-- slot i becomes the first one, and those behind it zero
unfoldable pub only_slot : ℕ → ℕ → ℕ → List ℕ → List ℕ
unfolding put_slot slot_at clear_slots
only_slot L i n ws = clear_slots L 1 n (put_slot L 0 (slot_at L i ws) ws)

-- what became of one reference, or of several: one of them has a path to the node, none has one, or a search was refused
abbrev pub Tried : Type 0
Tried = Result (Std.Option ℕ) SearchRefusal

-- what was tried, and the result area, against the definition's answer
abbrev pub Tells : Tried → List ℕ → Answer SearchRefusal (Option Name) → Type 0
Tells (Ok (Some r)) rs (ok (some m)) = (r ≡ m.reference) × (rs ≡ area slot_length (length rs) (m.edges ∷ []))
Tells (Ok (Some r)) rs (ok none) = ⊥
Tells (Ok (Some r)) rs (refuse y) = ⊥
Tells (Ok None) rs (ok (some m)) = ⊥
Tells (Ok None) rs (ok none) = rs ≡ zeros (length rs)
Tells (Ok None) rs (refuse y) = ⊥
Tells (Err x) rs (ok (some m)) = ⊥
Tells (Err x) rs (ok none) = ⊥
Tells (Err x) rs (refuse y) = x ≡ y

-- the search in areas of so many words
abbrev pub search_of : Graph → Limit → ℕ → ℕ → ℕ → Answer SearchRefusal (State Path)
search_of g lim w r = search_to base lim (whole_slots slot_length w) (whole_slots slot_length r) (view_of g)

-- node r, where it is a reference
abbrev pub tried_of : Graph → Limit → ℕ → ℕ → ℕ → ℕ → Bool → Answer SearchRefusal (Option Name)
tried_of g lim w o n r b = find_in (search_of g lim w o) n (cons_if b r [])

-- all nodes
abbrev pub walked_of : Graph → Limit → ℕ → ℕ → ℕ → Answer SearchRefusal (Option Name)
walked_of g lim w o n = find_in (search_of g lim w o) n (references_from 0 g.nodes)

abbrev pub answer_of : Tried → Finding
answer_of (Ok (Some r)) = Ok (Some (node_id r))
answer_of (Ok None) = Ok None
answer_of (Err x) = Err (FindingRefusal.Refused x)

abbrev pub left_of : Tried → List ℕ → List ℕ
left_of (Ok (Some r)) rs = rs
left_of (Ok None) rs = rs
left_of (Err x) rs = zeros (length rs)

abbrev pub Concluded : Tried → List ℕ → List ℕ → Finding → List ℕ → List ℕ → Type 0
Concluded t ws rs a ws' rs' = (a ≡ answer_of t) × (ws' ≡ zeros (length ws)) × (rs' ≡ left_of t rs)

-- 10 or 37
abbrev pub turned_back : ℕ → Node → Finding
turned_back n node = pick (traits node).removed (Err (FindingRefusal.Refused (Search.Path (UnknownNode (node_id n))))) (Err (FindingRefusal.NotDefinition (node_id n)))

abbrev pub loaded_of : Graph → FindRequest → Outcome Finding
loaded_of g q = find_call base (ok g) q
