-- A flow directory: rows that lead from an ISIN, a tranche and a leg to a reference, and the call that resolves such a flow.
-- Document 02, order 11.
use Rattle.std.specs.Prelude.{ℕ, zero, suc, ◌+◌, ◌*◌, ◌/◌, ◌%◌, Bool, List, [], ◌∷◌, eqb, ltb, length, Err}
use Rattle.std.proofs.Math.Bool.{true, false}
use Rattle.std.proofs.Math.Option.{Option, none, some}
use Rattle.semantics.specs.declared.search.SearchOrder.{SearchOrder}
use Rattle.semantics.specs.declared.search.SearchLimits.{SearchLimits}
use Rattle.semantics.specs.declared.refusal.ImageRefusal.{ImageRefusal}
use Rattle.semantics.specs.declared.refusal.SearchRefusal.{SearchRefusal}
use Rattle.semantics.specs.declared.answer.Definitions.{Definitions}
use Rattle.semantics.specs.Lists.{and, pick}
use Rattle.semantics.specs.Limits.{Bounds, slot_words, isin_bytes, key_bytes, row_bytes}
use Rattle.semantics.specs.Answer.{Answer, ok, refuse}
use Rattle.semantics.specs.Bytes.{short, wide}
use Rattle.semantics.specs.Isin.{is_isin}
use Rattle.semantics.specs.Graph.{node_id, Graph, view_of}
use Rattle.semantics.specs.Path.{Path}
use Rattle.semantics.specs.Enumeration.{State, report_of}
use Rattle.semantics.specs.Recorded.{edge_lists, returned}
use Rattle.semantics.specs.Direct.{direct}
use Rattle.semantics.specs.Words.{zeros, area}
use Rattle.semantics.specs.Calls.{Request, Outcome, setting_of}
use Rattle.semantics.specs.PublicAnswers.{Flow, flowed}
use Rattle.semantics.specs.declared.answer.FlowRefusal.{FlowRefusal}

-- THE ROWS: ISIN, tranche and leg, which are the key, then the reference; in bytes, with no header

-- the key of row i as one number of its bytes
abbrev pub key_at : List ℕ → ℕ → ℕ
key_at rows i = wide key_bytes rows (row_bytes * i)

abbrev pub isin_at : List ℕ → ℕ → ℕ
isin_at rows i = wide isin_bytes rows (row_bytes * i)

abbrev pub tranche_at : List ℕ → ℕ → ℕ
tranche_at rows i = short rows (row_bytes * i + 12)

abbrev pub leg_at : List ℕ → ℕ → ℕ
leg_at rows i = short rows (row_bytes * i + 14)

abbrev pub reference_at : List ℕ → ℕ → ℕ
reference_at rows i = short rows (row_bytes * i + 16)

-- is the key of row i above that of the row before
unfoldable pub rises_at : List ℕ → ℕ → Bool
unfolding wide
rises_at rows zero = true
rises_at rows (suc i) = ltb (key_at rows i) (key_at rows (suc i))

-- do the first n rows ascend strictly
unfoldable pub ascends : List ℕ → ℕ → Bool
unfolding rises_at
ascends rows zero = true
ascends rows (suc n) = and (ascends rows n) (rises_at rows n)

-- 42 else: whole rows, all of which ascend
unfoldable pub is_directory : List ℕ → Bool
unfolding ascends
is_directory rows = and (eqb (length rows % row_bytes) 0) (ascends rows (length rows / row_bytes))

-- what is looked for: the bytes of the ISIN, and two numbers
pub record FlowKey : Type 0 where
  pub isin : List ℕ
  pub tranche : ℕ
  pub leg : ℕ

-- is it the key of row i; a number of more than 16 bits is in no row
unfoldable pub is_at : List ℕ → FlowKey → ℕ → Bool
unfolding wide
is_at rows k i = and (eqb (isin_at rows i) (wide isin_bytes k.isin 0)) (and (eqb (tranche_at rows i) k.tranche) (eqb (leg_at rows i) k.leg))

-- the reference of the row among the first n that has the key
unfoldable pub found_in : List ℕ → FlowKey → ℕ → Option ℕ
unfolding is_at
found_in rows k zero = none
found_in rows k (suc n) = pick (is_at rows k n) (some (reference_at rows n)) (found_in rows k n)

unfoldable pub looked_up : List ℕ → FlowKey → Option ℕ
unfolding found_in
looked_up rows k = found_in rows k (length rows / row_bytes)

-- ONE DEFINITION, SEVERAL, OR NONE

-- with a path more, which ends at n
unfoldable pub with_end : ℕ → Definitions → Definitions
with_end n Definitions.Nothing = Definitions.One (node_id n)
with_end n (Definitions.One m) = pick (eqb n m.0) (Definitions.One m) Definitions.Several
with_end n Definitions.Several = Definitions.Several

-- of these ends
unfoldable pub definitions_of : List ℕ → Definitions
unfolding with_end
definitions_of [] = Definitions.Nothing
definitions_of (n ∷ ns) = with_end n (definitions_of ns)

-- where paths end
abbrev pub ends_of : List Path → List ℕ
ends_of [] = []
ends_of (p ∷ ps) = p.end ∷ ends_of ps

-- THE CALL

-- what is asked: work and result are the lengths of the lent areas in words
pub record FlowRequest : Type 0 where
  pub order : SearchOrder
  pub limits : SearchLimits
  pub work : ℕ
  pub result : ℕ
  pub key : FlowKey

-- the search that it asks for from a reference
abbrev pub request_from : FlowRequest → ℕ → Request
request_from q r = record { order = q.order; limits = q.limits; work = q.work; result = q.result; node = r }

-- both areas all zero
abbrev pub bare : FlowRequest → Flow → Outcome Flow
bare q a = record { answer = a; work = zeros q.work; result = zeros q.result }

module _ (bd : Bounds) where
  -- what the search leaves, with the definitions at which its returned paths end
  unfoldable pub flow_outcome : FlowRequest → Answer SearchRefusal (State Path) → Outcome Flow
  unfolding area definitions_of returned
  flow_outcome q (ok s) = record { answer = flowed (definitions_of (ends_of (returned s))) (length (returned s)) (report_of s); work = zeros q.work; result = area (slot_words bd) q.result (edge_lists (returned s)) }
  flow_outcome q (refuse r) = bare q (Err (FlowRefusal.Refused r))

  -- the direct search from the row's reference
  unfoldable pub resolved : Graph → FlowRequest → ℕ → Outcome Flow
  unfolding flow_outcome direct view_of
  resolved g q r = flow_outcome q (direct bd q.limits.length (setting_of bd (request_from q r)) (view_of g) r)

  -- 43
  unfoldable pub if_found : Option ℕ → Graph → FlowRequest → Outcome Flow
  unfolding resolved
  if_found (some r) g q = resolved g q r
  if_found none g q = bare q (Err FlowRefusal.UnknownKey)

  -- 42
  unfoldable pub if_directory : Bool → List ℕ → Graph → FlowRequest → Outcome Flow
  unfolding if_found looked_up
  if_directory true rows g q = if_found (looked_up rows q.key) g q
  if_directory false rows g q = bare q (Err FlowRefusal.Disordered)

  -- 41
  unfoldable pub if_isin : Bool → List ℕ → Graph → FlowRequest → Outcome Flow
  unfolding if_directory is_directory
  if_isin true rows g q = if_directory (is_directory rows) rows g q
  if_isin false rows g q = bare q (Err FlowRefusal.MalformedIsin)

  -- the image, 41, 42, 43, then the search
  unfoldable pub flow_call : Answer ImageRefusal Graph → List ℕ → FlowRequest → Outcome Flow
  unfolding if_isin is_isin
  flow_call (ok g) rows q = if_isin (is_isin q.key.isin) rows g q
  flow_call (refuse x) rows q = bare q (Err (FlowRefusal.Image x))
