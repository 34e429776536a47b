-- Demand 3 of two answers and two result areas that the public calls left.
-- The third demand; document 01, "Partial paths", last paragraph; document 02, orders 5 and 8.
use Rattle.std.specs.Prelude.{ℕ, ◌≡◌, false, List, length}
use Rattle.std.proofs.Common.{sym, subst, ◌∙◌}
use Rattle.semantics.specs.Entries.{graph_in}
use Rattle.semantics.specs.declared.search.SearchStats.{SearchStats}
use Rattle.semantics.specs.Limits.{base, slot_words, Limit}
use Rattle.semantics.specs.Answer.{ok}
use Rattle.semantics.specs.Graph.{Graph, view_of}
use Rattle.semantics.specs.Hidden.{sees, seen, seen_slots}
use Rattle.semantics.specs.Image.{symbol_bytes}
use Rattle.semantics.specs.Words.{lists_in}
use Rattle.semantics.specs.Told.{told_resolution}
use Rattle.semantics.proofs.Theorems.Told.Laws.{resolution-alike}
use Rattle.semantics.specs.Demand.{file_owners, all_owners, Demand, DemandAll, Holds}
use Rattle.semantics.specs.Database.{slots_in}
use Rattle.semantics.specs.Calls.{Request, Outcome}
use Rattle.demand.specs.declared.sets.Asked.{Asked}
use Rattle.semantics.specs.Calls.Whole.{Finished, Premises, AliasPremises, direct_recorded, stitched_recorded}
use Rattle.semantics.proofs.Theorems.Calls.Whole.{demand-3, demand-aliases}
use Rattle.semantics.specs.PublicAnswers.{Resolution, resolved}

-- neither refused, nor with the flag of the path count or of complete paths
pub record Ended (r : Resolution) : Type 0 where
  pub paths : ℕ
  pub stats : SearchStats
  pub answered : r ≡ resolved paths stats
  pub uncounted : stats.count_limited ≡ false
  pub uncut : stats.complete_limited ≡ false

-- a search that is asked for so, from a reference, with these areas
abbrev pub request_of : Asked → List ℕ → List ℕ → ℕ → Request
request_of a work result reference = record { order = a.order; limits = a.limits; work = length work; result = length result; node = reference }

abbrev pub direct_by : List ℕ → List ℕ → ℕ → Asked → List ℕ → List ℕ → Outcome Resolution
direct_by im visible reference a work result = direct_recorded symbol_bytes base (sees visible) im (request_of a work result reference)

abbrev pub stitched_by : List ℕ → List ℕ → List ℕ → ℕ → Asked → List ℕ → List ℕ → Outcome Resolution
stitched_by im visible words reference a work result = stitched_recorded symbol_bytes base (sees visible) im words (request_of a work result reference)

-- the edge lists in the used slots of a result area
abbrev pub set_in : List ℕ → List (List ℕ)
set_in result = lists_in (slot_words base) result

-- DEMAND 3 of the answers a and b and the result areas ra and rb of the two recorded calls, on what a desk sees of any accepted image, and any database that
-- holds every visible file's partial paths and no others that are seen
abbrev pub Agrees : (im visible words : List ℕ) (reference : ℕ) (most : Limit) → Resolution → List ℕ → Resolution → List ℕ → Type 0
Agrees im visible words reference most a ra b rb =
    (g : Graph) → graph_in im ≡ ok g → Holds (file_owners (seen (sees visible) g)) base (view_of (seen (sees visible) g)) (seen_slots (sees visible) (slots_in base words)) → Ended a → Ended b → Demand base (view_of (seen (sees visible) g)) reference most (set_in ra) (set_in rb)

-- the same on any database that holds every visible file's partial paths, the alias set and no others that are seen: with no condition on edges
abbrev pub AgreesAll : (im visible words : List ℕ) (reference : ℕ) (most : Limit) → Resolution → List ℕ → Resolution → List ℕ → Type 0
AgreesAll im visible words reference most a ra b rb =
    (g : Graph) → graph_in im ≡ ok g → Holds (all_owners (seen (sees visible) g)) base (view_of (seen (sees visible) g)) (seen_slots (sees visible) (slots_in base words)) → Ended a → Ended b → DemandAll base (view_of (seen (sees visible) g)) reference most (set_in ra) (set_in rb)

-- an answer told like a call's is the call's
finished : {a : Resolution} (o : Outcome Resolution) → told_resolution a ≡ told_resolution o.answer → Ended a → Finished o
finished {a} o t e = record { paths = e.paths; stats = e.stats; answered = sym (resolution-alike a o.answer t) ∙ e.answered; uncounted = e.uncounted; uncut = e.uncut }

module _ (im visible words : List ℕ) (q q' : Request) (a b : Resolution) {ra rb : List ℕ} (ta : told_resolution a ≡ told_resolution (direct_recorded symbol_bytes base (sees visible) im q).answer) (wa : ra ≡ (direct_recorded symbol_bytes base (sees visible) im q).result)
    (tb : told_resolution b ≡ told_resolution (stitched_recorded symbol_bytes base (sees visible) im words q').answer) (wb : rb ≡ (stitched_recorded symbol_bytes base (sees visible) im words q').result) (node : q.node ≡ q'.node)
    (most : q.limits.length ≡ q'.limits.length) where
  pub calls-agree : Agrees im visible words q.node q.limits.length a ra b rb
  calls-agree g e holds ea eb =
      let p : Premises symbol_bytes base (sees visible) im words q q' = record {
        graph = g;
        accepted = e;
        same-reference = node;
        same-length-limit = most;
        database-holds = holds;
        direct-finished = finished (direct_recorded symbol_bytes base (sees visible) im q) ta ea;
        stitched-finished = finished (stitched_recorded symbol_bytes base (sees visible) im words q') tb eb;
      } in
      subst (λ (l : List ℕ). Demand base (view_of (seen (sees visible) g)) q.node q.limits.length (set_in l) (set_in rb)) (sym wa)
      (subst (λ (l : List ℕ). Demand base (view_of (seen (sees visible) g)) q.node q.limits.length (set_in (direct_recorded symbol_bytes base (sees visible) im q).result) (set_in l)) (sym wb) (demand-3 symbol_bytes base (sees visible) im words q q' p))

  pub calls-agree-all : AgreesAll im visible words q.node q.limits.length a ra b rb
  calls-agree-all g e holds ea eb =
      let p : AliasPremises symbol_bytes base (sees visible) im words q q' = record {
        graph = g;
        accepted = e;
        same-reference = node;
        same-length-limit = most;
        database-holds = holds;
        direct-finished = finished (direct_recorded symbol_bytes base (sees visible) im q) ta ea;
        stitched-finished = finished (stitched_recorded symbol_bytes base (sees visible) im words q') tb eb;
      } in
      subst (λ (l : List ℕ). DemandAll base (view_of (seen (sees visible) g)) q.node q.limits.length (set_in l) (set_in rb)) (sym wa)
      (subst (λ (l : List ℕ). DemandAll base (view_of (seen (sees visible) g)) q.node q.limits.length (set_in (direct_recorded symbol_bytes base (sees visible) im q).result) (set_in l)) (sym wb) (demand-aliases symbol_bytes base (sees visible) im words q q' p))
