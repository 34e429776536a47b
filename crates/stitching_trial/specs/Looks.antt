-- One look at an edge or at a partial path: what is counted, recorded and pushed in code is what the enumeration does with the outcome.
-- Serves document 01, "Answer" and "Budget and frontier".
use Rattle.std.specs.Prelude.{ℕ, ◌+◌, ◌≤◌, ◌≡◌, Bool, false, List, Ok, Err}
use Rattle.std.proofs.Common.{arith, sym, ◌∙◌}
use Rattle.std.proofs.Math.Path.{refl, ap, subst}
use Rattle.semantics.specs.declared.search.SearchStats.{SearchStats}
use Rattle.semantics.specs.declared.refusal.SearchRefusal.{SearchRefusal}
use Rattle.semantics.specs.Limits.{within}
use Rattle.semantics.specs.Graph.{View}
use Rattle.semantics.specs.Path.{Path}
use Rattle.semantics.specs.Enumeration.{State, cut, overlong, reject, stop, go, one, judged, with_tally, add_looked, add_cycle, add_rejected, flag_length}
use Rattle.path_budget.specs.Budget.Laws.{lengthening-limits, lengthening-refused}
use Rattle.search_state.specs.declared.search.Search as S
use Rattle.search_state.specs.States.{cut_one, rejected_one, overlong_by}
use Rattle.search_state.specs.Searches.{Going, with_state, Clears}
use Rattle.search_state.specs.Progresses.{frame_of}
use Rattle.search_state.specs.Reps.{slot_of, Few, setting_of, Replayed, Rep, Tells}
use Rattle.search_state.specs.Extensions.{ExtendsTo}
use Rattle.search_state.specs.Extensions.Laws.{extend-clears}

module _ (g : View) (r : ℕ) (s : S.Search) (ws rs : List ℕ) (m : State Path) (rep : Rep g r s ws rs m) where
  abbrev looked_at : State Path
  looked_at = with_tally m (add_looked m.tally)

  few-looked : Few (m.tally.looked + 1) m.stats
  few-looked = record { complete = omega (arith, rep.few.complete); rejected = omega (arith, rep.few.rejected); cycles = omega (arith, rep.few.cycles) }

  rep-looked : Rep g r s ws rs looked_at
  rep-looked = record {
    sized = rep.sized;
    stands = rep.stands;
    counts = record { stats = rep.counts.stats; kept = rep.counts.kept; fits = rep.counts.fits; room = rep.counts.room; words = rep.counts.words };
    few = few-looked;
    replays = rep.replays;
  }

  -- no count was above the number of looks
  pub cycles-few : s.state.cycles ≤ m.tally.looked
  cycles-few = let e : s.state.cycles ≡ m.stats.cycles = ap (λ (t : SearchStats). t.cycles) rep.counts.stats in omega (arith, e, rep.few.cycles)

  pub rejected-few : s.state.rejected ≤ m.tally.looked
  rejected-few = let e : s.state.rejected ≡ m.stats.rejected = ap (λ (t : SearchStats). t.rejected) rep.counts.stats in omega (arith, e, rep.few.rejected)

  pub complete-few : s.state.budget.complete ≤ m.tally.looked
  complete-few = let e : s.state.budget.complete ≡ m.stats.complete = ap (λ (t : SearchStats). t.complete) rep.counts.stats in omega (arith, e, rep.few.complete)

  pub look-cut : (w : S.Search) → w ≡ with_state (cut_one s.state) s → Tells g r (frame_of s) (Ok w) ws rs (one (setting_of (frame_of s)) m cut)
  unfolding one judged
  look-cut w q = subst (λ (x : S.Search). Tells g r (frame_of s) (Ok x) ws rs (one (setting_of (frame_of s)) m cut)) (sym q) (
    refl,
    record {
      sized = rep.sized;
      stands = rep.stands;
      counts = record { stats = ap add_cycle rep.counts.stats; kept = rep.counts.kept; fits = rep.counts.fits; room = rep.counts.room; words = rep.counts.words };
      few = record { complete = omega (arith, rep.few.complete); rejected = omega (arith, rep.few.rejected); cycles = omega (arith, rep.few.cycles) };
      replays = rep.replays;
    },
  )

  pub look-rejected : (w : S.Search) → w ≡ with_state (rejected_one s.state) s → Tells g r (frame_of s) (Ok w) ws rs (one (setting_of (frame_of s)) m reject)
  unfolding one judged
  look-rejected w q = subst (λ (x : S.Search). Tells g r (frame_of s) (Ok x) ws rs (one (setting_of (frame_of s)) m reject)) (sym q) (
    refl,
    record {
      sized = rep.sized;
      stands = rep.stands;
      counts = record { stats = ap add_rejected rep.counts.stats; kept = rep.counts.kept; fits = rep.counts.fits; room = rep.counts.room; words = rep.counts.words };
      few = record { complete = omega (arith, rep.few.complete); rejected = omega (arith, rep.few.rejected); cycles = omega (arith, rep.few.cycles) };
      replays = rep.replays;
    },
  )

  pub look-overlong : (n : ℕ) → within n s.state.budget.max_length ≡ false → (w : S.Search) → w ≡ with_state (overlong_by n s.state) s → Tells g r (frame_of s) (Ok w) ws rs (one (setting_of (frame_of s)) m overlong)
  unfolding one judged
  look-overlong n h w q = subst (λ (x : S.Search). Tells g r (frame_of s) (Ok x) ws rs (one (setting_of (frame_of s)) m overlong)) (sym q) (
    λ i. record { order = s.frontier.order; limits = lengthening-limits n s.state.budget i; waiting = s.frontier.capacity; results = s.state.results },
    record {
      sized = rep.sized;
      stands = rep.stands;
      counts = record { stats = lengthening-refused n s.state.budget s.state.rejected s.state.cycles h ∙ ap flag_length rep.counts.stats; kept = rep.counts.kept; fits = rep.counts.fits; room = rep.counts.room; words = rep.counts.words };
      few = record { complete = omega (arith, rep.few.complete); rejected = omega (arith, rep.few.rejected); cycles = omega (arith, rep.few.cycles) };
      replays = rep.replays;
    },
  )

  pub look-stopped : (x : SearchRefusal) → Tells g r (frame_of s) (Err x) ws rs (one (setting_of (frame_of s)) m (stop x))
  unfolding one judged
  look-stopped x = refl

  pub look-extended : (b : Bool) (q : Path) → Replayed g r q → (item : List ℕ) → item ≡ slot_of q → (a : Going) (ws' rs' : List ℕ) → ExtendsTo s b ws rs item a ws' rs' → Tells g r (frame_of s) a ws' rs' (one (setting_of (frame_of s)) m (go b q))
  unfolding one judged
  look-extended b q good item e a ws' rs' x = x g r looked_at q m.tally.looked rep-looked rep.few refl good e

  -- and leaves the item clear behind the words of a slot
  pub look-clears : (b : Bool) (q : Path) → Replayed g r q → (item : List ℕ) → item ≡ slot_of q → (a : Going) (ws' rs' : List ℕ) → ExtendsTo s b ws rs item a ws' rs' → Clears a item
  look-clears b q good item e a ws' rs' x = extend-clears g r (frame_of s) b a ws' rs' looked_at q e (x g r looked_at q m.tally.looked rep-looked rep.few refl good e)
