-- One edge on the path under expansion: what is counted, recorded and pushed is what the enumeration does.
-- Serves document 01, "Answer".
use Prim.Native.Nat.{ℕ, suc, ◌+◌, ◌-◌, ◌<◌, ◌≤◌, ◌^◌}
use Rattle.std.proofs.Common.{arith, sym, ◌∙◌, ltb→lt}
use Rattle.std.specs.Prelude.{◌≡◌, Bool, T, ltb, length, take, drop, Ok, Err}
use Rattle.std.proofs.Math.Path.{refl, ap, subst}
use Rattle.std.proofs.Math.Bool.{false}
use mathlib.Core.List.{List}
use Rattle.semantics.specs.declared.search.SearchStats.{SearchStats}
use Rattle.semantics.specs.declared.refusal.ReplayRefusal.TheVariants as Replay
use Rattle.semantics.specs.declared.refusal.PathRefusal.{PathRefusal}
use Rattle.semantics.specs.declared.refusal.SearchRefusal.TheVariants as Search
use Rattle.semantics.specs.Lists.{has}
use Rattle.semantics.specs.Limits.{base, within, max_edges, slot_length}
use Rattle.semantics.specs.Answer.{Answer, ok, wrap}
use Rattle.semantics.specs.Graph.{View, view_of}
use Rattle.semantics.specs.Path.{Path, append_under, replay}
use Rattle.semantics.proofs.Theorems.Path.Laws.{append-ok, append_under-is, replay_snoc}
use Rattle.semantics.specs.Enumeration.{State, one, judged, with_stats, with_tally, add_looked, add_overlong, add_cycle, add_rejected, flag_length}
use Rattle.storage.specs.Index.{node_row, edge_row}
use Rattle.semantics.specs.Words.{encode}
use Rattle.stepping.specs.Judged.{Ready, Stepped, judged_of}
use Rattle.path.specs.Replays.Calls.{from-a-reference, few-edges}
use Rattle.path_budget.specs.Budget.Laws.{lengthening-limits, lengthening-refused}
use Rattle.search_state.specs.declared.search.Search as S
use Rattle.search_state.specs.Searches.{Going}
use Rattle.search_state.specs.Items.{with_edge, Clear, Carries}
use Rattle.search_state.specs.Items.Laws.{carries-edge}
use Rattle.search_state.specs.Retraces.Laws.{ready_of}
use Rattle.search_state.specs.States.{cut_one, rejected_one, overlong_by}
use Rattle.search_state.specs.declared.state.SearchState.{SearchState}
use Rattle.search_state.specs.Searches.{with_state, Clears}
use Rattle.search_state.specs.Progresses.{frame_of}
use Rattle.search_state.specs.Reps.{slot_of, Replayed, Rep, Tells}
use Rattle.search_state.specs.Reps.Laws.{rep-pushable}
use Rattle.search_state.specs.Extensions.{Extendable, ExtendsTo}
use Rattle.search_state.specs.Extensions.Laws.{extend-clears}
use Rattle.edge_trial.specs.declared.trial.EdgeTrial.{EdgeTrial}
use Rattle.edge_trial.specs.declared.trial.EdgeTrial.TheVariants.{Cut, Overlong, Rejected, TooLong, Extended}
use Rattle.edge_trial.specs.Trials.{trial_by}
use Rattle.edge_trial.specs.Trials.Laws.{Judged, trial-tells}
use Rattle.direct_search.specs.Expansions.{Given, try_of, Tried}

-- ---- an edge is looked at

module _ {g : View} {r : ℕ} {s : S.Search} {ws rs : List ℕ} {m : State Path} (rep : Rep g r s ws rs m) where
  abbrev pub looked_at : State Path
  looked_at = with_tally m (add_looked m.tally)

  pub rep-looked : Rep g r s ws rs looked_at
  rep-looked = record {
    sized = rep.sized;
    stands = rep.stands;
    counts = record { stats = rep.counts.stats; kept = rep.counts.kept; fits = rep.counts.fits; room = rep.counts.room; words = rep.counts.words };
    few = record { complete = omega (arith, rep.few.complete); rejected = omega (arith, rep.few.rejected); cycles = omega (arith, rep.few.cycles) };
    replays = rep.replays;
  }

  cut-rep : Rep g r (with_state (cut_one s.state) s) ws rs (with_stats looked_at (add_cycle m.stats))
  cut-rep = record {
    sized = rep.sized;
    stands = rep.stands;
    counts = record { stats = ap add_cycle rep.counts.stats; kept = rep.counts.kept; fits = rep.counts.fits; room = rep.counts.room; words = rep.counts.words };
    few = record { complete = omega (arith, rep.few.complete); rejected = omega (arith, rep.few.rejected); cycles = omega (arith, rep.few.cycles) };
    replays = rep.replays;
  }

  reject-rep : Rep g r (with_state (rejected_one s.state) s) ws rs (with_stats looked_at (add_rejected m.stats))
  reject-rep = record {
    sized = rep.sized;
    stands = rep.stands;
    counts = record { stats = ap add_rejected rep.counts.stats; kept = rep.counts.kept; fits = rep.counts.fits; room = rep.counts.room; words = rep.counts.words };
    few = record { complete = omega (arith, rep.few.complete); rejected = omega (arith, rep.few.rejected); cycles = omega (arith, rep.few.cycles) };
    replays = rep.replays;
  }

  overlong-rep : (n : ℕ) → within n s.state.budget.max_length ≡ false → Rep g r (with_state (overlong_by n s.state) s) ws rs (with_tally (with_stats looked_at (flag_length m.stats)) (add_overlong looked_at.tally))
  overlong-rep n h = record {
    sized = rep.sized;
    stands = rep.stands;
    counts = record { stats = lengthening-refused n s.state.budget s.state.rejected s.state.cycles h ∙ ap flag_length rep.counts.stats; kept = rep.counts.kept; fits = rep.counts.fits; room = rep.counts.room; words = rep.counts.words };
    few = record { complete = omega (arith, rep.few.complete); rejected = omega (arith, rep.few.rejected); cycles = omega (arith, rep.few.cycles) };
    replays = rep.replays;
  }

-- ---- what the code may count and store

module _ (most : ℕ) (index steps item : List ℕ) (k : ℕ) (s : S.Search) (ws rs : List ℕ) (v : Given most index steps item k s ws rs) where
  pub given-cycles : s.state.cycles ≤ most
  given-cycles = let e : s.state.cycles ≡ v.model.stats.cycles = ap (λ (t : SearchStats). t.cycles) v.rep.counts.stats in omega (arith, e, v.rep.few.cycles, v.small)

  pub given-rejected : s.state.rejected ≤ most
  given-rejected = let e : s.state.rejected ≡ v.model.stats.rejected = ap (λ (t : SearchStats). t.rejected) v.rep.counts.stats in omega (arith, e, v.rep.few.rejected, v.small)

  pub given-complete : s.state.budget.complete ≤ most
  given-complete = let e : s.state.budget.complete ≡ v.model.stats.complete = ap (λ (t : SearchStats). t.complete) v.rep.counts.stats in omega (arith, e, v.rep.few.complete, v.small)

  pub given-short : k ≤ max_edges
  given-short = let h = few-edges (view_of v.graph) v.reference v.path.edges v.path v.good in omega (arith, h, v.count)

  pub given-slice : k + 1 ≤ length item
  given-slice = let h = given-short in omega (arith, h, v.carries.long)

  -- the edges of the path stand in the item
  pub given-edges : take (k + 1 - 1) (drop 1 item) ≡ v.path.edges
  given-edges = ap (λ (n : ℕ). take n (drop 1 item)) (let z : k + 1 - 1 ≡ length v.path.edges = omega (arith, v.count) in z) ∙ v.carries.edges

  pub given-ready : {l : List ℕ} → l ≡ v.path.edges → Ready steps (length l)
  given-ready e = let h = given-short in subst (λ (n : ℕ). Ready steps n) (sym (ap length e ∙ v.count)) (ready_of v.stepped (omega (arith, h)) (omega (arith, h, v.long)))

  module _ (e : ℕ) where
    abbrev Says : EdgeTrial → Type 0
    Says t = Judged Search.TooLong s.state.budget.max_length (view_of v.graph) v.path e t

    pub given-trial : {l : List ℕ} → l ≡ v.path.edges → {t : EdgeTrial}
        → t ≡ trial_by (node_row index) (has e l) (within (length l + 1) s.state.budget.max_length) (ltb (length l) max_edges) (judged_of (node_row index) steps (length l) e (edge_row index e)) → Says t
    given-trial q {t} is =
        trial-tells Search.TooLong s.state.budget.max_length v.loaded (subst (λ (n : ℕ). Stepped steps n v.path) (sym v.count) v.stepped) v.long
        (from-a-reference (view_of v.graph) v.reference v.path.edges v.path v.good) e
        (is ∙ ap (λ (x : List ℕ). trial_by (node_row index) (has e x) (within (length x + 1) s.state.budget.max_length) (ltb (length x) max_edges) (judged_of (node_row index) steps (length x) e (edge_row index e))) q)

    -- ---- by what the trial says

    -- the item and the words of a slot stay as they are
    still-clear : {w : S.Search} (st : SearchState) → w ≡ with_state st s → Clears (Ok w) item
    still-clear st q = subst (λ (x : S.Search). Clear x.frontier.length item) (sym q) v.clear

    pub tried-cut : Says Cut → {w : S.Search} → w ≡ with_state (cut_one s.state) s → Tried most index steps item k s ws rs v e (Ok w) item ws rs
    unfolding one judged
    tried-cut j {w} q = record {
      tells = subst (λ (x : S.Search). Tells (view_of v.graph) v.reference (frame_of s) (Ok x) ws rs (try_of most index steps item k s ws rs v e)) (sym q)
          (rw j (refl, cut-rep v.rep));
      carries = v.carries;
      clears = still-clear (cut_one s.state) q;
    }

    pub tried-rejected : Says Rejected → {w : S.Search} → w ≡ with_state (rejected_one s.state) s → Tried most index steps item k s ws rs v e (Ok w) item ws rs
    unfolding one judged
    tried-rejected j {w} q = record {
      tells = subst (λ (x : S.Search). Tells (view_of v.graph) v.reference (frame_of s) (Ok x) ws rs (try_of most index steps item k s ws rs v e)) (sym q)
          (rw j (refl, reject-rep v.rep));
      carries = v.carries;
      clears = still-clear (rejected_one s.state) q;
    }

    pub tried-overlong : Says Overlong → {w : S.Search} → w ≡ with_state (overlong_by (k + 1) s.state) s → Tried most index steps item k s ws rs v e (Ok w) item ws rs
    unfolding one judged
    tried-overlong j {w} q =
        let n : suc (length v.path.edges) ≡ k + 1 = omega (arith, v.count) in
        let h : within (k + 1) s.state.budget.max_length ≡ false = ap (λ (x : ℕ). within x s.state.budget.max_length) (sym n) ∙ j.1 in
        record {
          tells = subst (λ (x : S.Search). Tells (view_of v.graph) v.reference (frame_of s) (Ok x) ws rs (try_of most index steps item k s ws rs v e)) (sym q)
              (rw j.0 (λ i. record { order = s.frontier.order; limits = lengthening-limits (k + 1) s.state.budget i; waiting = s.frontier.capacity; results = s.state.results }, overlong-rep v.rep (k + 1) h));
          carries = v.carries;
          clears = still-clear (overlong_by (k + 1) s.state) q;
        }

    pub tried-bound : Says TooLong → Tried most index steps item k s ws rs v e (Err Search.TooLong) item ws rs
    unfolding one judged
    tried-bound j = record { tells = rw j refl; carries = v.carries; clears = tt }

    -- ---- the path with one edge more
    module _ (b : Bool) (j : Says (Extended b)) where
      pub extended-short : k < max_edges
      extended-short = let h = ltb→lt (length v.path.edges) max_edges (subst T (sym j.3) tt) in omega (arith, h, v.count)

      grown : with_edge item k e ≡ slot_of j.0
      grown =
          let l : suc (length v.path.edges) < slot_length = let x = extended-short in omega (arith, x, v.count) in
          ap (λ (n : ℕ). with_edge item n e) (sym v.count) ∙ v.carries.grows e l ∙ ap (λ (es : List ℕ). encode slot_length es) (sym (append-ok (view_of v.graph) v.path j.0 e j.2).added.edges)

      good-grown : Replayed (view_of v.graph) v.reference j.0
      good-grown =
          let u : append_under base (view_of v.graph) v.path e ≡ ok j.0 = append_under-is base (view_of v.graph) v.path e j.3 ∙ ap (λ (x : Answer PathRefusal Path). wrap Replay.Path x) j.2 in
          subst (λ (es : List ℕ). replay base (view_of v.graph) v.reference es ≡ ok j.0) (sym (append-ok (view_of v.graph) v.path j.0 e j.2).added.edges)
          (replay_snoc base (view_of v.graph) v.reference e v.path.edges v.path j.0 v.good u)

      pub tried-extended : {item' : List ℕ} → item' ≡ with_edge item k e → (a : Going) (ws' rs' : List ℕ) → ExtendsTo s b ws rs item' a ws' rs' → Tried most index steps item k s ws rs v e a item' ws' rs'
      unfolding one judged
      tried-extended {item'} q a ws' rs' x = let told = x (view_of v.graph) v.reference (looked_at v.rep) j.0 v.model.tally.looked (rep-looked v.rep) v.rep.few refl good-grown (q ∙ grown) in record {
        tells = rw j.1 told;
        carries = subst (λ (l : List ℕ). Carries slot_length l v.path.edges) (sym (q ∙ ap (λ (n : ℕ). with_edge item n e) (sym v.count))) (carries-edge slot_length item e v.carries);
        clears = extend-clears (view_of v.graph) v.reference (frame_of s) b a ws' rs' (looked_at v.rep) j.0 (q ∙ grown) told;
      }

      pub extended-given : most + 1 < 2 ^ 64 → {item' : List ℕ} → item' ≡ with_edge item k e → Extendable s ws rs item'
      extended-given h {item'} q = record {
        pushable = rep-pushable v.rep j.0 good-grown (q ∙ grown);
        fits = v.rep.counts.fits;
        room = v.rep.counts.room;
        few = let c = given-complete in omega (arith, c, h);
      }
