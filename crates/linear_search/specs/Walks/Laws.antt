-- One edge of a linear search.
-- Serves document 01, "Answer"; 20, 30 and 32 of "Turned back".
use Prim.Native.Nat.{ℕ, suc, ◌+◌, ◌-◌, ◌<◌, ◌≤◌, ◌^◌}
use Rattle.std.proofs.Common.{arith, sym, ◌∙◌, inr, ⊎_elim, lt-ltb, le-ltb, ltb→lt}
use Rattle.std.specs.Prelude.{◌≡◌, Bool, List, [], ◌∷◌, ◌++◌, T, ltb, length, take, drop, Option, Some, None, Ok, Err}
use Rattle.std.proofs.Math.Path.{refl, ap, subst}
use Rattle.std.proofs.Math.Bool.{true, false}
use Rattle.semantics.specs.declared.search.SearchStats.{SearchStats}
use Rattle.semantics.specs.declared.refusal.LinearRefusal.{LinearRefusal}
use Rattle.semantics.specs.declared.refusal.LinearRefusal.TheVariants as Linear
use Rattle.semantics.specs.Lists.{has}
use Rattle.semantics.specs.Limits.{within, max_edges, slot_length}
use Rattle.semantics.specs.Answer.{Answer, ok, refuse}
use Rattle.semantics.specs.Graph.{node_id, view_of}
use Rattle.semantics.specs.Path.{Path, append}
use Rattle.semantics.proofs.Theorems.Path.Laws.{append-ok}
use Rattle.semantics.specs.Enumeration.{State, Setting, Try, Tally, cut, overlong, reject, stop, go, one, judged, each, keep, place, push_item, with_stats, with_tally, with_pending, add_looked, add_overlong, add_cycle, add_rejected, flag_length}
use Rattle.semantics.specs.Enumeration.Statistics.{one-moved}
use Rattle.semantics.specs.Linear.{first, later}
use Rattle.semantics.specs.Words.{encode}
use Rattle.storage.specs.Index.{node_row, edge_row}
use Rattle.stepping.specs.Judged.{Ready, Stepped, judged_of}
use Rattle.path.specs.Replays.Calls.{from-a-reference, few-edges}
use Rattle.path_budget.specs.Budget.Laws.{lengthening-limits, lengthening-refused}
use Rattle.search_state.specs.declared.state.SearchState.{SearchState}
use Rattle.search_state.specs.Items.{with_edge, Carries}
use Rattle.search_state.specs.Items.Laws.{carries-edge}
use Rattle.search_state.specs.Retraces.Laws.{ready_of}
use Rattle.search_state.specs.States.{cut_one, rejected_one, overlong_by, recorded_by, result_after}
use Rattle.search_state.specs.Reps.{slot_of, Counts, Few}
use Rattle.search_state.specs.Reps.Laws.{Records, record-tells}
use Rattle.edge_trial.specs.declared.trial.EdgeTrial.{EdgeTrial}
use Rattle.edge_trial.specs.declared.trial.EdgeTrial.TheVariants.{Cut, Overlong, Rejected, TooLong, Extended}
use Rattle.linear_search.specs.declared.linear.Expansion.{Expansion}
use Rattle.edge_trial.specs.Trials.{trial_by}
use Rattle.edge_trial.specs.Trials.Laws.{Judged, trial-tells}
use Rattle.search_state.specs.Runs.{each-one}
use Rattle.linear_search.specs.Walks.{Chose, pace_of, with_state, frame_of, setting_of, rest_tries, Choosing, Chooses, Chosen, Track, Walk, Goes, Paced}

-- ---- recording

pub choose-only : (s : SearchState) (link : ℕ) (rs item : List ℕ) → Chosen s link false rs item (Ok (record { state = s; found = link })) rs
unfolding keep
choose-only s link rs item m q c e = (
  refl,
  record {
    same = record { limits = refl; results = refl; rest = refl; pending = refl; tally = refl };
    counts = c;
    few = λ k f. record { complete = omega (arith, f.complete); rejected = omega (arith, f.rejected); cycles = omega (arith, f.cycles) };
  },
)

module _ (s : SearchState) (link : ℕ) (rs item : List ℕ) {b : Option SearchState} {rs' : List ℕ} (is : b ≡ recorded_by s) (w : rs' ≡ result_after s item rs) where
  told : {m : State Path} (q : Path) (c : Counts s rs m) → item ≡ slot_of q → Records (setting_of (frame_of s)) Linear.NoResultSlot refl refl c q b rs' (keep true (setting_of (frame_of s)) m q)
  told {m} q c e = record-tells (setting_of (frame_of s)) Linear.NoResultSlot refl refl c q is (w ∙ ap (λ (i : List ℕ). result_after s i rs) e)

  pub choose-kept : (n : SearchState) → b ≡ Some n → Chosen s link true rs item (Ok (record { state = n; found = link })) rs'
  choose-kept n d m q c e = on (keep true (setting_of (frame_of s)) m q) (subst (λ (y : Option SearchState). Records (setting_of (frame_of s)) Linear.NoResultSlot refl refl c q y rs' (keep true (setting_of (frame_of s)) m q)) d (told q c e))
    where
      on : (t : Answer LinearRefusal (State Path)) → Records (setting_of (frame_of s)) Linear.NoResultSlot refl refl c q (Some n) rs' t → Chooses s link m (Ok (record { state = n; found = link })) rs' t
      on (ok u) h = (refl, h)
      on (refuse y) h = absurd h

  pub choose-full : b ≡ None → Chosen s link true rs item (Err Linear.NoResultSlot) rs'
  choose-full d m q c e = on (keep true (setting_of (frame_of s)) m q) (subst (λ (y : Option SearchState). Records (setting_of (frame_of s)) Linear.NoResultSlot refl refl c q y rs' (keep true (setting_of (frame_of s)) m q)) d (told q c e))
    where
      on : (t : Answer LinearRefusal (State Path)) → Records (setting_of (frame_of s)) Linear.NoResultSlot refl refl c q None rs' t → Chooses s link m (Err Linear.NoResultSlot) rs' t
      on (ok u) h = absurd h
      on (refuse y) h = sym h

-- ---- the tries that are left

module _ (c : Setting LinearRefusal) (m u : State Path) (n : ℕ) (ts : List (Try LinearRefusal Path)) where
  pass-cut : (b : Bool) → one c m cut ≡ ok u → each c m (rest_tries b n (cut ∷ ts)) ≡ each c u (rest_tries b n ts)
  unfolding first later
  pass-cut true e = each-one c m u cut (later n ts) e
  pass-cut false e = each-one c m u cut (first n ts) e

  pass-overlong : (b : Bool) → one c m overlong ≡ ok u → each c m (rest_tries b n (overlong ∷ ts)) ≡ each c u (rest_tries b n ts)
  unfolding first later
  pass-overlong true e = each-one c m u overlong (later n ts) e
  pass-overlong false e = each-one c m u overlong (first n ts) e

  pass-reject : (b : Bool) → one c m reject ≡ ok u → each c m (rest_tries b n (reject ∷ ts)) ≡ each c u (rest_tries b n ts)
  unfolding first later
  pass-reject true e = each-one c m u reject (later n ts) e
  pass-reject false e = each-one c m u reject (first n ts) e

  pass-first : (x : Bool) (q : Path) → one c m (go x q) ≡ ok u → each c m (rest_tries false n (go x q ∷ ts)) ≡ each c u (rest_tries true n ts)
  unfolding first later each
  pass-first x q e = rw e

stop-any : (c : Setting LinearRefusal) (m : State Path) (n : ℕ) (ts : List (Try LinearRefusal Path)) (r : LinearRefusal) (b : Bool) → each c m (rest_tries b n (stop r ∷ ts)) ≡ refuse r
unfolding first later each one judged
stop-any c m n ts r true = refl
stop-any c m n ts r false = refl

stop-second : (c : Setting LinearRefusal) (m : State Path) (n : ℕ) (ts : List (Try LinearRefusal Path)) (x : Bool) (q : Path) → each c m (rest_tries true n (go x q ∷ ts)) ≡ refuse (Linear.MultipleEdges (node_id n))
unfolding first later each one judged
stop-second c m n ts x q = refl

stop-kept : (c : Setting LinearRefusal) (m : State Path) (n : ℕ) (ts : List (Try LinearRefusal Path)) (x : Bool) (q : Path) (r : LinearRefusal) → one c m (go x q) ≡ refuse r → each c m (rest_tries false n (go x q ∷ ts)) ≡ refuse r
unfolding first later each
stop-kept c m n ts x q r e = rw e

-- ---- what the code may count and store

module _ {index steps item : List ℕ} {k : ℕ} (t : Track index steps item k) where
  pub track-short : k ≤ max_edges
  track-short = let h = few-edges (view_of t.graph) t.reference t.path.edges t.path t.good in omega (arith, h, t.count)

  pub track-slice : k + 1 ≤ length item
  track-slice = let h = track-short in omega (arith, h, t.carries.long)

  pub track-edges : take (k + 1 - 1) (drop 1 item) ≡ t.path.edges
  track-edges = ap (λ (n : ℕ). take n (drop 1 item)) (let z : k + 1 - 1 ≡ length t.path.edges = omega (arith, t.count) in z) ∙ t.carries.edges

  pub track-ready : {l : List ℕ} → l ≡ t.path.edges → Ready steps (length l)
  track-ready e = let h = track-short in subst (λ (n : ℕ). Ready steps n) (sym (ap length e ∙ t.count)) (ready_of t.stepped (omega (arith, h)) (omega (arith, h, t.long)))

module _ {most : ℕ} {index steps item : List ℕ} {k link : ℕ} {on : Expansion} {rs : List ℕ} (v : Walk most index steps item k link on rs) where
  pub walk-cycles : on.state.cycles ≤ most
  walk-cycles = let e : on.state.cycles ≡ v.model.stats.cycles = ap (λ (t : SearchStats). t.cycles) v.counts.stats in omega (arith, e, v.few.cycles, v.small)

  pub walk-rejected : on.state.rejected ≤ most
  walk-rejected = let e : on.state.rejected ≡ v.model.stats.rejected = ap (λ (t : SearchStats). t.rejected) v.counts.stats in omega (arith, e, v.few.rejected, v.small)

  pub walk-complete : on.state.budget.complete ≤ most
  walk-complete = let e : on.state.budget.complete ≡ v.model.stats.complete = ap (λ (t : SearchStats). t.complete) v.counts.stats in omega (arith, e, v.few.complete, v.small)

  abbrev Says : EdgeTrial → Type 0
  Says t = Judged Linear.TooLong on.state.budget.max_length (view_of v.track.graph) v.track.path (link - 1) t

  pub walk-trial : {l : List ℕ} → l ≡ v.track.path.edges → {t : EdgeTrial}
      → t ≡ trial_by (node_row index) (has (link - 1) l) (within (length l + 1) on.state.budget.max_length) (ltb (length l) max_edges) (judged_of (node_row index) steps (length l) (link - 1) (edge_row index (link - 1))) → Says t
  walk-trial q {t} is =
      trial-tells Linear.TooLong on.state.budget.max_length v.track.loaded (subst (λ (n : ℕ). Stepped steps n v.track.path) (sym v.track.count) v.track.stepped) v.track.long
      (from-a-reference (view_of v.track.graph) v.track.reference v.track.path.edges v.track.path v.track.good) (link - 1)
      (is ∙ ap (λ (x : List ℕ). trial_by (node_row index) (has (link - 1) x) (within (length x + 1) on.state.budget.max_length) (ltb (length x) max_edges) (judged_of (node_row index) steps (length x) (link - 1) (edge_row index (link - 1)))) q)

  abbrev looked : State Path
  looked = with_tally v.model (add_looked v.model.tally)

  -- ---- the edge is counted, and nothing else

  pub paced-cut : Says Cut → {w : Expansion} → w ≡ with_state (cut_one on.state) on → Paced most index steps item k link on rs v (Ok (Some w)) item rs
  unfolding one judged
  paced-cut j q = subst (λ (x : Expansion). Goes most index steps item k link on rs v x item rs) (sym q) (record {
    state = with_stats looked (add_cycle v.model.stats);
    counted = record { stats = ap add_cycle v.counts.stats; kept = v.counts.kept; fits = v.counts.fits; room = v.counts.room; words = v.counts.words };
    fewer = record { complete = omega (arith, v.few.complete); rejected = omega (arith, v.few.rejected); cycles = omega (arith, v.few.cycles) };
    looked = refl;
    rest = v.none;
    stands = v.standing;
    carried = v.track.carries;
    frame = refl;
    expanded = refl;
    onward = λ ts. rw j (pass-cut (setting_of (frame_of on.state)) v.model (with_stats looked (add_cycle v.model.stats)) v.track.path.end ts (ltb 0 on.found) refl);
  })

  pub paced-rejected : Says Rejected → {w : Expansion} → w ≡ with_state (rejected_one on.state) on → Paced most index steps item k link on rs v (Ok (Some w)) item rs
  unfolding one judged
  paced-rejected j q = subst (λ (x : Expansion). Goes most index steps item k link on rs v x item rs) (sym q) (record {
    state = with_stats looked (add_rejected v.model.stats);
    counted = record { stats = ap add_rejected v.counts.stats; kept = v.counts.kept; fits = v.counts.fits; room = v.counts.room; words = v.counts.words };
    fewer = record { complete = omega (arith, v.few.complete); rejected = omega (arith, v.few.rejected); cycles = omega (arith, v.few.cycles) };
    looked = refl;
    rest = v.none;
    stands = v.standing;
    carried = v.track.carries;
    frame = refl;
    expanded = refl;
    onward = λ ts. rw j (pass-reject (setting_of (frame_of on.state)) v.model (with_stats looked (add_rejected v.model.stats)) v.track.path.end ts (ltb 0 on.found) refl);
  })

  pub paced-overlong : Says Overlong → {w : Expansion} → w ≡ with_state (overlong_by (k + 1) on.state) on → Paced most index steps item k link on rs v (Ok (Some w)) item rs
  unfolding one judged
  paced-overlong j q =
      let n : suc (length v.track.path.edges) ≡ k + 1 = omega (arith, v.track.count) in
      let h : within (k + 1) on.state.budget.max_length ≡ false = ap (λ (x : ℕ). within x on.state.budget.max_length) (sym n) ∙ j.1 in
      subst (λ (x : Expansion). Goes most index steps item k link on rs v x item rs) (sym q) (record {
        state = with_tally (with_stats looked (flag_length v.model.stats)) (add_overlong looked.tally);
        counted = record { stats = lengthening-refused (k + 1) on.state.budget on.state.rejected on.state.cycles h ∙ ap flag_length v.counts.stats; kept = v.counts.kept; fits = v.counts.fits; room = v.counts.room; words = v.counts.words };
        fewer = record { complete = omega (arith, v.few.complete); rejected = omega (arith, v.few.rejected); cycles = omega (arith, v.few.cycles) };
        looked = refl;
        rest = v.none;
        stands = v.standing;
        carried = v.track.carries;
        frame = λ i. record { limits = lengthening-limits (k + 1) on.state.budget i; results = on.state.results };
        expanded = ap (λ (t : SearchStats). t.expanded) (lengthening-refused (k + 1) on.state.budget 0 0 h);
        onward = λ ts. rw j.0 (pass-overlong (setting_of (frame_of on.state)) v.model (with_tally (with_stats looked (flag_length v.model.stats)) (add_overlong looked.tally)) v.track.path.end ts (ltb 0 on.found) refl);
      })

  pub paced-bound : Says TooLong → (item' rs' : List ℕ) → Paced most index steps item k link on rs v (Err Linear.TooLong) item' rs'
  paced-bound j item' rs' ts = rw j (stop-any (setting_of (frame_of on.state)) v.model v.track.path.end ts Linear.TooLong (ltb 0 on.found))

  -- ---- the edge can be appended
  module _ (b : Bool) (j : Says (Extended b)) where
    pub paced-second : 0 < on.found → (item' rs' : List ℕ) → Paced most index steps item k link on rs v (Ok None) item' rs'
    paced-second h item' rs' ts = rw (j.1, lt-ltb 0 on.found h) (stop-second (setting_of (frame_of on.state)) v.model v.track.path.end ts b j.0)

    pub paced-short : k < max_edges
    paced-short = let h = ltb→lt (length v.track.path.edges) max_edges (subst T (sym j.3) tt) in omega (arith, h, v.track.count)

    grown : with_edge item k (link - 1) ≡ slot_of j.0
    grown =
        let l : suc (length v.track.path.edges) < slot_length = let x = paced-short in omega (arith, x, v.track.count) in
        ap (λ (n : ℕ). with_edge item n (link - 1)) (sym v.track.count) ∙ v.track.carries.grows (link - 1) l ∙ ap (λ (es : List ℕ). encode slot_length es) (sym (append-ok (view_of v.track.graph) v.track.path j.0 (link - 1) j.2).added.edges)

    pub paced-choosing : most + 1 < 2 ^ 64 → (item' : List ℕ) → length item' ≡ length item → Choosing on.state rs item'
    paced-choosing h item' l = record { fits = v.counts.fits; room = v.counts.room; slot = l ∙ v.track.carries.long; few = let c = walk-complete in omega (arith, c, h) }

    alone : on.found ≤ 0 → v.model.pending ≡ []
    alone h = ⊎_elim (λ (x : (on.found ≡ 0) × (v.model.pending ≡ [])). x.1) (λ (x : (0 < on.found) × (q : Path) × (v.model.pending ≡ q ∷ []) × _ × _ × _). absurd (omega (arith, h, x.0))) v.standing

    looked-counts : Counts on.state rs looked
    looked-counts = record { stats = v.counts.stats; kept = v.counts.kept; fits = v.counts.fits; room = v.counts.room; words = v.counts.words }

    chosen-one : (u : State Path) → keep b (setting_of (frame_of on.state)) looked j.0 ≡ ok u → one (setting_of (frame_of on.state)) v.model (go b j.0) ≡ ok (with_pending j.0 u)
    unfolding one judged push_item place
    chosen-one u e = rw e refl

    refused-one : (x : LinearRefusal) → keep b (setting_of (frame_of on.state)) looked j.0 ≡ refuse x → one (setting_of (frame_of on.state)) v.model (go b j.0) ≡ refuse x
    unfolding one judged
    refused-one x e = rw e refl

    keep-expanded : (u : State Path) → keep b (setting_of (frame_of on.state)) looked j.0 ≡ ok u → u.stats.expanded ≡ v.model.stats.expanded
    keep-expanded u e = (one-moved (setting_of (frame_of on.state)) v.model (with_pending j.0 u) (go b j.0) (chosen-one u e)).expansions

    pub paced-chosen : on.found ≤ 0 → {item' : List ℕ} → item' ≡ with_edge item k (link - 1) → (a : Chose) (rs' : List ℕ) → Chosen on.state link b rs item' a rs' → Paced most index steps item k link on rs v (pace_of a) item' rs'
    paced-chosen h {item'} q a rs' c = on' a (keep b (setting_of (frame_of on.state)) looked j.0) refl (c looked j.0 looked-counts (q ∙ grown))
      where
        z : ltb 0 on.found ≡ false
        z = le-ltb 0 on.found h

        on' : (a : Chose) (t : Answer LinearRefusal (State Path)) → keep b (setting_of (frame_of on.state)) looked j.0 ≡ t → Chooses on.state link looked a rs' t → Paced most index steps item k link on rs v (pace_of a) item' rs'
        on' (Ok n) (ok u) e x = record {
          state = with_pending j.0 u;
          counted = record { stats = x.1.counts.stats; kept = x.1.counts.kept; fits = x.1.counts.fits; room = x.1.counts.room; words = x.1.counts.words };
          fewer = subst (λ (i : ℕ). Few i u.stats) (ap (λ (i : Tally). i.looked) (sym x.1.same.tally)) (x.1.few v.model.tally.looked v.few);
          looked = ap (λ (i : Tally). i.looked) x.1.same.tally;
          rest = x.1.same.rest ∙ v.none;
          stands = inr (omega (arith, x.0, v.linked), j.0, ap (λ (i : List Path). i ++ (j.0 ∷ [])) (x.1.same.pending ∙ alone h), subst (λ (i : ℕ). append (view_of v.track.graph) v.track.path (i - 1) ≡ ok j.0) (sym x.0) j.2, q ∙ grown, j.3);
          carried = subst (λ (i : List ℕ). Carries slot_length i v.track.path.edges) (sym (q ∙ ap (λ (i : ℕ). with_edge item i (link - 1)) (sym v.track.count))) (carries-edge slot_length item (link - 1) v.track.carries);
          frame = λ i. record { limits = x.1.same.limits i; results = x.1.same.results i };
          expanded = ap (λ (i : SearchStats). i.expanded) x.1.counts.stats ∙ keep-expanded u e ∙ sym (ap (λ (i : SearchStats). i.expanded) v.counts.stats);
          onward = λ ts. rw (j.1, z, ap (λ (i : ℕ). ltb 0 i) x.0 ∙ lt-ltb 0 link v.linked) (pass-first (setting_of (frame_of on.state)) v.model (with_pending j.0 u) v.track.path.end ts b j.0 (chosen-one u e));
        }
        on' (Ok n) (refuse y) e x = absurd x
        on' (Err y) (ok u) e x = absurd x
        on' (Err y) (refuse r) e x = λ ts. rw (j.1, z) (stop-kept (setting_of (frame_of on.state)) v.model v.track.path.end ts b j.0 y (refused-one y (e ∙ ap (λ (i : LinearRefusal). refuse i) (sym x))))
