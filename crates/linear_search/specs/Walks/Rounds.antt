-- The expansions of a linear search: the run from here is the run from the start.
-- Serves document 01, "Answer" and "Budget and frontier".
use Rattle.std.specs.Prelude.{ℕ, ◌+◌, ◌-◌, ◌*◌, ◌<◌, ◌≤◌, ◌≡◌, Bool, true, false, T, ltb, Ok, Err}
use Rattle.std.proofs.Common.{arith, sym, ◌∙◌, ltb→lt}
use Rattle.std.proofs.Math.Path.{refl, ap, ap₂, subst}
use Rattle.std.proofs.Math.Logic.{⊎_elim}
use mathlib.Core.List.{List, [], ◌∷◌, ◌++◌}
use Rattle.std.proofs.Math.ListN.{length}
use Rattle.semantics.specs.ReplayedPaths.{step_at}
use Rattle.semantics.specs.declared.search.SearchStats.{SearchStats}
use Rattle.semantics.specs.declared.refusal.PathRefusal.{PathRefusal}
use Rattle.semantics.specs.declared.refusal.ReplayRefusal.TheVariants as Replay
use Rattle.semantics.specs.declared.refusal.LinearRefusal.{LinearRefusal}
use Rattle.semantics.specs.Limits.{base, below, max_expansions, max_edges, step_length, slot_length, Limit}
use Rattle.semantics.specs.Answer.{Answer, ok, refuse, wrap}
use Rattle.semantics.specs.Answer.Laws.{ok-inj, ok-refuse}
use Rattle.semantics.specs.Graph.{view_of}
use Rattle.semantics.specs.Path.{Path, append, append_under, replay, append_all}
use Rattle.semantics.proofs.Theorems.Path.Laws.{append-ok, append_under-is, replay-of, replay_snoc}
use Rattle.semantics.specs.Enumeration.{State, Try, expand, each, turn, popped, admit, run, merge, add_expanded, flag_count}
use Rattle.semantics.specs.Linear.{only_tries}
use Rattle.storage.specs.Index.{node_row, edge_row}
use Rattle.stepping.specs.Steps.{Effect}
use Rattle.std.specs.Prelude.{Ok, Err}
use Rattle.stepping.specs.StepWords.{with_step}
use Rattle.stepping.specs.Judged.{Ready, Stepped, judged_of}
use Rattle.stepping.specs.Judged.Remaking.{Accepted}
use Rattle.path.specs.Replays.Calls.{few-edges}
use Rattle.path_budget.specs.declared.budget.Admitted.{Admitted}
use Rattle.path_budget.specs.Budget.{expansion}
use Rattle.path_budget.specs.Budget.Laws.{expansion-allowed, expansion-limits, expansion-granted, expansion-refused}
use Rattle.search_state.specs.declared.state.SearchState.{SearchState}
use Rattle.search_state.specs.Items.Laws.{carries-slot}
use Rattle.search_state.specs.Items.{Carries}
use Rattle.search_state.specs.Retraces.Laws.{ready_of, effect-done, effect-refused}
use Rattle.search_state.specs.States.{with_budget}
use Rattle.search_state.specs.Reps.{slot_of, Counts, Few, Replayed}
use Rattle.linear_search.specs.declared.linear.Expansion.{Expansion}
use Rattle.search_state.specs.Runs.{run-over, run-round, run-refused}
use Rattle.linear_search.specs.Walks.{Frame, frame_of, setting_of, Standing, Walking, Ends, run_of, WalkedTo}
use Rattle.linear_search.specs.Walks.Edges.{Opening, expansion_of, Mid, mid-end}

module _ {index steps₀ item₀ : List ℕ} {s₀ : SearchState} {rs₀ : List ℕ} (v : Walking index steps₀ item₀ s₀ rs₀) where
  abbrev tries_of : Frame → Path → List (Try LinearRefusal Path)
  tries_of f p = only_tries base f.limits.length (view_of v.graph) p

  abbrev run_from : Frame → ℕ → State Path → Answer LinearRefusal (State Path)
  run_from f n m = run (setting_of f) (tries_of f) n m

  -- at the head of the loop: one path waits
  pub record Turning (state : SearchState) (k : ℕ) (steps item rs : List ℕ) : Type 0 where
    pub path : Path
    pub count : length path.edges ≡ k
    pub stepped : Stepped steps k path
    pub words : item ≡ slot_of path
    pub good : Replayed (view_of v.graph) v.reference path
    pub model : State Path
    pub counts : Counts state rs model
    pub few : Few model.tally.looked model.stats
    pub looked : model.tally.looked ≤ 4096 * k
    pub waits : model.rest ≡ path ∷ []
    pub pending : model.pending ≡ []
    pub expanded : state.budget.expanded ≡ k
    pub frame : frame_of state ≡ frame_of s₀
    pub same : run_from (frame_of s₀) (max_expansions - k) model ≡ run_of index steps₀ item₀ s₀ rs₀ v

  pub turn-start : Turning s₀ 0 steps₀ item₀ rs₀
  unfolding append_all
  turn-start = record {
    path = v.first;
    count = ap length v.none;
    stepped = v.begun;
    words = v.words;
    good = subst (λ (es : List ℕ). replay base (view_of v.graph) v.reference es ≡ ok v.first) (sym v.none) (replay-of base (view_of v.graph) v.reference [] v.first v.first v.starts refl);
    model = v.model;
    counts = v.counts;
    few = v.few;
    looked = let z = v.unlooked in omega (arith, z);
    waits = v.rest;
    pending = v.pending;
    expanded = v.unexpanded;
    frame = refl;
    same = refl;
  }

  module _ {state : SearchState} {k : ℕ} {steps item rs : List ℕ} (long : length steps ≡ length steps₀) (t : Turning state k steps item rs) where
    pub turn-short : k ≤ max_edges
    turn-short = let h = few-edges (view_of v.graph) v.reference t.path.edges t.path t.good in omega (arith, h, t.count)

    pub turn-fits : step_length * k + step_length ≤ length steps
    turn-fits = let h = turn-short in omega (arith, h, long, v.long)

    module _ {a : Admitted} (is : a ≡ expansion state.budget) {n : SearchState} (made : n ≡ with_budget a.budget state) where
      next-is : n ≡ with_budget (expansion state.budget).budget state
      next-is = made ∙ ap (λ (x : Admitted). with_budget x.budget state) is

      below-is : {b : Bool} → a.allowed ≡ b → below state.budget.expanded state.budget.max_paths ≡ b
      below-is e = sym (expansion-allowed state.budget) ∙ ap (λ (x : Admitted). x.allowed) (sym is) ∙ e

      turn_is : {b : Bool} → a.allowed ≡ b → turn (setting_of (frame_of s₀)) t.model ≡ admit b t.model t.path []
      unfolding turn popped
      turn_is {b} e =
          ap (popped (setting_of (frame_of s₀)) t.model) t.waits
          ∙ ap (λ (x : Bool). admit x t.model t.path []) (ap₂ (λ (x : ℕ) (y : Limit). below x y) (ap (λ (z : SearchStats). z.expanded) (sym t.counts.stats)) (ap (λ (f : Frame). f.limits.expansions) (sym t.frame)) ∙ below-is e)

      pub turn-over : a.allowed ≡ false → WalkedTo index steps₀ item₀ s₀ rs₀ v (Ok n) rs
      unfolding admit
      turn-over e =
          let u : State Path = record { rest = []; pending = []; kept = t.model.kept; stats = flag_count t.model.stats; tally = t.model.tally } in
          let w = run-over (setting_of (frame_of s₀)) (tries_of (frame_of s₀)) (max_expansions - k) t.model u (turn_is e) in
          let c : Counts (with_budget (expansion state.budget).budget state) rs u = record {
            stats = expansion-refused state.budget state.rejected state.cycles (below-is e) ∙ ap flag_count t.counts.stats;
            kept = t.counts.kept;
            fits = t.counts.fits;
            room = t.counts.room;
            words = t.counts.words;
          } in
          subst (λ (y : Answer LinearRefusal (State Path)). Ends (Ok n) rs y) (sym (sym t.same ∙ w)) (subst (λ (x : SearchState). Counts x rs u) (sym next-is) c)

      module _ (yes : a.allowed ≡ true) where
        abbrev opened : State Path
        opened = record { rest = []; pending = []; kept = t.model.kept; stats = add_expanded t.model.stats; tally = t.model.tally }

        granted : n.budget.expanded ≡ k + 1
        granted = ap (λ (x : SearchState). x.budget.expanded) next-is ∙ ap (λ (x : SearchStats). x.expanded) (expansion-granted state.budget 0 0 (below-is yes)) ∙ ap (λ (x : ℕ). x + 1) t.expanded

        frame-next : frame_of n ≡ frame_of s₀
        frame-next = ap frame_of next-is ∙ (λ i. record { limits = expansion-limits state.budget i; results = state.results }) ∙ t.frame

        opens : turn (setting_of (frame_of s₀)) t.model ≡ expand t.path opened
        unfolding admit
        opens = turn_is yes

        pub turn-opening : {end : ℕ} → end ≡ (step_at steps k).end → Opening index steps item k end (record { state = n; found = 0 }) rs
        turn-opening e =
            let h = turn-short in
            let c : Counts (with_budget (expansion state.budget).budget state) rs opened = record {
              stats = expansion-granted state.budget state.rejected state.cycles (below-is yes) ∙ ap add_expanded t.counts.stats;
              kept = t.counts.kept;
              fits = t.counts.fits;
              room = t.counts.room;
              words = t.counts.words;
            } in
            record {
              track = record {
                graph = v.graph;
                loaded = v.loaded;
                reference = v.reference;
                path = t.path;
                count = t.count;
                stepped = t.stepped;
                long = omega (arith, long, v.long);
                carries = subst (λ (l : List ℕ). Carries slot_length l t.path.edges) (sym t.words) (carries-slot max_edges t.path.edges (omega (arith, h, t.count)));
                good = t.good;
              };
              at = e ∙ t.stepped.end;
              model = opened;
              counts = subst (λ (x : SearchState). Counts x rs opened) (sym next-is) c;
              few = record { complete = t.few.complete; rejected = t.few.rejected; cycles = t.few.cycles };
              small = omega (arith, h, t.looked);
              none = refl;
              pending = refl;
              found = refl;
            }

        module _ {end : ℕ} (at : end ≡ (step_at steps k).end) where
          abbrev E : Frame → Answer LinearRefusal (State Path)
          E f = each (setting_of f) opened (tries_of f t.path)

          expansion-is : {x : Answer LinearRefusal (State Path)} → expansion_of (turn-opening at) ≡ x → E (frame_of s₀) ≡ x
          unfolding turn-opening
          expansion-is {x} h = subst (λ (f : Frame). E f ≡ x) frame-next h

          pub turn-refused : (x : LinearRefusal) → expansion_of (turn-opening at) ≡ refuse x → (rs' : List ℕ) → WalkedTo index steps₀ item₀ s₀ rs₀ v (Err x) rs'
          turn-refused x h rs' =
              let l = turn-short in
              let w = run-refused (setting_of (frame_of s₀)) (tries_of (frame_of s₀)) (max_expansions - k) t.model t.path opened x opens (omega (arith, l)) (expansion-is h) in
              subst (λ (y : Answer LinearRefusal (State Path)). Ends (Err x) rs' y) (sym (sym t.same ∙ w)) refl

          module _ {on : Expansion} {item' rs' : List ℕ} {link : ℕ} (mid : Mid (turn-opening at) on item' rs' link) (none : link ≤ 0) where
            done : run_from (frame_of s₀) (max_expansions - k - 1) (merge (setting_of (frame_of s₀)).order mid.state) ≡ run_of index steps₀ item₀ s₀ rs₀ v
            done =
                let l = turn-short in
                sym (run-round (setting_of (frame_of s₀)) (tries_of (frame_of s₀)) (max_expansions - k) t.model t.path opened mid.state opens (omega (arith, l)) (expansion-is (mid-end (turn-opening at) mid none)))
                ∙ t.same

            stands_here : Standing (view_of v.graph) t.path on.found item' mid.state.pending
            unfolding turn-opening
            stands_here = mid.stands

            -- no edge was appended
            pub turn-none : on.found ≤ 0 → WalkedTo index steps₀ item₀ s₀ rs₀ v (Ok on.state) rs'
            unfolding merge turn popped
            turn-none h =
                let p : mid.state.pending ≡ [] = ⊎_elim (λ (x : (on.found ≡ 0) × (mid.state.pending ≡ [])). x.1) (λ (x : (0 < on.found) × (q : Path) × (mid.state.pending ≡ q ∷ []) × (append (view_of v.graph) t.path (on.found - 1) ≡ ok q) × (item' ≡ slot_of q) × (ltb (length t.path.edges) max_edges ≡ true)). absurd (omega (arith, h, x.0))) stands_here in
                let m = merge (setting_of (frame_of s₀)).order mid.state in
                let e : m.rest ≡ [] = ap₂ (λ (x y : List Path). x ++ y) mid.rest p in
                let w = run-over (setting_of (frame_of s₀)) (tries_of (frame_of s₀)) (max_expansions - k - 1) m m (ap (popped (setting_of (frame_of s₀)) m) e) in
                subst (λ (y : Answer LinearRefusal (State Path)). Ends (Ok on.state) rs' y) (sym (sym done ∙ w)) (record { stats = mid.counted.stats; kept = mid.counted.kept; fits = mid.counted.fits; room = mid.counted.room; words = mid.counted.words })

            module _ (some : 0 < on.found) where
              next : (q : Path) × (mid.state.pending ≡ q ∷ []) × (append (view_of v.graph) t.path (on.found - 1) ≡ ok q) × (item' ≡ slot_of q) × (ltb (length t.path.edges) max_edges ≡ true)
              next = ⊎_elim (λ (x : (on.found ≡ 0) × (mid.state.pending ≡ [])). absurd (omega (arith, some, x.0))) (λ (x : (0 < on.found) × (q : Path) × (mid.state.pending ≡ q ∷ []) × (append (view_of v.graph) t.path (on.found - 1) ≡ ok q) × (item' ≡ slot_of q) × (ltb (length t.path.edges) max_edges ≡ true)). (x.1, x.2, x.3, x.4, x.5)) stands_here

              pub turn-room : step_length * (k + 1) + step_length ≤ length steps
              turn-room = let h = ltb→lt (length t.path.edges) max_edges (subst T (sym next.4) tt) in omega (arith, h, t.count, long, v.long)

              pub turn-ready : Ready steps k
              turn-ready = let h = turn-short in ready_of t.stepped (omega (arith, h)) turn-fits

              -- the edge that was appended is accepted on the steps as they stand
              pub turn-accepted : Accepted index steps k (on.found - 1)
              turn-accepted = told (judged_of (node_row index) steps k (on.found - 1) (edge_row index (on.found - 1))) refl
                where
                  told : (x : Effect) → judged_of (node_row index) steps k (on.found - 1) (edge_row index (on.found - 1)) ≡ x → Accepted index steps k (on.found - 1)
                  told (Ok s) h = record { step = s; judged = h }
                  told (Err z) h = absurd (ok-refuse z next.0 (sym next.2 ∙ effect-refused v.loaded t.stepped turn-room (on.found - 1) (sym h) z refl))

              pub turn-again : (a : Accepted index steps k (on.found - 1)) {steps' : List ℕ} → steps' ≡ with_step steps (k + 1) a.step → Turning on.state (k + 1) steps' item' rs'
              unfolding merge turn-opening
              turn-again a {steps'} y =
                  let h = turn-short in
                  let r = effect-done v.loaded t.stepped turn-room (on.found - 1) (sym a.judged) a.step refl in
                  let q : Path = next.0 in
                  let e : r.path ≡ q = ok-inj r.path q (sym r.appended ∙ next.2) in
                  let st : Stepped steps' (k + 1) q = subst (λ (l : List ℕ). Stepped l (k + 1) q) (sym y) (subst (λ (p : Path). Stepped (with_step steps (k + 1) a.step) (k + 1) p) e r.stepped) in
                  let u : append_under base (view_of v.graph) t.path (on.found - 1) ≡ ok q = append_under-is base (view_of v.graph) t.path (on.found - 1) next.4 ∙ ap (λ (i : Answer PathRefusal Path). wrap Replay.Path i) next.2 in
                  let f : max_expansions - k - 1 ≡ max_expansions - (k + 1) = omega (arith, h) in
                  let x1 : on.state.budget.expanded ≡ k + 1 = mid.expanded ∙ granted in
                  record {
                    path = q;
                    count = st.count;
                    stepped = st;
                    words = next.3;
                    good = subst (λ (es : List ℕ). replay base (view_of v.graph) v.reference es ≡ ok q) (sym (append-ok (view_of v.graph) t.path q (on.found - 1) next.2).added.edges) (replay_snoc base (view_of v.graph) v.reference (on.found - 1) t.path.edges t.path q t.good u);
                    model = merge (setting_of (frame_of s₀)).order mid.state;
                    counts = record { stats = mid.counted.stats; kept = mid.counted.kept; fits = mid.counted.fits; room = mid.counted.room; words = mid.counted.words };
                    few = record { complete = mid.fewer.complete; rejected = mid.fewer.rejected; cycles = mid.fewer.cycles };
                    looked = omega (arith, mid.looked, t.looked);
                    waits = ap₂ (λ (i j : List Path). i ++ j) mid.rest next.1;
                    pending = refl;
                    expanded = x1;
                    frame = mid.frame ∙ frame-next;
                    same = ap (λ (i : ℕ). run_from (frame_of s₀) i (merge (setting_of (frame_of s₀)).order mid.state)) (sym f) ∙ done;
                  }
