-- A popped path is laid out as steps and expanded; the run from here is the run from the start. For every choice of what is tried.
-- Serves document 01, "Answer" and "Budget and frontier"; 36 of "Turned back".
use Rattle.std.specs.Prelude.{ℕ, ◌+◌, ◌-◌, ◌*◌, ◌<◌, ◌≤◌, ◌≡◌, length, take, drop, Ok, Err}
use Rattle.std.proofs.Common.{arith, ◌∙◌}
use Rattle.std.proofs.Math.Path.{refl, sym, ap, subst}
use mathlib.Core.List.{List}
use Rattle.std.proofs.Math.ListN.{get_or}
use Rattle.semantics.specs.declared.search.SearchStats.{SearchStats}
use Rattle.semantics.specs.declared.refusal.SearchRefusal.{SearchRefusal}
use Rattle.semantics.specs.declared.refusal.SearchRefusal.TheVariants as Search
use Rattle.semantics.specs.Limits.{base, max_edges, slot_length, max_expansions, looked_before, Limit}
use Rattle.semantics.specs.Answer.{Answer, ok}
use Rattle.semantics.specs.Answer.Laws.{ok-inj}
use Rattle.semantics.specs.Graph.{view_of}
use Rattle.semantics.specs.Path.{Path, append_all}
use Rattle.semantics.proofs.Theorems.Path.Laws.{begun, replay-ok}
use Rattle.semantics.specs.Enumeration.{State, Try, Tally, each, merge}
use Rattle.semantics.specs.Enumeration.Statistics.{each-moved}
use Rattle.semantics.specs.Words.{encode}
use Rattle.semantics.specs.Words.Laws.{length-encode}
use Rattle.stepping.specs.Judged.{Stepped}
use Rattle.path.specs.Replays.Calls.{few-edges}
use Rattle.search_state.specs.declared.search.Search as S
use Rattle.search_state.specs.Searches.{Going}
use Rattle.search_state.specs.declared.search.Finished.{Finished}
use Rattle.search_state.specs.declared.search.Round.TheVariants as Round
use Rattle.search_state.specs.Searches.{Taken}
use Rattle.search_state.specs.Items.{Clear}
use Rattle.search_state.specs.Items.Laws.{carries-slot, clear-slot}
use Rattle.search_state.specs.Retraces.{Laid, Retraces, Retraced}
use Rattle.search_state.specs.Searches.{Clears, Taking}
use Rattle.search_state.specs.declared.progress.Frame.{Frame}
use Rattle.search_state.specs.Progresses.{frame_of}
use Rattle.search_state.specs.Reps.{setting_of, Rep, Tells}
use Rattle.search_state.specs.Reps.Laws.{tells-on, tells-refused}
use Rattle.search_state.specs.Reps.Rounds.{Opened, round-over, round-expand, round-many}
use Rattle.search_state.specs.Runs.{run-over, run-many, run-round, run-refused}
use Rattle.search_rounds.specs.Drives.{Tries, Rounding, Rounded, Driving, Ends, run_from, run_of, DrivenTo}

-- ---- a round: the edges of the popped path are appended again

module _ {most : ℕ} {index steps item : List ℕ} {n : ℕ} {s : S.Search} {ws rs : List ℕ} (v : Rounding most index steps item n s ws rs) where
  short : length v.path.edges ≤ max_edges
  short = few-edges (view_of v.graph) v.reference v.path.edges v.path v.good

  pub round-long : length item ≡ slot_length
  round-long = ap length v.words ∙ length-encode slot_length v.path.edges

  pub round-clear : Clear s.frontier.length item
  round-clear = subst (Clear s.frontier.length) (sym v.words) (clear-slot s.frontier.length v.path.edges v.fits v.rep.sized.wider.longer)

  module _ {k : ℕ} (at : k ≡ get_or item 0 0) where
    pub round-count : length v.path.edges ≡ k
    unfolding encode
    round-count = sym (at ∙ ap (λ (l : List ℕ). get_or l 0 0) v.words)

    pub round-short : k ≤ max_edges
    round-short = let c = round-count in let h = short in omega (arith, c, h)

    pub round-held : take k (drop 1 item) ≡ v.path.edges
    round-held = ap (λ (i : ℕ). take i (drop 1 item)) (sym round-count) ∙ ap (λ (l : List ℕ). take (length v.path.edges) (drop 1 l)) v.words ∙ (carries-slot max_edges v.path.edges short).edges

    lent : take (k + 1 - 1) (drop 1 item) ≡ v.path.edges
    lent = ap (λ (i : ℕ). take i (drop 1 item)) (let z : k + 1 - 1 ≡ k = omega arith in z) ∙ round-held

    appended : append_all base (view_of v.graph) v.first v.path.edges ≡ ok v.path
    appended =
        let a = replay-ok base (view_of v.graph) v.reference v.path.edges v.path v.good in
        subst (λ (p : Path). append_all base (view_of v.graph) p v.path.edges ≡ ok v.path) (ok-inj a.0 v.first (sym a.1 ∙ v.starts)) a.2

    retraces : Retraces index steps v.path.edges n
    retraces = let h = short in record { graph = v.graph; loaded = v.loaded; first = v.first; path = v.path; appended = appended; begun = v.begun; laid = v.laid; few = h; room = omega (arith, h, v.long) }

    pub round-retraces : Retraces index steps (take (k + 1 - 1) (drop 1 item)) n
    round-retraces = subst (λ (l : List ℕ). Retraces index steps l n) (sym lent) retraces

    -- the steps of this very path
    pub round-traced : (steps' : List ℕ) → ((x : Retraces index steps (take (k + 1 - 1) (drop 1 item)) n) → Retraced index steps (take (k + 1 - 1) (drop 1 item)) n x steps')
        → Stepped steps' k v.path × Stepped steps' 0 v.first × Laid (view_of v.graph) v.first steps' (length v.path.edges)
    unfolding retraces
    round-traced steps' t =
        let u : (x : Retraces index steps v.path.edges n) → Retraced index steps v.path.edges n x steps' = subst (λ (y : List ℕ). (x : Retraces index steps y n) → Retraced index steps y n x steps') lent t in
        let w = u retraces in
        (subst (λ (i : ℕ). Stepped steps' i v.path) round-count w.stepped, w.begun, w.laid)

-- ---- the loop

module _ (tries : Tries) {index steps₀ item₀ : List ℕ} {s : S.Search} {ws₀ rs₀ : List ℕ} (v : Driving index steps₀ item₀ s ws₀ rs₀) (few : (lim : Limit) (p : Path) → length (tries lim (view_of v.graph) p) ≤ 4096) where
  abbrev tries_of : Frame → Path → List (Try SearchRefusal Path)
  tries_of f p = tries f.limits.length (view_of v.graph) p

  -- at the head of the loop
  pub record Turning (on : S.Search) (steps item ws rs : List ℕ) (n : ℕ) : Type 0 where
    pub state : State Path
    pub stood : Rep (view_of v.graph) v.reference on ws rs state
    pub clear : Clear on.frontier.length item
    pub begun : Stepped steps 0 v.first
    pub laid : Laid (view_of v.graph) v.first steps n
    pub looked : state.tally.looked ≤ 4096 * on.state.budget.expanded
    pub expanded : on.state.budget.expanded ≤ max_expansions
    pub same : run_from tries (view_of v.graph) (frame_of on) (max_expansions - on.state.budget.expanded) state ≡ run_of tries index steps₀ item₀ s ws₀ rs₀ v

  -- step 0 stands there alone
  laid_none : Laid (view_of v.graph) v.first steps₀ 0
  unfolding append_all
  laid_none j h =
      let b = begun (view_of v.graph) v.reference v.first v.starts in
      let z : 0 ≡ j = omega (arith, h) in
      (v.first, subst (λ (i : ℕ). Stepped steps₀ i v.first) z v.begun, subst (λ (l : List ℕ). append_all base (view_of v.graph) v.first l ≡ ok v.first) (sym b.edges) refl)

  pub turn-start : Turning s steps₀ item₀ ws₀ rs₀ 0
  turn-start = record { state = v.model; stood = v.rep; clear = v.clear; begun = v.begun; laid = laid_none; looked = v.looked; expanded = v.expanded; same = refl }

  pub start-state : turn-start.state ≡ v.model
  unfolding turn-start
  start-state = refl

  module _ {on : S.Search} {steps item ws rs : List ℕ} {n : ℕ} (long : length steps ≡ length steps₀) (t : Turning on steps item ws rs n) {a : Taken} {item' ws' : List ℕ} (x : Taking on ws a item' ws') where
    pub turn-over : (f : Finished) → a ≡ Ok (Round.Over f) → DrivenTo tries index steps₀ item₀ s ws₀ rs₀ v (Ok f) rs
    turn-over f e =
        let d = round-over (view_of v.graph) v.reference on ws rs t.state t.stood a item' ws' f x e in
        let w = run-over (setting_of (frame_of on)) (tries_of (frame_of on)) (max_expansions - on.state.budget.expanded) (merge on.frontier.order t.state) d.model d.round in
        subst (λ (y : Answer SearchRefusal (State Path)). Ends (Ok f) rs y) (sym (sym t.same ∙ w)) (d.counts, d.waited)

    pub turn_many : (y : SearchRefusal) → a ≡ Err y → DrivenTo tries index steps₀ item₀ s ws₀ rs₀ v (Err y) rs
    turn_many y e =
        let told = round-many (view_of v.graph) v.reference on ws rs t.state t.stood a item' ws' y x e in
        let d = told.1 in
        let w = run-many (setting_of (frame_of on)) (tries_of (frame_of on)) (max_expansions - on.state.budget.expanded) (merge on.frontier.order t.state) d.path d.model d.round (omega (arith, d.before)) in
        subst (λ (z : Answer SearchRefusal (State Path)). Ends (Err y) rs z) (sym (sym t.same ∙ w)) told.0

    module _ (next : S.Search) (e : a ≡ Ok (Round.Expand next)) where
      pub opened : Opened (view_of v.graph) v.reference on ws rs t.state t.stood item' ws' next
      opened = round-expand (view_of v.graph) v.reference on ws rs t.state t.stood a item' ws' next x e

      -- what the round is given
      pub turn-given : Rounding looked_before index steps item' n next ws' rs
      turn-given =
          let o = opened in
          let l : o.model.tally.looked ≡ t.state.tally.looked = ap (λ (y : Tally). y.looked) o.tally in
          record {
            graph = v.graph;
            loaded = v.loaded;
            reference = v.reference;
            first = v.first;
            starts = v.starts;
            begun = t.begun;
            laid = t.laid;
            long = omega (arith, long, v.long);
            path = o.path;
            words = o.words;
            good = o.good;
            fits = o.fits;
            model = o.model;
            rep = o.rep;
            small = omega (arith, l, t.looked, t.expanded);
          }

      -- the item tells how many edges its path has
      pub turn-size : {k : ℕ} → k ≡ get_or item' 0 0 → length opened.path.edges ≡ k
      unfolding turn-given
      turn-size at = round-count turn-given at

      module _ {b : Going} {steps' ws'' rs' : List ℕ} (r : Rounded tries looked_before index steps item' n next ws' rs turn-given b steps' ws'' rs') where
        told : Tells (view_of v.graph) v.reference (frame_of next) b ws'' rs' (each (setting_of (frame_of next)) opened.model (tries_of (frame_of next) opened.path))
        unfolding turn-given
        told = r.tells

        onto : Tells (view_of v.graph) v.reference (frame_of on) b ws'' rs' (each (setting_of (frame_of on)) opened.model (tries_of (frame_of on) opened.path))
        onto = subst (λ (f : Frame). Tells (view_of v.graph) v.reference f b ws'' rs' (each (setting_of f) opened.model (tries_of f opened.path))) opened.frame told

        pub turn-refused : (y : SearchRefusal) → b ≡ Err y → DrivenTo tries index steps₀ item₀ s ws₀ rs₀ v (Err y) rs'
        turn-refused y d =
            let o = opened in
            let u = tells-refused (view_of v.graph) v.reference (frame_of on) b ws'' rs' (each (setting_of (frame_of on)) o.model (tries_of (frame_of on) o.path)) y onto d in
            let w = run-refused (setting_of (frame_of on)) (tries_of (frame_of on)) (max_expansions - on.state.budget.expanded) (merge on.frontier.order t.state) o.path o.model y o.round (omega (arith, o.before)) u in
            subst (λ (z : Answer SearchRefusal (State Path)). Ends (Err y) rs' z) (sym (sym t.same ∙ w)) refl

        module _ (m' : S.Search) (d : b ≡ Ok m') where
          pub going : (m : State Path) × (each (setting_of (frame_of on)) opened.model (tries_of (frame_of on) opened.path) ≡ ok m) × (frame_of m' ≡ frame_of on) × Rep (view_of v.graph) v.reference m' ws'' rs' m
          going = tells-on (view_of v.graph) v.reference (frame_of on) b ws'' rs' (each (setting_of (frame_of on)) opened.model (tries_of (frame_of on) opened.path)) m' onto d

          -- one more expansion is counted
          pub turn-counts : (m'.state.budget.expanded ≡ on.state.budget.expanded + 1) × (on.state.budget.expanded < max_expansions)
          turn-counts =
              let o = opened in
              let u = going in
              let m = each-moved (setting_of (frame_of on)) o.model u.0 (tries_of (frame_of on) o.path) u.1 in
              let p : m'.state.budget.expanded ≡ u.0.stats.expanded = ap (λ (z : SearchStats). z.expanded) u.3.counts.stats in
              let q : next.state.budget.expanded ≡ o.model.stats.expanded = ap (λ (z : SearchStats). z.expanded) o.rep.counts.stats in
              (p ∙ m.expansions ∙ sym q ∙ o.expanded, o.before)

          pub turn-again : (item'' : List ℕ) → Clears b item'' → {k : ℕ} → k ≡ get_or item' 0 0 → Turning m' steps' item'' ws'' rs' k
          unfolding turn-given
          turn-again item'' clears {k} at =
              let o = opened in
              let u = going in
              let c = turn-counts in
              let m = each-moved (setting_of (frame_of on)) o.model u.0 (tries_of (frame_of on) o.path) u.1 in
              let h = few (frame_of on).limits.length o.path in
              let l : o.model.tally.looked ≡ t.state.tally.looked = ap (λ (y : Tally). y.looked) o.tally in
              let w = run-round (setting_of (frame_of on)) (tries_of (frame_of on)) (max_expansions - on.state.budget.expanded) (merge on.frontier.order t.state) o.path o.model u.0 o.round (omega (arith, o.before)) u.1 in
              let f : max_expansions - on.state.budget.expanded - 1 ≡ max_expansions - m'.state.budget.expanded = omega (arith, c.0, c.1) in
              record {
                state = u.0;
                stood = u.3;
                clear = subst (λ (z : Going). Clears z item'') d clears;
                begun = r.begun;
                laid = subst (λ (j : ℕ). Laid (view_of v.graph) v.first steps' j) (round-count turn-given at) r.laid;
                looked = omega (arith, m.looks, h, l, t.looked, c.0);
                expanded = omega (arith, c.0, c.1);
                same =
                    ap (λ (y : Frame). run_from tries (view_of v.graph) y (max_expansions - m'.state.budget.expanded) u.0) u.2
                    ∙ ap (λ (y : ℕ). run_from tries (view_of v.graph) (frame_of on) y u.0) (sym f)
                    ∙ sym w
                    ∙ t.same;
              }

          -- it stands where the tries of the popped path led
          pub again-state : (item'' : List ℕ) (clears : Clears b item'') {k : ℕ} (at : k ≡ get_or item' 0 0) → (turn-again item'' clears at).state ≡ going.0
          unfolding turn-again
          again-state item'' clears at = refl
