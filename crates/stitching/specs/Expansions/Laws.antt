-- One partial path on the path under expansion: what is counted, recorded and pushed is what the enumeration does.
-- Serves document 01, "Partial paths": `try_compute_from_partials`.
use Rattle.std.specs.Prelude.{ℕ, ◌+◌, ◌-◌, ◌<◌, ◌≤◌, ◌^◌, ◌≡◌, Bool, drop}
use Rattle.std.proofs.Common.{arith, sym, ◌∙◌}
use Rattle.std.proofs.Math.Path.{ap, subst}
use Rattle.std.proofs.Math.Bool.{false}
use mathlib.Core.List.{List, ◌++◌}
use Rattle.std.proofs.Math.ListN.{length, take}
use Rattle.semantics.specs.declared.refusal.SearchRefusal.{SearchRefusal}
use Rattle.semantics.specs.Limits.{base, within, max_edges, slot_length}
use Rattle.semantics.specs.Answer.{ok}
use Rattle.semantics.specs.Graph.{view_of}
use Rattle.semantics.specs.Path.{Path, append_all, replay}
use Rattle.semantics.proofs.Theorems.Path.Laws.{append_all-edges, replay-append}
use Rattle.semantics.specs.Enumeration.{Try, go, one}
use Rattle.semantics.specs.Stitching.{judge_slot}
use Rattle.semantics.specs.Words.{encode}
use Rattle.stepping.specs.Judged.{Stepped}
use Rattle.path.specs.Replays.Calls.{from-a-reference, few-edges}
use Rattle.search_state.specs.declared.search.Search as S
use Rattle.std.specs.Prelude.{Result, Ok, Err}
use Rattle.search_state.specs.declared.state.SearchState.{SearchState}
use Rattle.search_state.specs.States.{cut_one, rejected_one, overlong_by}
use Rattle.search_state.specs.Items.{Clear}
use Rattle.search_state.specs.Searches.{Going, with_state, Clears}
use Rattle.search_state.specs.Progresses.{frame_of}
use Rattle.search_state.specs.Reps.{slot_of, setting_of, Replayed, Tells}
use Rattle.search_state.specs.Reps.Laws.{rep-pushable}
use Rattle.search_state.specs.Extensions.{Extendable, ExtendsTo}
use Rattle.database.specs.Records.{edge_words}
use Rattle.database.specs.Records.Laws.{length-edges}
use Rattle.stitching_trial.specs.declared.trial.StitchTrial.{StitchTrial}
use Rattle.stitching_trial.specs.Items.{grown-front}
use Rattle.stitching_trial.specs.Links.{Tryable}
use Rattle.stitching_trial.specs.Looks.{cycles-few, rejected-few, complete-few, look-cut, look-rejected, look-overlong, look-stopped, look-extended, look-clears}
use Rattle.stitching_trial.specs.Trials.{KeptTo, Judged, Judging, JudgedAs}
use Rattle.stitching.specs.Expansions.{Given, try_of, Tried}

-- a live record's edges
pub edges_few : {words : List ℕ} {i : ℕ} → Tryable words i → {es : List ℕ} → es ≡ edge_words base i words → length es ≤ max_edges
edges_few {words} {i} t e = let n = ap length e ∙ length-edges base i words t.inside t.few in omega (arith, n, t.few)

-- ---- what the code may count and store

module _ (most : ℕ) (index steps item : List ℕ) (k : ℕ) (s : S.Search) (ws rs : List ℕ) (v : Given most index steps item k s ws rs) where
  pub given-cycles : s.state.cycles ≤ most
  given-cycles = let h = cycles-few (view_of v.graph) v.reference s ws rs v.model v.rep in omega (arith, h, v.small)

  pub given-rejected : s.state.rejected ≤ most
  given-rejected = let h = rejected-few (view_of v.graph) v.reference s ws rs v.model v.rep in omega (arith, h, v.small)

  pub given-short : k ≤ max_edges
  given-short = let h = few-edges (view_of v.graph) v.reference v.path.edges v.path v.good in omega (arith, h, v.count)

  pub given-slice : k + 1 ≤ length item
  given-slice = let h = given-short in omega (arith, h, v.carries.0)

  -- the edges of the path as the code lends them
  given-edges : {l : List ℕ} → l ≡ take (k + 1 - 1) (drop 1 item) → l ≡ v.path.edges
  given-edges e = e ∙ ap (λ (n : ℕ). take n (drop 1 item)) (let z : k + 1 - 1 ≡ k = omega arith in z) ∙ v.carries.1

  given-count : {l : List ℕ} → l ≡ take (k + 1 - 1) (drop 1 item) → length l ≡ k
  given-count {l} e = ap length (given-edges e) ∙ v.count

  module _ {l : List ℕ} (lent : l ≡ take (k + 1 - 1) (drop 1 item)) (es : List ℕ) (few : length es ≤ max_edges) where
    -- what the trial is given
    pub given-judging : Judging index steps l es
    given-judging =
        let h = given-short in
        let n = given-count lent in
        record {
          graph = v.graph;
          loaded = v.loaded;
          on = v.path;
          are = given-edges lent;
          starts = from-a-reference (view_of v.graph) v.reference v.path.edges v.path v.good;
          stepped = subst (λ (j : ℕ). Stepped steps j v.path) (sym n) v.stepped;
          short = omega (arith, n, h);
          few = few;
          long = v.long;
        }

    module _ (words : List ℕ) (i : ℕ) (read : es ≡ edge_words base i words) {t : Result StitchTrial SearchRefusal} {steps' : List ℕ} (j : JudgedAs index steps l es given-judging s.state.budget.max_length t steps') where
      judge_of : Try SearchRefusal Path
      judge_of = judge_slot base s.state.budget.max_length (view_of v.graph) v.path es

      -- the judgement of these very edges
      tells_as : (a : Going) (ws' rs' : List ℕ) {x : Try SearchRefusal Path} → judge_of ≡ x → Tells (view_of v.graph) v.reference (frame_of s) a ws' rs' (one (setting_of (frame_of s)) v.model x)
          → Tells (view_of v.graph) v.reference (frame_of s) a ws' rs' (try_of words most index steps item k s ws rs v i)
      unfolding judge_of
      tells_as a ws' rs' e h =
          subst (λ (y : List ℕ). Tells (view_of v.graph) v.reference (frame_of s) a ws' rs' (one (setting_of (frame_of s)) v.model (judge_slot base s.state.budget.max_length (view_of v.graph) v.path y))) read
          (subst (λ (y : Try SearchRefusal Path). Tells (view_of v.graph) v.reference (frame_of s) a ws' rs' (one (setting_of (frame_of s)) v.model y)) (sym e) h)

      says : {x : Result StitchTrial SearchRefusal} → t ≡ x → Judged s.state.budget.max_length (view_of v.graph) v.path es x
      unfolding given-judging
      says e = subst (Judged s.state.budget.max_length (view_of v.graph) v.path es) e j.says

      kept-steps : KeptTo k steps steps'
      unfolding given-judging
      kept-steps = subst (λ (n : ℕ). KeptTo n steps steps') (given-count lent) j.kept

      -- the item and the words of a slot stay as they are
      still-clear : {w : S.Search} (st : SearchState) → w ≡ with_state st s → Clears (Ok w) item
      still-clear st q = subst (λ (x : S.Search). Clear x.frontier.length item) (sym q) v.clear

      pub tried-cut : t ≡ Ok StitchTrial.Cut → {w : S.Search} → w ≡ with_state (cut_one s.state) s → Tried words most index steps item k s ws rs v i (Ok w) steps' item ws rs
      unfolding judge_of
      tried-cut e {w} q = record { tells = tells_as (Ok w) ws rs (says e) (look-cut (view_of v.graph) v.reference s ws rs v.model v.rep w q); held = v.carries.1; clears = still-clear (cut_one s.state) q; kept = kept-steps }

      pub tried-rejected : t ≡ Ok StitchTrial.Rejected → {w : S.Search} → w ≡ with_state (rejected_one s.state) s → Tried words most index steps item k s ws rs v i (Ok w) steps' item ws rs
      unfolding judge_of
      tried-rejected e {w} q = record { tells = tells_as (Ok w) ws rs (says e) (look-rejected (view_of v.graph) v.reference s ws rs v.model v.rep w q); held = v.carries.1; clears = still-clear (rejected_one s.state) q; kept = kept-steps }

      pub tried-overlong : t ≡ Ok StitchTrial.Overlong → {w : S.Search} → w ≡ with_state (overlong_by (k + length es) s.state) s → Tried words most index steps item k s ws rs v i (Ok w) steps' item ws rs
      unfolding judge_of
      tried-overlong e {w} q =
          let o = says e in
          let h : within (k + length es) s.state.budget.max_length ≡ false = ap (λ (n : ℕ). within (n + length es) s.state.budget.max_length) (sym v.count) ∙ o.1 in
          record { tells = tells_as (Ok w) ws rs o.0 (look-overlong (view_of v.graph) v.reference s ws rs v.model v.rep (k + length es) h w q); held = v.carries.1; clears = still-clear (overlong_by (k + length es) s.state) q; kept = kept-steps }

      pub tried-stopped : (x : SearchRefusal) → t ≡ Err x → Tried words most index steps item k s ws rs v i (Err x) steps' item ws rs
      unfolding judge_of
      tried-stopped x e = record { tells = tells_as (Err x) ws rs (says e) (look-stopped (view_of v.graph) v.reference s ws rs v.model v.rep x); held = v.carries.1; clears = tt; kept = kept-steps }

      -- ---- the path with the edges behind its own
      module _ (b : Bool) (e : t ≡ Ok (StitchTrial.Extended b)) where
        longer : (q : Path) × (judge_of ≡ go b q) × (append_all base (view_of v.graph) v.path es ≡ ok q) × (length v.path.edges + length es ≤ max_edges)
        unfolding judge_of
        longer = says e

        pub extended-short : k + length es ≤ max_edges
        extended-short = let h = longer.3 in omega (arith, h, v.count)

        module _ {item' : List ℕ} (made : item' ≡ encode slot_length (take k (drop 1 item) ++ es)) where
          words_are : item' ≡ encode slot_length (v.path.edges ++ es)
          words_are = made ∙ ap (λ (ps : List ℕ). encode slot_length (ps ++ es)) v.carries.1

          slot_is : item' ≡ slot_of longer.0
          slot_is = words_are ∙ ap (encode slot_length) (sym (append_all-edges base (view_of v.graph) es v.path longer.0 longer.2))

          good-longer : Replayed (view_of v.graph) v.reference longer.0
          good-longer =
              subst (λ (l : List ℕ). replay base (view_of v.graph) v.reference l ≡ ok longer.0) (sym (append_all-edges base (view_of v.graph) es v.path longer.0 longer.2))
              (replay-append base (view_of v.graph) v.reference v.path.edges es v.path longer.0 v.good longer.2)

          pub extended-given : most + 1 < 2 ^ 64 → Extendable s ws rs item'
          extended-given h = record {
            pushable = rep-pushable v.rep longer.0 good-longer slot_is;
            fits = v.rep.counts.fits;
            room = v.rep.counts.room;
            few = let c = complete-few (view_of v.graph) v.reference s ws rs v.model v.rep in omega (arith, c, h, v.small);
          }

          pub tried-extended : (a : Going) (ws' rs' : List ℕ) → ExtendsTo s b ws rs item' a ws' rs' → Tried words most index steps item k s ws rs v i a steps' item' ws' rs'
          unfolding judge_of
          tried-extended a ws' rs' x = record {
            tells = tells_as a ws' rs' longer.1 (look-extended (view_of v.graph) v.reference s ws rs v.model v.rep b longer.0 good-longer item' slot_is a ws' rs' x);
            held = ap (λ (y : List ℕ). take k (drop 1 y)) words_are ∙ grown-front max_edges v.path.edges es v.count extended-short;
            clears = look-clears (view_of v.graph) v.reference s ws rs v.model v.rep b longer.0 good-longer item' slot_is a ws' rs' x;
            kept = kept-steps;
          }
