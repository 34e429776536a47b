-- The loop over the partial paths from the path's end: the enumeration's answer from here is its answer from the start.
-- Serves document 01, "Partial paths": "Stitching tries partial paths from the path's end by ascending number".
use Prim.Native.Nat.{ℕ, suc, ◌+◌, ◌-◌, ◌<◌, ◌≤◌}
use Rattle.std.proofs.Common.{arith, ◌∙◌}
use Rattle.std.specs.Prelude.{◌≡◌, refl, Bool, take, drop}
use Rattle.std.proofs.Math.Path.{sym, ap, subst}
use mathlib.Core.List.{List, map}
use Rattle.std.proofs.Math.ListN.{length}
use Rattle.semantics.specs.ReplayedPaths.{step_at}
use Rattle.semantics.specs.declared.refusal.SearchRefusal.{SearchRefusal}
use Rattle.semantics.specs.Limits.{base}
use Rattle.semantics.specs.Answer.{Answer, ok, refuse}
use Rattle.semantics.specs.Graph.{view_of}
use Rattle.semantics.specs.Path.{Path}
use Rattle.semantics.specs.Enumeration.{State, Try, one, each}
use Rattle.semantics.specs.Enumeration.Statistics.{one-moved}
use Rattle.semantics.specs.Stitching.{judge_slot}
use Rattle.search_state.specs.declared.search.Search as S
use Rattle.std.specs.Prelude.{Result, Ok, Err}
use Rattle.search_state.specs.declared.progress.Frame.{Frame}
use Rattle.search_state.specs.Progresses.{frame_of}
use Rattle.search_state.specs.Reps.{setting_of, Rep, Tells}
use Rattle.search_state.specs.Reps.Laws.{tells-on, tells-refused}
use Rattle.database.specs.Records.{edge_words}
use Rattle.stitching_trial.specs.Links.{RECORDS, first_link, next_link, Passes, starting_at, seen_in, Linked, Tryable, Each}
use Rattle.stitching_trial.specs.Links.Laws.{readable-used, count-seen, starting-length, starting-tryable, tries-are, passes-end, passes-next, left, left_less}
use Rattle.stitching_trial.specs.Trials.{KeptTo}
use Rattle.search_state.specs.Items.{Clear}
use Rattle.search_state.specs.Searches.{Going, Clears}
use Rattle.search_state.specs.Runs.{each-one, each-stop}
use Rattle.stitching.specs.StitchedAnswers.{tries_in}
use Rattle.stitching.specs.Expansions.{Given, Tried, Expanded}

module _ {see : ℕ → Bool} {words links : List ℕ} (linked : Linked see words links) (most : ℕ) (index steps₀ item₀ : List ℕ) (k : ℕ) (s : S.Search) (ws₀ rs₀ : List ℕ) (v : Given most index steps₀ item₀ k s ws₀ rs₀) where
  abbrev judge_of : ℕ → Try SearchRefusal Path
  judge_of i = judge_slot base (frame_of s).limits.length (view_of v.graph) v.path (edge_words base i words)

  -- the enumeration's answer to all of them
  abbrev whole_of : Answer SearchRefusal (State Path)
  whole_of = each (setting_of (frame_of s)) v.model (tries_in see words (frame_of s).limits.length (view_of v.graph) v.path)

  -- at the head of the loop
  pub record Mid (on : S.Search) (steps item ws rs : List ℕ) (link : ℕ) : Type 0 where
    pub state : State Path
    pub frame : frame_of on ≡ frame_of s
    pub stood : Rep (view_of v.graph) v.reference on ws rs state
    pub held : take k (drop 1 item) ≡ v.path.edges
    pub clear : Clear on.frontier.length item
    pub kept : KeptTo k steps₀ steps
    pub rest : List ℕ
    pub passes : Passes links link rest
    pub tryable : Each (Tryable words) rest
    pub fewer : length rest ≤ RECORDS
    pub looked : state.tally.looked + length rest ≤ most + 4096
    pub same : each (setting_of (frame_of s)) state (map judge_of rest) ≡ whole_of

  pub mid_start : {n : ℕ} → n ≡ (step_at steps₀ k).end → {link : ℕ} → link ≡ first_link links n → Mid s steps₀ item₀ ws₀ rs₀ link
  mid_start e q =
      let is = starting_at v.path.end 0 (seen_in see words) in
      let u = readable-used linked.readable in
      let h : length is ≤ RECORDS = let l = starting-length v.path.end 0 (seen_in see words) in let c = count-seen see words in omega (arith, l, c, u) in
      record {
        state = v.model;
        frame = refl;
        stood = v.rep;
        held = v.carries.1;
        clear = v.clear;
        kept = λ j p l t. t;
        rest = is;
        passes = subst (λ (x : ℕ). Passes links x is) (sym (q ∙ ap (first_link links) (e ∙ v.stepped.end))) (linked.passes v.path.end);
        tryable = starting-tryable see linked.readable v.path.end;
        fewer = h;
        looked = omega (arith, v.small, h);
        same = ap (each (setting_of (frame_of s)) v.model) (sym (tries-are see linked.readable (frame_of s).limits.length (view_of v.graph) v.path));
      }

  module _ {on : S.Search} {steps item ws rs : List ℕ} {link : ℕ} (long : length steps ≡ length steps₀) (slot : length item ≡ length item₀) (mid : Mid on steps item ws rs link) where
    -- what the next partial path is given
    pub mid-given : (n : ℕ) → most + 4096 ≤ n → Given n index steps item k on ws rs
    mid-given n h = record {
      graph = v.graph;
      loaded = v.loaded;
      reference = v.reference;
      path = v.path;
      count = v.count;
      stepped = mid.kept k v.path (omega arith) v.stepped;
      long = omega (arith, long, v.long);
      carries = (slot ∙ v.carries.0, mid.held);
      clear = mid.clear;
      good = v.good;
      model = mid.state;
      rep = mid.stood;
      small = omega (arith, mid.looked, h);
    }

    -- the record is one of those that start there
    pub mid-tryable : 0 < link → Tryable words (link - 1)
    mid-tryable h = let r = passes-next links link mid.rest h mid.passes in (subst (Each (Tryable words)) r.1 mid.tryable).0

    pub mid-less : 0 < link → left links (next_link links (link - 1)) < left links link
    mid-less h = left_less links link mid.rest h mid.passes mid.fewer

    module _ (h : 0 < link) {n : ℕ} (f : most + 4096 ≤ n) {a : Going} {steps' item' ws' rs' : List ℕ} (t : Tried words n index steps item k on ws rs (mid-given n f) (link - 1) a steps' item' ws' rs') where
      told : Tells (view_of v.graph) v.reference (frame_of s) a ws' rs' (one (setting_of (frame_of s)) mid.state (judge_of (link - 1)))
      unfolding mid-given
      told = subst (λ (x : Frame). Tells (view_of v.graph) v.reference x a ws' rs' (one (setting_of x) mid.state (judge_slot base x.limits.length (view_of v.graph) v.path (edge_words base (link - 1) words)))) mid.frame t.tells

      kept_on : KeptTo k steps₀ steps'
      kept_on j p l z = t.kept j p l (mid.kept j p l z)

      pub mid-again : (next : S.Search) → a ≡ Ok next → {link' : ℕ} → link' ≡ next_link links (link - 1) → Mid next steps' item' ws' rs' link'
      unfolding mid-given
      mid-again next e q =
          let u = tells-on (view_of v.graph) v.reference (frame_of s) a ws' rs' (one (setting_of (frame_of s)) mid.state (judge_of (link - 1))) next told e in
          let r = passes-next links link mid.rest h mid.passes in
          let l : length mid.rest ≡ suc (length r.0) = ap length r.1 in
          let o = (one-moved (setting_of (frame_of s)) mid.state u.0 (judge_of (link - 1)) u.1).looks in
          record {
            state = u.0;
            frame = u.2;
            stood = u.3;
            held = t.held;
            clear = subst (λ (z : Going). Clears z item') e t.clears;
            kept = kept_on;
            rest = r.0;
            passes = subst (λ (x : ℕ). Passes links x r.0) (sym q) r.2;
            tryable = (subst (Each (Tryable words)) r.1 mid.tryable).1;
            fewer = omega (arith, l, mid.fewer);
            looked = omega (arith, o, l, mid.looked);
            same = sym (each-one (setting_of (frame_of s)) mid.state u.0 (judge_of (link - 1)) (map judge_of r.0) u.1) ∙ ap (λ (x : List ℕ). each (setting_of (frame_of s)) mid.state (map judge_of x)) (sym r.1) ∙ mid.same;
          }

      pub mid-refused : (x : SearchRefusal) → a ≡ Err x → Expanded words most index steps₀ item₀ k s ws₀ rs₀ v see a steps' ws' rs'
      mid-refused x e =
          let u = tells-refused (view_of v.graph) v.reference (frame_of s) a ws' rs' (one (setting_of (frame_of s)) mid.state (judge_of (link - 1))) x told e in
          let r = passes-next links link mid.rest h mid.passes in
          let w : whole_of ≡ refuse x =
          sym mid.same ∙ ap (λ (y : List ℕ). each (setting_of (frame_of s)) mid.state (map judge_of y)) r.1 ∙ each-stop (setting_of (frame_of s)) mid.state x (judge_of (link - 1)) (map judge_of r.0) u in
          record {
            tells = subst (λ (y : Going). Tells (view_of v.graph) v.reference (frame_of s) y ws' rs' whole_of) (sym e)
                (subst (λ (y : Answer SearchRefusal (State Path)). Tells (view_of v.graph) v.reference (frame_of s) (Err x) ws' rs' y) (sym w) refl);
            kept = kept_on;
          }

    pub mid-end : link ≤ 0 → Expanded words most index steps₀ item₀ k s ws₀ rs₀ v see (Ok on) steps ws rs
    unfolding each
    mid-end h =
        let z : link ≡ 0 = omega (arith, h) in
        let n = passes-end links mid.rest (subst (λ (x : ℕ). Passes links x mid.rest) z mid.passes) in
        let w : whole_of ≡ ok mid.state = sym mid.same ∙ ap (λ (y : List ℕ). each (setting_of (frame_of s)) mid.state (map judge_of y)) n in
        record {
          tells = subst (λ (y : Answer SearchRefusal (State Path)). Tells (view_of v.graph) v.reference (frame_of s) (Ok on) ws rs y) (sym w) (mid.frame, mid.stood);
          kept = mid.kept;
        }
