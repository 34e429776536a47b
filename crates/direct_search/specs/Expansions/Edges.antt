-- The loop over the outgoing edges: the enumeration's answer from here is its answer from the start.
-- Serves document 01, "Answer": `outgoing` by ascending number.
use Prim.Native.Nat.{ℕ, suc, ◌+◌, ◌-◌, ◌<◌, ◌≤◌}
use Rattle.std.proofs.Common.{arith, ◌∙◌}
use Rattle.std.specs.Prelude.{◌≡◌, refl, Ok, Err}
use Rattle.std.proofs.Math.Path.{sym, ap, subst}
use mathlib.Core.List.{List, map, Memᴰ}
use Rattle.std.proofs.Math.ListN.{length}
use Rattle.semantics.specs.ReplayedPaths.{step_at}
use Rattle.semantics.specs.declared.refusal.SearchRefusal.{SearchRefusal}
use Rattle.semantics.specs.declared.refusal.SearchRefusal.TheVariants as Search
use Rattle.semantics.specs.Limits.{base, slot_length}
use Rattle.semantics.specs.Answer.{Answer, ok, refuse}
use Rattle.semantics.specs.Graph.{view_of}
use Rattle.semantics.specs.Path.{Path}
use Rattle.semantics.specs.Enumeration.{State, Try, one, each}
use Rattle.semantics.specs.Enumeration.Statistics.{one-moved}
use Rattle.semantics.specs.Direct.{judge, tries}
use Rattle.storage.specs.Index.{first_row, next_row, Runs}
use Rattle.storage.specs.Index.Use.{runs-end, runs-next, left, left_less, out-bounded}
use Rattle.search_state.specs.declared.search.Search as S
use Rattle.search_state.specs.Searches.{Going}
use Rattle.search_state.specs.Items.{Clear, Carries}
use Rattle.search_state.specs.Searches.{Clears}
use Rattle.search_state.specs.declared.progress.Frame.{Frame}
use Rattle.search_state.specs.Progresses.{frame_of}
use Rattle.search_state.specs.Reps.{setting_of, Rep, Tells}
use Rattle.search_state.specs.Reps.Laws.{tells-on, tells-refused}
use Rattle.search_state.specs.Runs.{each-one, each-stop}
use Rattle.direct_search.specs.Expansions.{Given, Tried, Expanded}

module _ (most : ℕ) (index steps item₀ : List ℕ) (k : ℕ) (s : S.Search) (ws₀ rs₀ : List ℕ) (v : Given most index steps item₀ k s ws₀ rs₀) where
  abbrev judge_of : ℕ → Try SearchRefusal Path
  judge_of e = judge Search.TooLong base (frame_of s).limits.length (view_of v.graph) v.path e

  -- at the head of the loop
  pub record Mid (on : S.Search) (item ws rs : List ℕ) (link : ℕ) : Type 0 where
    pub state : State Path
    pub frame : frame_of on ≡ frame_of s
    pub stood : Rep (view_of v.graph) v.reference on ws rs state
    pub carried : Carries slot_length item v.path.edges
    pub clear : Clear on.frontier.length item
    pub rest : List ℕ
    pub runs : Runs index link rest
    pub leaving : (e : ℕ) → Memᴰ e rest → Memᴰ e ((view_of v.graph).out v.path.end)
    pub fewer : length rest ≤ 4096
    pub looked : state.tally.looked + length rest ≤ most + 4096
    pub same : each (setting_of (frame_of s)) state (map judge_of rest) ≡ each (setting_of (frame_of s)) v.model (tries Search.TooLong base (frame_of s).limits.length (view_of v.graph) v.path)

  pub mid_start : {n : ℕ} → n ≡ (step_at steps k).end → {link : ℕ} → link ≡ first_row index n → Mid s item₀ ws₀ rs₀ link
  unfolding tries
  mid_start e q =
      let h = out-bounded v.loaded v.path.end in
      record {
        state = v.model;
        frame = refl;
        stood = v.rep;
        carried = v.carries;
        clear = v.clear;
        rest = (view_of v.graph).out v.path.end;
        runs = subst (λ (x : ℕ). Runs index x ((view_of v.graph).out v.path.end)) (sym (q ∙ ap (first_row index) (e ∙ v.stepped.end))) (v.loaded.runs v.path.end);
        leaving = λ e m. m;
        fewer = h;
        looked = omega (arith, v.small, h);
        same = refl;
      }

  module _ {on : S.Search} {item ws rs : List ℕ} {link : ℕ} (mid : Mid on item ws rs link) where
    -- what the next edge is given
    unfoldable pub mid-given : (n : ℕ) → most + 4096 ≤ n → Given n index steps item k on ws rs
    mid-given n h = record {
      graph = v.graph;
      loaded = v.loaded;
      reference = v.reference;
      path = v.path;
      count = v.count;
      stepped = v.stepped;
      long = v.long;
      carries = mid.carried;
      clear = mid.clear;
      good = v.good;
      model = mid.state;
      rep = mid.stood;
      small = omega (arith, mid.looked, h);
    }

    pub mid-less : 0 < link → left index (next_row index (link - 1)) < left index link
    mid-less h = left_less index link mid.rest h mid.runs mid.fewer

    module _ (h : 0 < link) {n : ℕ} (f : most + 4096 ≤ n) {a : Going} {item' ws' rs' : List ℕ} (t : Tried n index steps item k on ws rs (mid-given n f) (link - 1) a item' ws' rs') where
      told : Tells (view_of v.graph) v.reference (frame_of s) a ws' rs' (one (setting_of (frame_of s)) mid.state (judge_of (link - 1)))
      unfolding mid-given
      told = subst (λ (x : Frame). Tells (view_of v.graph) v.reference x a ws' rs' (one (setting_of x) mid.state (judge Search.TooLong base x.limits.length (view_of v.graph) v.path (link - 1)))) mid.frame t.tells

      pub mid-again : (next : S.Search) → a ≡ Ok next → {link' : ℕ} → link' ≡ next_row index (link - 1) → Mid next item' ws' rs' link'
      unfolding mid-given
      mid-again next e q =
          let u = tells-on (view_of v.graph) v.reference (frame_of s) a ws' rs' (one (setting_of (frame_of s)) mid.state (judge_of (link - 1))) next told e in
          let r = runs-next index link mid.rest h mid.runs in
          let l : length mid.rest ≡ suc (length r.0) = ap length r.1 in
          let o = (one-moved (setting_of (frame_of s)) mid.state u.0 (judge_of (link - 1)) u.1).looks in
          record {
            state = u.0;
            frame = u.2;
            stood = u.3;
            carried = t.carries;
            clear = subst (λ (z : Going). Clears z item') e t.clears;
            rest = r.0;
            runs = subst (λ (x : ℕ). Runs index x r.0) (sym q) r.2;
            leaving = λ e m. mid.leaving e (subst (Memᴰ e) (sym r.1) (Memᴰ.tail m));
            fewer = omega (arith, l, mid.fewer);
            looked = omega (arith, o, l, mid.looked);
            same = sym (each-one (setting_of (frame_of s)) mid.state u.0 (judge_of (link - 1)) (map judge_of r.0) u.1) ∙ ap (λ (x : List ℕ). each (setting_of (frame_of s)) mid.state (map judge_of x)) (sym r.1) ∙ mid.same;
          }

      pub mid-refused : (x : SearchRefusal) → a ≡ Err x → Expanded most index steps item₀ k s ws₀ rs₀ v a ws' rs'
      mid-refused x e =
          let u = tells-refused (view_of v.graph) v.reference (frame_of s) a ws' rs' (one (setting_of (frame_of s)) mid.state (judge_of (link - 1))) x told e in
          let r = runs-next index link mid.rest h mid.runs in
          let w : each (setting_of (frame_of s)) v.model (tries Search.TooLong base (frame_of s).limits.length (view_of v.graph) v.path) ≡ refuse x =
          sym mid.same ∙ ap (λ (y : List ℕ). each (setting_of (frame_of s)) mid.state (map judge_of y)) r.1 ∙ each-stop (setting_of (frame_of s)) mid.state x (judge_of (link - 1)) (map judge_of r.0) u in
          subst (λ (y : Going). Tells (view_of v.graph) v.reference (frame_of s) y ws' rs' (each (setting_of (frame_of s)) v.model (tries Search.TooLong base (frame_of s).limits.length (view_of v.graph) v.path))) (sym e)
          (subst (λ (y : Answer SearchRefusal (State Path)). Tells (view_of v.graph) v.reference (frame_of s) (Err x) ws' rs' y) (sym w) refl)

    pub mid-end : link ≤ 0 → Expanded most index steps item₀ k s ws₀ rs₀ v (Ok on) ws rs
    unfolding each
    mid-end h =
        let z : link ≡ 0 = omega (arith, h) in
        let n = runs-end index mid.rest (subst (λ (x : ℕ). Runs index x mid.rest) z mid.runs) in
        let w : each (setting_of (frame_of s)) v.model (tries Search.TooLong base (frame_of s).limits.length (view_of v.graph) v.path) ≡ ok mid.state =
        sym mid.same ∙ ap (λ (y : List ℕ). each (setting_of (frame_of s)) mid.state (map judge_of y)) n in
        subst (λ (y : Answer SearchRefusal (State Path)). Tells (view_of v.graph) v.reference (frame_of s) (Ok on) ws rs y) (sym w) (mid.frame, mid.stood)
