-- The loop over the outgoing edges of a linear search.
-- Serves document 01, "Answer": "Linear stops at a second appendable edge of one node".
use Prim.Native.Nat.{ℕ, suc, ◌+◌, ◌-◌, ◌<◌, ◌≤◌}
use Rattle.std.proofs.Common.{arith, ◌∙◌}
use Rattle.std.specs.Prelude.{◌≡◌, Bool, Some, None, Ok, Err}
use Rattle.std.proofs.Math.Path.{refl, sym, ap, subst}
use Rattle.std.proofs.Math.Logic.{inl}
use Rattle.std.proofs.Math.Bool.{true, false}
use mathlib.Core.List.{List, [], ◌∷◌, map}
use Rattle.std.proofs.Math.Dec.{ltb}
use Rattle.std.proofs.Math.ListN.{length}
use Rattle.semantics.specs.declared.refusal.LinearRefusal.{LinearRefusal}
use Rattle.semantics.specs.declared.refusal.LinearRefusal.TheVariants as Linear
use Rattle.semantics.specs.Limits.{base, looked_before, slot_length, looked_ever}
use Rattle.semantics.specs.Answer.{Answer, ok, refuse}
use Rattle.semantics.specs.Graph.{node_id, view_of}
use Rattle.semantics.specs.Path.{Path}
use Rattle.semantics.specs.Enumeration.{State, Try, each}
use Rattle.semantics.specs.Direct.{judge, tries}
use Rattle.semantics.specs.Linear.{first, later, only_tries}
use Rattle.storage.specs.Index.{first_row, next_row, Runs}
use Rattle.storage.specs.Index.Use.{runs-end, runs-next, left, left_less, out-bounded}
use Rattle.search_state.specs.Items.{Carries}
use Rattle.search_state.specs.Reps.{Counts, Few}
use Rattle.linear_search.specs.declared.linear.Expansion.{Expansion}
use Rattle.linear_search.specs.Walks.{Frame, frame_of, setting_of, rest_tries, Track, Standing, Walk, judge_of, Paced}

-- an expansion that begins
pub record Opening (index steps item : List ℕ) (k end : ℕ) (on : Expansion) (rs : List ℕ) : Type 0 where
  pub track : Track index steps item k
  pub at : end ≡ track.path.end
  pub model : State Path
  pub counts : Counts on.state rs model
  pub few : Few model.tally.looked model.stats
  pub small : model.tally.looked ≤ looked_before
  pub none : model.rest ≡ []
  pub pending : model.pending ≡ []
  pub found : on.found ≡ 0

module _ {index steps item₀ : List ℕ} {k end : ℕ} {on₀ : Expansion} {rs₀ : List ℕ} (v : Opening index steps item₀ k end on₀ rs₀) where
  -- the enumeration's answer to the whole expansion
  abbrev pub expansion_of : Answer LinearRefusal (State Path)
  expansion_of = each (setting_of (frame_of on₀.state)) v.model (only_tries base on₀.state.budget.max_length (view_of v.track.graph) v.track.path)

  -- at the head of the loop
  pub record Mid (on : Expansion) (item rs : List ℕ) (link : ℕ) : Type 0 where
    pub state : State Path
    pub counted : Counts on.state rs state
    pub fewer : Few state.tally.looked state.stats
    pub rest : state.rest ≡ []
    pub stands : Standing (view_of v.track.graph) v.track.path on.found item state.pending
    pub carried : Carries slot_length item v.track.path.edges
    pub frame : frame_of on.state ≡ frame_of on₀.state
    pub expanded : on.state.budget.expanded ≡ on₀.state.budget.expanded
    pub edges : List ℕ
    pub runs : Runs index link edges
    pub few-edges : length edges ≤ 4096
    pub looked : state.tally.looked + length edges ≤ v.model.tally.looked + 4096
    pub same : each (setting_of (frame_of on₀.state)) state (rest_tries (ltb 0 on.found) v.track.path.end (map (judge_of v.track.graph on₀.state v.track.path) edges)) ≡ expansion_of

  pub mid_start : {link : ℕ} → link ≡ first_row index end → Mid on₀ item₀ rs₀ link
  unfolding only_tries tries
  mid_start q =
      let h = out-bounded v.track.loaded v.track.path.end in
      let z : ltb 0 on₀.found ≡ false = ap (λ (i : ℕ). ltb 0 i) v.found in
      record {
        state = v.model;
        counted = v.counts;
        fewer = v.few;
        rest = v.none;
        stands = inl (v.found, v.pending);
        carried = v.track.carries;
        frame = refl;
        expanded = refl;
        edges = (view_of v.track.graph).out v.track.path.end;
        runs = subst (λ (x : ℕ). Runs index x ((view_of v.track.graph).out v.track.path.end)) (sym (q ∙ ap (first_row index) v.at)) (v.track.loaded.runs v.track.path.end);
        few-edges = h;
        looked = omega (arith, h);
        same = ap (λ (b : Bool). each (setting_of (frame_of on₀.state)) v.model (rest_tries b v.track.path.end (map (judge_of v.track.graph on₀.state v.track.path) ((view_of v.track.graph).out v.track.path.end)))) z;
      }

  module _ {on : Expansion} {item rs : List ℕ} {link : ℕ} (mid : Mid on item rs link) where
    pub mid-walk : 0 < link → Walk looked_ever index steps item k link on rs
    mid-walk h = record {
      track = record { graph = v.track.graph; loaded = v.track.loaded; reference = v.track.reference; path = v.track.path; count = v.track.count; stepped = v.track.stepped; long = v.track.long; carries = mid.carried; good = v.track.good };
      linked = h;
      model = mid.state;
      counts = mid.counted;
      few = mid.fewer;
      small = omega (arith, mid.looked, v.small);
      none = mid.rest;
      standing = mid.stands;
    }

    pub mid-less : 0 < link → left index (next_row index (link - 1)) < left index link
    mid-less h = left_less index link mid.edges h mid.runs mid.few-edges

    -- the answer from this edge on, in the frame of the expansion
    answer-is : (h : 0 < link) {f : Frame} → f ≡ frame_of on₀.state → {x : Answer LinearRefusal (State Path)} (ts : List ℕ)
        → each (setting_of f) mid.state (rest_tries (ltb 0 on.found) v.track.path.end (judge Linear.TooLong base f.limits.length (view_of v.track.graph) v.track.path (link - 1) ∷ map (judge_of v.track.graph on₀.state v.track.path) ts)) ≡ x
        → each (setting_of (frame_of on₀.state)) mid.state (rest_tries (ltb 0 on.found) v.track.path.end (judge_of v.track.graph on₀.state v.track.path (link - 1) ∷ map (judge_of v.track.graph on₀.state v.track.path) ts)) ≡ x
    answer-is h e {x} ts q = subst (λ (y : Frame). each (setting_of y) mid.state (rest_tries (ltb 0 on.found) v.track.path.end (judge Linear.TooLong base y.limits.length (view_of v.track.graph) v.track.path (link - 1) ∷ map (judge_of v.track.graph on₀.state v.track.path) ts)) ≡ x) e q

    whole : (h : 0 < link) (x : Answer LinearRefusal (State Path))
        → ((ts : List ℕ) → each (setting_of (frame_of on.state)) mid.state (rest_tries (ltb 0 on.found) v.track.path.end (judge_of v.track.graph on.state v.track.path (link - 1) ∷ map (judge_of v.track.graph on₀.state v.track.path) ts)) ≡ x)
        → expansion_of ≡ x
    whole h x q =
        let r = runs-next index link mid.edges h mid.runs in
        sym mid.same ∙ ap (λ (y : List ℕ). each (setting_of (frame_of on₀.state)) mid.state (rest_tries (ltb 0 on.found) v.track.path.end (map (judge_of v.track.graph on₀.state v.track.path) y))) r.1
        ∙ answer-is h mid.frame r.0 (q r.0)

    module _ (h : 0 < link) (item' rs' : List ℕ) where
      pub mid-second : Paced looked_ever index steps item k link on rs (mid-walk h) (Ok None) item' rs' → expansion_of ≡ refuse (Linear.MultipleEdges (node_id end))
      unfolding mid-walk
      mid-second p = whole h (refuse (Linear.MultipleEdges (node_id v.track.path.end))) (λ ts. p (map (judge_of v.track.graph on₀.state v.track.path) ts)) ∙ ap (λ (i : ℕ). refuse (Linear.MultipleEdges (node_id i))) (sym v.at)

      pub mid-refused : (x : LinearRefusal) → Paced looked_ever index steps item k link on rs (mid-walk h) (Err x) item' rs' → expansion_of ≡ refuse x
      unfolding mid-walk
      mid-refused x p = whole h (refuse x) (λ ts. p (map (judge_of v.track.graph on₀.state v.track.path) ts))

      pub mid-again : (n : Expansion) → Paced looked_ever index steps item k link on rs (mid-walk h) (Ok (Some n)) item' rs' → {link' : ℕ} → link' ≡ next_row index (link - 1) → Mid n item' rs' link'
      unfolding mid-walk
      mid-again n p q =
          let r = runs-next index link mid.edges h mid.runs in
          let l : length mid.edges ≡ suc (length r.0) = ap length r.1 in
          let ts : List (Try LinearRefusal Path) = map (judge_of v.track.graph on₀.state v.track.path) r.0 in
          let w : expansion_of ≡ each (setting_of (frame_of on.state)) p.state (rest_tries (ltb 0 n.found) v.track.path.end ts) =
          sym mid.same ∙ ap (λ (y : List ℕ). each (setting_of (frame_of on₀.state)) mid.state (rest_tries (ltb 0 on.found) v.track.path.end (map (judge_of v.track.graph on₀.state v.track.path) y))) r.1
          ∙ answer-is h mid.frame r.0 (p.onward ts) in
          record {
            state = p.state;
            counted = p.counted;
            fewer = p.fewer;
            rest = p.rest;
            stands = p.stands;
            carried = p.carried;
            frame = p.frame ∙ mid.frame;
            expanded = p.expanded ∙ mid.expanded;
            edges = r.0;
            runs = subst (λ (x : ℕ). Runs index x r.0) (sym q) r.2;
            few-edges = omega (arith, l, mid.few-edges);
            looked = omega (arith, p.looked, l, mid.looked);
            same = ap (λ (f : Frame). each (setting_of f) p.state (rest_tries (ltb 0 n.found) v.track.path.end ts)) (sym mid.frame) ∙ sym w;
          }

    -- all edges were tried
    pub mid-end : link ≤ 0 → expansion_of ≡ ok mid.state
    unfolding each first later
    mid-end h =
        let z : link ≡ 0 = omega (arith, h) in
        let n = runs-end index mid.edges (subst (λ (x : ℕ). Runs index x mid.edges) z mid.runs) in
        sym mid.same ∙ ap (λ (y : List ℕ). each (setting_of (frame_of on₀.state)) mid.state (rest_tries (ltb 0 on.found) v.track.path.end (map (judge_of v.track.graph on₀.state v.track.path) y))) n ∙ nothing (ltb 0 on.found)
      where
        nothing : (b : Bool) → each (setting_of (frame_of on₀.state)) mid.state (rest_tries b v.track.path.end []) ≡ ok mid.state
        nothing true = refl
        nothing false = refl
