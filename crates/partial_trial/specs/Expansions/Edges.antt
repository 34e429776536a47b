-- The loop over the outgoing edges: the enumeration's answer from here is its answer from the start.
-- Serves document 01, "Partial paths"; `outgoing` by ascending number.
use Prim.Native.Nat.{ℕ, suc, ◌+◌, ◌-◌, ◌<◌, ◌≤◌}
use Rattle.std.proofs.Common.{arith, ◌∙◌}
use Rattle.std.specs.Prelude.{◌≡◌, Bool}
use Rattle.std.proofs.Math.Path.{refl, sym, ap, subst}
use Rattle.std.proofs.Math.Bool.{true, false}
use mathlib.Core.List.{List, ◌∷◌, map, Memᴰ}
use Rattle.std.proofs.Math.ListN.{length}
use Rattle.semantics.specs.declared.refusal.PartialPathRefusal.{PartialPathRefusal}
use Rattle.semantics.specs.Lists.{pick, select}
use Rattle.semantics.specs.Answer.{Answer, ok, refuse}
use Rattle.semantics.specs.Answer.Laws.{ok-inj, refuse-ok}
use Rattle.semantics.specs.Graph.{View, view_of}
use Rattle.semantics.specs.Enumeration.{State, Setting, Try, one, each}
use Rattle.semantics.specs.Enumeration.Statistics.{one-moved}
use Rattle.semantics.specs.PartialPaths.{Route, owned_by, route_tries}
use Rattle.storage.specs.Index.{node_row, first_row, next_row, Runs}
use Rattle.storage.specs.Index.Use.{runs-end, runs-next, left, left_less, out-bounded}
use Rattle.search_state.specs.Items.{Carries}
use Rattle.partial_state.specs.declared.route.Ends.{Ends}
use Rattle.partial_state.specs.declared.filing.Filing.{Filing}
use Rattle.partial_state.specs.declared.extraction.ExtractionFrame.{ExtractionFrame}
use Rattle.partial_state.specs.Filings.{Fits}
use Rattle.partial_state.specs.Routes.{Waiting}
use Rattle.partial_state.specs.Reps.{frame_of, setting_of, Rep, Tells}
use Rattle.partial_state.specs.Reps.Laws.{tells-on, tells-refused}
use Rattle.partial_trial.specs.declared.expand.Sought.{Sought}
use Rattle.partial_trial.specs.Expansions.{sought_from, Roomy, Given, Looking, Owning, judge_of, Looked, Expanding, tries_of, Expanded}
use Rattle.partial_state.specs.Extractions.{Computation, Course, goes, stops}

-- ---- one edge of a list

module _ {R W : Type 0} (c : Setting R) (mine : ℕ → Bool) (judge : ℕ → Try R W) (e : ℕ) (es : List ℕ) (s : State W) where
  look-on : (u : State W) → pick (mine e) (one c s (judge e)) (ok s) ≡ ok u → each c s (map judge (select mine (e ∷ es))) ≡ each c u (map judge (select mine es))
  unfolding each select
  look-on u h = on (mine e) refl h
    where
      on : (b : Bool) → mine e ≡ b → pick b (one c s (judge e)) (ok s) ≡ ok u → each c s (map judge (select mine (e ∷ es))) ≡ each c u (map judge (select mine es))
      on true q h = rw (q, h)
      on false q h = rw q (ap (λ (x : State W). each c x (map judge (select mine es))) (ok-inj s u h))

  look_stop : (x : R) → pick (mine e) (one c s (judge e)) (ok s) ≡ refuse x → each c s (map judge (select mine (e ∷ es))) ≡ refuse x
  unfolding each select
  look_stop x h = on (mine e) refl h
    where
      on : (b : Bool) → mine e ≡ b → pick b (one c s (judge e)) (ok s) ≡ refuse x → each c s (map judge (select mine (e ∷ es))) ≡ refuse x
      on true q h = rw (q, h)
      on false q h = absurd (refuse-ok x s (sym h))

  look-counts : (u : State W) → pick (mine e) (one c s (judge e)) (ok s) ≡ ok u → u.tally.looked ≤ s.tally.looked + 1
  look-counts u h = on (mine e) h
    where
      on : (b : Bool) → pick b (one c s (judge e)) (ok s) ≡ ok u → u.tally.looked ≤ s.tally.looked + 1
      on true h = let m = (one-moved c s u (judge e) h).looks in omega (arith, m)
      on false h = let m : s.tally.looked ≡ u.tally.looked = ap (λ (x : State W). x.tally.looked) (ok-inj s u h) in omega (arith, m)

pub fits-same : {f : Filing} {db : List ℕ} (db' : List ℕ) → length db' ≡ length db → Fits f db → Fits f db'
fits-same db' e h = record { inside = omega (arith, e, h.inside); named = h.named }

module _ {most : ℕ} {index : List ℕ} {f : Filing} {ends : Ends} {k : ℕ} {item₀ : List ℕ} {x : Computation} {ws₀ db₀ : List ℕ} (w : Expanding most index f ends k item₀ x ws₀ db₀) where
  abbrev v : Given most index f ends.start k item₀ x ws₀ db₀
  v = w.given

  abbrev g : View
  g = view_of v.graph

  abbrev mine : ℕ → Bool
  mine e = owned_by g f.file e

  abbrev judging : ℕ → Try PartialPathRefusal Route
  judging e = judge_of (frame_of x) v.graph v.route e

  abbrev whole : Answer PartialPathRefusal (State Route)
  whole = each (setting_of (frame_of x)) v.model (tries_of (frame_of x) v.graph f.file v.route)

  -- at the head of the loop
  pub record Mid (on : Computation) (item ws db : List ℕ) (link : ℕ) : Type 0 where
    pub state : State Route
    pub frame : frame_of on ≡ frame_of x
    pub stood : Rep g f v.origin on ws db state
    pub carried : Carries x.frontier.length item v.route.edges
    pub rest : List ℕ
    pub runs : Runs index link rest
    pub fewer : length rest ≤ 4096
    pub leave : (e : ℕ) → Memᴰ e rest → Memᴰ e (g.out v.route.current)
    pub looked : state.tally.looked + length rest ≤ most + 4096
    pub same : each (setting_of (frame_of x)) state (map judging (select mine rest)) ≡ whole

  pub mid_start : {link : ℕ} → link ≡ first_row index ends.end → Mid x item₀ ws₀ db₀ link
  unfolding route_tries
  mid_start q =
      let h = out-bounded v.loaded v.route.current in
      record {
        state = v.model;
        frame = refl;
        stood = v.rep;
        carried = v.carries;
        rest = g.out v.route.current;
        runs = subst (λ (n : ℕ). Runs index n (g.out v.route.current)) (sym (q ∙ ap (first_row index) w.stands)) (v.loaded.runs v.route.current);
        fewer = h;
        leave = λ e m. m;
        looked = omega (arith, v.small, h);
        same = refl;
      }

  module _ {on : Computation} {item ws db : List ℕ} {link : ℕ} (mid : Mid on item ws db link) where
    -- no edge changes the length of the slots
    same-slot : on.frontier.length ≡ x.frontier.length
    same-slot = ap (λ (y : ExtractionFrame). y.slot) mid.frame

    pub mid-less : 0 < link → left index (next_row index (link - 1)) < left index link
    mid-less h = left_less index link mid.rest h mid.runs mid.fewer

    module _ (h : 0 < link) (long : length db ≡ length db₀) (n : ℕ) (b : most + 4096 ≤ n) where
      -- what the next edge is given
      pub mid-given : Looking n index f ends.start k (link - 1) item on ws db
      mid-given =
          let r = runs-next index link mid.rest h mid.runs in
          record {
            given = record {
              graph = v.graph;
              loaded = v.loaded;
              origin = v.origin;
              route = v.route;
              starts = v.starts;
              count = v.count;
              carries = subst (λ (y : ℕ). Carries y item v.route.edges) (sym same-slot) mid.carried;
              good = subst (λ (y : ℕ). Waiting g f.file y v.route) (sym same-slot) v.good;
              room = subst (Roomy k) (sym same-slot) v.room;
              fits = fits-same db long v.fits;
              model = mid.state;
              rep = mid.stood;
              small = omega (arith, mid.looked, b);
            };
            leaves = mid.leave (link - 1) (subst (λ (l : List ℕ). Memᴰ (link - 1) l) (sym r.1) (Memᴰ.head refl));
          }

      -- what the route's end tells of its edges is asked once
      pub mid-known : {own : Sought} → own ≡ sought_from f.file (node_row index ends.end) → own ≡ sought_from f.file ((view_of mid-given.given.graph).node mid-given.given.route.current)
      unfolding mid-given
      mid-known q = q ∙ ap (λ (m : ℕ). sought_from f.file (node_row index m)) w.stands ∙ ap (sought_from f.file) (v.loaded.node v.route.current)

      abbrev pub mid-owning : {own : Sought} → own ≡ sought_from f.file (node_row index ends.end) → Owning n index f ends.start k (link - 1) item on ws db own
      mid-owning {own} q = record { looking = mid-given; known = mid-known q }

      module _ (a : Course) (item' ws' db' : List ℕ) (t : Looked n index f ends.start k (link - 1) item on ws db mid-given a item' ws' db') where
        abbrev looking : Answer PartialPathRefusal (State Route)
        looking = pick (mine (link - 1)) (one (setting_of (frame_of x)) mid.state (judging (link - 1))) (ok mid.state)

        told : Tells g f v.origin (frame_of x) a ws' db' looking
        unfolding mid-given
        told = subst (λ (y : ExtractionFrame). Tells g f v.origin y a ws' db' (pick (mine (link - 1)) (one (setting_of y) mid.state (judge_of y v.graph v.route (link - 1))) (ok mid.state))) mid.frame t.tells

        pub mid-again : (next : Computation) → a ≡ goes next → {link' : ℕ} → link' ≡ next_row index (link - 1) → Mid next item' ws' db' link'
        unfolding mid-given
        mid-again next e q =
            let u = tells-on g f v.origin (frame_of x) a ws' db' looking next told e in
            let r = runs-next index link mid.rest h mid.runs in
            let l : length mid.rest ≡ suc (length r.0) = ap length r.1 in
            let o = look-counts (setting_of (frame_of x)) mine judging (link - 1) r.0 mid.state u.0 u.1 in
            record {
              state = u.0;
              frame = u.2;
              stood = u.3;
              carried = subst (λ (y : ℕ). Carries y item' v.route.edges) same-slot t.carries;
              rest = r.0;
              runs = subst (λ (y : ℕ). Runs index y r.0) (sym q) r.2;
              fewer = omega (arith, l, mid.fewer);
              leave = λ y m. mid.leave y (subst (λ (z : List ℕ). Memᴰ y z) (sym r.1) (Memᴰ.tail m));
              looked = omega (arith, o, l, mid.looked);
              same =
                  sym (look-on (setting_of (frame_of x)) mine judging (link - 1) r.0 mid.state u.0 u.1)
                  ∙ ap (λ (y : List ℕ). each (setting_of (frame_of x)) mid.state (map judging (select mine y))) (sym r.1)
                  ∙ mid.same;
            }

        pub mid-refused : (y : PartialPathRefusal) → a ≡ stops y → Expanded most index f ends k item₀ x ws₀ db₀ w a ws' db'
        mid-refused y e =
            let u = tells-refused g f v.origin (frame_of x) a ws' db' looking y told e in
            let r = runs-next index link mid.rest h mid.runs in
            let z : whole ≡ refuse y =
            sym mid.same ∙ ap (λ (l : List ℕ). each (setting_of (frame_of x)) mid.state (map judging (select mine l))) r.1 ∙ look_stop (setting_of (frame_of x)) mine judging (link - 1) r.0 mid.state y u.0 in
            subst (λ (o : Course). Tells g f v.origin (frame_of x) o ws' db' whole) (sym e)
            (subst (λ (o : Answer PartialPathRefusal (State Route)). Tells g f v.origin (frame_of x) (stops y) ws' db' o) (sym z) (refl, u.1))

    pub mid-end : link ≤ 0 → Expanded most index f ends k item₀ x ws₀ db₀ w (goes on) ws db
    unfolding each select
    mid-end h =
        let z : link ≡ 0 = omega (arith, h) in
        let n = runs-end index mid.rest (subst (λ (y : ℕ). Runs index y mid.rest) z mid.runs) in
        let o : whole ≡ ok mid.state = sym mid.same ∙ ap (λ (y : List ℕ). each (setting_of (frame_of x)) mid.state (map judging (select mine y))) n in
        subst (λ (y : Answer PartialPathRefusal (State Route)). Tells g f v.origin (frame_of x) (goes on) ws db y) (sym o) (mid.frame, mid.stood)
