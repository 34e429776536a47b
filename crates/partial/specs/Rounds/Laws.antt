-- The rounds of a computation: a route is popped and expanded; the run from here is the run from the start.
-- Serves document 01, "Partial paths" and "Budget and frontier"; 36 of "Turned back".
use Prim.Native.Nat.{ℕ, zero, suc, ◌+◌, ◌-◌, ◌*◌, ◌<◌, ◌≤◌}
use Rattle.std.proofs.Common.{arith, sym, ap₂, subst, ◌∙◌, inl, ⊎_elim, length-append, take_at, ltb-true, leb-true}
use Rattle.std.specs.Prelude.{◌≡◌, refl, Bool, true, false, List, [], ◌∷◌, ◌++◌, leb, ltb, take, drop, get_or}
use Rattle.std.proofs.Math.Path.{ap}
use Rattle.std.proofs.Math.ListN.{length, length-map}
use Rattle.std.proofs.lemmas.List.{take-append-le}
use Rattle.semantics.specs.declared.graph.Edge.{Edge}
use Rattle.semantics.specs.declared.search.SearchStats.{SearchStats}
use Rattle.semantics.specs.declared.search.PartialPathStats.{PartialPathStats}
use Rattle.semantics.specs.declared.refusal.PartialPathRefusal.{PartialPathRefusal}
use Rattle.semantics.specs.declared.refusal.PartialPathRefusal.TheVariants.{TooManyExpansions}
use Rattle.semantics.specs.Lists.{cons_if, select}
use Rattle.semantics.specs.Lists.Laws.{and-true}
use Rattle.semantics.specs.Limits.{base, max_edges, slot_length, max_expansions, looked_before}
use Rattle.semantics.specs.Words.{zeros}
use Rattle.words.specs.Slots.Wider.{padded-is}
use Rattle.path_frontier.specs.declared.frontier.Frontier.{Frontier}
use Rattle.path_frontier.specs.Frontier.{greatest_in, Framed, widened, Wider}
use Rattle.semantics.specs.Answer.{Answer, ok, refuse}
use Rattle.semantics.specs.Graph.{View, view_of}
use Rattle.semantics.specs.Enumeration.{State, Setting, Try, Tally, over, expand, each, turn, run, final, follow, merge}
use Rattle.semantics.specs.Enumeration.Statistics.{each-moved}
use Rattle.semantics.specs.PartialPaths.{Route, owned_by, judge_route, route_tries, partial_stats}
use Rattle.storage.specs.Index.{edge_row}
use Rattle.storage.specs.Index.Use.{out-bounded}
use Rattle.path.specs.Replays.Laws.{edges_are}
use Rattle.search_state.specs.Items.{Carries}
use Rattle.partial_state.specs.declared.route.Ends as R
use Rattle.partial_state.specs.declared.filing.Filing.{Filing}
use Rattle.partial_state.specs.declared.extraction.ExtractionFrame.{ExtractionFrame}
use Rattle.partial_state.specs.Routes.{held, ends_in, ends_of, Waiting}
use Rattle.partial_state.specs.Routes.Laws.{held-long, held-count, held-carries, held-padded, held-ends}
use Rattle.database.specs.Filing.{put_routes}
use Rattle.partial_state.specs.Filings.{filed_in}
use Rattle.partial_state.specs.Extractions.{Computation, Course, goes, stops, Opening, closing, opening, refusing, partial_of, with_frontier, slotted_by, Taking}
use Rattle.partial_state.specs.Reps.{Counts, frame_of, setting_of, Rep, Tells}
use Rattle.partial_state.specs.Reps.Laws.{untouched, tells-on, tells-refused, rep-wider, rep-grows}
use Rattle.partial_state.specs.Reps.Rounds.{Opened, round-over, round-expand, round-many}
use Rattle.std.specs.Prelude.{Ok, Err}
use Rattle.partial_trial.specs.Expansions.{Roomy, Expanding, tries_of, Expanded}
use Rattle.partial.specs.Rounds.Kept.{merged-kept}
use Rattle.partial.specs.Rounds.{is_filed, Grown, MadeRoom, Rounding, Rounded, Driving, Ends, run_from, DrivenTo}
use Rattle.partial_trial.specs.Expansions.Edges.{fits-same}

-- ---- one round

module _ {most : ℕ} {index : List ℕ} {f : Filing} {item : List ℕ} {x : Computation} {ws db : List ℕ} (v : Rounding most index f item x ws db) where
  count : get_or item 0 0 ≡ length v.route.edges
  count = ap (λ (l : List ℕ). get_or l 0 0) v.words ∙ held-count x.frontier.length v.route.start v.route.edges (omega (arith, v.rep.sized.start))

  pub round-short : get_or item 0 0 ≤ max_edges
  round-short = let c = count in omega (arith, c, v.good.0.short)

  carried : Carries x.frontier.length item v.route.edges
  carried = subst (λ (l : List ℕ). Carries x.frontier.length l v.route.edges) (sym v.words) (held-carries x.frontier.length v.route.start v.route.edges v.rep.sized.start v.good.1)

  pub round-long : 2 ≤ length item
  round-long = omega (arith, carried.long, v.rep.sized.start)

  pub round-inside : get_or item 0 0 < length item
  round-inside = let c = count in omega (arith, carried.long, c, v.good.1)

  ends-are : {e : R.Ends} → e ≡ ends_in (edge_row index) item → e ≡ ends_of v.route
  ends-are q = q ∙ ap (λ (h : ℕ → Edge). ends_in h item) (edges_are v.graph index v.loaded) ∙ ap (ends_in (view_of v.graph).edge) v.words ∙ held-ends x.frontier.length v.good.0 v.rep.sized.start v.good.1

  module _ {e : R.Ends} (q : e ≡ ends_in (edge_row index) item) where
    pub round-given : Expanding most index f e (get_or item 0 0) item x ws db
    round-given = record {
      given = record {
        graph = v.graph;
        loaded = v.loaded;
        origin = v.origin;
        route = v.route;
        starts = ap (λ (u : R.Ends). u.start) (ends-are q);
        count = sym count;
        carries = carried;
        good = v.good;
        room = subst (λ (n : ℕ). Roomy n x.frontier.length) (sym count) v.room;
        fits = v.fits;
        model = v.model;
        rep = v.rep;
        small = v.small;
      };
      stands = ap (λ (u : R.Ends). u.end) (ends-are q);
    }

    pub rounded : (a : Course) (ws' db' : List ℕ) → Expanded most index f e (get_or item 0 0) item x ws db round-given a ws' db' → Rounded most index f item x ws db v a ws' db'
    unfolding round-given
    rounded a ws' db' h = h

-- ---- room for one more edge

-- the words of a route in the front of the item
front-count : (L : ℕ) (item : List ℕ) → 0 < L → get_or (take L item) 0 0 ≡ get_or item 0 0
front-count zero item h = absurd (omega (arith, h))
front-count (suc m) [] h = refl
front-count (suc m) (w ∷ item) h = refl

-- the front of the item as it is lent
pub front-lent : (L : ℕ) (item : List ℕ) → take (L - 0) (drop 0 item) ≡ take L item
front-lent L item = ap (λ (n : ℕ). take n item) (let z : L - 0 ≡ L = omega arith in z)

-- a round's route in other words that are the same
unfoldable pub round_same : {most : ℕ} {index : List ℕ} {f : Filing} {item item' : List ℕ} {x : Computation} {ws db : List ℕ} → item' ≡ item → Rounding most index f item x ws db → Rounding most index f item' x ws db
round_same e v = record {
  graph = v.graph;
  loaded = v.loaded;
  origin = v.origin;
  route = v.route;
  words = e ∙ v.words;
  good = v.good;
  room = v.room;
  fits = v.fits;
  model = v.model;
  rep = v.rep;
  small = v.small;
}

module _ (x : Computation) (item ws : List ℕ) (y : Computation) (item' ws' : List ℕ) (made : MadeRoom x item ws y item' ws') where
  wider-is : (m : Grown x item ws y item' ws') → y ≡ with_frontier (widened x.frontier m.words) x
  wider-is m = m.grows.is ∙ ap (λ (n : Frontier). with_frontier n x) m.grows.widens.is

  -- only the words of a slot have changed
  pub room-frame : frame_of y ≡ slotted_by y.frontier.length (frame_of x)
  room-frame = ⊎_elim
      (λ (m : (y ≡ x) × (item' ≡ item) × (ws' ≡ ws) × Roomy (get_or item 0 0) x.frontier.length). ap (λ (z : Computation). slotted_by y.frontier.length (frame_of z)) m.0)
      (λ (m : Grown x item ws y item' ws'). subst (λ (z : Computation). frame_of z ≡ slotted_by z.frontier.length (frame_of x)) (sym (wider-is m)) refl)
      made

  pub room-limit : y.budget ≡ x.budget
  room-limit = ⊎_elim
      (λ (m : (y ≡ x) × (item' ≡ item) × (ws' ≡ ws) × Roomy (get_or item 0 0) x.frontier.length). ap (λ (z : Computation). z.budget) m.0)
      (λ (m : Grown x item ws y item' ws'). ap (λ (z : Computation). z.budget) (wider-is m))
      made

  module _ {g : View} {f : Filing} {origin db : List ℕ} {m : State Route} (rep : Rep g f origin x ws db m) where
    pub room-rep : Rep g f origin y ws' db m
    room-rep = ⊎_elim
        (λ (k : (y ≡ x) × (item' ≡ item) × (ws' ≡ ws) × Roomy (get_or item 0 0) x.frontier.length). subst (λ (z : Computation). Rep g f origin z ws' db m) (sym k.0) (subst (λ (z : List ℕ). Rep g f origin x z db m) (sym k.2) rep))
        (λ (k : Grown x item ws y item' ws'). rep-grows rep k.words (omega (arith, k.longer)) k.most k.grows)
        made

    module _ (r : Route) (words : take x.frontier.length item ≡ held x.frontier.length r) (good : Waiting g f.file x.frontier.length r) where
      counted : get_or item 0 0 ≡ length r.edges
      counted = sym (front-count x.frontier.length item (omega (arith, rep.sized.start))) ∙ ap (λ (l : List ℕ). get_or l 0 0) words ∙ held-count x.frontier.length r.start r.edges (omega (arith, rep.sized.start))

      -- the route has the same edges, in as many words as a slot has now
      pub room-words : take y.frontier.length item' ≡ held y.frontier.length r
      room-words = ⊎_elim
          (λ (k : (y ≡ x) × (item' ≡ item) × (ws' ≡ ws) × Roomy (get_or item 0 0) x.frontier.length). subst (λ (z : Computation). take z.frontier.length item' ≡ held z.frontier.length r) (sym k.0) (ap (take x.frontier.length) k.1 ∙ words))
          (λ (k : Grown x item ws y item' ws').
          let L : ℕ = x.frontier.length in
          let M : ℕ = k.words in
          let e : item' ≡ held slot_length r = k.rest ∙ ap (λ (l : List ℕ). l ++ zeros (slot_length - L)) words ∙ padded-is slot_length L (held L r) (held-long L r) ∙ held-padded slot_length L r rep.sized.start rep.sized.most good.1 in
          subst (λ (z : Computation). take z.frontier.length item' ≡ held z.frontier.length r) (sym (wider-is k)) (ap (take M) (e ∙ sym (held-padded slot_length M r (omega (arith, rep.sized.start, k.longer)) k.most (omega (arith, good.1, k.longer))) ∙ sym (padded-is slot_length M (held M r) (held-long M r))) ∙ take_at (held M r) (zeros (slot_length - M)) M (held-long M r)))
          made

      pub room-good : Waiting g f.file y.frontier.length r
      room-good = ⊎_elim
          (λ (k : (y ≡ x) × (item' ≡ item) × (ws' ≡ ws) × Roomy (get_or item 0 0) x.frontier.length). subst (λ (z : Computation). Waiting g f.file z.frontier.length r) (sym k.0) good)
          (λ (k : Grown x item ws y item' ws').
          subst (λ (z : Computation). Waiting g f.file z.frontier.length r) (sym (wider-is k)) (good.0, omega (arith, good.1, k.longer)))
          made

      pub room-roomy : Roomy (length r.edges) y.frontier.length
      room-roomy = ⊎_elim
          (λ (k : (y ≡ x) × (item' ≡ item) × (ws' ≡ ws) × Roomy (get_or item 0 0) x.frontier.length). subst (λ (z : Computation). Roomy (length r.edges) z.frontier.length) (sym k.0) (subst (λ (n : ℕ). Roomy n x.frontier.length) counted k.3))
          (λ (k : Grown x item ws y item' ws'). subst (λ (z : Computation). Roomy (length r.edges) z.frontier.length) (sym (wider-is k)) (inl (omega (arith, good.1, k.longer))))
          made

-- ---- the run

module _ {A W : Type 0} (c : Setting A) (f : W → List (Try A W)) (n : ℕ) (m : State W) where
  run-over : (u : State W) → turn c m ≡ over u → run c f n m ≡ ok u
  unfolding run final follow
  run-over u e = on n
    where
      on : (n : ℕ) → run c f n m ≡ ok u
      on zero = rw e
      on (suc n) = rw e

  run-many : (w : W) (u : State W) → turn c m ≡ expand w u → n ≡ 0 → run c f n m ≡ refuse c.too_many
  unfolding run final
  run-many w u e z = rw (z, e)

  run-round : (w : W) (u x : State W) → turn c m ≡ expand w u → 0 < n → each c u (f w) ≡ ok x → run c f n m ≡ run c f (n - 1) (merge c.order x)
  unfolding run follow
  run-round w u x e h k = let z : n ≡ suc (n - 1) = omega (arith, h) in ap (λ (j : ℕ). run c f j m) z ∙ rw (e, k)

  run-refused : (w : W) (u : State W) (x : A) → turn c m ≡ expand w u → 0 < n → each c u (f w) ≡ refuse x → run c f n m ≡ refuse x
  unfolding run follow
  run-refused w u x e h k = let z : n ≡ suc (n - 1) = omega (arith, h) in ap (λ (j : ℕ). run c f j m) z ∙ rw (e, k)

-- the statistics of a finished computation
abbrev told_of : ℕ → SearchStats → PartialPathStats
told_of n s = record { expanded = s.expanded; found = s.complete; cycles = s.cycles; length_limited = s.length_limited; count_limited = s.count_limited; waited = n }

finished : {n : Computation} {u : State Route} → Counts n u → greatest_in n.frontier ≡ u.tally.waited → partial_of n ≡ partial_stats u
finished c w = ap₂ told_of w c.stats

select-fewer : (b : ℕ → Bool) (l : List ℕ) → length (select b l) ≤ length l
unfolding select
select-fewer b [] = omega arith
select-fewer b (x ∷ l) = on (b x) (select-fewer b l)
  where
    on : (t : Bool) → length (select b l) ≤ length l → length (cons_if t x (select b l)) ≤ suc (length l)
    on true h = omega (arith, h)
    on false h = omega (arith, h)

-- what is filed is what there is room for
filed-first : (f : Filing) (ls ks : List Route) (ws : List ℕ) → take f.room ls ≡ take f.room ks → filed_in f ls ws ≡ filed_in f ks ws
unfolding filed_in
filed-first f ls ks ws e = ap (λ (l : List Route). put_routes base f.file f.first l ws) e

-- ---- the loop

-- what a test of `is_filed` that succeeded says
pub filed-tests : (f : Filing) (found : ℕ) → is_filed f found ≡ true → (0 < f.room) × (f.room ≤ found)
filed-tests f found e = let h = and-true (ltb 0 f.room) (leb f.room found) e in (ltb-true 0 f.room h.0, leb-true f.room found h.1)

module _ {index : List ℕ} {f : Filing} {item₀ : List ℕ} {x : Computation} {ws₀ db₀ : List ℕ} (v : Driving index f item₀ x ws₀ db₀) where
  abbrev g : View
  g = view_of v.graph

  abbrev whole : Answer PartialPathRefusal (State Route)
  whole = run_from (frame_of x) v.graph f.file (max_expansions - x.budget.expanded) v.model

  abbrev trying : ExtractionFrame → Route → List (Try PartialPathRefusal Route)
  trying fr r = tries_of fr v.graph f.file r

  -- at the head of the loop
  pub record Turning (on : Computation) (ws db : List ℕ) : Type 0 where
    pub state : State Route
    pub stood : Rep g f v.origin on ws db state
    pub looked : state.tally.looked ≤ 4096 * on.budget.expanded
    pub expanded : on.budget.expanded ≤ max_expansions
    pub same : run_from (frame_of on) v.graph f.file (max_expansions - on.budget.expanded) state ≡ whole

  -- as many are found as there is room for: no other is filed behind them
  pub turn-filed : {on : Computation} {ws db : List ℕ} → Turning on ws db → 0 < f.room → f.room ≤ on.found → (s : PartialPathStats) → DrivenTo index f item₀ x ws₀ db₀ v (Ok s) db
  turn-filed {on} {db} t h k s = told whole t.same
    where
      more : (l : List Route) (r : Route) → (f.room ≤ length l) × (take f.room l ≡ take f.room t.state.kept) → (f.room ≤ length (l ++ (r ∷ []))) × (take f.room (l ++ (r ∷ [])) ≡ take f.room t.state.kept)
      more l r p = (omega (arith, p.0, length-append l (r ∷ [])), take-append-le f.room l (r ∷ []) p.0 ∙ p.1)

      told : (y : Answer PartialPathRefusal (State Route)) → run_from (frame_of on) v.graph f.file (max_expansions - on.budget.expanded) t.state ≡ y → Ends f v.origin (Ok s) db y
      told (refuse r) e = h
      told (ok u) e =
          let c : f.room ≤ length t.state.kept = omega (arith, k, t.stood.counts.found) in
          let w = merged-kept (setting_of (frame_of on)) (λ l. (f.room ≤ length l) × (take f.room l ≡ take f.room t.state.kept)) more (trying (frame_of on)) u (max_expansions - on.budget.expanded) t.state (c, refl) e in
          (λ z. absurd (omega (arith, h, z)), t.stood.filed ∙ sym (filed-first f u.kept t.state.kept v.origin w.1))

  pub turn-start : Turning x ws₀ db₀
  turn-start = record { state = v.model; stood = v.rep; looked = v.looked; expanded = v.expanded; same = refl }

  module _ {on : Computation} {ws db : List ℕ} (t : Turning on ws db) {a : Opening} {item' ws' : List ℕ} (k : Taking on ws a item' ws') where
    pub turn-over : (n : Computation) → a ≡ closing n → {s : PartialPathStats} → s ≡ partial_of n → DrivenTo index f item₀ x ws₀ db₀ v (Ok s) db
    turn-over n e {s} q =
        let d = round-over g f v.origin on ws db t.state t.stood a item' ws' n k e in
        let w = run-over (setting_of (frame_of on)) (trying (frame_of on)) (max_expansions - on.budget.expanded) (merge on.frontier.order t.state) d.model d.round in
        subst (λ (y : Answer PartialPathRefusal (State Route)). Ends f v.origin (Ok s) db y) (sym (sym t.same ∙ w))
        (λ z. (q ∙ finished d.counts d.waited, ap (λ (y : PartialPathStats). y.found) q ∙ d.counts.found), t.stood.filed ∙ ap (λ (l : List Route). filed_in f l v.origin) (sym d.kept))

    pub turn_many : (r : PartialPathRefusal) → a ≡ refusing r → DrivenTo index f item₀ x ws₀ db₀ v (Err r) db
    turn_many r e =
        let d = round-many g f v.origin on ws db t.state t.stood a item' ws' r k e in
        let w = run-many (setting_of (frame_of on)) (trying (frame_of on)) (max_expansions - on.budget.expanded) (merge on.frontier.order t.state) d.1.route d.1.model d.1.round (omega (arith, d.1.before)) in
        subst (λ (y : Answer PartialPathRefusal (State Route)). Ends f v.origin (Err r) db y) (sym (sym t.same ∙ w)) (d.0, untouched t.stood)

    module _ (next : Computation) (e : a ≡ opening next) (long : length db ≡ length db₀) where
      opened : Opened g f v.origin on ws db t.state t.stood item' ws' next
      opened = round-expand g f v.origin on ws db t.state t.stood a item' ws' next k e

      -- what making room is given
      pub turn-framed : Framed next.frontier ws' × Wider next.frontier ws' slot_length
      turn-framed = let o = opened in (o.rep.stands.0.framed, rep-wider o.rep)

      pub turn-short : (w : List ℕ) → item' ≡ take next.frontier.length w → get_or w 0 0 < slot_length
      turn-short w front =
          let o = opened in
          let h : 0 < next.frontier.length = omega (arith, o.rep.sized.start) in
          let c : get_or w 0 0 ≡ length o.route.edges = sym (front-count next.frontier.length w h) ∙ ap (λ (l : List ℕ). get_or l 0 0) (sym front ∙ o.words) ∙ held-count next.frontier.length o.route.start o.route.edges h in
          omega (arith, c, o.good.0.short)

    module _ (next : Computation) (e : a ≡ opening next) (long : length db ≡ length db₀) (whole_item : List ℕ) (front : item' ≡ take next.frontier.length whole_item) (y : Computation) (item'' ws₁ : List ℕ) (made : MadeRoom next whole_item ws' y item'' ws₁) where
      abbrev opening-is : Opened g f v.origin on ws db t.state t.stood item' ws' next
      opening-is = opened next e long

      words_are : take next.frontier.length whole_item ≡ held next.frontier.length opening-is.route
      words_are = sym front ∙ opening-is.words

      -- what the round is given
      pub turn-given : Rounding looked_before index f (take y.frontier.length item'') y ws₁ db
      turn-given =
          let o = opening-is in
          let l : o.model.tally.looked ≡ t.state.tally.looked = ap (λ (y : Tally). y.looked) o.tally in
          record {
            graph = v.graph;
            loaded = v.loaded;
            origin = v.origin;
            route = o.route;
            words = room-words next whole_item ws' y item'' ws₁ made o.rep o.route words_are o.good;
            good = room-good next whole_item ws' y item'' ws₁ made o.rep o.route words_are o.good;
            room = room-roomy next whole_item ws' y item'' ws₁ made o.rep o.route words_are o.good;
            fits = fits-same db long v.fits;
            model = o.model;
            rep = room-rep next whole_item ws' y item'' ws₁ made o.rep;
            small = omega (arith, l, t.looked, t.expanded);
          }

      -- the frame is that of the loop, but for the words of a slot
      framed : frame_of y ≡ slotted_by y.frontier.length (frame_of on)
      framed = room-frame next whole_item ws' y item'' ws₁ made ∙ ap (slotted_by y.frontier.length) opening-is.frame

      module _ (b : Course) (ws'' db' : List ℕ) (r : Rounded looked_before index f (take y.frontier.length item'') y ws₁ db turn-given b ws'' db') where
        told : Tells g f v.origin (frame_of y) b ws'' db' (each (setting_of (frame_of y)) opening-is.model (trying (frame_of y) opening-is.route))
        unfolding turn-given
        told = r

        onto : Tells g f v.origin (frame_of y) b ws'' db' (each (setting_of (frame_of on)) opening-is.model (trying (frame_of on) opening-is.route))
        onto = subst (λ (z : ExtractionFrame). Tells g f v.origin (frame_of y) b ws'' db' (each (setting_of z) opening-is.model (trying z opening-is.route))) framed told

        pub turn-refused : (z : PartialPathRefusal) → b ≡ stops z → DrivenTo index f item₀ x ws₀ db₀ v (Err z) db'
        turn-refused z d =
            let o = opening-is in
            let u = tells-refused g f v.origin (frame_of y) b ws'' db' (each (setting_of (frame_of on)) o.model (trying (frame_of on) o.route)) z onto d in
            let w = run-refused (setting_of (frame_of on)) (trying (frame_of on)) (max_expansions - on.budget.expanded) (merge on.frontier.order t.state) o.route o.model z o.round (omega (arith, o.before)) u.0 in
            subst (λ (q : Answer PartialPathRefusal (State Route)). Ends f v.origin (Err z) db' q) (sym (sym t.same ∙ w)) (refl, u.1)

        module _ (n : Computation) (d : b ≡ goes n) where
          going : (m : State Route) × (each (setting_of (frame_of on)) opening-is.model (trying (frame_of on) opening-is.route) ≡ ok m) × (frame_of n ≡ frame_of y) × Rep g f v.origin n ws'' db' m
          going = tells-on g f v.origin (frame_of y) b ws'' db' (each (setting_of (frame_of on)) opening-is.model (trying (frame_of on) opening-is.route)) n onto d

          -- one more expansion is counted
          pub turn-counts : (n.budget.expanded ≡ on.budget.expanded + 1) × (on.budget.expanded < max_expansions)
          turn-counts =
              let o = opening-is in
              let u = going in
              let m = each-moved (setting_of (frame_of on)) o.model u.0 (trying (frame_of on) o.route) u.1 in
              let p : n.budget.expanded ≡ u.0.stats.expanded = ap (λ (z : SearchStats). z.expanded) u.3.counts.stats in
              let q : next.budget.expanded ≡ o.model.stats.expanded = ap (λ (z : SearchStats). z.expanded) o.rep.counts.stats in
              (p ∙ m.expansions ∙ sym q ∙ o.expanded, o.before)

          few-tries : length (trying (frame_of on) opening-is.route) ≤ 4096
          unfolding route_tries
          few-tries =
              let l = g.out opening-is.route.current in
              let h = out-bounded v.loaded opening-is.route.current in
              let j = select-fewer (owned_by g f.file) l in
              let i : length (trying (frame_of on) opening-is.route) ≡ length (select (owned_by g f.file) l) = length-map (select (owned_by g f.file) l) (judge_route base (frame_of on).length g opening-is.route) in
              omega (arith, h, j, i)

          pub turn-again : Turning n ws'' db'
          turn-again =
              let o = opening-is in
              let u = going in
              let c = turn-counts in
              let m = each-moved (setting_of (frame_of on)) o.model u.0 (trying (frame_of on) o.route) u.1 in
              let h = few-tries in
              let l : o.model.tally.looked ≡ t.state.tally.looked = ap (λ (y : Tally). y.looked) o.tally in
              let w = run-round (setting_of (frame_of on)) (trying (frame_of on)) (max_expansions - on.budget.expanded) (merge on.frontier.order t.state) o.route o.model u.0 o.round (omega (arith, o.before)) u.1 in
              let z : max_expansions - on.budget.expanded - 1 ≡ max_expansions - n.budget.expanded = omega (arith, c.0, c.1) in
              record {
                state = u.0;
                stood = u.3;
                looked = omega (arith, m.looks, h, l, t.looked, c.0);
                expanded = omega (arith, c.0, c.1);
                same =
                    ap (λ (y : ExtractionFrame). run_from y v.graph f.file (max_expansions - n.budget.expanded) u.0) (u.2 ∙ framed)
                    ∙ ap (λ (y : ℕ). run_from (frame_of on) v.graph f.file y u.0) (sym z)
                    ∙ sym w
                    ∙ t.same;
              }
