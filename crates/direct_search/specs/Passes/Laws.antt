-- Edges that lead nowhere, one after another, and the search behind them: what is counted and pushed is what the enumeration does.
-- Serves document 01, "Answer".
use Rattle.std.specs.Prelude.{ℕ, suc, ◌+◌, ◌-◌, ◌<◌, ◌≤◌, ◌≡◌, Bool, true, false, List, [], ltb, length, take, drop, Ok, Err}
use Rattle.std.proofs.Common.{arith, ◌∙◌, lt-ltb, le-ltb, ltb-true}
use Rattle.std.proofs.Math.Path.{refl, sym, ap, subst}
use Rattle.semantics.specs.declared.refusal.SearchRefusal.{SearchRefusal}
use Rattle.semantics.specs.declared.refusal.SearchRefusal.TheVariants as Search
use Rattle.semantics.specs.Lists.{pick, has}
use Rattle.semantics.specs.Limits.{within, looked_ever, max_edges, slot_length, Limit}
use Rattle.semantics.specs.Graph.{view_of}
use Rattle.storage.specs.Index.{EDGES, node_row, edge_row, next_row}
use Rattle.storage.specs.Index.Use.{left, runs-follow}
use Rattle.stepping.specs.Judged.{Ready, judged_of}
use Rattle.path_budget.specs.declared.budget.Budget.{Budget}
use Rattle.search_state.specs.declared.search.Search as S
use Rattle.search_state.specs.Searches.{Going}
use Rattle.search_state.specs.declared.dead_ends.DeadEnds.{DeadEnds}
use Rattle.search_state.specs.Items.{with_edge}
use Rattle.search_state.specs.declared.progress.Frame.{Frame}
use Rattle.search_state.specs.Extensions.{Extendable, ExtendsTo}
use Rattle.search_state.specs.Passes.{nothing_passed, passed_cut, passed_rejection, passed_length, passed_by}
use Rattle.search_state.specs.Passes.Laws.{nothing-passed, one-cut, one-rejection, one-length}
use Rattle.edge_trial.specs.declared.trial.EdgeTrial.{EdgeTrial}
use Rattle.edge_trial.specs.Trials.{trial_by}
use Rattle.edge_trial.specs.Trials.Laws.{Judged}
use Rattle.direct_search.specs.declared.direct.Pass.{Pass}
use Rattle.direct_search.specs.declared.direct.Led.{Led}
use Rattle.direct_search.specs.declared.direct.Counted.{Counted}
use Rattle.direct_search.specs.Expansions.{Given, Tried, Expanded}
use Rattle.direct_search.specs.Expansions.Laws.{given-cycles, given-rejected, given-short, given-edges, given-ready, given-trial, tried-cut, tried-rejected, tried-overlong, tried-bound, extended-short, tried-extended, extended-given}
use Rattle.direct_search.specs.Expansions.Edges.{Mid, mid-given, mid-less, mid-again, mid-refused}
use Rattle.direct_search.specs.Passes.{counted_by, beyond_row, LedTo, Passing, Passes, Turning, Turned}

-- the bound on what a search counts
abbrev Most : ℕ
Most = looked_ever

-- ---- one edge behind those that were passed over

module _ {most : ℕ} {index steps item₀ : List ℕ} {k : ℕ} {s : S.Search} {ws₀ rs₀ : List ℕ} {v : Given most index steps item₀ k s ws₀ rs₀} (small : most + 4096 ≤ Most)
    (p : DeadEnds) (on : S.Search) {item ws rs : List ℕ} {link : ℕ} (mid : Mid most index steps item₀ k s ws₀ rs₀ v (passed_by p on) item ws rs link) where
  abbrev given : Given Most index steps item k (passed_by p on) ws rs
  given = mid-given most index steps item₀ k s ws₀ rs₀ v mid Most small

  pub few-cycles : on.state.cycles + p.cycles ≤ Most
  few-cycles = given-cycles Most index steps item k (passed_by p on) ws rs given

  pub few-rejected : on.state.rejected + p.rejected ≤ Most
  few-rejected = given-rejected Most index steps item k (passed_by p on) ws rs given

  -- the limit on the length is that of the search
  limit-same : (passed_by p on).state.budget.max_length ≡ s.state.budget.max_length
  limit-same = ap (λ (f : Frame). f.limits.length) mid.frame

  abbrev Says : EdgeTrial → Type 0
  Says t = Judged Search.TooLong s.state.budget.max_length (view_of v.graph) v.path (link - 1) t

  abbrev Said : EdgeTrial → Type 0
  Said t = Judged Search.TooLong (passed_by p on).state.budget.max_length (view_of v.graph) v.path (link - 1) t

  said : (t : EdgeTrial) → Says t → Said t
  said t j = subst (λ (l : Limit). Judged Search.TooLong l (view_of v.graph) v.path (link - 1) t) (sym limit-same) j

  module _ {edges : List ℕ} (edges_are : edges ≡ v.path.edges) (b : Budget) (limit : b.max_length ≡ s.state.budget.max_length) where
    pub edges-ready : Ready steps (length edges)
    unfolding mid-given
    edges-ready = given-ready Most index steps item k (passed_by p on) ws rs given edges_are

    pub trial-says : {t : EdgeTrial} → t ≡ trial_by (node_row index) (has (link - 1) edges) (within (length edges + 1) b.max_length) (ltb (length edges) max_edges) (judged_of (node_row index) steps (length edges) (link - 1) (edge_row index (link - 1))) → Says t
    unfolding mid-given
    trial-says {t} is =
        let l : b.max_length ≡ (passed_by p on).state.budget.max_length = limit ∙ sym limit-same in
        subst (λ (m : Limit). Judged Search.TooLong m (view_of v.graph) v.path (link - 1) t) limit-same
        (given-trial Most index steps item k (passed_by p on) ws rs given (link - 1) edges_are
        (is ∙ ap (λ (m : Limit). trial_by (node_row index) (has (link - 1) edges) (within (length edges + 1) m) (ltb (length edges) max_edges) (judged_of (node_row index) steps (length edges) (link - 1) (edge_row index (link - 1)))) l))

  module _ (h : 0 < link) where
    -- an edge that leads nowhere
    pub one_more : (t : EdgeTrial) → Says t → (next : DeadEnds) → counted_by p t ≡ Counted.More next → {link' : ℕ} → link' ≡ next_row index (link - 1) → Mid most index steps item₀ k s ws₀ rs₀ v (passed_by next on) item ws rs link'
    unfolding mid-given
    one_more t j next e {link'} q = on-trial t j e
      where
        again : (w : DeadEnds) → w ≡ next → Tried Most index steps item k (passed_by p on) ws rs given (link - 1) (Ok (passed_by w on)) item ws rs → Mid most index steps item₀ k s ws₀ rs₀ v (passed_by next on) item ws rs link'
        again w z d =
            subst (λ (y : DeadEnds). Mid most index steps item₀ k s ws₀ rs₀ v (passed_by y on) item ws rs link') z
            (mid-again most index steps item₀ k s ws₀ rs₀ v mid h small d (passed_by w on) refl q)

        more-inj : (x y : DeadEnds) → Counted.More x ≡ Counted.More y → x ≡ y
        more-inj x y f = cc

        no_bound : Counted.TooLong ≡ Counted.More next → ⊥
        no_bound f = let z : ◌≡◌ {A = ℕ} 0 1 = cc in omega arith

        no-extension : (b : Bool) → Counted.Extended b ≡ Counted.More next → ⊥
        no-extension b f = let z : ◌≡◌ {A = ℕ} 0 1 = cc in omega arith

        on-trial : (t : EdgeTrial) → Says t → counted_by p t ≡ Counted.More next → Mid most index steps item₀ k s ws₀ rs₀ v (passed_by next on) item ws rs link'
        on-trial EdgeTrial.Cut j e = again (passed_cut p) (more-inj (passed_cut p) next e) (tried-cut Most index steps item k (passed_by p on) ws rs given (link - 1) (said EdgeTrial.Cut j) (sym (one-cut p on)))
        on-trial EdgeTrial.Rejected j e =
            again (passed_rejection p) (more-inj (passed_rejection p) next e) (tried-rejected Most index steps item k (passed_by p on) ws rs given (link - 1) (said EdgeTrial.Rejected j) (sym (one-rejection p on)))
        on-trial EdgeTrial.Overlong j e =
            let u = said EdgeTrial.Overlong j in
            let w : within (k + 1) (passed_by p on).state.budget.max_length ≡ false = ap (λ (m : ℕ). within m (passed_by p on).state.budget.max_length) (sym (let z : suc (length v.path.edges) ≡ k + 1 = omega (arith, v.count) in z)) ∙ u.1 in
            again (passed_length p) (more-inj (passed_length p) next e) (tried-overlong Most index steps item k (passed_by p on) ws rs given (link - 1) u (sym (one-length p on (k + 1) w)))
        on-trial EdgeTrial.TooLong j e = absurd (no_bound e)
        on-trial (EdgeTrial.Extended b) j e = absurd (no-extension b e)

    -- the edge that ended it
    beyond-next : beyond_row index link ≡ next_row index (link - 1)
    beyond-next = rw (lt-ltb 0 link h)

    onward-on : (next : S.Search) {item' ws' rs' : List ℕ} → Tried Most index steps item k (passed_by p on) ws rs given (link - 1) (Ok next) item' ws' rs' → Mid most index steps item₀ k s ws₀ rs₀ v next item' ws' rs' (beyond_row index link)
    onward-on next {item'} {ws'} {rs'} d = mid-again most index steps item₀ k s ws₀ rs₀ v mid h small d next refl beyond-next

    onward-refused : (z : SearchRefusal) {item' ws' rs' : List ℕ} → Tried Most index steps item k (passed_by p on) ws rs given (link - 1) (Err z) item' ws' rs' → Expanded most index steps item₀ k s ws₀ rs₀ v (Err z) ws' rs'
    onward-refused z {item'} {ws'} {rs'} d = mid-refused most index steps item₀ k s ws₀ rs₀ v mid h small d z refl

-- ---- the loop over edges that lead nowhere

module _ {index steps edges : List ℕ} {b : Budget} {first : ℕ} (x : Passing index steps edges b first) where
  -- passed over up to a link
  abbrev pub Over : DeadEnds → ℕ → Type 0
  Over p link = Mid x.most index steps x.item₀ x.k x.s x.ws₀ x.rs₀ x.v (passed_by p x.on) x.item x.ws x.rs link

  pub over-start : Over nothing_passed first
  over-start = subst (λ (w : S.Search). Mid x.most index steps x.item₀ x.k x.s x.ws₀ x.rs₀ x.v w x.item x.ws x.rs first) (sym (nothing-passed x.on)) x.mid

  module _ (p : DeadEnds) (link : ℕ) (mid : Over p link) where
    pub over-ready : Ready steps (length edges)
    over-ready = edges-ready x.small p x.on mid x.edges_are b x.limit

    pub over-cycles : p.cycles ≤ looked_ever
    over-cycles = omega (arith, few-cycles x.small p x.on mid)

    pub over-rejected : p.rejected ≤ looked_ever
    over-rejected = omega (arith, few-rejected x.small p x.on mid)

    pub over-less : 0 < link → left index (next_row index (link - 1)) < left index link
    over-less h = mid-less x.most index steps x.item₀ x.k x.s x.ws₀ x.rs₀ x.v mid h

    module _ (h : 0 < link) {t : EdgeTrial} (is : t ≡ trial_by (node_row index) (has (link - 1) edges) (within (length edges + 1) b.max_length) (ltb (length edges) max_edges) (judged_of (node_row index) steps (length edges) (link - 1) (edge_row index (link - 1)))) where
      says : Judged Search.TooLong x.s.state.budget.max_length (view_of x.v.graph) x.v.path (link - 1) t
      says = trial-says x.small p x.on mid x.edges_are b x.limit is

      pub over-more : (next : DeadEnds) → Counted.More next ≡ counted_by p t → {link' : ℕ} → link' ≡ next_row index (link - 1) → Over next link'
      over-more next e {link'} q = one_more x.small p x.on mid h t says next (sym e) q

      pub over-bound : Counted.TooLong ≡ counted_by p t → left index link ≤ left index first → Passes index steps edges b first x (record { passed = p; link = link; led = Led.TooLong })
      over-bound e l = record { mid = mid; led = (h, on t says e); less = l }
        where
          on : (t : EdgeTrial) → Judged Search.TooLong x.s.state.budget.max_length (view_of x.v.graph) x.v.path (link - 1) t → Counted.TooLong ≡ counted_by p t → Judged Search.TooLong x.s.state.budget.max_length (view_of x.v.graph) x.v.path (link - 1) EdgeTrial.TooLong
          on EdgeTrial.Cut j e = absurd (let z : ◌≡◌ {A = ℕ} 0 1 = cc in omega arith)
          on EdgeTrial.Overlong j e = absurd (let z : ◌≡◌ {A = ℕ} 0 1 = cc in omega arith)
          on EdgeTrial.Rejected j e = absurd (let z : ◌≡◌ {A = ℕ} 0 1 = cc in omega arith)
          on EdgeTrial.TooLong j e = j
          on (EdgeTrial.Extended c) j e = absurd (let z : ◌≡◌ {A = ℕ} 0 1 = cc in omega arith)

      pub over-extended : (c : Bool) → Counted.Extended c ≡ counted_by p t → left index link ≤ left index first → Passes index steps edges b first x (record { passed = p; link = link; led = Led.Extended c })
      over-extended c e l = record { mid = mid; led = (h, on t says e); less = l }
        where
          on : (t : EdgeTrial) → Judged Search.TooLong x.s.state.budget.max_length (view_of x.v.graph) x.v.path (link - 1) t → Counted.Extended c ≡ counted_by p t → Judged Search.TooLong x.s.state.budget.max_length (view_of x.v.graph) x.v.path (link - 1) (EdgeTrial.Extended c)
          on EdgeTrial.Cut j e = absurd (let z : ◌≡◌ {A = ℕ} 0 1 = cc in omega arith)
          on EdgeTrial.Overlong j e = absurd (let z : ◌≡◌ {A = ℕ} 0 1 = cc in omega arith)
          on EdgeTrial.Rejected j e = absurd (let z : ◌≡◌ {A = ℕ} 0 1 = cc in omega arith)
          on EdgeTrial.TooLong j e = absurd (let z : ◌≡◌ {A = ℕ} 0 1 = cc in omega arith)
          on (EdgeTrial.Extended d) j e = let z : d ≡ c = cc in subst (λ (y : Bool). Judged Search.TooLong x.s.state.budget.max_length (view_of x.v.graph) x.v.path (link - 1) (EdgeTrial.Extended y)) z j

    pub over-end : link ≤ 0 → left index link ≤ left index first → Passes index steps edges b first x (record { passed = p; link = 0; led = Led.End })
    over-end h l =
        let z : link ≡ 0 = omega (arith, h) in
        record { mid = subst (Over p) z mid; led = refl; less = subst (λ (n : ℕ). left index n ≤ left index first) z l }

-- ---- the search behind them

module _ {r : Pass} {item : List ℕ} {k : ℕ} {on : S.Search} {ws rs : List ℕ} (x : Turning r item k on ws rs) where
  abbrev Ledˣ : Led → Type 0
  Ledˣ d = LedTo x.s.state.budget.max_length (view_of x.v.graph) x.v.path r.link d

  abbrev behind : S.Search
  behind = passed_by r.passed on

  abbrev givenˣ : Given Most x.index x.steps item k behind ws rs
  givenˣ = given x.small r.passed on x.mid

  pub turn-cycles : on.state.cycles + r.passed.cycles ≤ looked_ever
  turn-cycles = few-cycles x.small r.passed on x.mid

  pub turn-rejected : on.state.rejected + r.passed.rejected ≤ looked_ever
  turn-rejected = few-rejected x.small r.passed on x.mid

  pub turned-end : r.led ≡ Led.End → {w : S.Search} → w ≡ behind → Turned r item k on ws rs x (Ok w) item ws rs
  turned-end e q =
      let z : r.link ≡ 0 = subst Ledˣ e x.led in
      let b : r.link ≡ beyond_row x.index r.link = z ∙ sym (ap (λ (c : Bool). pick c (next_row x.index (r.link - 1)) 0) (le-ltb 0 r.link (omega (arith, z)))) in
      subst (λ (u : S.Search). Mid x.most x.index x.steps x.item₀ k x.s x.ws₀ x.rs₀ x.v u item ws rs (beyond_row x.index r.link)) (sym q)
      (subst (λ (n : ℕ). Mid x.most x.index x.steps x.item₀ k x.s x.ws₀ x.rs₀ x.v behind item ws rs n) b x.mid)

  pub turned-bound : r.led ≡ Led.TooLong → Turned r item k on ws rs x (Err Search.TooLong) item ws rs
  unfolding mid-given
  turned-bound e =
      let l = subst Ledˣ e x.led in
      onward-refused x.small r.passed on x.mid l.0 Search.TooLong
      (tried-bound Most x.index x.steps item k behind ws rs givenˣ (r.link - 1) (said x.small r.passed on x.mid EdgeTrial.TooLong l.1))

  module _ (b : Bool) (e : r.led ≡ Led.Extended b) where
    pub turn-link : 0 < r.link
    turn-link = (subst Ledˣ e x.led).0

    judgedˣ : Judged Search.TooLong behind.state.budget.max_length (view_of x.v.graph) x.v.path (r.link - 1) (EdgeTrial.Extended b)
    judgedˣ = said x.small r.passed on x.mid (EdgeTrial.Extended b) (subst Ledˣ e x.led).1

    pub turn-short : k < max_edges
    unfolding mid-given
    turn-short = extended-short Most x.index x.steps item k behind ws rs givenˣ (r.link - 1) b judgedˣ

    pub turn-long : length item ≡ slot_length
    turn-long = x.mid.carried.long

    pub turn-extends : {item' : List ℕ} → item' ≡ with_edge item k (r.link - 1) → {w : S.Search} → w ≡ behind → Extendable w ws rs item'
    unfolding mid-given
    turn-extends {item'} l q = subst (λ (u : S.Search). Extendable u ws rs item') (sym q) (extended-given Most x.index x.steps item k behind ws rs givenˣ (r.link - 1) b judgedˣ (omega arith) l)

    module _ {item' : List ℕ} (q : item' ≡ with_edge item k (r.link - 1)) (ws' rs' : List ℕ) where
      tried : (a : Going) → ExtendsTo behind b ws rs item' a ws' rs' → Tried Most x.index x.steps item k behind ws rs givenˣ (r.link - 1) a item' ws' rs'
      unfolding mid-given
      tried a y = tried-extended Most x.index x.steps item k behind ws rs givenˣ (r.link - 1) b judgedˣ q a ws' rs' y

      pub turned-extended : (a : Going) → {w : S.Search} → w ≡ behind → ExtendsTo w b ws rs item' a ws' rs' → Turned r item k on ws rs x a item' ws' rs'
      turned-extended (Ok next) z y =
          onward-on x.small r.passed on x.mid turn-link next
          (tried (Ok next) (subst (λ (u : S.Search). ExtendsTo u b ws rs item' (Ok next) ws' rs') z y))
      turned-extended (Err u) z y =
          onward-refused x.small r.passed on x.mid turn-link u
          (tried (Err u) (subst (λ (o : S.Search). ExtendsTo o b ws rs item' (Err u) ws' rs') z y))

-- ---- both, round the loop of an expansion

module _ {most : ℕ} {index steps item₀ : List ℕ} {k : ℕ} {s : S.Search} {ws₀ rs₀ : List ℕ} {v : Given most index steps item₀ k s ws₀ rs₀} (small : most + 4096 ≤ Most)
    {on : S.Search} {item ws rs : List ℕ} {link : ℕ} (mid : Mid most index steps item₀ k s ws₀ rs₀ v on item ws rs link) where
  pub edges-in : take (k + 1 - 1) (drop 1 item) ≡ v.path.edges
  unfolding mid-given
  edges-in = given-edges Most index steps item k on ws rs (mid-given most index steps item₀ k s ws₀ rs₀ v mid Most small)

  pub edges-short : k ≤ max_edges
  edges-short = given-short most index steps item₀ k s ws₀ rs₀ v

  abbrev pub passing-of : (b : Budget) → b.max_length ≡ s.state.budget.max_length → Passing index steps (take (k + 1 - 1) (drop 1 item)) b link
  passing-of b l = record { most = most; small = small; item₀ = item₀; k = k; s = s; ws₀ = ws₀; rs₀ = rs₀; v = v; on = on; item = item; ws = ws; rs = rs; mid = mid; edges_are = edges-in; limit = l }

  module _ {b : Budget} (l : b.max_length ≡ s.state.budget.max_length) {r : Pass} (d : Passes index steps (take (k + 1 - 1) (drop 1 item)) b link (passing-of b l) r) where
    abbrev pub turning-of : Turning r item k on ws rs
    turning-of = record { index = index; steps = steps; most = most; small = small; item₀ = item₀; s = s; ws₀ = ws₀; rs₀ = rs₀; v = v; mid = d.mid; led = d.led }

    none_left : left index 0 ≡ 0
    none_left = ap length (runs-follow index EDGES 0 [] refl (omega arith))

    pub turn-less : 0 < link → left index (beyond_row index r.link) < left index link
    turn-less h = on-link (ltb 0 r.link) refl
      where
        here : left index (next_row index (link - 1)) < left index link
        here = mid-less most index steps item₀ k s ws₀ rs₀ v mid h

        on-link : (c : Bool) → ltb 0 r.link ≡ c → left index (pick c (next_row index (r.link - 1)) 0) < left index link
        on-link true e = let y = mid-less most index steps item₀ k s ws₀ rs₀ v d.mid (ltb-true 0 r.link e) in omega (arith, y, d.less)
        on-link false e = omega (arith, none_left, here)
