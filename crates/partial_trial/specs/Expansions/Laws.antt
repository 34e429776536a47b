-- One edge on the route under expansion: what is counted, found, filed and pushed is what the enumeration does.
-- Serves document 01, "Partial paths".
use Rattle.std.specs.Prelude.{ℕ, suc, ◌+◌, ◌*◌, ◌-◌, ◌<◌, ◌≤◌, ◌^◌, Bool, true, eqb, ℤ, take, drop, get_or}
use Rattle.std.proofs.Common.{arith, ◌∙◌, ⊎_elim}
use Rattle.std.proofs.Math.Path.{◌≡◌, refl, sym, ap, subst}
use Rattle.std.proofs.Math.Bool.{false}
use mathlib.Core.List.{List}
use borrow.Author.Tests.{lt-ltb, le-ltb, eq-eqb, ne_eqb}
use Rattle.std.proofs.Math.ListN.{length}
use Rattle.semantics.specs.declared.graph.NodeId.{NodeId}
use Rattle.semantics.specs.declared.graph.Node.{Node}
use Rattle.semantics.specs.declared.graph.Edge.{Edge}
use Rattle.semantics.specs.declared.graph.Edge.TheVariants as E
use Rattle.semantics.specs.declared.search.SearchStats.{SearchStats}
use Rattle.semantics.specs.declared.refusal.PartialPathRefusal.TheVariants.{TooLong}
use Rattle.semantics.specs.Lists.{and, pick, has}
use Rattle.semantics.specs.Lists.Laws.{length-snoc}
use Rattle.semantics.specs.Limits.{base, within, max_edges, slot_length, nobody, Limit}
use Rattle.semantics.specs.Graph.{node_id, View, view_of, file_of, is_file, lacks_file, is_endpoint}
use Rattle.semantics.specs.Graph.Laws.{view_of-lawful}
use Rattle.semantics.specs.Enumeration.{cut, overlong, stop, one, judged, tested}
use Rattle.semantics.specs.PartialPaths.{Route, is_of_file, belongs, is_fileless, owned_by, target_of, longer, reached, judge_route}
use Rattle.storage.specs.Index.{BLOCK, node_row, target_row}
use Rattle.storage.specs.Index.Laws.{edge-inside, target_row_lem}
use Rattle.path_budget.specs.declared.budget.Budget.{Budget}
use Rattle.path_budget.specs.declared.budget.Admitted.{Admitted}
use Rattle.path_budget.specs.Budget.{lengthening}
use Rattle.path_budget.specs.Budget.Laws.{lengthening-allowed, lengthening-limits}
use Rattle.search_state.specs.Items.{with_edge, Carries}
use Rattle.search_state.specs.Items.Laws.{carries-edge}
use Rattle.partial_state.specs.declared.route.Ends.{Ends}
use Rattle.partial_state.specs.declared.filing.Filing.{Filing}
use Rattle.partial_state.specs.Routes.{held, ends_of, Waiting}
use Rattle.partial_state.specs.Routes.Laws.{held-count, held-snoc, traced-snoc}
use Rattle.partial_state.specs.Extractions.{Computation, Course, goes, stops, with_budget, cut_one}
use Rattle.partial_state.specs.Reps.{frame_of, setting_of, Tells, Extendable, ExtendsTo}
use Rattle.partial_state.specs.Reps.Laws.{untouched, looked_at, rep-looked, rep-cut, rep-overlong}
use Rattle.partial_trial.specs.declared.expand.Sought.{Sought}
use Rattle.partial_trial.specs.Expansions.{sought_from, leads_to, is_sought, Given, Looking, Owning, Trying, judge_of, Lengthened, Tried, Looked}

-- ---- the judgement, test by test

module _ (lim : Limit) (g : View) (r : Route) (e : ℕ) where
  judge-cut : has e r.edges ≡ true → judge_route base lim g r e ≡ cut
  unfolding judge_route tested
  judge-cut h = rw h

  judge-overlong : has e r.edges ≡ false → within (suc (length r.edges)) lim ≡ false → judge_route base lim g r e ≡ overlong
  unfolding judge_route tested
  judge-overlong h k = rw (h, k)

  judge-bound : has e r.edges ≡ false → within (suc (length r.edges)) lim ≡ true → max_edges ≤ length r.edges → judge_route base lim g r e ≡ stop TooLong
  unfolding judge_route tested
  judge-bound h k l = rw (h, k, le-ltb (length r.edges) max_edges l)

  judge-room : has e r.edges ≡ false → within (suc (length r.edges)) lim ≡ true → length r.edges < max_edges → judge_route base lim g r e ≡ reached g r e
  unfolding judge_route tested
  judge-room h k l = rw (h, k, lt-ltb (length r.edges) max_edges l)

-- the budget's answer to a length
asked-within : {a : Admitted} (n : ℕ) (b : Budget) {t : Bool} → a ≡ lengthening n b → a.allowed ≡ t → within n b.max_length ≡ t
asked-within n b is e = sym (lengthening-allowed n b) ∙ ap (λ (x : Admitted). x.allowed) (sym is) ∙ e

-- ---- what the code may count and store

module _ {most : ℕ} {index : List ℕ} {f : Filing} {start k : ℕ} {item : List ℕ} {x : Computation} {ws db : List ℕ} (v : Given most index f start k item x ws db) where
  pub given-cycles : x.cycles ≤ most
  given-cycles = let e : x.cycles ≡ v.model.stats.cycles = ap (λ (t : SearchStats). t.cycles) v.rep.counts.stats in omega (arith, e, v.rep.few.cycles, v.small)

  given-found : x.found ≤ most
  given-found = let e : x.found ≡ v.model.stats.complete = ap (λ (t : SearchStats). t.complete) v.rep.counts.stats in omega (arith, e, v.rep.few.complete, v.small)

  pub given-short : k ≤ max_edges
  given-short = omega (arith, v.good.0.short, v.count)

  pub given-slice : k + 1 ≤ length item
  given-slice = omega (arith, v.good.1, v.count, v.carries.long)

  -- the edges of the route stand in the item
  pub given-edges : take (k + 1 - 1) (drop 1 item) ≡ v.route.edges
  given-edges = ap (λ (n : ℕ). take n (drop 1 item)) (let z : k + 1 - 1 ≡ length v.route.edges = omega (arith, v.count) in z) ∙ v.carries.edges

-- ---- an edge of the file

module _ {most : ℕ} {index : List ℕ} {f : Filing} {start k e : ℕ} {item : List ℕ} {x : Computation} {ws db : List ℕ} (t : Trying most index f start k e item x ws db) where
  abbrev v : Given most index f start k item x ws db
  v = t.looking.given

  abbrev g : View
  g = view_of v.graph

  -- is it among the route's edges
  has-is : {b : Bool} → b ≡ has e (take (k + 1 - 1) (drop 1 item)) → has e v.route.edges ≡ b
  has-is h = sym (h ∙ ap (has e) (given-edges v))

  within-is : {b : Bool} → within (k + 1) x.budget.max_length ≡ b → within (suc (length v.route.edges)) x.budget.max_length ≡ b
  within-is h = ap (λ (n : ℕ). within n x.budget.max_length) (let z : suc (length v.route.edges) ≡ k + 1 = omega (arith, v.count) in z) ∙ h

  pub tried-cut : {b : Bool} → b ≡ has e (take (k + 1 - 1) (drop 1 item)) → b ≡ true → {w : Computation} → w ≡ cut_one x → Tried most index f start k e item x ws db t (goes w) item ws db
  unfolding one judged
  tried-cut {b} h y q = record {
    tells = subst (λ (z : Computation). Tells g f v.origin (frame_of x) (goes z) ws db (one (setting_of (frame_of x)) v.model (judge_of (frame_of x) v.graph v.route e))) (sym q)
        (rw (judge-cut x.budget.max_length g v.route e (has-is h ∙ y)) (refl, rep-cut v.rep));
    carries = v.carries;
  }

  module _ {b : Bool} (h : b ≡ has e (take (k + 1 - 1) (drop 1 item))) (y : b ≡ false) {a : Admitted} (is : a ≡ lengthening (k + 1) x.budget) where
    pub tried-overlong : a.allowed ≡ false → {w : Computation} → w ≡ with_budget a.budget x → Tried most index f start k e item x ws db t (goes w) item ws db
    unfolding one judged
    tried-overlong n {w} q =
        let l : within (k + 1) x.budget.max_length ≡ false = asked-within (k + 1) x.budget is n in
        let z : w ≡ with_budget (lengthening (k + 1) x.budget).budget x = q ∙ ap (λ (u : Admitted). with_budget u.budget x) is in
        record {
          tells = subst (λ (u : Computation). Tells g f v.origin (frame_of x) (goes u) ws db (one (setting_of (frame_of x)) v.model (judge_of (frame_of x) v.graph v.route e))) (sym z)
              (rw (judge-overlong x.budget.max_length g v.route e (has-is h ∙ y) (within-is l))
              (λ i. record { order = x.frontier.order; length = (lengthening-limits (k + 1) x.budget i).length; expansions = (lengthening-limits (k + 1) x.budget i).expansions; waiting = x.frontier.capacity; slot = x.frontier.length }, rep-overlong v.rep (k + 1) l));
          carries = v.carries;
        }

    pub tried-bound : a.allowed ≡ true → max_edges ≤ k → Tried most index f start k e item x ws db t (stops TooLong) item ws db
    unfolding one judged
    tried-bound n m = record {
      tells = rw (judge-bound x.budget.max_length g v.route e (has-is h ∙ y) (within-is (asked-within (k + 1) x.budget is n)) (omega (arith, m, v.count))) (refl, untouched v.rep);
      carries = v.carries;
    }

    pub tried-longer : a.allowed ≡ true → k < max_edges → (r : Course) (item' ws' db' : List ℕ) → Lengthened most index f start k e item x ws db t r item' ws' db' → Tried most index f start k e item x ws db t r item' ws' db'
    tried-longer n m r item' ws' db' d = record {
      tells = rw (judge-room x.budget.max_length g v.route e (has-is h ∙ y) (within-is (asked-within (k + 1) x.budget is n)) (omega (arith, m, v.count))) d.tells;
      carries = d.carries;
    }

  -- ---- the route with one edge more
  abbrev longer_by : Route
  longer_by = longer v.route e (target_of (g.edge e))

  -- the slot has room for it
  pub longer-room : k < max_edges → k + 1 < x.frontier.length
  longer-room h = ⊎_elim (λ (r : k + 1 < x.frontier.length). r) (λ (r : x.frontier.length ≡ slot_length). omega (arith, r, h)) v.room

  -- its edge is live, so it has a block
  pub longer-inside : BLOCK * e < length index
  longer-inside =
      let l = (view_of-lawful v.graph).live v.route.current e t.looking.leaves in
      edge-inside index e (node_id v.route.current) l.0 l.1 (v.loaded.edge e ∙ l.2)

  module _ (short : k < max_edges) {item' : List ℕ} (made : item' ≡ with_edge item k e) where
    grown : item' ≡ held x.frontier.length longer_by
    grown =
        let r = longer-room short in
        let l : suc (length v.route.edges) < x.frontier.length = omega (arith, r, v.count) in
        made ∙ ap (λ (n : ℕ). with_edge item n e) (sym v.count) ∙ v.carries.grows e l ∙ sym (held-snoc x.frontier.length v.route.start e v.route.edges)

    good-grown : Waiting g f.file x.frontier.length longer_by
    good-grown =
        let l = (view_of-lawful v.graph).live v.route.current e t.looking.leaves in
        let r = longer-room short in
        (traced-snoc e l.0 l.1 v.good.0 (omega (arith, short, v.count)) l.2 t.owned, omega (arith, length-snoc v.route.edges e, r, v.count))

    pub longer-given : most + 1 < 2 ^ 64 → length item' ≡ length item → Extendable x f item' ws db
    longer-given h l = record {
      framed = v.rep.stands.0.framed;
      slot = l ∙ v.carries.long;
      most = v.rep.sized.most;
      short =
          let c : get_or item' 0 0 ≡ length longer_by.edges = ap (λ (i : List ℕ). get_or i 0 0) grown ∙ held-count x.frontier.length v.route.start longer_by.edges (omega (arith, v.rep.sized.start)) in
          let n = length-snoc v.route.edges e in
          let r = longer-room short in
          omega (arith, c, n, r, v.count);
      few = let c = given-found v in omega (arith, c, h);
      fits = v.fits;
    }

    module _ {end : ℕ} (reads : end ≡ target_row index e) {b : Bool} (is : b ≡ is_endpoint (node_row index end)) where
      end_is : end ≡ target_of (g.edge e)
      unfolding target_of
      end_is =
          let l = (view_of-lawful v.graph).live v.route.current e t.looking.leaves in
          reads ∙ target_row_lem index e (node_id v.route.current) l.0 l.1 (v.loaded.edge e ∙ l.2) ∙ sym (ap target_of l.2)

      endpoint-is : b ≡ is_endpoint (g.node (target_of (g.edge e)))
      endpoint-is = is ∙ ap is_endpoint (v.loaded.node end) ∙ ap (λ (n : ℕ). is_endpoint (g.node n)) end_is

      pub lengthened : (a : Course) (ws' db' : List ℕ) → ExtendsTo x b (record { start = start; end = end }) f item' ws db a ws' db' → Lengthened most index f start k e item x ws db t a item' ws' db'
      unfolding one judged reached
      lengthened a ws' db' w =
          let ends : ◌≡◌ {A = Ends} (record { start = start; end = end }) (ends_of longer_by) = λ i. record { start = v.starts i; end = end_is i } in
          let u = w g v.origin (looked_at v.rep) longer_by v.model.tally.looked (rep-looked v.rep) v.rep.few refl good-grown ends grown in
          record {
            tells = rw (sym endpoint-is) u;
            carries = subst (λ (l : List ℕ). Carries x.frontier.length l v.route.edges) (sym (made ∙ ap (λ (n : ℕ). with_edge item n e) (sym v.count))) (carries-edge x.frontier.length item e v.carries);
          }

-- ---- an edge that leaves the route's end

-- what a node tells of its edges, test by test
module _ {f : ℕ} (n : Node) where
  pub from-nobody : {b : Bool} → f ≡ nobody → b ≡ lacks_file (file_of n) → record { all = false; of_file = false; fileless = b } ≡ sought_from f n
  unfolding sought_from
  from-nobody h k = rw (eq-eqb f nobody h, k)

  pub from-file : {b : Bool} → (f ≡ nobody → ⊥) → b ≡ is_file f (file_of n) → record { all = b; of_file = true; fileless = false } ≡ sought_from f n
  unfolding sought_from
  from-file h k = rw (ne_eqb f nobody h, k)

-- and its target of an edge
module _ (f : ℕ) (own : Sought) (t : Node) where
  pub to-file : own.of_file ≡ true → is_file f (file_of t) ≡ leads_to f own t
  unfolding leads_to
  to-file h = rw h

  pub to-fileless : own.of_file ≡ false → own.fileless ≡ true → lacks_file (file_of t) ≡ leads_to f own t
  unfolding leads_to
  to-fileless h k = rw (h, k)

  pub to_none : own.of_file ≡ false → own.fileless ≡ false → false ≡ leads_to f own t
  unfolding leads_to
  to_none h k = rw (h, k)

-- what its two ends tell is whose it is
sought-owned : (g : View) (f e : ℕ) (s t : NodeId) (p : ℤ) → g.edge e ≡ E.Live s t p → is_sought f (sought_from f (g.node s.0)) (g.node t.0) ≡ owned_by g f e
unfolding owned_by is_fileless belongs is_of_file sought_from leads_to
sought-owned g f e s t p live = on (eqb f nobody) ∙ sym (ap (λ (x : Edge). pick (eqb f nobody) (is_fileless g x) (is_of_file g f x)) live)
  where
    nobodys : (b : Bool) → pick b (lacks_file (file_of (g.node t.0))) false ≡ and b (lacks_file (file_of (g.node t.0)))
    nobodys true = refl
    nobodys false = refl

    on : (b : Bool) → is_sought f (pick b (record { all = false; of_file = false; fileless = lacks_file (file_of (g.node s.0)) }) (record { all = is_file f (file_of (g.node s.0)); of_file = true; fileless = false })) (g.node t.0)
        ≡ pick b (is_fileless g (E.Live s t p)) (is_of_file g f (E.Live s t p))
    on true = nobodys (lacks_file (file_of (g.node s.0)))
    on false = refl

module _ {most : ℕ} {index : List ℕ} {f : Filing} {start k e : ℕ} {item : List ℕ} {x : Computation} {ws db : List ℕ} {own : Sought} (o : Owning most index f start k e item x ws db own) where
  abbrev l : Looking most index f start k e item x ws db
  l = o.looking

  abbrev live : (t : NodeId) × (p : ℤ) × ((view_of l.given.graph).edge e ≡ E.Live (node_id l.given.route.current) t p)
  live = (view_of-lawful l.given.graph).live l.given.route.current e l.leaves

  pub looking-inside : BLOCK * e < length index
  looking-inside = edge-inside index e (node_id l.given.route.current) live.0 live.1 (l.given.loaded.edge e ∙ live.2)

  module _ {b : Bool} (is : b ≡ is_sought f.file own (node_row index (target_row index e))) where
    owned-is : b ≡ owned_by (view_of l.given.graph) f.file e
    owned-is =
        let g = view_of l.given.graph in
        let t : target_row index e ≡ live.0.0 = target_row_lem index e (node_id l.given.route.current) live.0 live.1 (l.given.loaded.edge e ∙ live.2) in
        let n : node_row index (target_row index e) ≡ g.node live.0.0 = ap (node_row index) t ∙ l.given.loaded.node live.0.0 in
        is
        ∙ ap (λ (s : Sought). is_sought f.file s (node_row index (target_row index e))) o.known
        ∙ ap (is_sought f.file (sought_from f.file (g.node l.given.route.current))) n
        ∙ sought-owned g f.file e (node_id l.given.route.current) live.0 live.1 live.2

    pub looking-tries : b ≡ true → Trying most index f start k e item x ws db
    looking-tries h = record { looking = l; owned = sym owned-is ∙ h }

    pub looked-tried : (h : b ≡ true) (a : Course) (item' ws' db' : List ℕ) → Tried most index f start k e item x ws db (looking-tries h) a item' ws' db' → Looked most index f start k e item x ws db l a item' ws' db'
    unfolding looking-tries
    looked-tried h a item' ws' db' t = record { tells = rw (sym owned-is ∙ h) t.tells; carries = t.carries }

    pub looked-not : b ≡ false → Looked most index f start k e item x ws db l (goes x) item ws db
    looked-not h = record { tells = rw (sym owned-is ∙ h) (refl, l.given.rep); carries = l.given.carries }
