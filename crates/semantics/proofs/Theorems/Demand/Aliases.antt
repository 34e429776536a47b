-- Order 5: with the alias set beside every file's partial paths, direct and stitched recorded sets agree, with no condition on edges.
-- Document 02, order 5.
use Prim.Native.Nat.{ℕ, ◌≤◌, ◌<◌}
use Rattle.std.proofs.Common.{arith, sym, ◌∙◌, subst, ⊎_elim, true≢false}
use Rattle.std.specs.Prelude.{◌≡◌, Bool, eqb, length, ℤ, None}
use Rattle.std.proofs.Math.Path.{refl, ap}
use Rattle.std.proofs.Math.Logic.{inl, inr}
use Rattle.std.proofs.Math.Bool.{true, false}
use Rattle.std.proofs.Math.Option.{Option, none, some}
use mathlib.Core.List.Memᴰ
use mathlib.Core.List.{List, [], ◌∷◌, map, Memᴰ}
use Rattle.std.proofs.lemmas.Bool.{not-true}
use Rattle.semantics.specs.declared.graph.NodeId.{NodeId}
use Rattle.semantics.specs.declared.graph.Node.{Node}
use Rattle.semantics.specs.declared.graph.Node.TheVariants as N
use Rattle.semantics.specs.declared.graph.Edge.TheVariants as E
use Rattle.semantics.specs.declared.refusal.PartialPathRefusal.{PartialPathRefusal}
use Rattle.semantics.specs.declared.refusal.SearchRefusal.{SearchRefusal}
use Rattle.semantics.specs.Lists.{and, pick, Distinct}
use Rattle.semantics.specs.Lists.Laws.{eqb-true, and-true, bool_false}
use Rattle.semantics.specs.Limits.{Bounds, nobody, Limit}
use Rattle.semantics.specs.Answer.{ok}
use Rattle.semantics.specs.Graph.{node_id, Graph, view_of, traits, file_of, lacks_file, is_start, is_endpoint}
use Rattle.semantics.specs.Graph.Laws.{view_of-lawful, fileless-shared}
use Rattle.semantics.specs.Path.{Path}
use Rattle.semantics.specs.Enumeration.{Setting, State}
use Rattle.semantics.specs.Enumeration.Laws.{enumerate-unlimited}
use Rattle.semantics.specs.Recorded.{edge_lists, recorded}
use Rattle.semantics.specs.Direct.{direct}
use Rattle.semantics.proofs.Theorems.Direct.Laws.{direct-exact}
use Rattle.semantics.specs.PartialPaths.{Route, Slot, belongs, is_fileless, owned_by, route_tries, route_at, starts_from, start_routes, partials, file_routes, alias_routes}
use Rattle.semantics.proofs.Theorems.PartialPaths.Laws.{belongs-source, belongs-target, walk-nil, walk-cons, StartsAt, Found, partials-found, starts-are, file-found, file-unlimited}
use Rattle.semantics.specs.Stitching.{stitched}
use Rattle.semantics.proofs.Theorems.Stitching.Laws.{AllOwned, stitched-exact}
use Rattle.semantics.specs.Demand.{Agree, Valid, file_owners, all_owners, Walk, Partial, Computed, of-file, of-aliases, Owned, Suited, Holds, DemandAll}
use Rattle.semantics.proofs.Theorems.Demand.Laws.{AllLive, valid-live, agreement}
use Rattle.semantics.specs.Acceptance.{is_live, accepts}
use Rattle.semantics.proofs.Theorems.Acceptance.Laws.{suited, few-files, fileless-first, edge-live}

lacks-none : (o : Option ℕ) (f : ℕ) → lacks_file o ≡ true → o ≡ some f → ⊥
unfolding lacks_file
lacks-none none f l e = let z : ◌≡◌ {A = Bool} true false = cc in true≢false z
lacks-none (some x) f l e = true≢false (sym l)

-- root and jump are endpoints
shared-end : (n : Node) → is_live n ≡ true → lacks_file (file_of n) ≡ true → is_endpoint n ≡ true
shared-end n l e = ⊎_elim (λ (z : n ≡ N.Root). ap is_endpoint z) (λ (z : n ≡ N.JumpToScope). ap is_endpoint z) (fileless-shared n (not-true (traits n).removed l) e)

module _ (g : Graph) (good : accepts g ≡ true) where
  -- no file is nobody
  pub not-file : nobody < g.files → ⊥
  not-file l = omega (arith, l, few-files g good)

  pub not-nobody : (f : ℕ) → f < g.files → eqb f nobody ≡ false
  not-nobody f l = bool_false (eqb f nobody) (λ h. let z : f ≡ 65534 = eqb-true f nobody h in omega (arith, z, l, few-files g good))

  -- so a file has the edges that it had
  pub owned-file : (f e : ℕ) → f < g.files → owned_by (view_of g) f e ≡ belongs (view_of g) f e
  unfolding owned_by
  owned-file f e l = ap (λ b. pick b (is_fileless (view_of g) ((view_of g).edge e)) (belongs (view_of g) f e)) (not-nobody f l)

  at_target : (e : ℕ) (s t : NodeId) (p : ℤ) (a b : ℕ) → (view_of g).edge e ≡ E.Live s t p → owned_by (view_of g) a e ≡ true → file_of ((view_of g).node t.0) ≡ some b → a ≡ b
  unfolding owned_by is_fileless
  at_target e s t p a b k o y = on (eqb a nobody) o
    where
      on : (x : Bool) → pick x (is_fileless (view_of g) ((view_of g).edge e)) (belongs (view_of g) a e) ≡ true → a ≡ b
      on true h =
          let i : is_fileless (view_of g) (E.Live s t p) ≡ true = ap (is_fileless (view_of g)) (sym k) ∙ h in
          absurd (lacks-none (file_of ((view_of g).node t.0)) b (and-true (lacks_file (file_of ((view_of g).node s.0))) (lacks_file (file_of ((view_of g).node t.0))) i).1 y)
      on false h = (suited g good).at_target e s t p a b k h y

  -- nothing else is asked of the owners
  pub suited-all : Suited (view_of g) (all_owners g)
  suited-all = record {
    root-first = (suited g good).root-first;
    home = λ n f k. inl ((suited g good).home n f k);
    from-root = λ f k. inl refl;
    from_start = λ n f k s. inr (k, s);
    at_source = λ e s t p f k x. owned-file f e ((suited g good).home s.0 f x) ∙ belongs-source (view_of g) f e s t p k x;
    at_target = at_target;
  }

  -- every live edge has an owner
  pub live_owned : (e : ℕ) (s t : NodeId) (p : ℤ) → (view_of g).edge e ≡ E.Live s t p → Owned (all_owners g) e
  unfolding owned_by is_fileless lacks_file
  live_owned e s t p h = on1 (file_of ((view_of g).node s.0)) refl
    where
      on2 : (o : Option ℕ) → file_of ((view_of g).node t.0) ≡ o → file_of ((view_of g).node s.0) ≡ none → Owned (all_owners g) e
      on2 none k j = (nobody, inr refl, ap (is_fileless (view_of g)) h ∙ ap (λ (x : Option ℕ). and (lacks_file x) (lacks_file (file_of ((view_of g).node t.0)))) j ∙ ap lacks_file k)
      on2 (some f) k j = let l = (suited g good).home t.0 f k in (f, inl l, owned-file f e l ∙ belongs-target (view_of g) f e s t p h k)

      on1 : (o : Option ℕ) → file_of ((view_of g).node s.0) ≡ o → Owned (all_owners g) e
      on1 none k = on2 (file_of ((view_of g).node t.0)) refl k
      on1 (some f) k = let l = (suited g good).home s.0 f k in (f, inl l, owned-file f e l ∙ belongs-source (view_of g) f e s t p h k)

  all-owned : (l : List ℕ) → AllLive (view_of g) l → AllOwned (all_owners g) l
  all-owned [] a = tt
  all-owned (e ∷ l) a = let k = a.0 in (live_owned e k.0 k.1 k.2 k.3, all-owned l a.1)

  -- so has every edge of a valid list
  pub valid-owned : (bd : Bounds) (lim : Limit) (r : ℕ) (l : List ℕ) → Valid bd lim (view_of g) r l → AllOwned (all_owners g) l
  valid-owned bd lim r l v = all-owned l (valid-live bd lim (view_of g) r l v)

  -- ORDER 5: with the alias set, the two recorded sets agree
  module _ (bd : Bounds) (lim : Limit) (c c' : Setting SearchRefusal) (r : ℕ) (db : List Slot) (holds : Holds (all_owners g) bd (view_of g) db) (d s : State Path)
      (hd : direct bd lim c (view_of g) r ≡ ok d) (dn : d.stats.count_limited ≡ false) (dk : d.stats.complete_limited ≡ false)
      (hs : stitched bd lim c' (view_of g) db r ≡ ok s) (sn : s.stats.count_limited ≡ false) (sk : s.stats.complete_limited ≡ false) where
    pub agree-all : Agree (edge_lists (recorded d)) (edge_lists (recorded s))
    agree-all = (agreement (all_owners g) (view_of g) suited-all (view_of-lawful g) bd lim c c' r db holds d s hd dn dk hs sn sk).1 (λ l v. valid-owned bd lim r l v)

    pub demand-slots-all : DemandAll bd (view_of g) r lim (edge_lists (recorded d)) (edge_lists (recorded s))
    demand-slots-all =
        let x = direct-exact bd lim c (view_of g) (view_of-lawful g) r d hd in
        let y = stitched-exact (all_owners g) bd lim c' (view_of g) r db s holds suited-all hs in
        record {
          direct = λ l. (x.sound l, x.whole dn dk l);
          direct-once = x.once;
          stitched = λ l. (λ m. (y.sound l m).0, λ v. y.whole sn sk l v (valid-owned bd lim r l v));
          stitched-once = y.once;
          agree = agree-all;
        }

  -- A FILE'S PARTIAL PATHS are the same among these owners
  same_edges : (f : ℕ) → f < g.files → owned_by (view_of g) f ≡ belongs (view_of g) f
  same_edges f l = λ i e. owned-file f e l i

  -- EITHER COMPUTATION IN ONE FORM: an owner's edges, from root and from its references and exported scopes, of which nobody has none
  pub file-by-owner : (bd : Bounds) (lim : Limit) (c : Setting PartialPathRefusal) (f : ℕ) → f < g.files → file_routes bd lim c g f ≡ partials bd lim c (view_of g) (owned_by (view_of g) f) (start_routes g f)
  unfolding file_routes
  file-by-owner bd lim c f l = ap (λ (mine : ℕ → Bool). partials bd lim c (view_of g) mine (start_routes g f)) (sym (same_edges f l))

  pub no-starts : starts_from nobody 0 g.nodes ≡ []
  unfolding view_of
  no-starts = none_in (starts_from nobody 0 g.nodes) (λ x m. let s = starts-are nobody 0 x g.nodes m in not-file ((suited g good).home s.0 nobody s.2))
    where
      none_in : (l : List ℕ) → ((x : ℕ) → Memᴰ x l → ⊥) → l ≡ []
      none_in [] h = refl
      none_in (x ∷ l) h = absurd (h x (Memᴰ.head refl))

  pub alias-by-owner : (bd : Bounds) (lim : Limit) (c : Setting PartialPathRefusal) → alias_routes bd lim c g ≡ partials bd lim c (view_of g) (owned_by (view_of g) nobody) (start_routes g nobody)
  unfolding alias_routes
  alias-by-owner bd lim c = ap (λ (ns : List ℕ). partials bd lim c (view_of g) (owned_by (view_of g) nobody) (route_at 0 ∷ map route_at ns)) (sym no-starts)

  pub file-to-all : (bd : Bounds) (lim : Limit) (f : ℕ) (r : Route) → f < g.files → Partial bd lim (view_of g) (file_owners g) f r → Partial bd lim (view_of g) (all_owners g) f r
  file-to-all bd lim f r l p = record {
    begins = p.begins;
    walk = subst (λ (mine : ℕ → Bool). Walk (view_of g) mine r.start r.edges r.current) (sym (same_edges f l)) p.walk;
    some-edge = p.some-edge;
    fits = p.fits;
    distinct = p.distinct;
    short = p.short;
    endpoint = p.endpoint;
  }

  pub all-to-file : (bd : Bounds) (lim : Limit) (f : ℕ) (r : Route) → f < g.files → Partial bd lim (view_of g) (all_owners g) f r → Partial bd lim (view_of g) (file_owners g) f r
  all-to-file bd lim f r l p = record {
    begins = p.begins;
    walk = subst (λ (mine : ℕ → Bool). Walk (view_of g) mine r.start r.edges r.current) (same_edges f l) p.walk;
    some-edge = p.some-edge;
    fits = p.fits;
    distinct = p.distinct;
    short = p.short;
    endpoint = p.endpoint;
  }

  -- THE ALIAS SET: an unrefused computation finds just nobody's partial paths
  start_is : (r : Route) → Memᴰ r (route_at 0 ∷ []) → StartsAt (all_owners g) nobody r
  start_is r m = ⊎_elim (λ (e : r ≡ route_at 0). record { node = 0; route = e; begins = inl refl }) (λ k. absurd (Memᴰ.not-nil k)) (Memᴰ.cases_cons m)

  start_has : (n : ℕ) → (all_owners g).Starts nobody n → Memᴰ (route_at n) (route_at 0 ∷ [])
  start_has n (inl e) = Memᴰ.head (ap route_at e)
  start_has n (inr h) = absurd (not-file ((suited g good).home n nobody h.0))

  module _ (bd : Bounds) (lim : Limit) (c : Setting PartialPathRefusal) (u : State Route) (h : alias_routes bd lim c g ≡ ok u) where
    pub alias-found : Found bd lim (view_of g) (all_owners g) nobody u
    unfolding alias_routes
    alias-found = partials-found bd lim c (view_of g) (view_of-lawful g) (all_owners g) nobody (route_at 0 ∷ []) start_is start_has u h

    alias-unlimited : c.max_count ≡ None → c.max_complete ≡ None → (r : Route) → Partial bd lim (view_of g) (all_owners g) nobody r → Memᴰ r u.kept
    unfolding alias_routes partials
    alias-unlimited n k r p =
        let z = enumerate-unlimited c (route_tries bd lim (view_of g) (owned_by (view_of g) nobody)) bd.expansions (route_at 0 ∷ []) u h n k in
        alias-found.whole z.0 z.1 r p

  -- EITHER COMPUTATION without limits finds just its owner's partial paths
  module _ (bd : Bounds) where
    pub computed-known : {f : ℕ} {u : State Route} → Computed bd g f u → (all_owners g).Known f
    computed-known (of-file f c l h n k) = inl l
    computed-known (of-aliases c h n k) = inr refl

    pub computed-sound : {f : ℕ} {u : State Route} → Computed bd g f u → (r : Route) → Memᴰ r u.kept → Partial bd None (view_of g) (all_owners g) f r
    computed-sound (of-file {u = u} f c l h n k) r m = file-to-all bd None f r l ((file-found bd None c g f u h).sound r m)
    computed-sound (of-aliases {u = u} c h n k) r m = (alias-found bd None c u h).sound r m

    pub computed-whole : {f : ℕ} {u : State Route} → Computed bd g f u → (r : Route) → Partial bd None (view_of g) (all_owners g) f r → Memᴰ r u.kept
    computed-whole (of-file {u = u} f c l h n k) r p = file-unlimited bd None c g f u h n k r (all-to-file bd None f r l p)
    computed-whole (of-aliases {u = u} c h n k) r p = alias-unlimited bd None c u h n k r p

  -- NOBODY'S PARTIAL PATHS are all lists of 1 to as many distinct edges of this kind as the bound says, each going on from the last one's target (document 02): that they
  -- start at root and reach an endpoint needs no saying
  fileless-ends : (n e : ℕ) (t : NodeId) (p : ℤ) → (view_of g).edge e ≡ E.Live (node_id n) t p → owned_by (view_of g) nobody e ≡ true → (n ≡ 0) × (is_endpoint ((view_of g).node t.0) ≡ true)
  unfolding owned_by is_fileless
  fileless-ends n e t p k o =
      let i : is_fileless (view_of g) (E.Live (node_id n) t p) ≡ true = ap (is_fileless (view_of g)) (sym k) ∙ o in
      let both = and-true (lacks_file (file_of ((view_of g).node n))) (lacks_file (file_of ((view_of g).node t.0))) i in
      let live = edge-live g good e (node_id n) t p k in
      (⊎_elim (λ z. z) (λ z. absurd (live.2 z)) (fileless-first g good n live.0 both.0), shared-end ((view_of g).node t.0) live.1 both.1)

  walk_ends : {n m e : ℕ} {es : List ℕ} → Walk (view_of g) (owned_by (view_of g) nobody) n (e ∷ es) m → is_endpoint ((view_of g).node m) ≡ true
  walk_ends {n = n} {m = m} {e = e} {es = []} w =
      let k = walk-cons (view_of g) (owned_by (view_of g) nobody) w in
      subst (λ x. is_endpoint ((view_of g).node x) ≡ true) (walk-nil (view_of g) (owned_by (view_of g) nobody) k.4) (fileless-ends _ _ k.0 k.1 k.2 k.3).1
  walk_ends {n = n} {m = m} {e = e} {es = x ∷ es} w =
      let k = walk-cons (view_of g) (owned_by (view_of g) nobody) w in
      walk_ends {n = k.0.0} {m = m} {e = x} {es = es} k.4

  pub nobody-starts : (bd : Bounds) (lim : Limit) (r : Route) → Partial bd lim (view_of g) (all_owners g) nobody r → r.start ≡ 0
  nobody-starts bd lim r p = ⊎_elim (λ z. z) (λ (h : (file_of ((view_of g).node r.start) ≡ some nobody) × (is_start ((view_of g).node r.start) ≡ true)). absurd (not-file ((suited g good).home r.start nobody h.0))) p.begins

  pub nobody-has : (bd : Bounds) (n m e : ℕ) (es : List ℕ) → Walk (view_of g) (owned_by (view_of g) nobody) n (e ∷ es) m → length (e ∷ es) ≤ bd.edges → Distinct (e ∷ es)
      → Partial bd None (view_of g) (all_owners g) nobody (record { start = n; current = m; edges = e ∷ es })
  nobody-has bd n m e es w few d =
      let k = walk-cons (view_of g) (owned_by (view_of g) nobody) w in
      record { begins = inl (fileless-ends n e k.0 k.1 k.2 k.3).0; walk = w; some-edge = omega arith; fits = few; distinct = d; short = refl; endpoint = walk_ends w }
