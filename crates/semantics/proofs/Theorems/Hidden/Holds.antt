-- The visible slots of a database that meets the premise of demand 3 meet it for what a desk sees; the slots of hidden files need not hold anything.
-- Document 02, order 8: "The sets of demand 3 and their equality now concern visible edges only"; the same with the alias set.
use Rattle.std.specs.Prelude.{ℕ, ◌≤◌, ◌<◌, ◌⊎◌, Bool, eqb, length, ℤ, None}
use Rattle.std.proofs.Common.{arith, ◌∙◌, inl, inr, ⊎_elim}
use Rattle.std.proofs.Math.Path.{◌≡◌, refl, sym, ap, subst}
use Rattle.std.proofs.Math.Bool.{true, false, true≢false}
use Rattle.std.proofs.lemmas.Bool.{false≢true}
use Rattle.std.proofs.Math.Option.{Option, none, some}
use mathlib.Core.List.{List, [], ◌∷◌, Memᴰ}
use Rattle.semantics.specs.declared.graph.NodeId.{NodeId}
use Rattle.semantics.specs.declared.graph.Edge.{Edge}
use Rattle.semantics.specs.declared.graph.Edge.TheVariants as E
use Rattle.semantics.specs.Lists.{or, and}
use Rattle.semantics.specs.Lists.Laws.{and-true, or-true, mem-map, map-mem}
use Rattle.semantics.specs.Limits.{Bounds, nobody, Limit}
use Rattle.semantics.specs.Graph.{node_id, Graph, View, view_of, file_of, lacks_file, is_start, is_endpoint}
use Rattle.semantics.specs.PartialPaths.{Slot, dead, slot, Route, belongs, is_fileless, owned_by}
use Rattle.semantics.proofs.Theorems.PartialPaths.Laws.{belongs-cases, belongs-source, belongs-target}
use Rattle.semantics.specs.Demand.{Owners, file_owners, all_owners, Walk, stay, step, Partial, Holds}
use Rattle.semantics.proofs.Theorems.Demand.Aliases.{not-file, not-nobody, owned-file}
use Rattle.semantics.specs.Acceptance.{accepts}
use Rattle.semantics.proofs.Theorems.Acceptance.Laws.{suited}
use Rattle.semantics.specs.Hidden.{sees_file, node_if, edge_if, seen_node, seen_edge, seen, sees_owner, slot_if, seen_slot, seen_slots}
use Rattle.semantics.proofs.Theorems.Hidden.Laws.{seen-node, seen-edge, seen_test, seen-accepted}

-- A SLOT IS SEEN exactly when its owner is
module _ (see : ℕ → Bool) where
  slot-was : (x : Slot) (f s t : ℕ) (es : List ℕ) → slot f s t es ≡ seen_slot see x → (x ≡ slot f s t es) × (sees_owner see f ≡ true)
  unfolding seen_slot slot_if
  slot-was dead f s t es e = absurd (let z : ◌≡◌ {A = Bool} true false = cc in true≢false z)
  slot-was (slot f' s' t' es') f s t es e = on (sees_owner see f') refl e
    where
      on : (b : Bool) → sees_owner see f' ≡ b → slot f s t es ≡ slot_if b (slot f' s' t' es') → (slot f' s' t' es' ≡ slot f s t es) × (sees_owner see f ≡ true)
      on true h k = let z : f ≡ f' = cc in (sym k, ap (sees_owner see) z ∙ h)
      on false h k = absurd (let z : ◌≡◌ {A = Bool} true false = cc in true≢false z)

  seen-in : (f s t : ℕ) (es : List ℕ) (db : List Slot) → Memᴰ (slot f s t es) (seen_slots see db) → Memᴰ (slot f s t es) db × (sees_owner see f ≡ true)
  seen-in f s t es db m =
      let k = mem-map (seen_slot see) (slot f s t es) db m in
      let w = slot-was k.0 f s t es k.2 in
      (subst (λ x. Memᴰ x db) w.0 k.1, w.1)

  in-seen : (f s t : ℕ) (es : List ℕ) (db : List Slot) → sees_owner see f ≡ true → Memᴰ (slot f s t es) db → Memᴰ (slot f s t es) (seen_slots see db)
  unfolding seen_slot slot_if
  in-seen f s t es db h m = subst (λ (x : Slot). Memᴰ x (seen_slots see db)) (ap (λ b. slot_if b (slot f s t es)) h) (map-mem (seen_slot see) (slot f s t es) db m)

module _ (see : ℕ → Bool) (g : Graph) where
  abbrev v : View
  v = view_of g

  abbrev w : View
  w = view_of (seen see g)

  abbrev pub Sees : ℕ → Type 0
  Sees n = sees_file see (file_of (v.node n)) ≡ true

  pub node-same : (n : ℕ) → Sees n → w.node n ≡ v.node n
  node-same n h = seen-node see g n ∙ (unfold seen_node node_if in ap (λ b. node_if b (v.node n)) h)

  file-was : (n f : ℕ) → file_of (w.node n) ≡ some f → (file_of (v.node n) ≡ some f) × (see f ≡ true)
  unfolding seen_node node_if sees_file
  file-was n f e = on (sees_file see (file_of (v.node n))) refl (sym (ap file_of (seen-node see g n)) ∙ e)
    where
      on : (b : Bool) → sees_file see (file_of (v.node n)) ≡ b → file_of (node_if b (v.node n)) ≡ some f → (file_of (v.node n) ≡ some f) × (see f ≡ true)
      on true h k = (k, sym (ap (sees_file see) k) ∙ h)
      on false h k = absurd (let z : ◌≡◌ {A = Bool} true false = cc in true≢false z)

  pub edge-was : (e : ℕ) (s t : NodeId) (p : ℤ) → w.edge e ≡ E.Live s t p → (v.edge e ≡ E.Live s t p) × Sees s.0 × Sees t.0
  unfolding seen_edge edge_if
  edge-was e s t p h = on1 (v.edge e) refl (sym (seen-edge see g e) ∙ h)
    where
      on2 : (s' t' : NodeId) (p' : ℤ) (b : Bool) → and (sees_file see (file_of (v.node s'.0))) (sees_file see (file_of (v.node t'.0))) ≡ b → edge_if b s' t' p' ≡ E.Live s t p
          → (E.Live s' t' p' ≡ E.Live s t p) × Sees s.0 × Sees t.0
      on2 s' t' p' true q k =
          let z = and-true (sees_file see (file_of (v.node s'.0))) (sees_file see (file_of (v.node t'.0))) q in
          let a : s' ≡ s = cc in
          let b : t' ≡ t = cc in
          (k, ap (λ (x : NodeId). sees_file see (file_of (v.node x.0))) (sym a) ∙ z.0, ap (λ (x : NodeId). sees_file see (file_of (v.node x.0))) (sym b) ∙ z.1)
      on2 s' t' p' false q k = absurd (let z : ◌≡◌ {A = Bool} true false = cc in true≢false z)

      on1 : (x : Edge) → v.edge e ≡ x → seen_edge see v x ≡ E.Live s t p → (v.edge e ≡ E.Live s t p) × Sees s.0 × Sees t.0
      on1 E.Removed q k = absurd (let z : ◌≡◌ {A = Bool} true false = cc in true≢false z)
      on1 (E.Live s' t' p') q k = let r = on2 s' t' p' (and (sees_file see (file_of (v.node s'.0))) (sees_file see (file_of (v.node t'.0)))) refl k in (q ∙ r.0, r.1, r.2)

  pub edge_same : (e : ℕ) (s t : NodeId) (p : ℤ) → v.edge e ≡ E.Live s t p → Sees s.0 → Sees t.0 → w.edge e ≡ E.Live s t p
  unfolding seen_edge edge_if
  edge_same e s t p h a b = seen-edge see g e ∙ ap (seen_edge see v) h ∙ (rw (a, b))

  -- OWNERS of the graph and of what is seen: an owner that has an edge of what is seen is visible and has it in the graph, and a visible owner loses none
  record Shown (O O' : Owners) : Type 0 where
    pub known : (f : ℕ) → O'.Known f → O.Known f
    pub known-seen : (f : ℕ) → O.Known f → O'.Known f
    pub starts : (f n : ℕ) → O'.Starts f n → O.Starts f n
    pub starts-seen : (f n : ℕ) → O.Known f → sees_owner see f ≡ true → O.Starts f n → O'.Starts f n
    pub owns : (f e : ℕ) (s t : NodeId) (p : ℤ) → O.Known f → w.edge e ≡ E.Live s t p → O'.owns f e ≡ true → (O.owns f e ≡ true) × (sees_owner see f ≡ true)
    pub owns_seen : (f e : ℕ) (s t : NodeId) (p : ℤ) → O.Known f → sees_owner see f ≡ true → v.edge e ≡ E.Live s t p → O.owns f e ≡ true → Sees s.0 × Sees t.0 × (O'.owns f e ≡ true)

  module _ (O O' : Owners) (shown : Shown O O') (f : ℕ) (known : O.Known f) where
    walk-was : {n m : ℕ} {es : List ℕ} → Walk w (O'.owns f) n es m → Walk v (O.owns f) n es m
    walk-was stay = stay
    walk-was (step {n = n} {e = e} {t = t} p h b k) = step p (edge-was e (node_id n) t p h).0 (shown.owns f e (node_id n) t p known h b).0 (walk-was k)

    -- a partial path of what is seen has an edge, so its owner is visible
    owner-seen : {n m : ℕ} (es : List ℕ) → 1 ≤ length es → Walk w (O'.owns f) n es m → sees_owner see f ≡ true
    owner-seen [] l k = absurd (omega (arith, l))
    owner-seen (e ∷ es) l k = on k
      where
        on : {n m : ℕ} → Walk w (O'.owns f) n (e ∷ es) m → sees_owner see f ≡ true
        on (step {n = n} {t = t} p h b r) = (shown.owns f e (node_id n) t p known h b).1

    unhide : (bd : Bounds) (lim : Limit) (r : Route) → Partial bd lim w O' f r → Partial bd lim v O f r
    unhide bd lim r p = record {
      begins = shown.starts f r.start p.begins;
      walk = walk-was p.walk;
      some-edge = p.some-edge;
      fits = p.fits;
      distinct = p.distinct;
      short = p.short;
      endpoint = (seen_test see g is_endpoint refl r.current p.endpoint).1;
    }

    -- and back, for a visible owner
    module _ (visible : sees_owner see f ≡ true) where
      walk-seen : {n m : ℕ} {es : List ℕ} → Walk v (O.owns f) n es m → Walk w (O'.owns f) n es m
      walk-seen stay = stay
      walk-seen (step {n = n} {e = e} {t = t} p h b k) =
          let o = shown.owns_seen f e (node_id n) t p known visible h b in
          step p (edge_same e (node_id n) t p h o.0 o.1) o.2 (walk-seen k)

      -- the end of a walk with an edge is seen
      end_seen : {n m : ℕ} (es : List ℕ) → 1 ≤ length es → Walk v (O.owns f) n es m → Sees m
      end_seen [] l k = absurd (omega (arith, l))
      end_seen (e ∷ es) l k = on es k (λ x z q. end_seen es z q)
        where
          on : {n m : ℕ} (es : List ℕ) → Walk v (O.owns f) n (e ∷ es) m → ((x : ℕ) → 1 ≤ length es → Walk v (O.owns f) x es m → Sees m) → Sees m
          on [] (step {n = n} {t = t} p h b stay) ih = (shown.owns_seen f e (node_id n) t p known visible h b).1
          on (x ∷ es) (step {n = n} {t = t} p h b r) ih = ih t.0 (omega arith) r

      rehide : (bd : Bounds) (lim : Limit) (r : Route) → Partial bd lim v O f r → Partial bd lim w O' f r
      rehide bd lim r p = record {
        begins = shown.starts-seen f r.start known visible p.begins;
        walk = walk-seen p.walk;
        some-edge = p.some-edge;
        fits = p.fits;
        distinct = p.distinct;
        short = p.short;
        endpoint = ap is_endpoint (node-same r.current (end_seen r.edges p.some-edge p.walk)) ∙ p.endpoint;
      }

  -- THE PREMISE for what is seen asks for the visible owners' partial paths on the whole graph, and for no others among the slots of visible owners
  pub record HoldsVisible (O : Owners) (bd : Bounds) (db : List Slot) : Type 0 where
    pub every : (f : ℕ) (r : Route) → O.Known f → sees_owner see f ≡ true → Partial bd None (view_of g) O f r → Memᴰ (slot f r.start r.current r.edges) db
    pub only : (f s t : ℕ) (es : List ℕ) → sees_owner see f ≡ true → Memᴰ (slot f s t es) db → O.Known f × Partial bd None (view_of g) O f (record { start = s; current = t; edges = es })

  visible_holds : (O O' : Owners) → Shown O O' → (bd : Bounds) (db : List Slot) → HoldsVisible O bd db → Holds O' bd w (seen_slots see db)
  visible_holds O O' shown bd db h = record {
    every = λ f r k p.
        let known = shown.known f k in
        let visible = owner-seen O O' shown f known r.edges p.some-edge p.walk in
        in-seen see f r.start r.current r.edges db visible (h.every f r known visible (unhide O O' shown f known bd None r p));
    only = λ f s t es m.
        let i = seen-in see f s t es db m in
        let o = h.only f s t es i.1 i.0 in
        (shown.known-seen f o.0, rehide O O' shown f o.0 i.1 bd None (record { start = s; current = t; edges = es }) o.1);
  }

  -- a database that holds every owner's holds the visible ones'
  pub whole-visible : (O : Owners) (bd : Bounds) (db : List Slot) → Holds O bd (view_of g) db → HoldsVisible O bd db
  whole-visible O bd db h = record { every = λ f r k see p. h.every f r k p; only = λ f s t es see m. h.only f s t es m }

  -- THE OWNERS OF AN ACCEPTED GRAPH
  module _ (good : accepts g ≡ true) where
    some_inj : (x y : ℕ) → some x ≡ some y → x ≡ y
    some_inj x y e = cc

    -- a visible owner that is a file is a visible file
    pub file-visible : (f : ℕ) → f < g.files → sees_owner see f ≡ true → see f ≡ true
    file-visible f l h = sym (ap (λ b. or b (see f)) (not-nobody g good f l)) ∙ h

    owner-visible : (f : ℕ) → see f ≡ true → sees_owner see f ≡ true
    owner-visible f h = ap (or (eqb f nobody)) h ∙ or-true (eqb f nobody)

    sees-only : (f : ℕ) → see f ≡ true → (o : Option ℕ) → ((x : ℕ) → o ≡ some x → x ≡ f) → sees_file see o ≡ true
    unfolding sees_file
    sees-only f visible none h = refl
    sees-only f visible (some x) h = ap see (h x refl) ∙ visible

    belongs-was : (f e : ℕ) (s t : NodeId) (p : ℤ) → w.edge e ≡ E.Live s t p → belongs w f e ≡ true → (belongs v f e ≡ true) × (see f ≡ true)
    belongs-was f e s t p h b =
        ⊎_elim (λ k. let q = file-was s.0 f k in (belongs-source v f e s t p (edge-was e s t p h).0 q.0, q.1))
        (λ k. let q = file-was t.0 f k in (belongs-target v f e s t p (edge-was e s t p h).0 q.0, q.1)) (belongs-cases w f e s t p h b)

    -- both ends of an edge of a visible file are seen
    ends : (f e : ℕ) (s t : NodeId) (p : ℤ) → see f ≡ true → v.edge e ≡ E.Live s t p → belongs v f e ≡ true → Sees s.0 × Sees t.0
    ends f e s t p visible h b = (
      sees-only f visible (file_of (v.node s.0)) (λ x q. sym (from-source x q)),
      sees-only f visible (file_of (v.node t.0)) (λ x q. sym ((suited g good).at_target e s t p f x h b q)),
    )
      where
        from-source : (x : ℕ) → file_of (v.node s.0) ≡ some x → f ≡ x
        from-source x q = ⊎_elim (λ k. some_inj f x (sym k ∙ q)) (λ k. sym ((suited g good).at_target e s t p x f h (belongs-source v x e s t p h q) k)) (belongs-cases v f e s t p h b)

    belongs-seen : (f e : ℕ) (s t : NodeId) (p : ℤ) → see f ≡ true → v.edge e ≡ E.Live s t p → belongs v f e ≡ true → Sees s.0 × Sees t.0 × (belongs w f e ≡ true)
    belongs-seen f e s t p visible h b =
        let k = ends f e s t p visible h b in
        let q = edge_same e s t p h k.0 k.1 in (
          k.0,
          k.1,
          ⊎_elim (λ (x : file_of (v.node s.0) ≡ some f). belongs-source w f e s t p q (ap file_of (node-same s.0 k.0) ∙ x))
              (λ (x : file_of (v.node t.0) ≡ some f). belongs-target w f e s t p q (ap file_of (node-same t.0 k.1) ∙ x)) (belongs-cases v f e s t p h b),
        )

    abbrev Begins : View → ℕ → ℕ → Type 0
    Begins x f n = (n ≡ 0) ⊎ ((file_of (x.node n) ≡ some f) × (is_start (x.node n) ≡ true))

    begins-was : (f n : ℕ) → Begins w f n → Begins v f n
    begins-was f n (inl e) = inl e
    begins-was f n (inr h) = inr ((file-was n f h.0).0, (seen_test see g is_start refl n h.1).1)

    begins-seen : (f n : ℕ) → see f ≡ true → Begins v f n → Begins w f n
    begins-seen f n visible (inl e) = inl e
    begins-seen f n visible (inr h) = let z = node-same n (sees-only f visible (file_of (v.node n)) (λ x q. some_inj x f (sym q ∙ h.0))) in inr (ap file_of z ∙ h.0, ap is_start z ∙ h.1)

    files-shown : Shown (file_owners g) (file_owners (seen see g))
    unfolding seen
    files-shown = record {
      known = λ f k. k;
      known-seen = λ f k. k;
      starts = begins-was;
      starts-seen = λ f n k visible b. begins-seen f n (file-visible f k visible) b;
      owns = λ f e s t p k h b. let o = belongs-was f e s t p h b in (o.0, owner-visible f o.1);
      owns_seen = λ f e s t p k visible h b. belongs-seen f e s t p (file-visible f k visible) h b;
    }

    -- THE ALIAS SET: the ends of its edges have no file
    lacks-seen : (o : Option ℕ) → lacks_file o ≡ true → sees_file see o ≡ true
    unfolding lacks_file sees_file
    lacks-seen none h = refl
    lacks-seen (some f) h = absurd (false≢true h)

    fileless-was : (e : ℕ) (s t : NodeId) (p : ℤ) → w.edge e ≡ E.Live s t p → is_fileless w (w.edge e) ≡ true → is_fileless v (v.edge e) ≡ true
    unfolding is_fileless
    fileless-was e s t p h b =
        let q = edge-was e s t p h in
        let i : and (lacks_file (file_of (w.node s.0))) (lacks_file (file_of (w.node t.0))) ≡ true = ap (is_fileless w) (sym h) ∙ b in
        ap (is_fileless v) q.0 ∙ (rw (← node-same s.0 q.1, ← node-same t.0 q.2) i)

    fileless-seen : (e : ℕ) (s t : NodeId) (p : ℤ) → v.edge e ≡ E.Live s t p → is_fileless v (v.edge e) ≡ true → Sees s.0 × Sees t.0 × (is_fileless w (w.edge e) ≡ true)
    unfolding is_fileless
    fileless-seen e s t p h b =
        let i : and (lacks_file (file_of (v.node s.0))) (lacks_file (file_of (v.node t.0))) ≡ true = ap (is_fileless v) (sym h) ∙ b in
        let k = and-true (lacks_file (file_of (v.node s.0))) (lacks_file (file_of (v.node t.0))) i in
        let a = lacks-seen (file_of (v.node s.0)) k.0 in
        let c = lacks-seen (file_of (v.node t.0)) k.1 in
        (a, c, ap (is_fileless w) (edge_same e s t p h a c) ∙ (rw (node-same s.0 a, node-same t.0 c) i))

    nobody-owns : (x : View) (e : ℕ) → owned_by x nobody e ≡ is_fileless x (x.edge e)
    unfolding owned_by
    nobody-owns x e = refl

    owned-was : (f e : ℕ) (s t : NodeId) (p : ℤ) → (all_owners g).Known f → w.edge e ≡ E.Live s t p → owned_by w f e ≡ true → (owned_by v f e ≡ true) × (sees_owner see f ≡ true)
    unfolding seen
    owned-was f e s t p (inl l) h b =
        let o = belongs-was f e s t p h (sym (owned-file (seen see g) (seen-accepted see g good) f e l) ∙ b) in
        (owned-file g good f e l ∙ o.0, owner-visible f o.1)
    owned-was f e s t p (inr z) h b = (
      ap (λ x. owned_by v x e) z ∙ nobody-owns v e ∙ fileless-was e s t p h (sym (nobody-owns w e) ∙ ap (λ x. owned_by w x e) (sym z) ∙ b),
      ap (sees_owner see) z,
    )

    owned-seen : (f e : ℕ) (s t : NodeId) (p : ℤ) → (all_owners g).Known f → sees_owner see f ≡ true → v.edge e ≡ E.Live s t p → owned_by v f e ≡ true → Sees s.0 × Sees t.0 × (owned_by w f e ≡ true)
    unfolding seen
    owned-seen f e s t p (inl l) visible h b =
        let o = belongs-seen f e s t p (file-visible f l visible) h (sym (owned-file g good f e l) ∙ b) in
        (o.0, o.1, owned-file (seen see g) (seen-accepted see g good) f e l ∙ o.2)
    owned-seen f e s t p (inr z) visible h b =
        let o = fileless-seen e s t p h (sym (nobody-owns v e) ∙ ap (λ x. owned_by v x e) (sym z) ∙ b) in
        (o.0, o.1, ap (λ x. owned_by w x e) z ∙ nobody-owns w e ∙ o.2)

    begins-all : (f n : ℕ) → (all_owners g).Known f → sees_owner see f ≡ true → Begins v f n → Begins w f n
    begins-all f n (inl l) visible b = begins-seen f n (file-visible f l visible) b
    begins-all f n (inr z) visible (inl e) = inl e
    begins-all f n (inr z) visible (inr h) = absurd (not-file g good (subst (λ x. x < g.files) z ((suited g good).home n f h.0)))

    all_shown : Shown (all_owners g) (all_owners (seen see g))
    unfolding seen
    all_shown = record { known = λ f k. k; known-seen = λ f k. k; starts = begins-was; starts-seen = begins-all; owns = owned-was; owns_seen = owned-seen }

    -- what the premise needs, with the files as owners and with the alias set
    pub visible-files : (bd : Bounds) (db : List Slot) → HoldsVisible (file_owners g) bd db → Holds (file_owners (seen see g)) bd (view_of (seen see g)) (seen_slots see db)
    visible-files = visible_holds (file_owners g) (file_owners (seen see g)) files-shown

    pub visible_all : (bd : Bounds) (db : List Slot) → HoldsVisible (all_owners g) bd db → Holds (all_owners (seen see g)) bd (view_of (seen see g)) (seen_slots see db)
    visible_all = visible_holds (all_owners g) (all_owners (seen see g)) all_shown

    -- so it follows from the one without hiding
    pub hide-holds : (bd : Bounds) (db : List Slot) → Holds (file_owners g) bd (view_of g) db → Holds (file_owners (seen see g)) bd (view_of (seen see g)) (seen_slots see db)
    hide-holds bd db h = visible-files bd db (whole-visible (file_owners g) bd db h)

    pub hide-holds-all : (bd : Bounds) (db : List Slot) → Holds (all_owners g) bd (view_of g) db → Holds (all_owners (seen see g)) bd (view_of (seen see g)) (seen_slots see db)
    hide-holds-all bd db h = visible_all bd db (whole-visible (all_owners g) bd db h)
