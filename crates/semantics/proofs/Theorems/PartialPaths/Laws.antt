-- What a computation of partial paths finds, and which slots survive a clearing.
-- Document 01, "Partial paths".
use Rattle.std.specs.Prelude.{ℕ, zero, suc, ◌+◌, ◌≤◌, ◌<◌, ◌≡◌, ◌⊎◌, Bool, eqb, get_or, ℤ, None}
use Rattle.std.proofs.Common.{add-zero, zero-add, add-suc, suc-add, sym, ◌∙◌, inl, inr, ⊎_elim, true≢false, lt→ltb}
use native.Mathlib.Omega.{arith}
use Rattle.std.proofs.Math.Path.{refl, ap, subst}
use Rattle.std.proofs.Math.Bool.{true, false}
use Rattle.std.proofs.lemmas.Bool.{false≢true}
use Rattle.std.proofs.Math.Option.{Option, none, some}
use mathlib.Core.List.Memᴰ
use mathlib.Core.List.{List, [], ◌∷◌, ◌++◌, map, append_assoc, Memᴰ}
use Rattle.std.proofs.Math.Dec.{ltb, ltb→lt}
use Rattle.std.proofs.Math.ListN.{length, length-append}
use Rattle.semantics.specs.declared.graph.NodeId.{NodeId}
use Rattle.semantics.specs.declared.graph.Node.{Node}
use Rattle.semantics.specs.declared.graph.Node.TheVariants as N
use Rattle.semantics.specs.declared.graph.Edge.{Edge}
use Rattle.semantics.specs.declared.graph.Edge.TheVariants as E
use Rattle.semantics.specs.declared.refusal.PartialPathRefusal.{PartialPathRefusal}
use Rattle.semantics.specs.declared.refusal.PartialPathRefusal.TheVariants.{UnknownFile, TooLong}
use Rattle.semantics.specs.Lists.{has, or, and, select, Distinct}
use Rattle.semantics.specs.Lists.Laws.{T→eq, eq→T, eqb-true, eqb_same, or-true, and-true, distinct_snoc, distinct-split, map-mem, mem-map, cons_if-tail, cons_if-cases, select_in, in-select, length-snoc}
use Rattle.semantics.specs.Limits.{Bounds, within, nobody, Limit}
use Rattle.semantics.proofs.Theorems.Limits.Laws.{within-le, within-zero}
use Rattle.semantics.specs.Answer.{ok}
use Rattle.semantics.specs.Answer.Laws.{refuse-ok}
use Rattle.semantics.specs.Graph.{node_id, file_id, Graph, View, view_of, file_of, is_file, is_start, is_endpoint, Lawful}
use Rattle.semantics.specs.Graph.Laws.{view_of-lawful}
use Rattle.semantics.specs.Enumeration.{go, Setting, State, tested}
use Rattle.semantics.specs.Enumeration.Laws.{Leads, here, on, enumerate-full, enumerate-sound, enumerate-unlimited, tested-go}
use Rattle.semantics.specs.PartialPaths.{Route, Slot, dead, slot, is_of_file, belongs, target_of, longer, reached, judge_route, route_tries, starts_from, route_at, start_routes, partials, file_routes, if_known, file_partials, clear, dead_if, only_live, SameLive}
use Rattle.semantics.specs.Demand.{Owners, file_owners, Walk, stay, step, Partial, Holds, NoAliases}

pub walk-snoc : (g : View) (mine : ℕ → Bool) (e : ℕ) (t : NodeId) (p : ℤ) {n m : ℕ} {es : List ℕ} → Walk g mine n es m → g.edge e ≡ E.Live (node_id m) t p → mine e ≡ true → Walk g mine n (es ++ (e ∷ [])) t.0
walk-snoc g mine e t p stay h b = step p h b stay
walk-snoc g mine e t p (step q k c w) h b = step q k c (walk-snoc g mine e t p w h b)

pub walk-nil : (g : View) (mine : ℕ → Bool) {n m : ℕ} → Walk g mine n [] m → n ≡ m
walk-nil g mine stay = refl

pub walk-cons : (g : View) (mine : ℕ → Bool) {n m e : ℕ} {es : List ℕ} → Walk g mine n (e ∷ es) m → (t : NodeId) × (p : ℤ) × (g.edge e ≡ E.Live (node_id n) t p) × (mine e ≡ true) × Walk g mine t.0 es m
walk-cons g mine (step {t = t} p h b w) = (t, p, h, b, w)

module _ (bd : Bounds) (lim : Limit) (g : View) (lawful : Lawful g) where
  record Passed (r q : Route) (e : ℕ) (b : Bool) : Type 0 where
    pub fresh : has e r.edges ≡ false
    pub short : within (suc (length r.edges)) lim ≡ true
    pub room : ltb (length r.edges) bd.edges ≡ true
    pub made : q ≡ longer r e (target_of (g.edge e))
    pub endpoint : b ≡ is_endpoint (g.node (target_of (g.edge e)))

  judge-go : (r q : Route) (e : ℕ) (b : Bool) → judge_route bd lim g r e ≡ go b q → Passed r q e b
  unfolding judge_route reached
  judge-go r q e b h =
      let t = tested-go (has e r.edges) (within (suc (length r.edges)) lim) (ltb (length r.edges) bd.edges) TooLong (reached g r e) b q h in
      let k = t.3 in
      record { fresh = t.0; short = t.1; room = t.2; made = cc; endpoint = cc }

  judge-passed : (r : Route) (e : ℕ) → has e r.edges ≡ false → within (suc (length r.edges)) lim ≡ true → ltb (length r.edges) bd.edges ≡ true
      → judge_route bd lim g r e ≡ go (is_endpoint (g.node (target_of (g.edge e)))) (longer r e (target_of (g.edge e)))
  unfolding judge_route tested reached
  judge-passed r e f w l = rw (f, w, l)

  first-try : (mine : ℕ → Bool) (e : ℕ) (t : NodeId) (p : ℤ) (es : List ℕ) (r : Route) → g.edge e ≡ E.Live (node_id r.current) t p → mine e ≡ true → Distinct (r.edges ++ (e ∷ es)) → length (r.edges ++ (e ∷ es)) ≤ bd.edges → within (length (r.edges ++ (e ∷ es))) lim ≡ true
      → Memᴰ (go (is_endpoint (g.node t.0)) (longer r e t.0)) (route_tries bd lim g mine r)
  unfolding route_tries
  first-try mine e t p es r h b d l w =
      let i = select_in mine e (g.out r.current) (lawful.lists r.current e (node_id r.current) t p h (eqb_same r.current)) b in
      let n = length-append r.edges (e ∷ es) in
      let s : within (suc (length r.edges)) lim ≡ true = within-le lim (suc (length r.edges)) (length (r.edges ++ (e ∷ es))) (omega arith) w in
      let c : ltb (length r.edges) bd.edges ≡ true = T→eq (ltb (length r.edges) bd.edges) (lt→ltb (length r.edges) bd.edges (omega arith)) in
      let j : judge_route bd lim g r e ≡ go (is_endpoint (g.node t.0)) (longer r e t.0) = judge-passed r e (distinct-split r.edges e es d) s c ∙ ap (λ y. go (is_endpoint (g.node (target_of y))) (longer r e (target_of y))) h in
      subst (λ y. Memᴰ y (route_tries bd lim g mine r)) j (map-mem (judge_route bd lim g r) e (select mine (g.out r.current)) i)

  leads-of : (mine : ℕ → Bool) (es : List ℕ) (e : ℕ) (r : Route) (m : ℕ) → Walk g mine r.current (e ∷ es) m → Distinct (r.edges ++ (e ∷ es)) → length (r.edges ++ (e ∷ es)) ≤ bd.edges → within (length (r.edges ++ (e ∷ es))) lim ≡ true → is_endpoint (g.node m) ≡ true
      → Leads (route_tries bd lim g mine) r (record { start = r.start; current = m; edges = r.edges ++ (e ∷ es) })
  leads-of mine [] e r m w d l s c =
      let k = walk-cons g mine w in
      let z = walk-nil g mine k.4 in
      here (subst (λ b. Memᴰ (go b (longer r e m)) (route_tries bd lim g mine r)) c
      (subst (λ t. Memᴰ (go (is_endpoint (g.node t)) (longer r e t)) (route_tries bd lim g mine r)) z (first-try mine e k.0 k.1 [] r k.2 k.3 d l s)))
  leads-of mine (x ∷ es) e r m w d l s c =
      let k = walk-cons g mine w in
      let j : r.edges ++ (e ∷ []) ++ (x ∷ es) ≡ r.edges ++ (e ∷ x ∷ es) = append_assoc r.edges (e ∷ []) (x ∷ es) in
      on (is_endpoint (g.node k.0.0)) (first-try mine e k.0 k.1 (x ∷ es) r k.2 k.3 d l s)
      (subst (λ y. Leads (route_tries bd lim g mine) (longer r e k.0.0) (record { start = r.start; current = m; edges = y })) j
      (leads-of mine es x (longer r e k.0.0) m k.4 (subst Distinct (sym j) d) (subst (λ y. length y ≤ bd.edges) (sym j) l) (subst (λ y. within (length y) lim ≡ true) (sym j) s) c))

  -- what is known of a route met on the way
  record Met (mine : ℕ → Bool) (s : ℕ) (r : Route) : Type 0 where
    pub start : r.start ≡ s
    pub walk : Walk g mine s r.edges r.current
    pub distinct : Distinct r.edges
    pub fits : length r.edges ≤ bd.edges
    pub short : within (length r.edges) lim ≡ true

  step-met : (mine : ℕ → Bool) (s : ℕ) (r q : Route) (b : Bool) → Met mine s r → Memᴰ (go b q) (route_tries bd lim g mine r) → Met mine s q × (b ≡ is_endpoint (g.node q.current)) × (1 ≤ length q.edges)
  unfolding route_tries
  step-met mine s r q b t m =
      let k = mem-map (judge_route bd lim g r) (go b q) (select mine (g.out r.current)) m in
      let i = in-select mine k.0 (g.out r.current) k.1 in
      let o = lawful.live r.current k.0 i.0 in
      let h = judge-go r q k.0 b (sym k.2) in
      let n = length-snoc r.edges k.0 in
      let z : target_of (g.edge k.0) ≡ o.0.0 = target_is (g.edge k.0) r.current o.0 o.1 o.2 in
      let c : ltb (length r.edges) bd.edges ≡ true = h.room in
      let v : length r.edges < bd.edges = ltb→lt (length r.edges) bd.edges (eq→T (ltb (length r.edges) bd.edges) c) in
      let y : q ≡ longer r k.0 o.0.0 = h.made ∙ ap (longer r k.0) z in
      subst (λ x. Met mine s x × (b ≡ is_endpoint (g.node x.current)) × (1 ≤ length x.edges)) (sym y) (
        record {
          start = t.start;
          walk = walk-snoc g mine k.0 o.0 o.1 t.walk o.2 i.1;
          distinct = distinct_snoc r.edges k.0 t.distinct h.fresh;
          fits = omega arith;
          short = rw n h.short;
        },
        h.endpoint ∙ ap (λ x. is_endpoint (g.node x)) z,
        omega arith,
      )
    where
      target_is : (x : Edge) (n : ℕ) (t : NodeId) (p : ℤ) → x ≡ E.Live (node_id n) t p → target_of x ≡ t.0
      target_is x n t p e = ap target_of e

  leads-met : (mine : ℕ → Bool) (s : ℕ) (r q : Route) → Met mine s r → Leads (route_tries bd lim g mine) r q → Met mine s q × (is_endpoint (g.node q.current) ≡ true) × (1 ≤ length q.edges)
  leads-met mine s r q t (here m) = let k = step-met mine s r q true t m in (k.0, sym k.1, k.2)
  leads-met mine s r q t (on {u = x} b m l) = leads-met mine s x q (step-met mine s r x b t m).0 l

-- a starting item, as a route without edges from a start of owner f
pub record StartsAt (O : Owners) (f : ℕ) (r : Route) : Type 0 where
  pub node : ℕ
  pub route : r ≡ route_at node
  pub begins : O.Starts f node

pub record Found (bd : Bounds) (lim : Limit) (g : View) (O : Owners) (f : ℕ) (u : State Route) : Type 0 where
  pub sound : (r : Route) → Memᴰ r u.kept → Partial bd lim g O f r
  pub whole : u.stats.count_limited ≡ false → u.stats.complete_limited ≡ false → (r : Route) → Partial bd lim g O f r → Memᴰ r u.kept

-- an owner's partial paths, from a list that holds just its starts
module _ (bd : Bounds) (lim : Limit) (c : Setting PartialPathRefusal) (g : View) (lawful : Lawful g) (O : Owners) (f : ℕ) (starts : List Route)
    (start_is : (r : Route) → Memᴰ r starts → StartsAt O f r) (start_has : (n : ℕ) → O.Starts f n → Memᴰ (route_at n) starts) (u : State Route) where
  found-sound : partials bd lim c g (O.owns f) starts ≡ ok u → (r : Route) → Memᴰ r u.kept → Partial bd lim g O f r
  unfolding partials
  found-sound h r m =
      let s = enumerate-sound c (route_tries bd lim g (O.owns f)) bd.expansions starts u h r m in
      let t = start_is s.0 s.1 in
      let i : Met bd lim g lawful (O.owns f) t.node s.0 = subst (Met bd lim g lawful (O.owns f) t.node) (sym t.route) (record { start = refl; walk = stay; distinct = tt; fits = omega arith; short = within-zero lim }) in
      let k = leads-met bd lim g lawful (O.owns f) t.node s.0 r i s.2 in
      let z = k.0.start in
      record { begins = rw z t.begins; walk = subst (λ x. Walk g (O.owns f) x r.edges r.current) (sym z) k.0.walk; some-edge = k.2; fits = k.0.fits; distinct = k.0.distinct; short = k.0.short; endpoint = k.1 }

  found-whole : partials bd lim c g (O.owns f) starts ≡ ok u → u.stats.count_limited ≡ false → u.stats.complete_limited ≡ false → (r : Route) → Partial bd lim g O f r → Memᴰ r u.kept
  unfolding partials
  found-whole h nc nk r p = enumerate-full c (route_tries bd lim g (O.owns f)) bd.expansions starts u h nc nk (route_at r.start) r (start_has r.start p.begins) (led r.edges refl p.some-edge)
    where
      led : (es : List ℕ) → r.edges ≡ es → 1 ≤ length es → Leads (route_tries bd lim g (O.owns f)) (route_at r.start) r
      led [] e n = absurd (omega arith)
      led (x ∷ es) e n = subst (λ y. Leads (route_tries bd lim g (O.owns f)) (route_at r.start) (record { start = r.start; current = r.current; edges = y })) (sym e)
          (leads-of bd lim g lawful (O.owns f) es x (route_at r.start) r.current (subst (λ y. Walk g (O.owns f) r.start y r.current) e p.walk) (subst Distinct e p.distinct) (subst (λ y. length y ≤ bd.edges) e p.fits) (subst (λ y. within (length y) lim ≡ true) e p.short) p.endpoint)

  pub partials-found : partials bd lim c g (O.owns f) starts ≡ ok u → Found bd lim g O f u
  partials-found h = record { sound = found-sound h; whole = found-whole h }

pub is_file-is : (f : ℕ) (o : Option ℕ) → is_file f o ≡ true → o ≡ some f
unfolding is_file
is_file-is f none e = absurd (false≢true e)
is_file-is f (some x) e = ap some (eqb-true x f e)

pub is_file-of : (f : ℕ) (o : Option ℕ) → o ≡ some f → is_file f o ≡ true
unfolding is_file
is_file-of f o e = ap (is_file f) e ∙ eqb_same f

-- AN EDGE OF A FILE has an end in it
pub belongs-cases : (g : View) (f e : ℕ) (s t : NodeId) (p : ℤ) → g.edge e ≡ E.Live s t p → belongs g f e ≡ true → (file_of (g.node s.0) ≡ some f) ⊎ (file_of (g.node t.0) ≡ some f)
unfolding belongs is_of_file
belongs-cases g f e s t p h b = by-source (is_file f (file_of (g.node s.0))) refl (ap (is_of_file g f) (sym h) ∙ b)
  where
    by-source : (x : Bool) → is_file f (file_of (g.node s.0)) ≡ x → or x (is_file f (file_of (g.node t.0))) ≡ true → (file_of (g.node s.0) ≡ some f) ⊎ (file_of (g.node t.0) ≡ some f)
    by-source true k c = inl (is_file-is f (file_of (g.node s.0)) k)
    by-source false k c = inr (is_file-is f (file_of (g.node t.0)) c)

pub belongs-source : (g : View) (f e : ℕ) (s t : NodeId) (p : ℤ) → g.edge e ≡ E.Live s t p → file_of (g.node s.0) ≡ some f → belongs g f e ≡ true
unfolding belongs is_of_file
belongs-source g f e s t p h k = ap (is_of_file g f) h ∙ ap (λ x. or x (is_file f (file_of (g.node t.0)))) (is_file-of f (file_of (g.node s.0)) k)

pub belongs-target : (g : View) (f e : ℕ) (s t : NodeId) (p : ℤ) → g.edge e ≡ E.Live s t p → file_of (g.node t.0) ≡ some f → belongs g f e ≡ true
unfolding belongs is_of_file
belongs-target g f e s t p h k = ap (is_of_file g f) h ∙ ap (or (is_file f (file_of (g.node s.0)))) (is_file-of f (file_of (g.node t.0)) k) ∙ or-true (is_file f (file_of (g.node s.0)))

-- THE STARTS OF A FILE
pub starts-are : (f i x : ℕ) (ns : List Node) → Memᴰ x (starts_from f i ns) → (k : ℕ) × (x ≡ i + k) × (file_of (get_or ns k N.Removed) ≡ some f) × (is_start (get_or ns k N.Removed) ≡ true)
unfolding starts_from
starts-are f i x [] m = absurd (Memᴰ.not-nil m)
starts-are f i x (n ∷ ns) m =
    ⊎_elim (λ h. let k = and-true (is_file f (file_of n)) (is_start n) h.1 in (0, h.0 ∙ sym (add-zero i), is_file-is f (file_of n) k.0, k.1))
    (λ j. let h = starts-are f (suc i) x ns j in (suc h.0, h.1 ∙ suc-add i h.0 ∙ sym (add-suc i h.0), h.2, h.3))
    (cons_if-cases (and (is_file f (file_of n)) (is_start n)) i x (starts_from f (suc i) ns) m)

starts-have : (f i k : ℕ) (ns : List Node) → file_of (get_or ns k N.Removed) ≡ some f → is_start (get_or ns k N.Removed) ≡ true → Memᴰ (i + k) (starts_from f i ns)
unfolding starts_from
starts-have f i k [] e s = absurd (false≢true s)
starts-have f i zero (n ∷ ns) e s = rw (add-zero, is_file-of f (file_of n) e, s) (Memᴰ.head refl)
starts-have f i (suc k) (n ∷ ns) e s = cons_if-tail (and (is_file f (file_of n)) (is_start n)) i (i + suc k) (starts_from f (suc i) ns) (rw (add-suc i k, ← suc-add i k) (starts-have f (suc i) k ns e s))

start_is : (g : Graph) (f : ℕ) (r : Route) → Memᴰ r (start_routes g f) → StartsAt (file_owners g) f r
unfolding view_of
start_is g f r m = ⊎_elim (λ e. record { node = 0; route = e; begins = inl refl }) others (Memᴰ.cases_cons m)
  where
    others : Memᴰ r (map route_at (starts_from f 0 g.nodes)) → StartsAt (file_owners g) f r
    others k =
        let h = mem-map route_at r (starts_from f 0 g.nodes) k in
        let j = starts-are f 0 h.0 g.nodes h.1 in
        let z : h.0 ≡ j.0 = j.1 ∙ zero-add j.0 in
        record { node = j.0; route = h.2 ∙ ap route_at z; begins = inr (j.2, j.3) }

start_has : (g : Graph) (f n : ℕ) → (file_owners g).Starts f n → Memᴰ (route_at n) (start_routes g f)
unfolding view_of
start_has g f n (inl e) = Memᴰ.head (ap route_at e)
start_has g f n (inr h) = Memᴰ.tail (map-mem route_at n (starts_from f 0 g.nodes) (rw zero-add at (starts-have f 0 n g.nodes h.0 h.1)))

-- A FILE'S PARTIAL PATHS: an unrefused computation finds just these
module _ (bd : Bounds) (lim : Limit) (c : Setting PartialPathRefusal) (g : Graph) (f : ℕ) (u : State Route) where
  pub file-found : file_routes bd lim c g f ≡ ok u → Found bd lim (view_of g) (file_owners g) f u
  unfolding file_routes
  file-found h = partials-found bd lim c (view_of g) (view_of-lawful g) (file_owners g) f (start_routes g f) (start_is g f) (start_has g f) u h

  pub file-unlimited : file_routes bd lim c g f ≡ ok u → c.max_count ≡ None → c.max_complete ≡ None → (r : Route) → Partial bd lim (view_of g) (file_owners g) f r → Memᴰ r u.kept
  unfolding file_routes partials
  file-unlimited h n k r p =
      let z = enumerate-unlimited c (route_tries bd lim (view_of g) (belongs (view_of g) f)) bd.expansions (start_routes g f) u h n k in
      (file-found h).whole z.0 z.1 r p

  pub file-partials : file_partials bd lim c g f ≡ ok u → (f < g.files) × (file_routes bd lim c g f ≡ ok u)
  unfolding file_partials if_known
  file-partials h = on (ltb f g.files) refl h
    where
      on : (b : Bool) → ltb f g.files ≡ b → if_known b bd lim c g f ≡ ok u → (f < g.files) × (file_routes bd lim c g f ≡ ok u)
      on true e k = (ltb→lt f g.files (eq→T (ltb f g.files) e), k)
      on false e k = absurd (refuse-ok (UnknownFile (file_id f)) u k)

-- A CLEARING: a slot that survives it is another owner's, and those stay
pub clear-from : (f f' s t : ℕ) (es : List ℕ) (db : List Slot) → Memᴰ (slot f' s t es) (clear f db) → Memᴰ (slot f' s t es) db × (eqb f' f ≡ false)
unfolding clear
clear-from f f' s t es [] m = absurd (Memᴰ.not-nil m)
clear-from f f' s t es (dead ∷ db) m = ⊎_elim (λ e. absurd (let z : ◌≡◌ {A = Bool} true false = cc in true≢false z)) (λ k. let r = clear-from f f' s t es db k in (Memᴰ.tail r.0, r.1)) (Memᴰ.cases_cons m)
clear-from f f' s t es (slot x s' t' es' ∷ db) m = ⊎_elim (λ e. let r = was (eqb x f) refl e in (Memᴰ.head r.0, r.1)) (λ k. let r = clear-from f f' s t es db k in (Memᴰ.tail r.0, r.1)) (Memᴰ.cases_cons m)
  where
    was : (b : Bool) → eqb x f ≡ b → slot f' s t es ≡ dead_if b (slot x s' t' es') → (slot f' s t es ≡ slot x s' t' es') × (eqb f' f ≡ false)
    was true h e = absurd (let z : ◌≡◌ {A = Bool} true false = cc in true≢false z)
    was false h e = (e, let z : f' ≡ x = cc in ap (λ q. eqb q f) z ∙ h)

pub clear-keeps : (f f' s t : ℕ) (es : List ℕ) (db : List Slot) → eqb f' f ≡ false → Memᴰ (slot f' s t es) db → Memᴰ (slot f' s t es) (clear f db)
unfolding clear
clear-keeps f f' s t es [] n m = absurd (Memᴰ.not-nil m)
clear-keeps f f' s t es (dead ∷ db) n m = ⊎_elim (λ e. Memᴰ.head e) (λ k. Memᴰ.tail (clear-keeps f f' s t es db n k)) (Memᴰ.cases_cons m)
clear-keeps f f' s t es (slot x s' t' es' ∷ db) n m = ⊎_elim (λ e. Memᴰ.head (stays e)) (λ k. Memᴰ.tail (clear-keeps f f' s t es db n k)) (Memᴰ.cases_cons m)
  where
    stays : slot f' s t es ≡ slot x s' t' es' → slot f' s t es ≡ dead_if (eqb x f) (slot x s' t' es')
    stays e = let z : f' ≡ x = cc in let y : eqb x f ≡ false = ap (λ q. eqb q f) (sym z) ∙ n in e ∙ ap (λ b. dead_if b (slot x s' t' es')) (sym y)

-- THE LIVE SLOTS are what can be found in a database
pub live_in : (f s t : ℕ) (es : List ℕ) (db : List Slot) → Memᴰ (slot f s t es) db → Memᴰ (slot f s t es) (only_live db)
unfolding only_live
live_in f s t es [] m = absurd (Memᴰ.not-nil m)
live_in f s t es (dead ∷ db) m = ⊎_elim (λ e. absurd (let z : ◌≡◌ {A = Bool} true false = cc in true≢false z)) (λ k. live_in f s t es db k) (Memᴰ.cases_cons m)
live_in f s t es (slot x s' t' es' ∷ db) m = ⊎_elim (λ (e : slot f s t es ≡ slot x s' t' es'). Memᴰ.head e) (λ k. Memᴰ.tail (live_in f s t es db k)) (Memᴰ.cases_cons m)

pub live-from : (f s t : ℕ) (es : List ℕ) (db : List Slot) → Memᴰ (slot f s t es) (only_live db) → Memᴰ (slot f s t es) db
unfolding only_live
live-from f s t es [] m = absurd (Memᴰ.not-nil m)
live-from f s t es (dead ∷ db) m = Memᴰ.tail (live-from f s t es db m)
live-from f s t es (slot x s' t' es' ∷ db) m = ⊎_elim (λ (e : slot f s t es ≡ slot x s' t' es'). Memᴰ.head e) (λ k. Memᴰ.tail (live-from f s t es db k)) (Memᴰ.cases_cons m)

pub live-again : (db : List Slot) → only_live (only_live db) ≡ only_live db
unfolding only_live
live-again [] = refl
live-again (dead ∷ db) = live-again db
live-again (slot f s t es ∷ db) = ap (λ (l : List Slot). slot f s t es ∷ l) (live-again db)

module _ {db db' : List Slot} (e : SameLive db db') where
  pub same_mem : (f s t : ℕ) (es : List ℕ) → Memᴰ (slot f s t es) db → Memᴰ (slot f s t es) db'
  same_mem f s t es m = live-from f s t es db' (subst (λ (l : List Slot). Memᴰ (slot f s t es) l) e (live_in f s t es db m))

  pub same_back : (f s t : ℕ) (es : List ℕ) → Memᴰ (slot f s t es) db' → Memᴰ (slot f s t es) db
  same_back f s t es m = live-from f s t es db (subst (λ (l : List Slot). Memᴰ (slot f s t es) l) (sym e) (live_in f s t es db' m))

  -- so the premise of demand 3 does not depend on dead slots
  pub same-holds : (O : Owners) (bd : Bounds) (g : View) → Holds O bd g db → Holds O bd g db'
  same-holds O bd g h = record {
    every = λ f r k p. same_mem f r.start r.current r.edges (h.every f r k p);
    only = λ f s t es m. h.only f s t es (same_back f s t es m);
  }

  pub same_none : NoAliases db → NoAliases db'
  same_none out = λ s t es m. out s t es (same_back nobody s t es m)
