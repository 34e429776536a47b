-- Laws of a route in words: how it is begun, its count and edges, one more edge behind them, and its ends.
-- Serves document 01, "Answer" and "Partial paths".
use Rattle.std.specs.Prelude.{ℕ, zero, suc, ◌+◌, ◌-◌, ◌<◌, ◌≤◌, ◌≡◌, Bool, true, false, List, [], ◌∷◌, ◌++◌, ℤ, length, take, get_or, set}
use Rattle.std.proofs.Common.{arith, sym, ap, subst, ◌∙◌, lt-ltb, le-ltb}
use Rattle.std.proofs.Math.Path.{refl}
use Rattle.std.proofs.Math.ListN.{length-replicate}
use Rattle.std.proofs.Math.Seq.{length-take-le}
use Rattle.std.proofs.lemmas.List.{set-append_left}
use Rattle.semantics.specs.Limits.{max_edges}
use Rattle.semantics.specs.declared.graph.NodeId.{NodeId}
use Rattle.semantics.specs.declared.graph.Edge.{Edge}
use Rattle.semantics.specs.declared.graph.Edge.TheVariants as E
use Rattle.semantics.specs.Lists.{or}
use Rattle.semantics.specs.Lists.Laws.{length-snoc}
use Rattle.semantics.specs.Graph.{node_id, View}
use Rattle.semantics.specs.Words.{zeros, encode}
use Rattle.semantics.specs.Words.Laws.{length-encode}
use Rattle.semantics.specs.PartialPaths.{Route, owned_by, target_of, longer}
use Rattle.semantics.proofs.Theorems.PartialPaths.Laws.{walk-snoc, walk-nil, walk-cons}
use Rattle.semantics.specs.Demand.{Walk}
use Rattle.words.specs.Slots.{padded}
use Rattle.words.specs.Slots.Wider.{padded-is}
use Rattle.search_state.specs.Items.{Carries}
use Rattle.search_state.specs.Items.Laws.{carries-slot, encode-longer}
use Rattle.partial_state.specs.declared.route.Ends.{Ends}
use Rattle.partial_state.specs.Routes.{held_by, held, source_of, ends_in, ends_of, Traced}

-- ---- words

-- zeros with the start in the first edge word
pub begun : (L s : ℕ) → 2 ≤ L → set (zeros L) 1 s ≡ held_by L s []
unfolding held_by
begun zero s h = absurd (omega (arith, h))
begun (suc zero) s h = absurd (omega (arith, h))
begun (suc (suc m)) s h = ap (λ (l : List ℕ). 0 ∷ s ∷ l) (fewer m (suc (suc m)) (omega arith))
  where
    fewer : (m n : ℕ) → m ≤ n → zeros m ≡ take m (zeros n)
    fewer zero n h = refl
    fewer (suc m) zero h = absurd (omega (arith, h))
    fewer (suc m) (suc n) h = ap (λ (l : List ℕ). 0 ∷ l) (fewer m n (omega (arith, h)))

pub held-long : (L : ℕ) (r : Route) → length (held L r) ≡ L
held-long L r = on r.edges
  where
    on : (es : List ℕ) → length (held_by L r.start es) ≡ L
    on [] = unfold held_by in length-take-le L (0 ∷ r.start ∷ zeros L) (simp length-replicate (omega arith))
    on (e ∷ es) = unfold held_by in length-encode L (e ∷ es)

pub held-count : (L s : ℕ) (es : List ℕ) → 0 < L → get_or (held_by L s es) 0 0 ≡ length es
unfolding held_by encode
held-count zero s es h = absurd (omega (arith, h))
held-count (suc m) s [] h = refl
held-count (suc m) s (e ∷ es) h = refl

-- with an edge the start needs no word
pub held-snoc : (L s e : ℕ) (es : List ℕ) → held_by L s (es ++ (e ∷ [])) ≡ encode L (es ++ (e ∷ []))
unfolding held_by
held-snoc L s e [] = refl
held-snoc L s e (x ∷ es) = refl

pub held-carries : (L s : ℕ) (es : List ℕ) → 2 ≤ L → length es < L → Carries L (held_by L s es) es
unfolding held_by encode
held-carries zero s es h k = absurd (omega (arith, h))
held-carries (suc m) s (e ∷ es) h k = carries-slot m (e ∷ es) (omega (arith, k))
held-carries (suc zero) s [] h k = absurd (omega (arith, h))
held-carries (suc (suc m)) s [] h k = record { long = held-long (suc (suc m)) (record { start = s; current = s; edges = [] }); edges = refl; grows = λ e l. refl }

-- ---- in a longer slot

zeros-append : (m n : ℕ) → zeros m ++ zeros n ≡ zeros (m + n)
zeros-append zero n = ap zeros (let z : n ≡ 0 + n = omega arith in z)
zeros-append (suc m) n = ap (λ (l : List ℕ). 0 ∷ l) (zeros-append m n) ∙ ap zeros (let z : suc (m + n) ≡ suc m + n = omega arith in z)

-- a route's words in a longer slot are the same with zeros behind
pub held-padded : (L S : ℕ) (r : Route) → 2 ≤ S → S ≤ L → length r.edges < S → padded L (held S r) ≡ held L r
held-padded L S r h k room = sym (padded-is L S (held S r) (held-long S r)) ∙ on r.edges room
  where
    some : (M e : ℕ) (es : List ℕ) → held_by M r.start (e ∷ es) ≡ encode M (e ∷ es)
    some M e es = unfold held_by in refl

    on : (es : List ℕ) → length es < S → held_by S r.start es ++ zeros (L - S) ≡ held_by L r.start es
    on [] l =
        ap (λ (w : List ℕ). w ++ zeros (L - S)) (sym (begun S r.start h))
        ∙ sym (set-append_left (zeros S) (zeros (L - S)) 1 r.start (simp length-replicate (omega (arith, h))))
        ∙ ap (λ (w : List ℕ). set w 1 r.start) (zeros-append S (L - S) ∙ ap zeros (let z : S + (L - S) ≡ L = omega (arith, k) in z))
        ∙ begun L r.start (omega (arith, h, k))
    on (e ∷ es) l =
        ap (λ (w : List ℕ). w ++ zeros (L - S)) (some S e es)
        ∙ padded-is L S (encode S (e ∷ es)) (length-encode S (e ∷ es))
        ∙ encode-longer S L (e ∷ es) l k
        ∙ sym (some L e es)

-- ---- ends

walk-last : {g : View} {mine : ℕ → Bool} (e : ℕ) (es : List ℕ) {n m : ℕ} → Walk g mine n (e ∷ es) m → target_of (g.edge (get_or (e ∷ es) (length es) 0)) ≡ m
unfolding target_of
walk-last {g} {mine} e [] w = let k = walk-cons g mine w in ap target_of k.2 ∙ walk-nil g mine k.4
walk-last {g} {mine} e (x ∷ es) {m} w = let k = walk-cons g mine w in walk-last x es k.4

get_or-taken : (es rest : List ℕ) (m i : ℕ) → i < length es → length es ≤ m → get_or (take m (es ++ rest)) i 0 ≡ get_or es i 0
get_or-taken [] rest m i h k = absurd (omega (arith, h))
get_or-taken (x ∷ es) rest zero i h k = absurd (omega (arith, k))
get_or-taken (x ∷ es) rest (suc m) zero h k = refl
get_or-taken (x ∷ es) rest (suc m) (suc i) h k = get_or-taken es rest m i (omega (arith, h)) (omega (arith, k))

pub held-ends : {g : View} {file : ℕ} (L : ℕ) {r : Route} → Traced g file r → 2 ≤ L → length r.edges < L → ends_in g.edge (held L r) ≡ ends_of r
unfolding ends_in held_by encode source_of
held-ends zero t b h = absurd (omega (arith, b))
held-ends (suc zero) t b h = absurd (omega (arith, b))
held-ends {g} {file} (suc (suc m)) {r} t b h = on r.edges t.walk (omega (arith, h))
  where
    on : (es : List ℕ) → Walk g (owned_by g file) r.start es r.current → length es ≤ suc m → ends_in g.edge (held_by (suc (suc m)) r.start es) ≡ ends_of r
    on [] w h = ap (λ (n : ℕ). record { start = r.start; end = n }) (walk-nil g (owned_by g file) w)
    on (e ∷ es) w h =
        let k = walk-cons g (owned_by g file) w in
        let l = walk-last e es w in
        let s : source_of (g.edge e) ≡ r.start = ap source_of k.2 in
        let d : target_of (g.edge (get_or (take (suc m) (e ∷ es ++ zeros (suc (suc m)))) (length es) 0)) ≡ r.current = ap (λ (n : ℕ). target_of (g.edge n)) (get_or-taken (e ∷ es) (zeros (suc (suc m))) (suc m) (length es) (omega arith) h) ∙ l in
        rw (lt-ltb 0 (suc (length es)) (omega arith)) (λ i. record { start = s i; end = d i })

-- ---- one more edge

pub traced-snoc : {g : View} {file : ℕ} {r : Route} (e : ℕ) (t : NodeId) (p : ℤ) → Traced g file r → length r.edges < max_edges → g.edge e ≡ E.Live (node_id r.current) t p → owned_by g file e ≡ true → Traced g file (longer r e (target_of (g.edge e)))
unfolding target_of
traced-snoc {g} {file} {r} e t p x h l b = record {
  walk = subst (λ (n : ℕ). Walk g (owned_by g file) r.start (r.edges ++ (e ∷ [])) n) (sym (ap target_of l)) (walk-snoc g (owned_by g file) e t p x.walk l b);
  short = omega (arith, length-snoc r.edges e, h);
}

-- ---- outcomes in code

module _ (edge : ℕ → Edge) (item : List ℕ) where
  pub ends_some : {s t : ℕ} → 0 < get_or item 0 0 → s ≡ source_of (edge (get_or item 1 0)) → t ≡ target_of (edge (get_or item (get_or item 0 0) 0)) → ◌≡◌ {A = Ends} (record { start = s; end = t }) (ends_in edge item)
  unfolding ends_in
  ends_some h p q = rw (lt-ltb 0 (get_or item 0 0) h) (λ i. record { start = p i; end = q i })

  pub ends-none : get_or item 0 0 ≤ 0 → ◌≡◌ {A = Ends} (record { start = get_or item 1 0; end = get_or item 1 0 }) (ends_in edge item)
  unfolding ends_in
  ends-none h = rw (le-ltb 0 (get_or item 0 0) h)

pub or-none : (b : Bool) → or b false ≡ b
or-none true = refl
or-none false = refl
