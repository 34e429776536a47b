-- A frontier against the state of an enumeration: items of any kind wait, each by its words. What a search draws from a push and a pop, in the definition's own terms.
-- Serves document 01, "Budget and frontier" and 31 of "Turned back".
use Rattle.std.specs.Prelude.{◌≡◌, refl, Bool, ℕ, ◌+◌, ◌<◌, ◌≤◌, length}
use Rattle.std.proofs.Common.{sym, subst, ◌∙◌, arith, lt-ltb, le-ltb, ltb→lt}
use Rattle.std.proofs.Math.Path.{ap, ap₂}
use Rattle.std.proofs.Math.Bool.{true, false}
use mathlib.Core.List.{List, [], ◌∷◌, map, map-append}
use Rattle.std.proofs.Math.Dec.{ltb}
use Rattle.std.proofs.lemmas.List.{length-map}
use Rattle.semantics.specs.declared.search.SearchOrder.{SearchOrder}
use Rattle.semantics.specs.Lists.{pick}
use Rattle.semantics.specs.Lists.Laws.{eq→T}
use Rattle.semantics.specs.Answer.{ok, refuse, ok_if}
use Rattle.semantics.specs.Enumeration.{State, Setting, Area, slots, blank, waiting, greater, with_pending, merge, place, push_item}
use Rattle.semantics.specs.Enumeration.Waiting.{greater-right}
use Rattle.words.specs.Slots.{SlotsIn}
use Rattle.path_frontier.specs.declared.frontier.Frontier.{Frontier}
use Rattle.std.specs.Prelude.{Option, Some, None}
use Rattle.path_frontier.specs.Frontier.{merged, empty, greatest_in, Waits, Pushes, Pops}
use Rattle.path_frontier.specs.Frontier.Laws.{merge-is, map-merged, waits-none, push-frame, push-done, push-full, pop-frame, pop-item, pop-empty}

-- ---- how many ever waited

less-greater : (m n : ℕ) → m < n → greater m n ≡ n
less-greater m n h = ap (λ (b : Bool). pick b n m) (lt-ltb m n h)

more-greater : (m n : ℕ) → n ≤ m → greater m n ≡ m
more-greater m n h = ap (λ (b : Bool). pick b n m) (le-ltb m n h)

-- at a push: n waited, and m at most before the last pop
greater-push : (m n : ℕ) → greater m (n + 1) ≡ greater (greater m n) (n + 1)
greater-push m n = on (ltb m n) refl
  where
    on : (b : Bool) → ltb m n ≡ b → greater m (n + 1) ≡ greater (pick b n m) (n + 1)
    on true h = let k = ltb→lt m n (eq→T _ h) in less-greater m (n + 1) (omega (arith, k)) ∙ sym (less-greater n (n + 1) (omega arith))
    on false h = refl

-- at a pop: fewer wait than did
greater-pop : (m n k : ℕ) → k ≤ n → greater (greater m n) k ≡ greater m n
greater-pop m n k h = let r = greater-right m n in more-greater (greater m n) k (omega (arith, r, h))

module _ {W : Type 0} (words : W → List ℕ) where
  -- the items of a state wait in the slots, and the frontier knows how many ever waited together
  abbrev pub Stands : Frontier → List ℕ → State W → Type 0
  Stands f ws s = Waits f ws (map words s.rest) (map words s.pending) × (greatest_in f ≡ s.tally.waited)

  pub stands-blank : (o : SearchOrder) (length capacity : ℕ) (ws : List ℕ) → 0 < length → SlotsIn length capacity ws → Stands (empty o length capacity) ws blank
  stands-blank o length capacity ws l h = (waits-none o length capacity ws l h, refl)

  -- as many wait in the slots as in the state
  as_many : (s : State W) → length (map words s.rest) + length (map words s.pending) ≡ waiting s
  as_many s = simp length-map

  module _ {R : Type 0} (c : Setting R) (full : R) (f : Frontier) (area : c.waiting ≡ slots f.capacity full) (ws : List ℕ) (s : State W) (w : W) (a : Option Frontier) (ws' : List ℕ)
      (p : Pushes f ws (words w) a ws') (v : Stands f ws s) where
    placed : (b : Bool) → ltb (length (map words s.rest) + length (map words s.pending)) f.capacity ≡ b → push_item c w s ≡ ok_if b full (with_pending w s)
    unfolding push_item place
    placed b e =
        ap (λ (z : Area R). place z (waiting s) (with_pending w s)) area
        ∙ ap (λ (t : Bool). ok_if t full (with_pending w s)) (ap (λ (n : ℕ). ltb n f.capacity) (sym (as_many s)) ∙ e)

    pub stands-done : (r : Frontier) → a ≡ Some r → (push_item c w s ≡ ok (with_pending w s)) × Stands r ws' (with_pending w s)
    unfolding ok_if
    stands-done r e =
        let d = push-done f ws (words w) a ws' p (map words s.rest) (map words s.pending) v.0 r e in
        let n : f.count + 1 ≡ waiting s + 1 = let k = v.0.counts in let j = as_many s in omega (arith, k, j) in
        let m : greatest_in r ≡ greater s.tally.waited (waiting s + 1) =
        ap greatest_in (push-frame f ws (words w) a ws' p r e).1 ∙ greater-push f.most f.count ∙ ap₂ greater v.1 n in
        (placed true d.0, (subst (λ (l : List (List ℕ)). Waits r ws' (map words s.rest) l) (sym (map-append words s.pending (w ∷ []))) d.1, m))

    pub stands-full : a ≡ None → push_item c w s ≡ refuse full
    unfolding ok_if
    stands-full e = placed false (push-full f ws (words w) a ws' p (map words s.rest) (map words s.pending) v.0 e)

  -- a list whose words are a first item's and others'
  uncons : (l : List W) (t : List ℕ) (ts : List (List ℕ)) → map words l ≡ t ∷ ts → (w : W) × (us : List W) × (l ≡ w ∷ us) × (words w ≡ t) × (map words us ≡ ts)
  uncons [] t ts e = absurd (let z : ◌≡◌ {A = ℕ} 0 1 = cc in omega arith)
  uncons (w ∷ us) t ts e = (w, us, refl, cc, cc)

  nothing : (l : List W) → map words l ≡ [] → l ≡ []
  nothing [] e = refl
  nothing (w ∷ us) e = absurd (let z : ◌≡◌ {A = ℕ} 0 1 = cc in omega arith)

  module _ (f : Frontier) (ws : List ℕ) (s : State W) (a : Option Frontier) (t ws' : List ℕ) (p : Pops f ws a t ws') (v : Stands f ws s) where
    rest-is : (merge f.order s).rest ≡ merged f.order s.rest s.pending
    rest-is = ap (λ (u : State W). u.rest) (merge-is f.order s)

    -- t is the next item's words, and the items left wait in the order of taking; as many ever waited as before
    pub stands-item : (r : Frontier) → a ≡ Some r → (w : W) × (us : List W) × ((merge f.order s).rest ≡ w ∷ us) × (words w ≡ t) × Waits r ws' (map words us) [] × (greatest_in r ≡ s.tally.waited)
    stands-item r e =
        let d = pop-item f ws a t ws' p (map words s.rest) (map words s.pending) v.0 r e in
        let k = (pop-frame f ws a t ws' p r e).0 in
        let m : greatest_in r ≡ s.tally.waited = ap (λ (n : ℕ). greater n r.count) k.most ∙ greater-pop f.most f.count r.count (omega (arith, k.count)) ∙ v.1 in
        let u = uncons (merged f.order s.rest s.pending) t d.0 (sym (map-merged words f.order s.rest s.pending) ∙ d.1) in
        (u.0, u.1, rest-is ∙ u.2, u.3, subst (λ (l : List (List ℕ)). Waits r ws' l []) (sym u.4) d.2, m)

    pub stands-empty : a ≡ None → (merge f.order s).rest ≡ []
    stands-empty e =
        rest-is
        ∙ nothing (merged f.order s.rest s.pending) (sym (map-merged words f.order s.rest s.pending) ∙ pop-empty f ws a t ws' p (map words s.rest) (map words s.pending) v.0 e)
