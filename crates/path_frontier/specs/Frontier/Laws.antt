-- Laws of the items that wait: how a push and a pop change them, and what a search may conclude from the answers.
-- Serves document 01, "Budget and frontier" and 31 of "Turned back".
use Rattle.std.specs.Prelude.{◌≡◌, ◌⊎◌, Bool, true, false, ℕ, ◌+◌, ◌-◌, ◌≤◌, ◌<◌, ltb, length}
use Rattle.std.proofs.Math.Path.{refl}
use Rattle.std.proofs.Common.{sym, ap, subst, ◌∙◌, ⊎_elim, arith, not-suc-le-zero, lt-ltb, le-ltb, length-append}
use mathlib.Core.List.Memᴰ
use mathlib.Core.List.{List, [], ◌∷◌, ◌++◌, map, map-append, reverse, reverse-append, reverse-reverse, append_assoc, append-nil, Memᴰ}
use Rattle.std.proofs.lemmas.List.{length-reverse}
use Rattle.semantics.specs.declared.search.SearchOrder.{SearchOrder}
use Rattle.semantics.specs.declared.search.SearchOrder.TheVariants.{BreadthFirst, DepthFirst}
use Rattle.semantics.specs.Enumeration.{State, merge}
use Rattle.words.specs.Ring.{ring}
use Rattle.words.specs.Reversal.{rev_range, rev_range-at}
use Rattle.words.specs.Slots.{IsSlot, SlotsIn, put_slot}
use Rattle.words.specs.Slots.Laws.{within, length-put}
use Rattle.path_frontier.specs.declared.frontier.Frontier.{Frontier}
use Rattle.std.specs.Prelude.{Option, Some, None}
use Rattle.path_frontier.specs.Frontier.Held.{push-holds, framed-pushed}
use Rattle.path_frontier.specs.Frontier.{merged, arrange, empty, pushed, Framed, held, Kept, Shrunk, Front, Back, Waits, PushFrame, Puts, Pushes, PopFrame, Takes, Pops}

-- ---- the two orders

module _ {W : Type 0} where
  -- the definition's merge
  pub merge-is : (o : SearchOrder) (s : State W) → merge o s ≡ record { rest = merged o s.rest s.pending; pending = []; kept = s.kept; stats = s.stats; tally = s.tally }
  unfolding merge
  merge-is BreadthFirst s = refl
  merge-is DepthFirst s = refl

  pub length_merged : (o : SearchOrder) (rest pending : List W) → length (merged o rest pending) ≡ length rest + length pending
  length_merged BreadthFirst rest pending = length-append rest pending
  length_merged DepthFirst rest pending = length-append pending rest ∙ omega arith

  -- items after a pop are in the order of taking already
  pub merged-none : (o : SearchOrder) (rest : List W) → merged o rest [] ≡ rest
  merged-none BreadthFirst rest = append-nil rest
  merged-none DepthFirst rest = refl

  mem-merged : (o : SearchOrder) (rest pending : List W) (w : W) → Memᴰ w (merged o rest pending) → Memᴰ w (rest ++ pending)
  mem-merged BreadthFirst rest pending w m = m
  mem-merged DepthFirst rest pending w m = ⊎_elim
      (λ (a : Memᴰ w pending). Memᴰ.append_right rest a)
      (λ (a : Memᴰ w rest). Memᴰ.append_left pending a)
      (Memᴰ.append_cases pending m)

  arrange-snoc : (o : SearchOrder) (rest pending : List W) (w : W) → arrange o rest (pending ++ (w ∷ [])) ≡ arrange o rest pending ++ (w ∷ [])
  arrange-snoc BreadthFirst rest pending w = sym (append_assoc rest pending (w ∷ []))
  arrange-snoc DepthFirst rest pending w = sym (append_assoc (reverse rest) pending (w ∷ []))

-- items that stand for others, each by its words
pub map-merged : {W : Type 0} (words : W → List ℕ) (o : SearchOrder) (rest pending : List W) → merged o (map words rest) (map words pending) ≡ map words (merged o rest pending)
map-merged words BreadthFirst rest pending = sym (map-append words rest pending)
map-merged words DepthFirst rest pending = sym (map-append words pending rest)

-- ---- a frontier in which nothing waits

pub framed-empty : (o : SearchOrder) (length capacity : ℕ) (ws : List ℕ) → 0 < length → SlotsIn length capacity ws → Framed (empty o length capacity) ws
framed-empty o length capacity ws l h = record { wordy = l; counted = omega arith; newest = omega arith; inside = omega arith; room = h; starts = λ e. refl }

arrange-none : (o : SearchOrder) → arrange {W = List ℕ} o [] [] ≡ []
arrange-none BreadthFirst = refl
arrange-none DepthFirst = refl

pub waits-none : (o : SearchOrder) (length capacity : ℕ) (ws : List ℕ) → 0 < length → SlotsIn length capacity ws → Waits (empty o length capacity) ws [] []
unfolding held ring
waits-none o length capacity ws l h = record {
  framed = framed-empty o length capacity ws l h;
  counts = refl;
  newest = refl;
  sized = λ s m. absurd (Memᴰ.not-nil m);
  holds = sym (arrange-none o);
}

-- ---- a push

module _ (f : Frontier) (ws : List ℕ) (rest pending : List (List ℕ)) (w : Waits f ws rest pending) (s ws' : List ℕ) where
  pub waits-push : IsSlot f.length s → Framed (pushed f) ws' → held (pushed f) ws' ≡ held f ws ++ (s ∷ []) → Waits (pushed f) ws' rest (pending ++ (s ∷ []))
  waits-push l ok e = record {
    framed = ok;
    counts = rw length-append (omega (arith, w.counts));
    newest = rw length-append (omega (arith, w.newest));
    sized = λ t m. ⊎_elim
        (λ (a : Memᴰ t (rest ++ pending)). w.sized t a)
        (λ (a : Memᴰ t (s ∷ [])). ap length (Memᴰ.eq_of_singleton a) ∙ l)
        (Memᴰ.append_cases (rest ++ pending) (rw (← append_assoc) at m));
    holds = e ∙ ap (λ (x : List (List ℕ)). x ++ (s ∷ [])) w.holds ∙ sym (arrange-snoc f.order rest pending s);
  }

  pub puts-done : Waits (pushed f) ws' rest (pending ++ (s ∷ [])) → f.count < f.capacity → Puts (Some (pushed f)) (ltb (length rest + length pending) f.capacity) ws' rest (pending ++ (s ∷ []))
  puts-done v h = rw (lt-ltb (length rest + length pending) f.capacity (omega (arith, w.counts))) v

  pub puts-full : f.capacity ≤ f.count → Puts None (ltb (length rest + length pending) f.capacity) ws' rest (pending ++ (s ∷ []))
  puts-full h = rw (le-ltb (length rest + length pending) f.capacity (omega (arith, w.counts))) tt

module _ (f : Frontier) (ws : List ℕ) (ok : Framed f ws) (s : List ℕ) (l : IsSlot f.length s) where
  pub pushes-done : (i : ℕ) (ws' : List ℕ) → f.count < f.capacity → i < f.capacity → (f.first + f.count ≡ i) ⊎ (f.first + f.count ≡ i + f.capacity)
      → ws' ≡ put_slot f.length i s ws → Pushes f ws s (Some (pushed f)) ws'
  pushes-done i ws' h b a e =
      let n : length ws' ≡ length ws = ap length e ∙ length-put f.length i s ws l (within f.length f.capacity i ws b ok.room) in
      let ok' : Framed (pushed f) ws' = framed-pushed f ws ok ws' h n in
      let k : held (pushed f) ws' ≡ held f ws ++ (s ∷ []) = ap (held (pushed f)) e ∙ push-holds f ws ok i s h l b a in
      record {
        frame = (h, refl, ok');
        same_length = n;
        waits = λ rest pending w. puts-done f ws rest pending w s ws' (waits-push f ws rest pending w s ws' l ok' k) h;
      }

  pub pushes_full : f.capacity ≤ f.count → Pushes f ws s None ws
  pushes_full h = record { frame = (omega (arith, ok.counted), refl); same_length = refl; waits = λ rest pending w. puts-full f ws rest pending w s ws h }

-- ---- a pop

none : (l : List (List ℕ)) → length l ≤ 0 → l ≡ []
none [] h = refl
none (x ∷ l) h = absurd (not-suc-le-zero h)

module _ (f : Frontier) (ws : List ℕ) (rest pending : List (List ℕ)) (w : Waits f ws rest pending) where
  pub takes_none : (s ws' : List ℕ) → f.count ≤ 0 → Takes None s ws' (merged f.order rest pending)
  takes_none s ws' h = rw (none (merged f.order rest pending) (omega (arith, w.counts, length_merged f.order rest pending))) tt

  module _ (r : Frontier) (s : List ℕ) where
    -- xs are left, in the order of taking
    waits-left : (ws' : List ℕ) (xs : List (List ℕ)) → Shrunk f r → Framed r ws' → merged f.order rest pending ≡ s ∷ xs → held r ws' ≡ arrange r.order xs [] → Waits r ws' xs []
    waits-left ws' xs h ok m e = record {
      framed = ok;
      counts = omega (arith, h.count, w.counts, length_merged f.order rest pending, ap length m);
      newest = h.pending;
      sized = λ t a. w.sized t (mem-merged f.order rest pending t (subst (λ (l : List (List ℕ)). Memᴰ t l) (sym m) (Memᴰ.append_right (s ∷ []) (rw append-nil at a)))) ∙ sym h.kept.length;
      holds = e;
    }

    pub takes_front : f.order ≡ BreadthFirst → Front f ws s r → Takes (Some r) s ws (merged f.order rest pending)
    takes_front o t =
        let xs : List (List ℕ) = held r ws in
        let m : merged f.order rest pending ≡ s ∷ xs =
        ap (λ (q : SearchOrder). merged q rest pending) o ∙ ap (λ (q : SearchOrder). arrange q rest pending) (sym o) ∙ sym w.holds ∙ t.holds in
        let e : held r ws ≡ arrange r.order xs [] = sym (append-nil xs) ∙ ap (λ (q : SearchOrder). arrange q xs []) (sym (t.shrunk.kept.order ∙ o)) in
        subst (λ (l : List (List ℕ)). Takes (Some r) s ws l) (sym m) (refl, waits-left ws xs t.shrunk t.framed m e)

    pub takes_back : (ws' : List ℕ) → f.order ≡ DepthFirst → Back f ws s r ws' → Takes (Some r) s ws' (merged f.order rest pending)
    takes_back ws' o t =
        let xs : List (List ℕ) = reverse (held r ws') in
        let lo : ℕ = f.count - f.pending in
        let h : held f ws ≡ reverse rest ++ pending ++ [] = w.holds ∙ ap (λ (q : SearchOrder). arrange q rest pending) o ∙ sym (append-nil (reverse rest ++ pending)) in
        let k : rev_range lo f.pending (held f ws) ≡ reverse (pending ++ rest) =
        ap (rev_range lo f.pending) h
        ∙ rev_range-at (reverse rest) pending [] lo f.pending (rw length-reverse (omega (arith, w.counts, w.newest))) (sym w.newest)
        ∙ append-nil (reverse rest ++ reverse pending)
        ∙ sym (reverse-append pending rest) in
        let m : merged f.order rest pending ≡ s ∷ xs =
        ap (λ (q : SearchOrder). merged q rest pending) o
        ∙ sym (reverse-reverse (pending ++ rest))
        ∙ ap reverse (sym k ∙ t.holds)
        ∙ reverse-append (held r ws') (s ∷ []) in
        let e : held r ws' ≡ arrange r.order xs [] =
        sym (reverse-reverse (held r ws')) ∙ sym (append-nil (reverse xs)) ∙ ap (λ (q : SearchOrder). arrange q xs []) (sym (t.shrunk.kept.order ∙ o)) in
        subst (λ (l : List (List ℕ)). Takes (Some r) s ws' l) (sym m) (refl, waits-left ws' xs t.shrunk t.framed m e)

module _ (f : Frontier) (ws : List ℕ) (s : List ℕ) where
  pub pops-front : (r : Frontier) → f.order ≡ BreadthFirst → Front f ws s r → Pops f ws (Some r) s ws
  pops-front r o t = record { frame = (t.shrunk, t.framed); same_length = refl; waits = λ rest pending w. takes_front f ws rest pending w r s o t }

  pub pops-back : (r : Frontier) (ws' : List ℕ) → f.order ≡ DepthFirst → Back f ws s r ws' → Pops f ws (Some r) s ws'
  pops-back r ws' o t = record { frame = (t.shrunk, t.framed); same_length = t.same_length; waits = λ rest pending w. takes_back f ws rest pending w r s ws' o t }

  pub pops-none : f.count ≤ 0 → Pops f ws None s ws
  pops-none h = record { frame = (omega arith, refl); same_length = refl; waits = λ rest pending w. takes_none f ws rest pending w s ws h }

-- ---- what a search may conclude from an answer

pub kept-pushed : (f : Frontier) → Kept f (pushed f)
kept-pushed f = record { order = refl; length = refl; capacity = refl }

module _ (f : Frontier) (ws s : List ℕ) (a : Option Frontier) (ws' : List ℕ) (p : Pushes f ws s a ws') where
  pub push-frame : (r : Frontier) → a ≡ Some r → (f.count < f.capacity) × (r ≡ pushed f) × Framed r ws'
  push-frame r e = subst (λ (x : Option Frontier). PushFrame f ws x ws') e p.frame

  pub push-same : a ≡ None → ws' ≡ ws
  push-same e = (subst (λ (x : Option Frontier). PushFrame f ws x ws') e p.frame).1

  module _ (rest pending : List (List ℕ)) (w : Waits f ws rest pending) where
    -- a slot was free, and one more item waits
    pub push-done : (r : Frontier) → a ≡ Some r → (ltb (length rest + length pending) f.capacity ≡ true) × Waits r ws' rest (pending ++ (s ∷ []))
    push-done r e = free (ltb (length rest + length pending) f.capacity) (subst (λ (x : Option Frontier). Puts x (ltb (length rest + length pending) f.capacity) ws' rest (pending ++ (s ∷ []))) e (p.waits rest pending w))
      where
        free : (b : Bool) → Puts (Some r) b ws' rest (pending ++ (s ∷ [])) → (b ≡ true) × Waits r ws' rest (pending ++ (s ∷ []))
        free true v = (refl, v)
        free false v = absurd v

    -- no slot was free
    pub push-full : a ≡ None → ltb (length rest + length pending) f.capacity ≡ false
    push-full e = taken (ltb (length rest + length pending) f.capacity) (subst (λ (x : Option Frontier). Puts x (ltb (length rest + length pending) f.capacity) ws' rest (pending ++ (s ∷ []))) e (p.waits rest pending w))
      where
        taken : (b : Bool) → Puts None b ws' rest (pending ++ (s ∷ [])) → b ≡ false
        taken true v = absurd v
        taken false v = refl

module _ (f : Frontier) (ws : List ℕ) (a : Option Frontier) (s ws' : List ℕ) (p : Pops f ws a s ws') where
  pub pop-frame : (r : Frontier) → a ≡ Some r → Shrunk f r × Framed r ws'
  pop-frame r e = subst (λ (x : Option Frontier). PopFrame f ws x ws') e p.frame

  pub pop-same : a ≡ None → ws' ≡ ws
  pop-same e = (subst (λ (x : Option Frontier). PopFrame f ws x ws') e p.frame).1

  module _ (rest pending : List (List ℕ)) (w : Waits f ws rest pending) where
    -- s was the next in the order of taking, and the others wait in that order
    pub pop-item : (r : Frontier) → a ≡ Some r → (xs : List (List ℕ)) × (merged f.order rest pending ≡ s ∷ xs) × Waits r ws' xs []
    pop-item r e = first (merged f.order rest pending) (subst (λ (x : Option Frontier). Takes x s ws' (merged f.order rest pending)) e (p.waits rest pending w))
      where
        first : (l : List (List ℕ)) → Takes (Some r) s ws' l → (xs : List (List ℕ)) × (l ≡ s ∷ xs) × Waits r ws' xs []
        first [] v = absurd v
        first (x ∷ xs) v = (xs, ap (λ (y : List ℕ). y ∷ xs) (sym v.0), v.1)

    -- nothing waited
    pub pop-empty : a ≡ None → merged f.order rest pending ≡ []
    pop-empty e = nothing (merged f.order rest pending) (subst (λ (x : Option Frontier). Takes x s ws' (merged f.order rest pending)) e (p.waits rest pending w))
      where
        nothing : (l : List (List ℕ)) → Takes None s ws' l → l ≡ []
        nothing [] v = refl
        nothing (x ∷ xs) v = absurd v
