-- Laws of slots that get more words: the items wait in the same places.
-- Serves document 01, "Budget and frontier" and "Answer".
use Rattle.std.specs.Prelude.{◌≡◌, refl, ◌⊎◌, ℕ, zero, suc, ◌+◌, ◌-◌, ◌*◌, ◌≤◌, drop}
use Rattle.std.proofs.Math.Path.{sym, ap, ap₂}
use Rattle.std.proofs.Common.{subst, ◌∙◌, inl, inr, ⊎_elim, le_trans, mul-le-mul_left, mul-le-mul_right, arith, take_at, take-take}
use mathlib.Core.List.{List, [], ◌∷◌, ◌++◌, map, map-append, reverse, reverse-cons, append-nil, Memᴰ}
use Rattle.std.proofs.Math.ListN.{length, take, length-drop}
use Rattle.std.proofs.lemmas.List.{length-map}
use Rattle.std.proofs.Math.Seq.{take-length, take-append-le, length-take-le}
use Rattle.semantics.specs.Limits.{slot_length}
use Rattle.semantics.specs.declared.search.SearchOrder.{SearchOrder}
use Rattle.semantics.specs.declared.search.SearchOrder.TheVariants.{BreadthFirst, DepthFirst}
use Rattle.semantics.specs.Words.{zeros, slots_of}
use Rattle.words.specs.Ring.{rotl, ring}
use Rattle.words.specs.Slots.{IsSlot, SlotsIn, padded}
use Rattle.words.specs.Slots.Laws.{length-slots}
use Rattle.words.specs.Slots.Reversed.{slots-add}
use Rattle.words.specs.Slots.Wider.{length-padded}
use Rattle.path_frontier.specs.declared.frontier.Frontier.{Frontier}
use Rattle.path_frontier.specs.Frontier.{arrange, Framed, held, Waits, Wider, widened, Widens, MakesRoom}

module _ {A B : Type 0} (f : A → B) where
  map-take : (k : ℕ) (l : List A) → map f (take k l) ≡ take k (map f l)
  map-take zero l = refl
  map-take (suc k) [] = refl
  map-take (suc k) (x ∷ l) = ap (λ (t : List B). f x ∷ t) (map-take k l)

  map-drop : (k : ℕ) (l : List A) → map f (drop k l) ≡ drop k (map f l)
  map-drop zero l = refl
  map-drop (suc k) [] = refl
  map-drop (suc k) (x ∷ l) = map-drop k l

  map-ring : (i c : ℕ) (l : List A) → map f (ring i c l) ≡ ring i c (map f l)
  unfolding ring rotl
  map-ring i c l = map-take c (drop i l ++ take i l) ∙ ap (take c) (map-append f (drop i l) (take i l) ∙ ap₂ (λ (x y : List B). x ++ y) (map-drop i l) (map-take i l))

  map-reverse : (l : List A) → map f (reverse l) ≡ reverse (map f l)
  map-reverse [] = refl
  map-reverse (x ∷ l) = ap (map f) (reverse-cons x l) ∙ map-append f (reverse l) (x ∷ []) ∙ ap (λ (t : List B). t ++ (f x ∷ [])) (map-reverse l) ∙ sym (reverse-cons (f x) (map f l))

  map-arrange : (o : SearchOrder) (rest pending : List A) → map f (arrange o rest pending) ≡ arrange o (map f rest) (map f pending)
  map-arrange BreadthFirst rest pending = map-append f rest pending
  map-arrange DepthFirst rest pending = map-append f (reverse rest) pending ∙ ap (λ (t : List B). t ++ map f pending) (map-reverse rest)

  -- what is among the images is the image of one
  mem-map : (y : B) (l : List A) → Memᴰ y (map f l) → (x : A) × Memᴰ x l × (y ≡ f x)
  mem-map y [] m = absurd (mathlib.Core.List.Memᴰ.not-nil m)
  mem-map y (x ∷ l) m = ⊎_elim
      (λ (e : y ≡ f x). (x, mathlib.Core.List.Memᴰ.head refl, e))
      (λ (t : Memᴰ y (map f l)). let r = mem-map y l t in (r.0, mathlib.Core.List.Memᴰ.tail r.1, r.2))
      (mathlib.Core.List.Memᴰ.cases_cons m)

-- the first slots of all
slots-first : (L n m : ℕ) (ws : List ℕ) → n ≤ m → take n (slots_of L m ws) ≡ slots_of L n ws
slots-first L n m ws h =
    let q : m ≡ n + (m - n) = omega (arith, h) in
    ap (λ (k : ℕ). take n (slots_of L k ws)) q ∙ ap (take n) (slots-add L n (m - n) ws) ∙ take_at (slots_of L n ws) (slots_of L (m - n) (drop (L * n) ws)) n (length-slots L n ws)

module _ {A : Type 0} where
  part-first : (i c n : ℕ) (l : List A) → i + c ≤ n → n ≤ length l → take c (drop i (take n l)) ≡ take c (drop i l)
  part-first zero c n l h k = take-take c n l (omega (arith, h))
  part-first (suc i) c zero l h k = absurd (omega (arith, h))
  part-first (suc i) c (suc n) [] h k = absurd (omega (arith, k))
  part-first (suc i) c (suc n) (x ∷ l) h k = part-first i c n l (omega (arith, h)) (omega (arith, k))

  -- a ring that does not go round the end stands in the first n, and any ring in all
  ring-first : (i c n : ℕ) (l : List A) → n ≤ length l → (i + c ≤ n) ⊎ (n ≡ length l) → ring i c (take n l) ≡ ring i c l
  unfolding ring rotl
  ring-first i c n l k (inl h) =
      let m : length (take n l) ≡ n = length-take-le n l k in
      let a : c ≤ length (drop i (take n l)) = simp length-drop (omega (arith, m, h)) in
      let b : c ≤ length (drop i l) = simp length-drop (omega (arith, h, k)) in
      take-append-le c (drop i (take n l)) (take i (take n l)) a ∙ part-first i c n l h k ∙ sym (take-append-le c (drop i l) (take i l) b)
  ring-first i c n l k (inr e) = ap (λ (x : List A). take c (drop i x ++ take i x)) (ap (λ (j : ℕ). take j l) e ∙ take-length l)

-- the n slots in use, which are all where the ring goes round its end, have more words now
module _ {f : Frontier} {ws : List ℕ} (ok : Framed f ws) {L : ℕ} (wide : Wider f ws L) (n : ℕ) (few : n ≤ f.capacity) (used : (f.first + f.count ≤ n) ⊎ (n ≡ f.capacity)) (ws' : List ℕ) (long : length ws' ≡ length ws)
    (moved : slots_of L n ws' ≡ map (padded L) (slots_of f.length n ws)) where
  framed-widened : Framed (widened f L) ws'
  framed-widened = record {
    wordy = omega (arith, ok.wordy, wide.longer);
    counted = ok.counted;
    newest = ok.newest;
    inside = ok.inside;
    room = omega (arith, wide.room, long);
    starts = ok.starts;
  }

  -- the slots that wait are among them
  in_use : (M : ℕ) (us : List ℕ) → ring f.first f.count (slots_of M n us) ≡ ring f.first f.count (slots_of M f.capacity us)
  in_use M us =
      let l = length-slots M f.capacity us in
      ap (ring f.first f.count) (sym (slots-first M n f.capacity us few))
      ∙ ring-first f.first f.count n (slots_of M f.capacity us) (omega (arith, l, few)) (⊎_elim (λ (h : f.first + f.count ≤ n). inl h) (λ (e : n ≡ f.capacity). inr (e ∙ sym l)) used)

  held_widened : held (widened f L) ws' ≡ map (padded L) (held f ws)
  unfolding held
  held_widened =
      sym (in_use L ws')
      ∙ ap (ring f.first f.count) moved
      ∙ sym (map-ring (padded L) f.first f.count (slots_of f.length n ws))
      ∙ ap (map (padded L)) (in_use f.length ws)

  waits-widened : {rest pending : List (List ℕ)} → Waits f ws rest pending → Waits (widened f L) ws' (map (padded L) rest) (map (padded L) pending)
  waits-widened {rest} {pending} w = record {
    framed = framed-widened;
    counts = simp length-map w.counts;
    newest = simp length-map w.newest;
    sized = λ s m.
        let r = mem-map (padded L) s (rest ++ pending) (subst (λ (l : List (List ℕ)). Memᴰ s l) (sym (map-append (padded L) rest pending)) m) in
        ap length r.2 ∙ length-padded L r.0 (omega (arith, w.sized r.0 r.1, wide.longer));
    holds = held_widened ∙ ap (map (padded L)) w.holds ∙ map-arrange (padded L) f.order rest pending;
  }

  pub widens : {r : Frontier} → r ≡ widened f L → Widens f ws L r ws'
  widens e = record {
    is = e;
    same_length = long;
    framed = subst (λ (y : Frontier). Framed y ws') (sym e) framed-widened;
    waits = λ rest pending w. subst (λ (y : Frontier). Waits y ws' (map (padded L) rest) (map (padded L) pending)) (sym e) (waits-widened w);
  }

-- fewer slots lie there as well
pub fewer-slots : (L n m : ℕ) (ws : List ℕ) → n ≤ m → SlotsIn L m ws → SlotsIn L n ws
fewer-slots L n m ws h r = le_trans (mul-le-mul_left L h) r

-- longer slots lie in the area if slots of full length do
pub wider-yet : {f : Frontier} {ws : List ℕ} (L M : ℕ) → f.length ≤ L → L ≤ M → Wider f ws M → Wider f ws L
wider-yet {f} L M h most w = record { longer = h; room = le_trans (mul-le-mul_right f.capacity most) w.room }

-- slots that stay as long as they are
padded-same : (L : ℕ) (l : List (List ℕ)) → ((s : List ℕ) → Memᴰ s l → IsSlot L s) → map (padded L) l ≡ l
padded-same L [] h = refl
padded-same L (s ∷ l) h =
    let z : L - length s ≡ 0 = omega (arith, h s (mathlib.Core.List.Memᴰ.head refl)) in
    ap₂ (λ (x : List ℕ) (y : List (List ℕ)). x ∷ y) (ap (λ (n : ℕ). s ++ zeros n) z ∙ append-nil s) (padded-same L l (λ t m. h t (mathlib.Core.List.Memᴰ.tail m)))

pub widens-none : {f : Frontier} {ws : List ℕ} → Framed f ws → Widens f ws f.length f ws
widens-none {f} {ws} ok = record {
  is = refl;
  same_length = refl;
  framed = ok;
  waits = λ rest pending w.
      let a = padded-same f.length rest (λ s m. w.sized s (mathlib.Core.List.Memᴰ.append_left pending m)) in
      let b = padded-same f.length pending (λ s m. w.sized s (mathlib.Core.List.Memᴰ.append_right rest m)) in
      subst (λ (l : List (List ℕ)). Waits f ws (map (padded f.length) rest) l) (sym b) (subst (λ (l : List (List ℕ)). Waits f ws l pending) (sym a) w);
}

-- slots of a length in which the words have a place
pub made-room : {f : Frontier} {ws : List ℕ} (words L : ℕ) → f.length ≤ L → words ≤ L → L ≤ slot_length → {r : Frontier} {ws' : List ℕ} → Widens f ws L r ws' → MakesRoom f ws words r ws'
made-room {f} {ws} words L longer enough most {r} {ws'} w =
    let l : r.length ≡ L = ap (λ (x : Frontier). x.length) w.is in
    record { longer = omega (arith, longer, l); enough = omega (arith, enough, l); most = omega (arith, most, l); widens = subst (λ (n : ℕ). Widens f ws n r ws') (sym l) w }
