-- Slots that get more words each, from the last one down: slot i of L words stands no lower than slot i of S words. For all lengths S ≤ L.
-- Serves document 01, "Answer": waiting slots, which are short while the paths in them are.
use Rattle.std.specs.Prelude.{◌≡◌, refl, List, [], ◌∷◌, ◌++◌, map, ℕ, zero, suc, ◌+◌, ◌-◌, ◌*◌, ◌≤◌, ◌<◌, length, take, drop, set, get_or}
use Rattle.std.proofs.Common.{sym, ap, ap₂, ◌∙◌, append_assoc, mul-suc, mul-le-mul_left, mul_comm, le_trans, add-one, arith, length-drop, length-append, drop_of_length-le, take-append-drop, drop-cons, drop-set-lt, get_or-set_same, take_at, length-take-le}
use borrow.Rule.Slice.PartMut.{put_mid, Post-is}
use Rattle.std.proofs.lemmas.List.{length-replicate, take-append-le}
use Rattle.semantics.specs.Words.{zeros, slots_of}
use Rattle.words.specs.Slots.{InArea, SlotsIn, slot_at, put_slot, padded}
use Rattle.words.specs.Slots.Laws.{within, length-slot_at, length-put, length-slots, get_or-slots, slots-put}
use Rattle.words.specs.Slots.Reversed.{slots-add}

-- the same with the length of the slot in hand
pub padded-is : (L S : ℕ) (s : List ℕ) → length s ≡ S → s ++ zeros (L - S) ≡ padded L s
padded-is L S s e = ap (λ (n : ℕ). s ++ zeros (L - n)) (sym e)

pub length-padded : (L : ℕ) (s : List ℕ) → length s ≤ L → length (padded L s) ≡ L
length-padded L s h = simp (length-append, length-replicate) (omega arith)

pub zeros-drop : (k n : ℕ) → drop k (zeros n) ≡ zeros (n - k)
zeros-drop zero n = ap zeros (let z : n ≡ n - 0 = omega arith in z)
zeros-drop (suc k) zero = ap zeros (let z : 0 ≡ 0 - suc k = omega arith in z)
zeros-drop (suc k) (suc n) = zeros-drop k n ∙ ap zeros (let z : n - k ≡ suc n - suc k = omega arith in z)

-- the front of a longer slot, when it is back
pub part-front : (S : ℕ) (s ws : List ℕ) → put_mid 0 (S - 0) ws s ≡ s ++ drop S ws
part-front S s ws = rw (Post-is 0 S ws (omega arith)) refl

-- the first words of an area are its first slots
drop-front : (k : ℕ) (x y : List ℕ) → k ≤ length x → drop k (x ++ y) ≡ drop k x ++ y
drop-front zero x y h = refl
drop-front (suc k) [] y h = absurd (omega (arith, h))
drop-front (suc k) (a ∷ x) y h = drop-front k x y (omega (arith, h))

slots-front : (S n : ℕ) (x y : List ℕ) → S * n ≤ length x → slots_of S n (x ++ y) ≡ slots_of S n x
unfolding slots_of
slots-front S zero x y h = refl
slots-front S (suc n) x y h =
    let a : take S (x ++ y) ≡ take S x = take-append-le S x y (omega (arith, mul-suc S n)) in
    let b : drop S (x ++ y) ≡ drop S x ++ y = drop-front S x y (omega (arith, mul-suc S n)) in
    ap₂ (λ (s : List ℕ) (l : List ℕ). s ∷ slots_of S n l) a b ∙ ap (λ (l : List (List ℕ)). take S x ∷ l) (slots-front S n (drop S x) y (simp length-drop (omega (arith, mul-suc S n))))

-- a longer slot that is written leaves the shorter ones below it
put-below : (L S i : ℕ) (s ws : List ℕ) → S ≤ L → InArea L i ws → slots_of S i (put_slot L i s ws) ≡ slots_of S i ws
unfolding put_slot
put-below L S i s ws h g =
    let k : S * i ≤ L * i = le_trans (omega (arith, mul_comm S i)) (le_trans (mul-le-mul_left i h) (omega (arith, mul_comm L i))) in
    let t : length (take (L * i) ws) ≡ L * i = length-take-le (L * i) ws (omega arith) in
    let a : S * i ≤ length (take (L * i) ws) = omega (arith, t, k) in
    ap (slots_of S i) (append_assoc (take (L * i) ws) s (drop (L * i + L) ws))
    ∙ slots-front S i (take (L * i) ws) (s ++ drop (L * i + L) ws) a
    ∙ sym (slots-front S i (take (L * i) ws) (drop (L * i) ws) a)
    ∙ ap (slots_of S i) (take-append-drop (L * i) ws)

-- the first slots of some that are the same
fewer : (S i : ℕ) (ws us : List ℕ) → slots_of S (i + 1) ws ≡ slots_of S (i + 1) us → slots_of S i ws ≡ slots_of S i us
fewer S i ws us e =
    let a : (l : List ℕ) → take i (slots_of S (i + 1) l) ≡ slots_of S i l = λ l. ap (take i) (slots-add S i 1 l) ∙ take_at (slots_of S i l) (slots_of S 1 (drop (S * i) l)) i (length-slots S i l) in
    sym (a ws) ∙ ap (take i) e ∙ a us

module _ (L S n : ℕ) (shorter : S ≤ L) (ws₀ : List ℕ) (fits : SlotsIn L n ws₀) where
  -- the slots from i on are long already, those below are as they were
  pub record Widening (ws : List ℕ) (i : ℕ) : Type 0 where
    pub same_length : length ws ≡ length ws₀
    pub inside : i ≤ n
    pub below : slots_of S i ws ≡ slots_of S i ws₀
    pub above : drop i (slots_of L n ws) ≡ map (padded L) (drop i (slots_of S n ws₀))

  pub widening-start : Widening ws₀ n
  widening-start =
      let a : length (slots_of L n ws₀) ≤ n = omega (arith, length-slots L n ws₀) in
      let b : length (slots_of S n ws₀) ≤ n = omega (arith, length-slots S n ws₀) in
      record {
        same_length = refl;
        inside = omega arith;
        below = refl;
        above = drop_of_length-le (slots_of L n ws₀) a ∙ ap (map (padded L)) (sym (drop_of_length-le (slots_of S n ws₀) b));
      }

  module _ {ws : List ℕ} (i : ℕ) (w : Widening ws (i + 1)) where
    fits-now : SlotsIn L n ws
    fits-now = omega (arith, w.same_length, fits)

    pub widening-long : InArea L i ws
    widening-long = within L n i ws (omega (arith, w.inside)) fits-now

    short-fits : SlotsIn S n ws₀
    short-fits = le_trans (omega (arith, mul_comm S n)) (le_trans (mul-le-mul_left n shorter) (omega (arith, mul_comm L n, fits)))

    pub widening-short : InArea S i ws
    widening-short = let h = within S n i ws₀ (omega (arith, w.inside)) short-fits in omega (arith, h, w.same_length)

    slot_is : slot_at S i ws ≡ slot_at S i ws₀
    slot_is = sym (get_or-slots S (i + 1) i ws (omega arith)) ∙ ap (λ (l : List (List ℕ)). get_or l i []) w.below ∙ get_or-slots S (i + 1) i ws₀ (omega arith)

    pub widening-more : {ws' s : List ℕ} → s ≡ slot_at S i ws ++ zeros (L - S) → ws' ≡ put_slot L i s ws → Widening ws' i
    widening-more {ws'} {s} e is =
        let c : length (slot_at S i ws) ≡ S = length-slot_at S i ws widening-short in
        let l : length s ≡ L = ap length e ∙ simp (length-append, length-replicate) (omega (arith, c, shorter)) in
        let p : s ≡ padded L (slot_at S i ws₀) = e ∙ padded-is L S (slot_at S i ws) c ∙ ap (padded L) slot_is in
        let u : slots_of L n ws' ≡ set (slots_of L n ws) i s = ap (slots_of L n) is ∙ slots-put L n i s ws (omega (arith, w.inside)) l fits-now in
        let long : length (slots_of L n ws) ≡ n = length-slots L n ws in
        let long' : i < length (slots_of L n ws') = omega (arith, length-slots L n ws', w.inside) in
        let short : i < length (slots_of S n ws₀) = omega (arith, length-slots S n ws₀, w.inside) in
        let head : get_or (slots_of L n ws') i [] ≡ s = ap (λ (x : List (List ℕ)). get_or x i []) u ∙ get_or-set_same (slots_of L n ws) i s [] (omega (arith, long, w.inside)) in
        let tail : drop (suc i) (slots_of L n ws') ≡ drop (i + 1) (slots_of L n ws) =
        ap (drop (suc i)) u ∙ drop-set-lt (suc i) (slots_of L n ws) i s (omega arith) ∙ ap (λ (k : ℕ). drop k (slots_of L n ws)) (sym (add-one i)) in
        let first : get_or (slots_of S n ws₀) i [] ≡ slot_at S i ws₀ = get_or-slots S n i ws₀ (omega (arith, w.inside)) in
        record {
          same_length = ap length is ∙ length-put L i s ws l widening-long ∙ w.same_length;
          inside = omega (arith, w.inside);
          below = ap (slots_of S i) is ∙ put-below L S i s ws shorter widening-long ∙ fewer S i ws ws₀ w.below;
          above =
              drop-cons (slots_of L n ws') i [] long'
              ∙ ap₂ (λ (x : List ℕ) (l : List (List ℕ)). x ∷ l) (head ∙ p ∙ ap (padded L) (sym first)) (tail ∙ w.above ∙ ap (λ (k : ℕ). map (padded L) (drop k (slots_of S n ws₀))) (add-one i))
              ∙ ap (map (padded L)) (sym (drop-cons (slots_of S n ws₀) i [] short));
        }

  pub widening-end : {ws : List ℕ} → Widening ws 0 → slots_of L n ws ≡ map (padded L) (slots_of S n ws₀)
  widening-end w = w.above
