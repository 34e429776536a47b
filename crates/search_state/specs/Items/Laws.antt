-- Laws of the path under expansion: the scan for an edge, the words of a popped path, and one more edge behind them.
-- Serves document 01, "Answer".
use Rattle.std.specs.Prelude.{ℕ, zero, suc, ◌+◌, ◌-◌, ◌<◌, ◌≤◌, ◌≡◌, Bool, List, [], ◌∷◌, ◌++◌, eqb, length, take, drop, set, get_or}
use Rattle.std.proofs.Common.{arith, add-one, sym, ap, ap₂, ◌∙◌, append_assoc, append-nil, length-set, length-drop, drop_of_length-le, drop-cons, set-set, take_at, drop_at, length-take-le}
use Rattle.std.proofs.Math.Path.{refl}
use Rattle.std.proofs.Math.Bool.{true, false}
use borrow.Rule.Slice.PartMut.{put_mid, Post-is}
use Rattle.std.proofs.lemmas.List.{replicate-append-replicate, take-set-le}
use Rattle.semantics.specs.Limits.{slot_length}
use Rattle.semantics.specs.Lists.{or, has}
use Rattle.semantics.specs.Words.{zeros, encode}
use Rattle.semantics.specs.Words.Laws.{length-encode}
use Rattle.words.specs.Area.{encode-room}
use Rattle.words.specs.Slots.{padded}
use Rattle.words.specs.Slots.Wider.{padded-is, part-front}
use Rattle.search_state.specs.Items.{with_edge, Clear, Carries}

-- ---- the scan

or_later : (b found rest : Bool) → or (or b found) rest ≡ or found (or b rest)
or_later true true rest = refl
or_later true false rest = refl
or_later false found rest = refl

-- found by now or in what is left
module _ (e : ℕ) (es : List ℕ) (i : ℕ) (found : Bool) where
  pub has_one : i < length es → or (or (eqb e (get_or es i 0)) found) (has e (drop (i + 1) es)) ≡ or found (has e (drop i es))
  unfolding has
  has_one h = rw (drop-cons es i 0 h, add-one) (or_later (eqb e (get_or es i 0)) found (has e (drop (suc i) es)))

  pub has_all : length es ≤ i → found ≡ or found (has e (drop i es))
  unfolding has
  has_all h = rw (drop_of_length-le es h) (on found)
    where
      on : (b : Bool) → b ≡ or b false
      on true = refl
      on false = refl

-- ---- one more edge

take-some : (es rest : List ℕ) (m : ℕ) → length es ≤ m → take (length es) (take m (es ++ rest)) ≡ es
take-some [] rest m h = refl
take-some (x ∷ es) rest zero h = absurd (omega (arith, h))
take-some (x ∷ es) rest (suc m) h = ap (λ (l : List ℕ). x ∷ l) (take-some es rest m (omega (arith, h)))

-- the word behind the edges, in the first m words
set-behind : (es : List ℕ) (m n e : ℕ) → length es < m → m ≤ n → set (take m (es ++ zeros n)) (length es) e ≡ take m (es ++ (e ∷ []) ++ zeros n)
set-behind [] zero n e h k = absurd (omega (arith, h))
set-behind [] (suc m) zero e h k = absurd (omega (arith, k))
set-behind [] (suc m) (suc n) e h k = ap (λ (l : List ℕ). e ∷ l) (fewer m n (omega (arith, k)))
  where
    fewer : (m n : ℕ) → m ≤ n → take m (zeros n) ≡ take m (zeros (suc n))
    fewer zero n h = refl
    fewer (suc m) zero h = absurd (omega (arith, h))
    fewer (suc m) (suc n) h = ap (λ (l : List ℕ). 0 ∷ l) (fewer m n (omega (arith, h)))
set-behind (x ∷ es) zero n e h k = absurd (omega (arith, h))
set-behind (x ∷ es) (suc m) n e h k = ap (λ (l : List ℕ). x ∷ l) (set-behind es m n e (omega (arith, h)) (omega (arith, k)))

pub carries-slot : (m : ℕ) (es : List ℕ) → length es ≤ m → Carries (suc m) (encode (suc m) es) es
unfolding encode
carries-slot m es h = record {
  long = length-encode (suc m) es;
  edges = take-some es (zeros (suc m)) m h;
  grows = λ e l. rw add-one (ap₂ (λ (n : ℕ) (t : List ℕ). n ∷ t) (one-longer es e) (set-behind es m (suc m) e (omega (arith, l)) (omega arith)));
}
  where
    one-longer : (es : List ℕ) (e : ℕ) → suc (length es) ≡ length (es ++ (e ∷ []))
    one-longer [] e = refl
    one-longer (x ∷ es) e = ap suc (one-longer es e)

-- another edge tried behind the same ones
pub carries-edge : (L : ℕ) (item : List ℕ) {es : List ℕ} (e : ℕ) → Carries L item es → Carries L (with_edge item (length es) e) es
carries-edge L [] e c = record { long = c.long; edges = c.edges; grows = λ x l. c.grows x l }
carries-edge L (w ∷ item) {es} e c = record {
  long = rw add-one (ap suc (length-set item (length es) e) ∙ c.long);
  edges = rw add-one (take-set-le (length es) item (length es) e (omega arith) ∙ c.edges);
  grows = λ x l. let g = c.grows x l in rw add-one (ap (λ (t : List ℕ). suc (length es) ∷ t) (set-set item (length es) e x) ∙ (rw add-one at g));
}

-- ---- in a longer slot

-- the words of a path in a longer slot are the same with zeros behind
pub encode-longer : (L M : ℕ) (es : List ℕ) → length es < L → L ≤ M → padded M (encode L es) ≡ encode M es
encode-longer L M es h k =
    let n = length es in
    sym (padded-is M L (encode L es) (length-encode L es))
    ∙ ap (λ (w : List ℕ). w ++ zeros (M - L)) (encode-room L es h)
    ∙ ap (λ (w : List ℕ). n ∷ w) (append_assoc es (zeros (L - suc n)) (zeros (M - L)) ∙ ap (λ (w : List ℕ). es ++ w) (replicate-append-replicate (L - suc n) (M - L) 0 ∙ ap zeros (let z : L - suc n + (M - L) ≡ M - suc n = omega (arith, h, k) in z)))
    ∙ sym (encode-room M es (omega (arith, h, k)))

-- the front of a longer slot is the shorter one
pub encode-front : (L M : ℕ) (es : List ℕ) → length es < L → L ≤ M → take L (encode M es) ≡ encode L es
encode-front L M es h k = ap (take L) (sym (encode-longer L M es h k)) ∙ take_at (encode L es) (zeros (M - length (encode L es))) L (length-encode L es)

-- ---- a slot in the front of the item

-- the front, when it is back
pub front-back : (L : ℕ) (s item : List ℕ) → length s ≡ L → s ≡ take L (put_mid 0 (L - 0) item s)
front-back L s item e = sym (ap (take L) (part-front L s item) ∙ take_at s (drop L item) L e)

-- the rest of it, when it is back as zeros
pub rest_back : (L : ℕ) {s : List ℕ} (item : List ℕ) → length item ≡ slot_length → L ≤ slot_length → s ≡ zeros (length (take (slot_length - L) (drop L item))) → put_mid L (slot_length - L) item s ≡ take L item ++ zeros (slot_length - L)
rest_back L item e h z =
    let n : length (take (slot_length - L) (drop L item)) ≡ slot_length - L = length-take-le (slot_length - L) (drop L item) (simp length-drop (omega (arith, e))) in
    let b : length item ≤ slot_length = omega (arith, e) in
    rw (Post-is L slot_length item h) (ap (λ (l : List ℕ). take L item ++ (l ++ drop slot_length item)) (z ∙ ap zeros n) ∙ ap (λ (l : List ℕ). take L item ++ (zeros (slot_length - L) ++ l)) (drop_of_length-le item b) ∙ ap (λ (l : List ℕ). take L item ++ l) (append-nil (zeros (slot_length - L))))

-- the front of an item that is clear behind it
pub clear-back : (L : ℕ) (s item : List ℕ) → length s ≡ L → Clear L item → put_mid 0 (L - 0) item s ≡ padded slot_length s
clear-back L s item e c = part-front L s item ∙ ap (λ (l : List ℕ). s ++ l) c ∙ padded-is slot_length L s e

-- a path that fits in a shorter slot leaves the rest of a longer one clear
pub clear-slot : (L : ℕ) (es : List ℕ) → length es < L → L ≤ slot_length → Clear L (encode slot_length es)
clear-slot L es h k =
    ap (drop L) (sym (encode-longer L slot_length es h k))
    ∙ drop_at (encode L es) (zeros (slot_length - length (encode L es))) L (length-encode L es)
    ∙ ap (λ (n : ℕ). zeros (slot_length - n)) (length-encode L es)
