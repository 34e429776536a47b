-- An area is a list of slots: after these laws no proof sees a place times the slot length again. For every slot length L.
-- Serves document 01, "Answer": result slots and waiting slots.
use Rattle.std.specs.Prelude.{◌≡◌, refl, Bool, true, false, ◌≢◌, List, [], ◌++◌, ℕ, zero, suc, ◌+◌, ◌-◌, ◌*◌, ◌≤◌, ◌<◌, ltb, length, take, drop, set, get_or}
use Rattle.std.proofs.Common.{sym, ap, ◌∙◌, inl, inr, append_assoc, not-suc-le-zero, le_of_suc-le-suc, mul-suc, mul-zero, zero-add, mul-le-mul_left, mul_comm, le_trans, arith, ltb-true, ltb-false, length-drop, length-append, drop-drop, take-add, take_at, drop_at, length-take-le, get_or-set_same, get_or-set_other}
use borrow.Rule.Slice.PartMut.{put_mid, Post-is}
use Rattle.semantics.specs.Words.{slots_of}
use Rattle.words.specs.Copies.{Apart}
use Rattle.words.specs.Reversal.{exchange}
use Rattle.words.specs.Slots.{InArea, SlotsIn, slot_at, put_slot, swap_slots}

-- ---- places of slots

-- slot i of n is within the area
pub within : (L n i : ℕ) (ws : List ℕ) → i < n → SlotsIn L n ws → InArea L i ws
within L n i ws h g = le_trans (omega (arith, mul-suc L i)) (le_trans (mul-le-mul_left L h) g)

pub slots-within : (L m n : ℕ) (ws : List ℕ) → m ≤ n → SlotsIn L n ws → SlotsIn L m ws
slots-within L m n ws h g = le_trans (mul-le-mul_left L h) g

-- there are no more slots than words
pub slots-few : (L n : ℕ) (ws : List ℕ) → 0 < L → SlotsIn L n ws → n ≤ length ws
slots-few L n ws h g = le_trans (omega (arith, mul-le-mul_left n h, mul_comm n L)) g

-- two slots are the same or lie apart
pub slots_apart : (L i j : ℕ) → Apart L (L * i) (L * j)
slots_apart L i j = decide (ltb i j) refl
  where
    decide : (b : Bool) → ltb i j ≡ b → Apart L (L * i) (L * j)
    decide true e = inl (le_trans (omega (arith, mul-suc L i)) (mul-le-mul_left L (ltb-true i j e)))
    decide false e = inr (mul-le-mul_left L (ltb-false i j e))

pub length-slot_at : (L i : ℕ) (ws : List ℕ) → InArea L i ws → length (slot_at L i ws) ≡ L
unfolding slot_at
length-slot_at L i ws h = length-take-le L (drop (L * i) ws) (simp length-drop (omega arith))

pub length-put : (L i : ℕ) (s ws : List ℕ) → length s ≡ L → InArea L i ws → length (put_slot L i s ws) ≡ length ws
unfolding put_slot
length-put L i s ws e h = simp (length-append, length-drop) (omega (arith, length-take-le (L * i) ws (omega arith)))

pub length-swap : (L i j : ℕ) (ws : List ℕ) → InArea L i ws → InArea L j ws → length (swap_slots L i j ws) ≡ length ws
unfolding swap_slots
length-swap L i j ws h g =
    let first : List ℕ = put_slot L i (slot_at L j ws) ws in
    let e : length first ≡ length ws = length-put L i (slot_at L j ws) ws (length-slot_at L j ws g) h in
    length-put L j (slot_at L i ws) first (length-slot_at L i ws h) (omega arith) ∙ e

-- an area of which the parts are in hand
pub put-at : (L i : ℕ) (p x q s : List ℕ) → length p ≡ L * i → length x ≡ L → put_slot L i s (p ++ x ++ q) ≡ p ++ s ++ q
unfolding put_slot
put-at L i p x q s e f =
    let a : take (L * i) (p ++ x ++ q) ≡ p = rw append_assoc (take_at p (x ++ q) (L * i) e) in
    let b : drop (L * i + L) (p ++ x ++ q) ≡ q = drop_at (p ++ x) q (L * i + L) (simp length-append (omega arith)) in
    rw (a, b)

-- the part of an area that is slot i, as it is lent, and the area when it is back
pub part-slot : (L i : ℕ) (ws : List ℕ) → take (L * i + L - L * i) (drop (L * i) ws) ≡ slot_at L i ws
unfolding slot_at
part-slot L i ws = let q : L * i + L - L * i ≡ L = omega arith in rw q

pub length_part : (L i : ℕ) (ws : List ℕ) → InArea L i ws → length (take (L * i + L - L * i) (drop (L * i) ws)) ≡ L
length_part L i ws h = ap length (part-slot L i ws) ∙ length-slot_at L i ws h

pub put-part : (L i : ℕ) (s ws : List ℕ) → put_mid (L * i) (L * i + L - L * i) ws s ≡ put_slot L i s ws
unfolding put_slot
put-part L i s ws = rw (Post-is (L * i) (L * i + L) ws (omega arith)) (sym (append_assoc (take (L * i) ws) s (drop (L * i + L) ws)))

-- ---- an area as a list of slots

pub length-slots : (L n : ℕ) (ws : List ℕ) → length (slots_of L n ws) ≡ n
unfolding slots_of
length-slots L zero ws = refl
length-slots L (suc n) ws = ap suc (length-slots L n (drop L ws))

pub get_or-slots : (L n i : ℕ) (ws : List ℕ) → i < n → get_or (slots_of L n ws) i [] ≡ slot_at L i ws
unfolding slots_of slot_at
get_or-slots L zero i ws h = absurd (not-suc-le-zero h)
get_or-slots L (suc n) zero ws h = rw mul-zero
get_or-slots L (suc n) (suc i) ws h =
    let q : L + L * i ≡ L * suc i = omega (arith, mul-suc L i) in
    get_or-slots L n i (drop L ws) (le_of_suc-le-suc h) ∙ ap (take L) (drop-drop (L * i) L ws ∙ ap (λ (k : ℕ). drop k ws) q)

put-zero : (L : ℕ) (s ws : List ℕ) → put_slot L zero s ws ≡ s ++ drop L ws
unfolding put_slot
put-zero L s ws = rw (mul-zero, zero-add)

put-suc : (L i : ℕ) (s ws : List ℕ) → put_slot L (suc i) s ws ≡ take L ws ++ put_slot L i s (drop L ws)
unfolding put_slot
put-suc L i s ws =
    let q : L * suc i ≡ L + L * i = omega (arith, mul-suc L i) in
    let e1 : take (L * suc i) ws ≡ take L ws ++ take (L * i) (drop L ws) = ap (λ (k : ℕ). take k ws) q ∙ take-add L (L * i) ws in
    let q2 : L * suc i + L ≡ L + (L * i + L) = omega arith in
    let e2 : drop (L * suc i + L) ws ≡ drop (L * i + L) (drop L ws) = ap (λ (k : ℕ). drop k ws) q2 ∙ sym (drop-drop (L * i + L) L ws) in
    rw (e1, e2) (simp append_assoc)

-- writing slot i of the area is setting element i of its list of slots
pub slots-put : (L n i : ℕ) (s ws : List ℕ) → i < n → length s ≡ L → SlotsIn L n ws → slots_of L n (put_slot L i s ws) ≡ set (slots_of L n ws) i s
unfolding slots_of
slots-put L zero i s ws h e g = absurd (not-suc-le-zero h)
slots-put L (suc n) zero s ws h e g =
    rw (put-zero L s ws, take_at s (drop L ws) L e, drop_at s (drop L ws) L e)
slots-put L (suc n) (suc i) s ws h e g =
    let l : length (take L ws) ≡ L = length-take-le L ws (omega (arith, mul-suc L n)) in
    let r : List ℕ = put_slot L i s (drop L ws) in
    let ih : slots_of L n r ≡ set (slots_of L n (drop L ws)) i s = slots-put L n i s (drop L ws) (le_of_suc-le-suc h) e (simp length-drop (omega (arith, mul-suc L n))) in
    rw (put-suc L i s ws, take_at (take L ws) r L l, drop_at (take L ws) r L l, ih)

-- what slot i holds after slot j is written, read off the list of slots
slot_at-put : (L n i j : ℕ) (s ws : List ℕ) → i < n → j < n → length s ≡ L → SlotsIn L n ws → slot_at L i (put_slot L j s ws) ≡ get_or (set (slots_of L n ws) j s) i []
slot_at-put L n i j s ws a b e g = sym (get_or-slots L n i (put_slot L j s ws) a) ∙ ap (λ (l : List (List ℕ)). get_or l i []) (slots-put L n j s ws b e g)

pub slot_at-put-same : (L i : ℕ) (s ws : List ℕ) → length s ≡ L → InArea L i ws → slot_at L i (put_slot L i s ws) ≡ s
slot_at-put-same L i s ws e h =
    slot_at-put L (suc i) i i s ws (omega arith) (omega arith) e (omega (arith, mul-suc L i))
    ∙ get_or-set_same (slots_of L (suc i) ws) i s [] (omega (arith, length-slots L (suc i) ws))

pub slot_at-put-other : (L n i j : ℕ) (s ws : List ℕ) → i < n → j < n → length s ≡ L → SlotsIn L n ws → i ≢ j → slot_at L i (put_slot L j s ws) ≡ slot_at L i ws
slot_at-put-other L n i j s ws a b e g ne =
    slot_at-put L n i j s ws a b e g ∙ get_or-set_other (slots_of L n ws) j i s [] ne ∙ get_or-slots L n i ws a

-- copying slot i to slot j sets element j to element i
pub slots-copy : (L n i j : ℕ) (ws : List ℕ) → i < n → j < n → SlotsIn L n ws
    → slots_of L n (put_slot L j (slot_at L i ws) ws) ≡ set (slots_of L n ws) j (get_or (slots_of L n ws) i [])
slots-copy L n i j ws a b g = rw (get_or-slots L n i ws a) (slots-put L n j (slot_at L i ws) ws b (length-slot_at L i ws (within L n i ws a g)) g)

-- exchanging slots exchanges elements
pub slots-swap : (L n i j : ℕ) (ws : List ℕ) → i < n → j < n → SlotsIn L n ws → slots_of L n (swap_slots L i j ws) ≡ exchange [] i j (slots_of L n ws)
unfolding swap_slots
slots-swap L n i j ws a b g =
    let bi : InArea L i ws = within L n i ws a g in
    let bj : InArea L j ws = within L n j ws b g in
    let lj : length (slot_at L j ws) ≡ L = length-slot_at L j ws bj in
    let lp : length (put_slot L i (slot_at L j ws) ws) ≡ length ws = length-put L i (slot_at L j ws) ws lj bi in
    slots-put L n j (slot_at L i ws) (put_slot L i (slot_at L j ws) ws) b (length-slot_at L i ws bi) (omega arith)
    ∙ rw (slots-put L n i (slot_at L j ws) ws a lj g, get_or-slots L n i ws a, get_or-slots L n j ws b)
