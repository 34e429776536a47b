-- Slots joined are an area again, and turning a run of slots round turns a run of the list round. For every slot length L.
-- Serves document 01, "Answer": waiting slots, of which the newest are turned round in place.
use Rattle.std.specs.Prelude.{◌≡◌, refl, length, take}
use Rattle.std.proofs.Math.Path.{sym, ap}
use Rattle.std.proofs.Common.{◌∙◌, mul-suc, mul-zero, zero-add, suc-add, length-drop, length-append, take-append-drop, take_at, length-take-le}
use mathlib.Core.List.{List, [], ◌∷◌, ◌++◌, append_assoc, reverse, reverse-cons, flatten}
use Prim.Native.Nat.{ℕ, zero, suc, ◌+◌, ◌-◌, ◌*◌, ◌≤◌, ◌<◌}
use Rattle.std.proofs.Math.Nat.{mul-le-mul_left}
use native.Mathlib.Omega.{arith}
use Rattle.std.proofs.Math.ListN.{drop}
use Rattle.std.proofs.Math.Seq.{drop-drop, drop_at}
use Rattle.semantics.specs.Words.{slots_of}
use Rattle.words.specs.Reversal.{exchange, rev_range, rev_range-append, length-rev_range, rev_range-short, rev-step}
use Rattle.words.specs.Slots.{InArea, SlotsIn, swap_slots, put_slot, slot_at, reverse_slots}
use Rattle.words.specs.Slots.Laws.{within, slots-within, length-slots, slots-swap, length-swap, length-slot_at, length-put}

-- every one is a slot
abbrev pub AllSlots : ℕ → List (List ℕ) → Type 0
AllSlots L [] = Unit {0}
AllSlots L (s ∷ ss) = (length s ≡ L) × AllSlots L ss

all_slots : (L n : ℕ) (ws : List ℕ) → SlotsIn L n ws → AllSlots L (slots_of L n ws)
unfolding slots_of
all_slots L zero ws h = tt
all_slots L (suc n) ws h = (length-take-le L ws (omega (arith, mul-suc L n)), all_slots L n (drop L ws) (simp length-drop (omega (arith, mul-suc L n))))

all_append : (L : ℕ) (ss ts : List (List ℕ)) → AllSlots L ss → AllSlots L ts → AllSlots L (ss ++ ts)
all_append L [] ts a b = b
all_append L (s ∷ ss) ts a b = (a.0, all_append L ss ts a.1 b)

all_take : (L k : ℕ) (ss : List (List ℕ)) → AllSlots L ss → AllSlots L (take k ss)
all_take L zero ss a = tt
all_take L (suc k) [] a = tt
all_take L (suc k) (s ∷ ss) a = (a.0, all_take L k ss a.1)

all_drop : (L k : ℕ) (ss : List (List ℕ)) → AllSlots L ss → AllSlots L (drop k ss)
all_drop L zero ss a = a
all_drop L (suc k) [] a = tt
all_drop L (suc k) (s ∷ ss) a = all_drop L k ss a.1

all-reverse : (L : ℕ) (ss : List (List ℕ)) → AllSlots L ss → AllSlots L (reverse ss)
all-reverse L [] a = tt
all-reverse L (s ∷ ss) a = rw reverse-cons (all_append L (reverse ss) (s ∷ []) (all-reverse L ss a.1) (a.0, tt))

all-rev_range : (L lo n : ℕ) (ss : List (List ℕ)) → AllSlots L ss → AllSlots L (rev_range lo n ss)
unfolding rev_range
all-rev_range L lo n ss a =
    all_append L (take lo ss ++ reverse (take n (drop lo ss))) (drop (lo + n) ss)
    (all_append L (take lo ss) (reverse (take n (drop lo ss))) (all_take L lo ss a) (all-reverse L (take n (drop lo ss)) (all_take L n (drop lo ss) (all_drop L lo ss a))))
    (all_drop L (lo + n) ss a)

length-join : (L : ℕ) (ss : List (List ℕ)) → AllSlots L ss → length (flatten ss) ≡ L * length ss
unfolding flatten
length-join L [] a = sym (mul-zero L)
length-join L (s ∷ ss) a = simp length-append (omega (arith, a.0, length-join L ss a.1, mul-suc L (length ss)))

-- slots joined are these slots again
pub slots-join : (L : ℕ) (ss : List (List ℕ)) (rest : List ℕ) → AllSlots L ss → slots_of L (length ss) (flatten ss ++ rest) ≡ ss
unfolding flatten slots_of
slots-join L [] rest a = refl
slots-join L (s ∷ ss) rest a =
    let r : List ℕ = flatten ss ++ rest in
    rw (append_assoc s (flatten ss) rest, take_at s r L a.0, drop_at s r L a.0, slots-join L ss rest a.1)

-- an area is its slots joined, and what is behind them
pub join-slots : (L n : ℕ) (ws : List ℕ) → flatten (slots_of L n ws) ++ drop (L * n) ws ≡ ws
unfolding flatten slots_of
join-slots L zero ws = rw mul-zero
join-slots L (suc n) ws =
    let q : L * suc n ≡ L + L * n = omega (arith, mul-suc L n) in
    let d : drop (L * suc n) ws ≡ drop (L * n) (drop L ws) = ap (λ (k : ℕ). drop k ws) q ∙ sym (drop-drop (L * n) L ws) in
    rw (d, append_assoc, join-slots L n (drop L ws)) (take-append-drop L ws)

pub slots-add : (L m n : ℕ) (ws : List ℕ) → slots_of L (m + n) ws ≡ slots_of L m ws ++ slots_of L n (drop (L * m) ws)
unfolding slots_of
slots-add L zero n ws = rw (zero-add, mul-zero)
slots-add L (suc m) n ws =
    let q : L + L * m ≡ L * suc m = omega (arith, mul-suc L m) in
    let d : drop (L * m) (drop L ws) ≡ drop (L * suc m) ws = drop-drop (L * m) L ws ∙ ap (λ (k : ℕ). drop k ws) q in
    rw suc-add (ap (λ (l : List (List ℕ)). take L ws ∷ l) (slots-add L m n (drop L ws) ∙ ap (λ (l : List ℕ). slots_of L m (drop L ws) ++ slots_of L n l) d))

-- ---- a run of slots turned round

module _ (L c lo n : ℕ) (ws : List ℕ) (inside : lo + n ≤ c) (fits : SlotsIn L c ws) where
  abbrev turned : List (List ℕ)
  turned = rev_range lo n (slots_of L (lo + n) ws)

  abbrev rest : List ℕ
  rest = drop (L * (lo + n)) ws

  few : SlotsIn L (lo + n) ws
  few = slots-within L (lo + n) c ws inside fits

  length-turned : length turned ≡ lo + n
  length-turned = length-rev_range lo n (slots_of L (lo + n) ws) (omega (arith, length-slots L (lo + n) ws)) ∙ length-slots L (lo + n) ws

  all-turned : AllSlots L turned
  all-turned = all-rev_range L lo n (slots_of L (lo + n) ws) (all_slots L (lo + n) ws few)

  length-joined : length (flatten turned) ≡ L * (lo + n)
  length-joined = length-join L turned all-turned ∙ ap (λ (k : ℕ). L * k) length-turned

  -- the words behind the run stay
  pub drop-reverse : drop (L * c) (reverse_slots L lo n ws) ≡ drop (L * c) ws
  unfolding reverse_slots
  drop-reverse =
      let k : ℕ = L * c - L * (lo + n) in
      let q : L * c ≡ L * (lo + n) + k = omega (arith, mul-le-mul_left L inside) in
      ap (λ (j : ℕ). drop j (flatten turned ++ rest)) q
      ∙ sym (drop-drop k (L * (lo + n)) (flatten turned ++ rest))
      ∙ ap (drop k) (drop_at (flatten turned) rest (L * (lo + n)) length-joined)
      ∙ drop-drop k (L * (lo + n)) ws
      ∙ ap (λ (j : ℕ). drop j ws) (sym q)

  -- turning a run of slots round turns a run of elements round
  pub slots-reverse : slots_of L c (reverse_slots L lo n ws) ≡ rev_range lo n (slots_of L c ws)
  unfolding reverse_slots
  slots-reverse =
      let m : ℕ = c - (lo + n) in
      let q : c ≡ lo + n + m = omega arith in
      let front : List (List ℕ) = slots_of L (lo + n) ws in
      let e1 : slots_of L (lo + n) (flatten turned ++ rest) ≡ turned =
      ap (λ (k : ℕ). slots_of L k (flatten turned ++ rest)) (sym length-turned) ∙ slots-join L turned rest all-turned in
      let e2 : drop (L * (lo + n)) (flatten turned ++ rest) ≡ rest = drop_at (flatten turned) rest (L * (lo + n)) length-joined in
      ap (λ (k : ℕ). slots_of L k (flatten turned ++ rest)) q
      ∙ slots-add L (lo + n) m (flatten turned ++ rest)
      ∙ ap (λ (l : List (List ℕ)). l ++ slots_of L m (drop (L * (lo + n)) (flatten turned ++ rest))) e1
      ∙ ap (λ (l : List ℕ). turned ++ slots_of L m l) e2
      ∙ sym (rev_range-append lo n front (slots_of L m rest) (omega (arith, length-slots L (lo + n) ws)))
      ∙ ap (rev_range lo n) (sym (slots-add L (lo + n) m ws) ∙ ap (λ (k : ℕ). slots_of L k ws) (sym q))

  -- the same area, told by any number of slots that covers the run
  reverse-told : reverse_slots L lo n ws ≡ flatten (rev_range lo n (slots_of L c ws)) ++ drop (L * c) ws
  reverse-told = sym (join-slots L c (reverse_slots L lo n ws)) ∙ rw (slots-reverse, drop-reverse)

-- nothing to turn round
pub reverse-short : (L lo n : ℕ) (ws : List ℕ) → n ≤ 1 → reverse_slots L lo n ws ≡ ws
unfolding reverse_slots
reverse-short L lo n ws h = rw (rev_range-short lo n (slots_of L (lo + n) ws) h) (join-slots L (lo + n) ws)

drop-put : (L c i : ℕ) (s ws : List ℕ) → i < c → length s ≡ L → SlotsIn L c ws → drop (L * c) (put_slot L i s ws) ≡ drop (L * c) ws
unfolding put_slot
drop-put L c i s ws h e g =
    let w : InArea L i ws = within L c i ws h g in
    let k : ℕ = L * c - (L * i + L) in
    let q : L * c ≡ L * i + L + k = omega (arith, mul-le-mul_left L h, mul-suc L i) in
    let head : List ℕ = take (L * i) ws ++ s in
    let l : length head ≡ L * i + L = simp length-append (omega (arith, length-take-le (L * i) ws (omega arith))) in
    ap (λ (j : ℕ). drop j (head ++ drop (L * i + L) ws)) q
    ∙ sym (drop-drop k (L * i + L) (head ++ drop (L * i + L) ws))
    ∙ ap (drop k) (drop_at head (drop (L * i + L) ws) (L * i + L) l)
    ∙ drop-drop k (L * i + L) ws
    ∙ ap (λ (j : ℕ). drop j ws) (sym q)

drop-swap : (L c i j : ℕ) (ws : List ℕ) → i < c → j < c → SlotsIn L c ws → drop (L * c) (swap_slots L i j ws) ≡ drop (L * c) ws
unfolding swap_slots
drop-swap L c i j ws a b g =
    let first : List ℕ = put_slot L i (slot_at L j ws) ws in
    let lj : length (slot_at L j ws) ≡ L = length-slot_at L j ws (within L c j ws b g) in
    let e : length first ≡ length ws = length-put L i (slot_at L j ws) ws lj (within L c i ws a g) in
    drop-put L c j (slot_at L i ws) first b (length-slot_at L i ws (within L c i ws a g)) (omega arith) ∙ drop-put L c i (slot_at L j ws) ws a lj g

-- the outermost two exchanged, and what is between them turned round
pub reverse-step : (L lo n : ℕ) (ws : List ℕ) → SlotsIn L (lo + (n + 2)) ws → reverse_slots L (lo + 1) n (swap_slots L lo (lo + 1 + n) ws) ≡ reverse_slots L lo (n + 2) ws
reverse-step L lo n ws g =
    let c : ℕ = lo + (n + 2) in
    let new : List ℕ = swap_slots L lo (lo + 1 + n) ws in
    let l : length new ≡ length ws = length-swap L lo (lo + 1 + n) ws (within L c lo ws (omega arith) g) (within L c (lo + 1 + n) ws (omega arith) g) in
    let s : slots_of L c new ≡ exchange [] lo (lo + 1 + n) (slots_of L c ws) = slots-swap L c lo (lo + 1 + n) ws (omega arith) (omega arith) g in
    let r : rev_range (lo + 1) n (slots_of L c new) ≡ rev_range lo (n + 2) (slots_of L c ws) =
    ap (rev_range (lo + 1) n) s ∙ sym (rev-step [] lo n (slots_of L c ws) (omega (arith, length-slots L c ws))) in
    let d : drop (L * c) new ≡ drop (L * c) ws = drop-swap L c lo (lo + 1 + n) ws (omega arith) (omega arith) g in
    reverse-told L c (lo + 1) n new (omega arith) (omega arith)
    ∙ ap (λ (x : List (List ℕ)). flatten x ++ drop (L * c) new) r
    ∙ ap (λ (x : List ℕ). flatten (rev_range lo (n + 2) (slots_of L c ws)) ++ x) d
    ∙ sym (reverse-told L c lo (n + 2) ws (omega arith) g)

pub length-reverse-slots : (L lo n : ℕ) (ws : List ℕ) → SlotsIn L (lo + n) ws → length (reverse_slots L lo n ws) ≡ length ws
unfolding reverse_slots
length-reverse-slots L lo n ws g =
    let j : length (flatten (rev_range lo n (slots_of L (lo + n) ws))) ≡ L * (lo + n) = length-joined L (lo + n) lo n ws (omega arith) g in
    simp (length-append, length-drop) (omega arith)
