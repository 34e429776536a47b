-- Records written behind the used ones and taken back again: two records do not touch each other, zeros written over zeros alter nothing, and what is
-- cleared before or after them is cleared alike. For every bound on edges.
-- Serves document 01, "Partial paths": a refused replacement alters no word.
use Prim.Native.Nat.{ℕ, zero, suc, ◌+◌, ◌-◌, ◌≤◌, ◌<◌}
use Rattle.std.proofs.Math.Nat.{mul-suc, mul-le-mul_left}
use Rattle.std.proofs.Common.{add-one, ◌∙◌, subst, eqb-true, length-append, length-drop, take-append-drop, take_at, drop_at, drop-drop, get_or-set_same, set-set, drop-set-lt, drop-cons}
use native.Mathlib.Omega.{arith}
use Rattle.std.specs.Prelude.{◌≡◌, Bool, true, false, eqb, take, set}
use Rattle.std.proofs.Math.Path.{refl, sym, ap, ap₂}
use mathlib.Core.List.{List, [], ◌∷◌, ◌++◌, append_assoc}
use Rattle.std.proofs.Math.ListN.{length, get_or, drop}
use Rattle.std.proofs.lemmas.List.{length-replicate, set-get_or, set-append_left}
use Rattle.std.proofs.Math.Seq.{length-take-le, take-set-lt}
use Rattle.semantics.specs.Limits.{Bounds, record_words}
use Rattle.semantics.specs.PartialPaths.{Route}
use Rattle.semantics.specs.Words.{zeros}
use Rattle.semantics.specs.Lists.{and}
use Rattle.semantics.specs.Lists.Laws.{and-true}
use Rattle.semantics.specs.Database.{used_in, clear_record, record_place}
use Rattle.database.specs.Records.{InWords, record_at, put_record}
use Rattle.database.specs.Records.Laws.{length-record, length-put, put_same}
use Rattle.database.specs.Filing.{cleared, cleared_to, record_of, put_routes, headed, is_clean, used_up_to, freed_from}
use Rattle.database.specs.Filing.Laws.{cleared-none, cleared_more, cleared-all, length-clear, length-slot, length-cleared}

-- ---- words that are all zeros

pub clean-zeros : (r : List ℕ) → is_clean r ≡ true → r ≡ zeros (length r)
unfolding is_clean
clean-zeros [] h = refl
clean-zeros (w ∷ r) h = let z = and-true (eqb w 0) (is_clean r) h in ap₂ (λ (x : ℕ) (l : List ℕ). x ∷ l) (eqb-true w 0 z.0) (clean-zeros r z.1)

-- ---- a scan of them

pub clean-one : (ws : List ℕ) (i : ℕ) (clean : Bool) → i < length ws → and (and (eqb (get_or ws i 0) 0) clean) (is_clean (drop (i + 1) ws)) ≡ and clean (is_clean (drop i ws))
unfolding is_clean
clean-one ws i clean h = rw (add-one i) (sym (ap (λ (l : List ℕ). and clean (is_clean l)) (drop-cons ws i 0 h) ∙ on clean (eqb (get_or ws i 0) 0) (is_clean (drop (suc i) ws))))
  where
    on : (a b c : Bool) → and a (and b c) ≡ and (and b a) c
    on true true c = refl
    on true false c = refl
    on false true c = refl
    on false false c = refl

pub clean_all : (ws : List ℕ) (i : ℕ) (clean : Bool) → i ≡ length ws → clean ≡ and clean (is_clean (drop i ws))
unfolding is_clean
clean_all ws i clean e = sym (ap (λ (l : List ℕ). and clean (is_clean l)) (ap (λ (k : ℕ). drop k ws) e ∙ drop-end ws) ∙ on clean)
  where
    drop-end : (l : List ℕ) → drop (length l) l ≡ []
    drop-end [] = refl
    drop-end (x ∷ l) = drop-end l

    on : (b : Bool) → and b true ≡ b
    on true = refl
    on false = refl

-- ---- parts of a list replaced

-- L words from place P on replaced by others
abbrev over : ℕ → ℕ → List ℕ → List ℕ → List ℕ
over P L a ws = take P ws ++ (a ++ drop (P + L) ws)

over-at : (x y t a : List ℕ) (P L : ℕ) → length x ≡ P → length y ≡ L → over P L a (x ++ (y ++ t)) ≡ x ++ (a ++ t)
over-at x y t a P L p l =
    let q : drop (P + L) (x ++ (y ++ t)) ≡ t = sym (drop-drop L P (x ++ (y ++ t))) ∙ ap (drop L) (drop_at x (y ++ t) P p) ∙ drop_at y t L l in
    ap₂ (λ (u v : List ℕ). u ++ (a ++ v)) (take_at x (y ++ t) P p) q

-- a list as five parts: two places of L words, and what stands around them
pub record Parts (P L Q : ℕ) (ws : List ℕ) : Type 0 where
  pub x : List ℕ
  pub y : List ℕ
  pub m : List ℕ
  pub z : List ℕ
  pub t : List ℕ
  pub is : ws ≡ x ++ (y ++ (m ++ (z ++ t)))
  pub front : length x ≡ P
  pub first : length y ≡ L
  pub second : length z ≡ L
  pub between : length (x ++ (y ++ m)) ≡ Q

parts : (P L Q : ℕ) (ws : List ℕ) → P + L ≤ Q → Q + L ≤ length ws → Parts P L Q ws
parts P L Q ws h g =
    let k : ℕ = Q - (P + L) in
    let q : P + L + k ≡ Q = omega (arith, h) in
    let a : take L (drop P ws) ++ drop (P + L) ws ≡ drop P ws = ap (λ (l : List ℕ). take L (drop P ws) ++ l) (sym (drop-drop L P ws)) ∙ take-append-drop L (drop P ws) in
    let b : take k (drop (P + L) ws) ++ drop Q ws ≡ drop (P + L) ws = ap (λ (l : List ℕ). take k (drop (P + L) ws) ++ l) (sym (drop-drop k (P + L) ws ∙ ap (λ (n : ℕ). drop n ws) q)) ∙ take-append-drop k (drop (P + L) ws) in
    let c : take L (drop Q ws) ++ drop (Q + L) ws ≡ drop Q ws = ap (λ (l : List ℕ). take L (drop Q ws) ++ l) (sym (drop-drop L Q ws)) ∙ take-append-drop L (drop Q ws) in
    let e1 : length (take P ws) ≡ P = length-take-le P ws (omega (arith, h, g)) in
    let e2 : length (take L (drop P ws)) ≡ L = length-take-le L (drop P ws) (simp length-drop (omega (arith, h, g))) in
    let e3 : length (take k (drop (P + L) ws)) ≡ k = length-take-le k (drop (P + L) ws) (simp length-drop (omega (arith, h, g, q))) in
    record {
      x = take P ws;
      y = take L (drop P ws);
      m = take k (drop (P + L) ws);
      z = take L (drop Q ws);
      t = drop (Q + L) ws;
      is = sym (ap (λ (l : List ℕ). take P ws ++ (take L (drop P ws) ++ (take k (drop (P + L) ws) ++ l))) c ∙ ap (λ (l : List ℕ). take P ws ++ (take L (drop P ws) ++ l)) b ∙ ap (λ (l : List ℕ). take P ws ++ l) a ∙ take-append-drop P ws);
      front = e1;
      first = e2;
      second = length-take-le L (drop Q ws) (simp length-drop (omega (arith, g)));
      between = simp length-append (omega (arith, e1, e2, e3, q));
    }

module _ (P L Q : ℕ) (ws : List ℕ) (v : Parts P L Q ws) where
  joined : (u : List ℕ) → v.x ++ (v.y ++ (v.m ++ u)) ≡ v.x ++ (v.y ++ v.m) ++ u
  joined u = ap (λ (l : List ℕ). v.x ++ l) (sym (append_assoc v.y v.m u)) ∙ sym (append_assoc v.x (v.y ++ v.m) u)

  over-second : (b : List ℕ) → over Q L b ws ≡ v.x ++ (v.y ++ (v.m ++ (b ++ v.t)))
  over-second b = ap (over Q L b) (v.is ∙ joined (v.z ++ v.t)) ∙ over-at (v.x ++ (v.y ++ v.m)) v.z v.t b Q L v.between v.second ∙ sym (joined (b ++ v.t))

  -- the first place is read alike when the second is written
  record-kept : (b : List ℕ) → take L (drop P (over Q L b ws)) ≡ take L (drop P ws)
  record-kept b =
      let at : (u : List ℕ) → take L (drop P (v.x ++ (v.y ++ u))) ≡ v.y = λ u. ap (take L) (drop_at v.x (v.y ++ u) P v.front) ∙ take_at v.y u L v.first in
      ap (λ (l : List ℕ). take L (drop P l)) (over-second b) ∙ at (v.m ++ (b ++ v.t)) ∙ sym (ap (λ (l : List ℕ). take L (drop P l)) v.is ∙ at (v.m ++ (v.z ++ v.t)))

  -- which of two places is written first plays no part
  over-other : (a b : List ℕ) → length a ≡ L → over P L a (over Q L b ws) ≡ over Q L b (over P L a ws)
  over-other a b l =
      let s : over P L a ws ≡ v.x ++ (a ++ (v.m ++ (v.z ++ v.t))) = ap (over P L a) v.is ∙ over-at v.x v.y (v.m ++ (v.z ++ v.t)) a P L v.front v.first in
      let j : (u : List ℕ) → v.x ++ (a ++ (v.m ++ u)) ≡ v.x ++ (a ++ v.m) ++ u = λ u. ap (λ (l : List ℕ). v.x ++ l) (sym (append_assoc a v.m u)) ∙ sym (append_assoc v.x (a ++ v.m) u) in
      let n : length (v.x ++ (a ++ v.m)) ≡ Q = let k : length (v.x ++ (v.y ++ v.m)) ≡ length v.x + (length v.y + length v.m) = simp length-append in simp length-append (omega (arith, v.between, k, v.first, l)) in
      ap (over P L a) (over-second b)
      ∙ over-at v.x v.y (v.m ++ (b ++ v.t)) a P L v.front v.first
      ∙ j (b ++ v.t)
      ∙ sym (ap (over Q L b) (s ∙ j (v.z ++ v.t)) ∙ over-at (v.x ++ (a ++ v.m)) v.z v.t b Q L n v.second)

  -- the second place is read alike when the first is written
  record-later : (a : List ℕ) → length a ≡ L → take L (drop Q (over P L a ws)) ≡ take L (drop Q ws)
  record-later a l =
      let s : over P L a ws ≡ v.x ++ (a ++ (v.m ++ (v.z ++ v.t))) = ap (over P L a) v.is ∙ over-at v.x v.y (v.m ++ (v.z ++ v.t)) a P L v.front v.first in
      let j : v.x ++ (a ++ (v.m ++ (v.z ++ v.t))) ≡ v.x ++ (a ++ v.m) ++ (v.z ++ v.t) = ap (λ (l : List ℕ). v.x ++ l) (sym (append_assoc a v.m (v.z ++ v.t))) ∙ sym (append_assoc v.x (a ++ v.m) (v.z ++ v.t)) in
      let n : length (v.x ++ (a ++ v.m)) ≡ Q = let k : length (v.x ++ (v.y ++ v.m)) ≡ length v.x + (length v.y + length v.m) = simp length-append in simp length-append (omega (arith, v.between, k, v.first, l)) in
      let at : (u : List ℕ) → length u ≡ Q → take L (drop Q (u ++ (v.z ++ v.t))) ≡ v.z = λ u e. ap (take L) (drop_at u (v.z ++ v.t) Q e) ∙ take_at v.z v.t L v.second in
      ap (λ (l : List ℕ). take L (drop Q l)) (s ∙ j) ∙ at (v.x ++ (a ++ v.m)) n ∙ sym (ap (λ (l : List ℕ). take L (drop Q l)) (v.is ∙ joined (v.z ++ v.t)) ∙ at (v.x ++ (v.y ++ v.m)) v.between)

-- ---- two records

module _ (bd : Bounds) (n i : ℕ) (ws : List ℕ) (less : n < i) (inside : InWords bd i ws) where
  places : record_place bd n + record_words bd ≤ record_place bd i
  places = omega (arith, mul-suc (record_words bd) n, mul-le-mul_left (record_words bd) less)

  two : Parts (record_place bd n) (record_words bd) (record_place bd i) ws
  two = parts (record_place bd n) (record_words bd) (record_place bd i) ws places inside

  pub record-other : (b : List ℕ) → record_at bd n (put_record bd i b ws) ≡ record_at bd n ws
  unfolding put_record
  record-other b = record-kept (record_place bd n) (record_words bd) (record_place bd i) ws two b

  pub record-after : (a : List ℕ) → length a ≡ record_words bd → record_at bd i (put_record bd n a ws) ≡ record_at bd i ws
  unfolding put_record
  record-after a l = record-later (record_place bd n) (record_words bd) (record_place bd i) ws two a l

  pub put_other : (a b : List ℕ) → length a ≡ record_words bd → put_record bd n a (put_record bd i b ws) ≡ put_record bd i b (put_record bd n a ws)
  unfolding put_record
  put_other a b l = over-other (record_place bd n) (record_words bd) (record_place bd i) ws two a b l

-- the same record written twice
pub put-over : (bd : Bounds) (i : ℕ) (a b ws : List ℕ) → length a ≡ record_words bd → InWords bd i ws → put_record bd i b (put_record bd i a ws) ≡ put_record bd i b ws
unfolding put_record
put-over bd i a b ws l h = over-at (take (record_place bd i) ws) a (drop (record_place bd i + record_words bd) ws) b (record_place bd i) (record_words bd) (length-take-le (record_place bd i) ws (omega (arith, h))) l

-- a record that was written is read
record-written : (bd : Bounds) (i : ℕ) (a ws : List ℕ) → length a ≡ record_words bd → InWords bd i ws → record_at bd i (put_record bd i a ws) ≡ a
unfolding put_record
record-written bd i a ws l h =
    ap (take (record_words bd)) (drop_at (take (record_place bd i) ws) (a ++ drop (record_place bd i + record_words bd) ws) (record_place bd i) (length-take-le (record_place bd i) ws (omega (arith, h)))) ∙ take_at a (drop (record_place bd i + record_words bd) ws) (record_words bd) l

-- zeros written over zeros
pub put-free : (bd : Bounds) (i : ℕ) (ws : List ℕ) → InWords bd i ws → is_clean (record_at bd i ws) ≡ true → put_record bd i (zeros (record_words bd)) ws ≡ ws
put-free bd i ws h c = ap (λ (r : List ℕ). put_record bd i r ws) (ap zeros (sym (length-record bd i ws h)) ∙ sym (clean-zeros (record_at bd i ws) c)) ∙ put_same bd i ws

-- ---- the word that counts the used slots

module _ (bd : Bounds) (i k : ℕ) (r ws : List ℕ) (long : 3 ≤ length ws) where
  pub put-used : record_place bd i ≤ length ws → put_record bd i r (used_up_to k ws) ≡ used_up_to k (put_record bd i r ws)
  unfolding put_record
  put-used h =
      let l : 0 < length (take (record_place bd i) ws) = let q = length-take-le (record_place bd i) ws h in omega (arith, q) in
      ap₂ (λ (u v : List ℕ). u ++ (r ++ v)) (take-set-lt (record_place bd i) ws 0 k (omega arith)) (drop-set-lt (record_place bd i + record_words bd) ws 0 k (omega arith))
      ∙ sym (set-append_left (take (record_place bd i) ws) (r ++ drop (record_place bd i + record_words bd) ws) 0 k l)

  pub put_front : record_place bd i ≤ length ws → used_in (put_record bd i r ws) ≡ used_in ws
  unfolding put_record
  put_front h = front (record_place bd i) ws (omega arith) (omega (arith, long))
    where
      front : (n : ℕ) (l : List ℕ) → 0 < n → 0 < length l → get_or (take n l ++ (r ++ drop (record_place bd i + record_words bd) ws)) 0 0 ≡ get_or l 0 0
      front zero l p q = absurd (omega (arith, p))
      front (suc n) [] p q = absurd (omega (arith, q))
      front (suc n) (x ∷ l) p q = refl

pub used-now : (k : ℕ) (ws : List ℕ) → 0 < length ws → used_in (used_up_to k ws) ≡ k
used-now k ws h = get_or-set_same ws 0 k 0 h

pub used-again : (j k : ℕ) (ws : List ℕ) → used_up_to k (used_up_to j ws) ≡ used_up_to k ws
used-again j k ws = set-set ws 0 j k

pub used-same : (k : ℕ) (ws : List ℕ) → used_in ws ≡ k → used_up_to k ws ≡ ws
used-same k ws e = ap (λ (n : ℕ). set ws 0 n) (sym e) ∙ set-get_or ws 0 0

pub headed-used : (used nodes files k : ℕ) (ws : List ℕ) → headed used nodes files (used_up_to k ws) ≡ headed used nodes files ws
headed-used used nodes files k ws = ap (λ (l : List ℕ). used ∷ nodes ∷ files ∷ l) (drop-set-lt 3 ws 0 k (omega arith))

-- ---- records made zeros, from the last to the first

pub freed-none : (bd : Bounds) (i n : ℕ) (ws : List ℕ) → n ≤ i → freed_from bd i (n - i) ws ≡ ws
unfolding freed_from
freed-none bd i n ws h = ap (λ (k : ℕ). freed_from bd i k ws) (let z : n - i ≡ 0 = omega (arith, h) in z)

pub freed-more : (bd : Bounds) (i n : ℕ) (ws : List ℕ) → i < n → put_record bd i (zeros (record_words bd)) (freed_from bd (i + 1) (n - (i + 1)) ws) ≡ freed_from bd i (n - i) ws
unfolding freed_from
freed-more bd i n ws h =
    ap (λ (k : ℕ). put_record bd i (zeros (record_words bd)) (freed_from bd k (n - (i + 1)) ws)) (add-one i)
    ∙ ap (λ (k : ℕ). freed_from bd i k ws) (let z : suc (n - (i + 1)) ≡ n - i = omega (arith, h) in z)

pub freed-down : (bd : Bounds) (i n : ℕ) (ws : List ℕ) → 0 < i → i ≤ n → put_record bd (i - 1) (zeros (record_words bd)) (freed_from bd i (n - i) ws) ≡ freed_from bd (i - 1) (n - (i - 1)) ws
freed-down bd i n ws h g =
    let q : i - 1 + 1 ≡ i = omega (arith, h) in
    ap (λ (m : ℕ). put_record bd (i - 1) (zeros (record_words bd)) (freed_from bd m (n - m) ws)) (sym q) ∙ freed-more bd (i - 1) n ws (omega (arith, h, g))

-- from another record on, with as many to be made zeros
pub freed-end : (bd : Bounds) (i j n : ℕ) (ws : List ℕ) → i ≤ j → n - i ≤ n - j → freed_from bd i (n - i) ws ≡ freed_from bd j (n - j) ws
freed-end bd i j n ws h g = on (n - i) refl
  where
    on : (k : ℕ) → n - i ≡ k → freed_from bd i (n - i) ws ≡ freed_from bd j (n - j) ws
    on zero e = freed-none bd i n ws (omega (arith, e)) ∙ sym (freed-none bd j n ws (omega (arith, e, h)))
    on (suc k) e = ap (λ (m : ℕ). freed_from bd m (n - m) ws) (let z : i ≡ j = omega (arith, e, h, g) in z)

next-inside : (bd : Bounds) (i k : ℕ) (ws : List ℕ) → record_place bd (i + suc k) ≤ length ws → InWords bd i ws × (record_place bd (suc i + k) ≤ length ws)
next-inside bd i k ws h =
    let q : suc i + k ≡ i + suc k = omega arith in
    (omega (arith, h, mul-suc (record_words bd) i, mul-le-mul_left (record_words bd) (let z : suc i ≤ i + suc k = omega arith in z)), subst (λ (j : ℕ). record_place bd j ≤ length ws) (sym q) h)

zeros-long : (bd : Bounds) → length (zeros (record_words bd)) ≡ record_words bd
zeros-long bd = length-replicate (record_words bd) 0

pub length-freed : (bd : Bounds) (i k : ℕ) (ws : List ℕ) → record_place bd (i + k) ≤ length ws → length (freed_from bd i k ws) ≡ length ws
unfolding freed_from
length-freed bd i zero ws h = refl
length-freed bd i (suc k) ws h =
    let n = next-inside bd i k ws h in
    let ih = length-freed bd (suc i) k ws n.1 in
    length-put bd i (zeros (record_words bd)) (freed_from bd (suc i) k ws) (zeros-long bd) (omega (arith, ih, n.0)) ∙ ih

-- records behind one that is written
put-freed : (bd : Bounds) (n i k : ℕ) (a ws : List ℕ) → n < i → length a ≡ record_words bd → record_place bd (i + k) ≤ length ws → put_record bd n a (freed_from bd i k ws) ≡ freed_from bd i k (put_record bd n a ws)
unfolding freed_from
put-freed bd n i zero a ws h l g = refl
put-freed bd n i (suc k) a ws h l g =
    let m = next-inside bd i k ws g in
    let x : List ℕ = freed_from bd (suc i) k ws in
    let lx : length x ≡ length ws = length-freed bd (suc i) k ws m.1 in
    put_other bd n i x h (omega (arith, lx, m.0)) a (zeros (record_words bd)) l ∙ ap (put_record bd i (zeros (record_words bd))) (put-freed bd n (suc i) k a ws (omega (arith, h)) l m.1)

pub freed-used : (bd : Bounds) (i k used : ℕ) (ws : List ℕ) → 3 ≤ length ws → record_place bd (i + k) ≤ length ws → freed_from bd i k (used_up_to used ws) ≡ used_up_to used (freed_from bd i k ws)
unfolding freed_from
freed-used bd i zero used ws h g = refl
freed-used bd i (suc k) used ws h g =
    let m = next-inside bd i k ws g in
    let x : List ℕ = freed_from bd (suc i) k ws in
    let lx : length x ≡ length ws = length-freed bd (suc i) k ws m.1 in
    ap (put_record bd i (zeros (record_words bd))) (freed-used bd (suc i) k used ws h m.1) ∙ put-used bd i used (zeros (record_words bd)) x (omega (arith, lx, h)) (omega (arith, lx, m.0))

pub record-used : (bd : Bounds) (i used : ℕ) (ws : List ℕ) → record_at bd i (used_up_to used ws) ≡ record_at bd i ws
record-used bd i used ws = ap (take (record_words bd)) (drop-set-lt (record_place bd i) ws 0 used (omega arith))

zeros-clean : (n : ℕ) → is_clean (zeros n) ≡ true
unfolding is_clean
zeros-clean zero = refl
zeros-clean (suc n) = zeros-clean n

-- what was made zeros is all zeros
pub freed-clean : (bd : Bounds) (i k j : ℕ) (ws : List ℕ) → record_place bd (i + k) ≤ length ws → i ≤ j → j < i + k → is_clean (record_at bd j (freed_from bd i k ws)) ≡ true
unfolding freed_from
freed-clean bd i zero j ws h a b = absurd (omega (arith, a, b))
freed-clean bd i (suc k) j ws h a b = on (j - i) refl (λ c. freed-clean bd (suc i) k j ws (next-inside bd i k ws h).1 c (omega (arith, b)))
  where
    on : (d : ℕ) → j - i ≡ d → (suc i ≤ j → is_clean (record_at bd j (freed_from bd (suc i) k ws)) ≡ true) → is_clean (record_at bd j (put_record bd i (zeros (record_words bd)) (freed_from bd (suc i) k ws))) ≡ true
    on zero e again =
        let m = next-inside bd i k ws h in
        let lx : length (freed_from bd (suc i) k ws) ≡ length ws = length-freed bd (suc i) k ws m.1 in
        ap is_clean (ap (λ (n : ℕ). record_at bd n (put_record bd i (zeros (record_words bd)) (freed_from bd (suc i) k ws))) (let z : j ≡ i = omega (arith, e, a) in z) ∙ record-written bd i (zeros (record_words bd)) (freed_from bd (suc i) k ws) (zeros-long bd) (omega (arith, lx, m.0)))
        ∙ zeros-clean (record_words bd)
    on (suc d) e again =
        let m = next-inside bd i k ws h in
        let lx : length (freed_from bd (suc i) k ws) ≡ length ws = length-freed bd (suc i) k ws m.1 in
        let w : InWords bd j (freed_from bd (suc i) k ws) = omega (arith, lx, h, mul-suc (record_words bd) j, mul-le-mul_left (record_words bd) (let z : suc j ≤ i + suc k = omega (arith, b) in z)) in
        ap is_clean (record-after bd i j (freed_from bd (suc i) k ws) (omega (arith, e)) w (zeros (record_words bd)) (zeros-long bd)) ∙ again (omega (arith, e))

-- routes are written over zeros as over anything else
pub routes-freed : (bd : Bounds) (f i : ℕ) (rs : List Route) (ws : List ℕ) → record_place bd (i + length rs) ≤ length ws → put_routes bd f i rs (freed_from bd i (length rs) ws) ≡ put_routes bd f i rs ws
unfolding put_routes freed_from
routes-freed bd f i [] ws h = refl
routes-freed bd f i (r ∷ rs) ws h =
    let m = next-inside bd i (length rs) ws h in
    let x : List ℕ = freed_from bd (suc i) (length rs) ws in
    let lx : length x ≡ length ws = length-freed bd (suc i) (length rs) ws m.1 in
    let l : length (record_of bd f r) ≡ record_words bd = length-slot (record_words bd) f r.start r.current r.edges in
    let y : List ℕ = put_record bd i (record_of bd f r) ws in
    let ly : length y ≡ length ws = length-put bd i (record_of bd f r) ws l m.0 in
    ap (put_routes bd f (suc i) rs) (put-over bd i (zeros (record_words bd)) (record_of bd f r) x (zeros-long bd) (omega (arith, lx, m.0)) ∙ put-freed bd i (suc i) (length rs) (record_of bd f r) ws (omega arith) l m.1)
    ∙ routes-freed bd f (suc i) rs y (omega (arith, ly, m.1))

-- ---- clearing before or after a record is written behind

module _ (bd : Bounds) (f : ℕ) where
  cleared-before : (n i : ℕ) (r ws : List ℕ) → n ≤ i → length r ≡ record_words bd → InWords bd i ws → cleared_to bd f n (put_record bd i r ws) ≡ put_record bd i r (cleared_to bd f n ws)
  cleared-before zero i r ws h l g = sym (cleared-none bd f (put_record bd i r ws)) ∙ ap (put_record bd i r) (cleared-none bd f ws)
  cleared-before (suc n) i r ws h l g =
      let x : List ℕ = put_record bd i r ws in
      let y : List ℕ = cleared_to bd f n ws in
      let lx : length x ≡ length ws = length-put bd i r ws l g in
      let gn : InWords bd n ws = omega (arith, places bd n i ws (omega (arith, h)) g, g) in
      let gx : InWords bd n x = omega (arith, gn, lx) in
      let ly : length y ≡ length ws = length-cleared bd f n ws (omega (arith, gn)) in
      let gy : InWords bd i y = omega (arith, ly, g) in
      let ih : cleared_to bd f n x ≡ put_record bd i r y = cleared-before n i r ws (omega (arith, h)) l g in
      let k : record_at bd n (put_record bd i r y) ≡ record_at bd n y = record-other bd n i y (omega (arith, h)) gy r in
      let c : List ℕ = clear_record f (record_at bd n y) in
      let lc : length c ≡ record_words bd = length-clear f (record_at bd n y) ∙ length-record bd n y (omega (arith, gn, ly)) in
      rw (← add-one n)
      (sym (cleared_more bd f n x (cleared_to bd f n x) refl gx)
      ∙ ap (λ (z : List ℕ). put_record bd n (clear_record f (record_at bd n z)) z) ih
      ∙ ap (λ (z : List ℕ). put_record bd n (clear_record f z) (put_record bd i r y)) k
      ∙ put_other bd n i y (omega (arith, h)) gy c r lc
      ∙ ap (put_record bd i r) (cleared_more bd f n ws y refl gn))

  pub cleared-put : (i : ℕ) (r ws : List ℕ) → used_in ws ≤ i → length r ≡ record_words bd → 3 ≤ length ws → InWords bd i ws → cleared bd f (put_record bd i r ws) ≡ put_record bd i r (cleared bd f ws)
  cleared-put i r ws h l k g =
      sym (cleared-all bd f (used_in ws) (put_record bd i r ws) (sym (put_front bd i 0 r ws k (omega (arith, g)))))
      ∙ cleared-before (used_in ws) i r ws h l g
      ∙ ap (put_record bd i r) (cleared-all bd f (used_in ws) ws refl)

  pub cleared-routes : (i : ℕ) (rs : List Route) (ws : List ℕ) → used_in ws ≤ i → record_place bd (i + length rs) ≤ length ws → cleared bd f (put_routes bd f i rs ws) ≡ put_routes bd f i rs (cleared bd f ws)
  unfolding put_routes
  cleared-routes i [] ws h g = refl
  cleared-routes i (r ∷ rs) ws h g =
      let x : List ℕ = put_record bd i (record_of bd f r) ws in
      let l : length (record_of bd f r) ≡ record_words bd = length-slot (record_words bd) f r.start r.current r.edges in
      let m : record_place bd i + record_words bd ≤ record_place bd (i + suc (length rs)) = omega (arith, mul-suc (record_words bd) i, mul-le-mul_left (record_words bd) (let z : suc i ≤ i + suc (length rs) = omega arith in z)) in
      let w : InWords bd i ws = omega (arith, m, g) in
      let lx : length x ≡ length ws = length-put bd i (record_of bd f r) ws l w in
      let u : used_in x ≡ used_in ws = put_front bd i 0 (record_of bd f r) ws (omega (arith, w)) (omega (arith, w)) in
      let q : suc i + length rs ≡ i + suc (length rs) = omega arith in
      cleared-routes (suc i) rs x (omega (arith, u, h)) (subst (λ (k : ℕ). record_place bd k ≤ length x) (sym q) (omega (arith, lx, g)))
      ∙ ap (put_routes bd f (suc i) rs) (cleared-put i (record_of bd f r) ws h l (omega (arith, w)) w)

-- the count of used slots stored before or after routes are written
pub routes-used : (bd : Bounds) (f i k : ℕ) (rs : List Route) (ws : List ℕ) → 3 ≤ length ws → record_place bd (i + length rs) ≤ length ws
    → put_routes bd f i rs (used_up_to k ws) ≡ used_up_to k (put_routes bd f i rs ws)
unfolding put_routes
routes-used bd f i k [] ws h g = refl
routes-used bd f i k (r ∷ rs) ws h g =
    let x : List ℕ = put_record bd i (record_of bd f r) ws in
    let m : record_place bd i + record_words bd ≤ record_place bd (i + suc (length rs)) = omega (arith, mul-suc (record_words bd) i, mul-le-mul_left (record_words bd) (let z : suc i ≤ i + suc (length rs) = omega arith in z)) in
    let w : InWords bd i ws = omega (arith, m, g) in
    let lx : length x ≡ length ws = length-put bd i (record_of bd f r) ws (length-slot (record_words bd) f r.start r.current r.edges) w in
    let q : suc i + length rs ≡ i + suc (length rs) = omega arith in
    ap (put_routes bd f (suc i) rs) (put-used bd i k (record_of bd f r) ws h (omega (arith, w)))
    ∙ routes-used bd f (suc i) k rs x (omega (arith, lx, h)) (subst (λ (j : ℕ). record_place bd j ≤ length x) (sym q) (omega (arith, lx, g)))
