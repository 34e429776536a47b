-- THE LAW OF THE WINDOW: begun empty and changed by entries alone, it reports the sum and the greatest of the last entries of the whole history, however long that is.
-- Document 02, order 10. A ring from its oldest entry on loses its first at each entry and gets the new one behind.
use Prim.Native.Nat.{ℕ, zero, suc, ◌+◌, ◌-◌, ◌*◌, ◌≤◌, ◌<◌, min}
use native.Mathlib.Omega.{arith}
use Rattle.std.proofs.Math.Decide.{dec_lt}
use Rattle.std.proofs.Common.{add-one, ◌∙◌, subst, length-append, drop_of_length-le, take-append-drop, drop-cons, take_all, take_at, drop-set-lt, take-suc-set, length-take-le}
use Rattle.std.specs.Prelude.{◌≡◌, Bool, false, take, set}
use Rattle.std.proofs.Math.Path.{refl, sym, ap, ap₂}
use Rattle.std.proofs.Math.Bool.{true}
use mathlib.Core.List.{List, [], ◌∷◌, ◌++◌, append-nil, append_assoc}
use borrow.Author.Tests.{lt-ltb, le-ltb, le-leb, lt-leb}
use Rattle.std.proofs.Math.Dec.{ltb}
use Rattle.std.proofs.Math.ListN.{length, get_or, drop, length-take, length-drop, length-set}
use Rattle.std.proofs.lemmas.List.{length-replicate, drop-append-le, drop-set-add}
use Rattle.std.proofs.Math.Seq.{take-nil, drop-append-add, take-set-lt, drop-drop, get_or-set_same}
use Rattle.semantics.specs.declared.answer.Trend.{Trend}
use Rattle.semantics.specs.Lists.{pick, select}
use Rattle.semantics.specs.Limits.{Bounds, base, max_expansions, window_entries, window_words}
use Rattle.semantics.specs.Words.{zeros}
use Rattle.semantics.specs.Window.{Entering, entries_in, room_in, place_in, place_behind, begin_words, enter_words, enter_call, trend_of, trend_in, after_calls, entries_of, last_of}
use Rattle.semantics.proofs.Theorems.Window.Laws.{call-refused, call-entered, AllWithin, total-most, trend-exchanged, trend-behind-zeros}
use Rattle.semantics.specs.Entries.{begin_window, report_window}

-- A RING: places, of which the one at p is the oldest; from that one on
abbrev around : ℕ → List ℕ → List ℕ
around p l = drop p l ++ take p l

module _ (c p : ℕ) (l : List ℕ) (inside : p < length l) where
  without-oldest : drop 1 (around p l) ≡ drop (p + 1) l ++ take p l
  without-oldest =
      let z : p + 1 ≡ suc p = omega arith in
      ap (λ (t : List ℕ). drop 1 (t ++ take p l)) (drop-cons l p 0 inside) ∙ ap (λ (m : ℕ). drop m l ++ take p l) (sym z)

  -- the oldest goes, the new one stands last
  around-entered : around (place_behind (length l) p) (set l p c) ≡ drop 1 (around p l) ++ (c ∷ [])
  around-entered = on (dec_lt (p + 1) (length l))
    where
      taken : take (p + 1) (set l p c) ≡ take p l ++ (c ∷ [])
      taken = rw add-one (take-suc-set l p c inside)

      kept : drop (p + 1) (set l p c) ≡ drop (p + 1) l
      kept = drop-set-lt (p + 1) l p c (omega arith)

      on : Dec (p + 1 < length l) → around (place_behind (length l) p) (set l p c) ≡ drop 1 (around p l) ++ (c ∷ [])
      on (yes h) =
          ap (λ b. around (pick b (p + 1) 0) (set l p c)) (lt-ltb (p + 1) (length l) h)
          ∙ ap₂ (λ (a b : List ℕ). a ++ b) kept taken
          ∙ sym (append_assoc (drop (p + 1) l) (take p l) (c ∷ []))
          ∙ ap (λ (t : List ℕ). t ++ (c ∷ [])) (sym without-oldest)
      on (no h) =
          let e : drop (p + 1) l ≡ [] = drop_of_length-le l {i = p + 1} (omega arith) in
          ap (λ b. around (pick b (p + 1) 0) (set l p c)) (le-ltb (p + 1) (length l) (omega arith))
          ∙ append-nil (set l p c)
          ∙ sym (take_all (p + 1) (set l p c) (omega (arith, length-set l p c)))
          ∙ taken
          ∙ ap (λ (t : List ℕ). t ++ (c ∷ [])) (sym (without-oldest ∙ ap (λ (t : List ℕ). t ++ take p l) e))

length-around : (p : ℕ) (l : List ℕ) → length (around p l) ≡ length l
length-around p l =
    let a = ap length (take-append-drop p l) in
    let b = length-append (take p l) (drop p l) in
    let c = length-append (drop p l) (take p l) in
    omega (arith, a, b, c)

-- THE WORDS AS A RING
abbrev oldest_on : ℕ → List ℕ → List ℕ
oldest_on most ws = around (place_in most ws) (entries_in most ws)

place_inside : (most : ℕ) (ws : List ℕ) → 0 < room_in most ws → place_in most ws < room_in most ws
place_inside most ws some = on (dec_lt (get_or ws 0 0) (room_in most ws))
  where
    on : Dec (get_or ws 0 0 < room_in most ws) → place_in most ws < room_in most ws
    on (yes h) = rw (lt-ltb (get_or ws 0 0) (room_in most ws) h) h
    on (no h) = rw (le-ltb (get_or ws 0 0) (room_in most ws) (omega arith)) some

behind-inside : (room at : ℕ) → 0 < room → place_behind room at < room
behind-inside room at some = on (dec_lt (at + 1) room)
  where
    on : Dec (at + 1 < room) → place_behind room at < room
    on (yes h) = rw (lt-ltb (at + 1) room h) h
    on (no h) = rw (le-ltb (at + 1) room (omega arith)) some

-- the room follows from the length alone
room-same : (most : ℕ) (ws vs : List ℕ) → length vs ≡ length ws → room_in most vs ≡ room_in most ws
room-same most ws vs e = length-take most (drop 1 vs) ∙ ap (min most) (length-drop 1 vs ∙ ap (λ (n : ℕ). n - 1) e ∙ sym (length-drop 1 ws)) ∙ sym (length-take most (drop 1 ws))

length-entered : (most c : ℕ) (ws : List ℕ) → length (enter_words most c ws) ≡ length ws
unfolding enter_words
length-entered most c ws = simp length-set

module _ (most c : ℕ) (ws : List ℕ) (some : 0 < room_in most ws) where
  entries-entered : entries_in most (enter_words most c ws) ≡ set (entries_in most ws) (place_in most ws) c
  unfolding enter_words
  entries-entered =
      let p = place_in most ws in
      let i = place_inside most ws some in
      let m = length-take most (drop 1 ws) in
      ap (take most) (drop-set-lt 1 (set ws (1 + p) c) 0 (place_behind (room_in most ws) p) (omega arith))
      ∙ ap (take most) (drop-set-add 1 ws p c)
      ∙ take-set-lt most (drop 1 ws) p c (omega (arith, i, m))

  place-entered : place_in most (enter_words most c ws) ≡ place_behind (room_in most ws) (place_in most ws)
  unfolding enter_words
  place-entered =
      let p = place_in most ws in
      let q = place_behind (room_in most ws) p in
      let r = room-same most ws (enter_words most c ws) (length-entered most c ws) in
      let n : 0 < length ws = let m = length-take most (drop 1 ws) in let d = length-drop 1 ws in omega (arith, m, d) in
      let w : get_or (enter_words most c ws) 0 0 ≡ q = get_or-set_same (set ws (1 + p) c) 0 q 0 (omega (arith, length-set ws (1 + p) c)) in
      let t : ltb q (room_in most ws) ≡ true = lt-ltb q (room_in most ws) (behind-inside (room_in most ws) p some) in
      ap₂ (λ (a b : ℕ). pick (ltb a b) a 0) w r ∙ ap (λ (b : Bool). pick b q 0) t

  oldest-entered : oldest_on most (enter_words most c ws) ≡ drop 1 (oldest_on most ws) ++ (c ∷ [])
  oldest-entered = ap₂ around place-entered entries-entered ∙ around-entered c (place_in most ws) (entries_in most ws) (place_inside most ws some)

-- THE WHOLE HISTORY
module _ (bd : Bounds) (most : ℕ) where
  no-entry : (c : ℕ) (cs : List ℕ) → bd.expansions < c → entries_of bd (c ∷ cs) ≡ entries_of bd cs
  unfolding select
  no-entry c cs h = rw (lt-leb c bd.expansions h)

  an-entry : (c : ℕ) (cs : List ℕ) → c ≤ bd.expansions → entries_of bd (c ∷ cs) ≡ c ∷ entries_of bd cs
  unfolding select
  an-entry c cs h = rw (le-leb c bd.expansions h)

  length-after : (cs ws : List ℕ) → length (after_calls bd most ws cs) ≡ length ws
  unfolding after_calls
  length-after [] ws = refl
  length-after (c ∷ cs) ws = length-after cs (enter_call bd most ws c).window ∙ on (dec_lt bd.expansions c)
    where
      on : Dec (bd.expansions < c) → length (enter_call bd most ws c).window ≡ length ws
      on (yes h) = ap (λ (e : Entering). length e.window) (call-refused bd most ws c h)
      on (no h) = ap (λ (e : Entering). length e.window) (call-entered bd most ws c (omega arith)) ∙ length-entered most c ws

  -- as many as were entered have gone in front, and these stand behind
  oldest-after : (cs ws : List ℕ) → 0 < room_in most ws → oldest_on most (after_calls bd most ws cs) ≡ drop (length (entries_of bd cs)) (oldest_on most ws ++ entries_of bd cs)
  unfolding after_calls
  oldest-after [] ws some = unfold select in sym (append-nil (oldest_on most ws))
  oldest-after (c ∷ cs) ws some = on (λ vs. oldest-after cs vs) (dec_lt bd.expansions c)
    where
      on : ((vs : List ℕ) → 0 < room_in most vs → oldest_on most (after_calls bd most vs cs) ≡ drop (length (entries_of bd cs)) (oldest_on most vs ++ entries_of bd cs))
          → Dec (bd.expansions < c) → oldest_on most (after_calls bd most (enter_call bd most ws c).window cs) ≡ drop (length (entries_of bd (c ∷ cs))) (oldest_on most ws ++ entries_of bd (c ∷ cs))
      on rest (yes h) =
          ap (λ (e : Entering). oldest_on most (after_calls bd most e.window cs)) (call-refused bd most ws c h)
          ∙ rest ws some
          ∙ ap (λ (es : List ℕ). drop (length es) (oldest_on most ws ++ es)) (sym (no-entry c cs h))
      on rest (no h) =
          let e : c ≤ bd.expansions = omega arith in
          let es = entries_of bd cs in
          let o = oldest_on most ws in
          let r = room-same most ws (enter_words most c ws) (length-entered most c ws) in
          let n : 1 ≤ length o = let k = length-around (place_in most ws) (entries_in most ws) in omega (arith, k, some) in
          ap (λ (t : Entering). oldest_on most (after_calls bd most t.window cs)) (call-entered bd most ws c e)
          ∙ rest (enter_words most c ws) (omega (arith, r, some))
          ∙ ap (λ (t : List ℕ). drop (length es) (t ++ es)) (oldest-entered most c ws some)
          ∙ ap (drop (length es)) (append_assoc (drop 1 o) (c ∷ []) es ∙ sym (drop-append-le 1 o (c ∷ es) n))
          ∙ drop-drop (length es) 1 (o ++ (c ∷ es))
          ∙ ap (λ (m : ℕ). drop m (o ++ (c ∷ es))) (let z : 1 + length es ≡ suc (length es) = omega arith in z)
          ∙ ap (λ (t : List ℕ). drop (length t) (o ++ t)) (sym (an-entry c cs e))

-- BEGUN EMPTY
zeros-front : (most : ℕ) (xs : List ℕ) → take most (zeros (length (take most xs)) ++ drop most xs) ≡ zeros (length (take most xs))
zeros-front most xs = on (dec_lt most (length xs))
  where
    on : Dec (most < length xs) → take most (zeros (length (take most xs)) ++ drop most xs) ≡ zeros (length (take most xs))
    on (yes h) = take_at (zeros (length (take most xs))) (drop most xs) most (length-replicate {A = ℕ} (length (take most xs)) 0 ∙ length-take-le most xs (omega arith))
    on (no h) =
        let d : drop most xs ≡ [] = drop_of_length-le xs {i = most} (omega arith) in
        let m = length-take most xs in
        let r = length-replicate {A = ℕ} (length (take most xs)) 0 in
        ap (λ (t : List ℕ). take most (zeros (length (take most xs)) ++ t)) d
        ∙ ap (take most) (append-nil (zeros (length (take most xs))))
        ∙ take_all most (zeros (length (take most xs))) (omega (arith, m, r))

begun-entries : (most : ℕ) (ws : List ℕ) → entries_in most (begin_words most ws) ≡ zeros (room_in most ws)
unfolding begin_words
begun-entries most [] = take-nil most ∙ sym (ap (λ (t : List ℕ). zeros (length t)) (take-nil most))
begun-entries most (x ∷ xs) = zeros-front most xs

begun-place : (most : ℕ) (ws : List ℕ) → get_or (begin_words most ws) 0 0 ≡ 0
unfolding begin_words
begun-place most [] = refl
begun-place most (x ∷ xs) = refl

length-begun : (most : ℕ) (ws : List ℕ) → length (begin_words most ws) ≡ length ws
unfolding begin_words
length-begun most ws =
    let a = length-append (zeros (length (take (suc most) ws))) (drop (suc most) ws) in
    let b = length-replicate {A = ℕ} (length (take (suc most) ws)) 0 in
    let c = length-append (take (suc most) ws) (drop (suc most) ws) in
    let d = ap length (take-append-drop (suc most) ws) in
    omega (arith, a, b, c, d)

begun-oldest : (most : ℕ) (ws : List ℕ) → oldest_on most (begin_words most ws) ≡ zeros (room_in most ws)
begun-oldest most ws =
    let p : place_in most (begin_words most ws) ≡ 0 = ap (λ (a : ℕ). pick (ltb a (room_in most (begin_words most ws))) a 0) (begun-place most ws) ∙ either (ltb 0 (room_in most (begin_words most ws))) in
    ap₂ around p (begun-entries most ws) ∙ append-nil (zeros (room_in most ws))
  where
    either : (b : Bool) → pick {A = ℕ} b 0 0 ≡ 0
    either true = refl
    either false = refl

-- THE LAW
none_of : (l : List ℕ) → length l ≡ 0 → l ≡ []
none_of [] e = refl
none_of (x ∷ l) e = absurd (omega arith)

-- zeros in front of a history: what is left when as many as its entries have gone has the trend of its last ones
trend-last : (n : ℕ) (h : List ℕ) → trend_of (drop (length h) (zeros n ++ h)) ≡ trend_of (last_of n h)
trend-last n h = on (dec_lt (length h) n)
  where
    long : length (zeros n) ≡ n
    long = length-replicate {A = ℕ} n 0

    on : Dec (length h < n) → trend_of (drop (length h) (zeros n ++ h)) ≡ trend_of (last_of n h)
    on (yes p) =
        let z : length h - n ≡ 0 = omega arith in
        ap trend_of (drop-append-le (length h) (zeros n) h (omega (arith, long)))
        ∙ trend-behind-zeros (length h) n h
        ∙ ap (λ (m : ℕ). trend_of (drop m h)) (sym z)
    on (no p) =
        let z : length h ≡ length (zeros n) + (length h - n) = omega (arith, long) in
        ap (λ (m : ℕ). trend_of (drop m (zeros n ++ h))) z ∙ ap trend_of (drop-append-add (zeros n) h (length h - n))

-- for every area, every number of entries, every bound and every calls
pub window-trend : (bd : Bounds) (most : ℕ) (ws cs : List ℕ) → trend_in most (after_calls bd most (begin_words most ws) cs) ≡ trend_of (last_of (room_in most ws) (entries_of bd cs))
window-trend bd most ws cs = on (dec_lt 0 (room_in most ws))
  where
    on : Dec (0 < room_in most ws) → trend_in most (after_calls bd most (begin_words most ws) cs) ≡ trend_of (last_of (room_in most ws) (entries_of bd cs))
    on (yes some) =
        let after = after_calls bd most (begin_words most ws) cs in
        let r = room-same most ws (begin_words most ws) (length-begun most ws) in
        ap trend_of (sym (take-append-drop (place_in most after) (entries_in most after)))
        ∙ trend-exchanged (take (place_in most after) (entries_in most after)) (drop (place_in most after) (entries_in most after))
        ∙ ap trend_of (oldest-after bd most cs (begin_words most ws) (omega (arith, r, some)))
        ∙ ap (λ (t : List ℕ). trend_of (drop (length (entries_of bd cs)) (t ++ entries_of bd cs))) (begun-oldest most ws)
        ∙ trend-last (room_in most ws) (entries_of bd cs)
    on (no none) =
        let after = after_calls bd most (begin_words most ws) cs in
        let r = room-same most ws after (length-after bd most cs (begin_words most ws) ∙ length-begun most ws) in
        let z : room_in most ws ≡ 0 = omega arith in
        let e : entries_in most after ≡ [] = none_of (entries_in most after) (r ∙ z) in
        let d : last_of (room_in most ws) (entries_of bd cs) ≡ [] = drop_of_length-le (entries_of bd cs) {i = length (entries_of bd cs) - room_in most ws} (omega (arith, z)) in
        ap trend_of (e ∙ sym d)

-- ON THE CALLS, for a history of any length
pub last-searches : (words counts : List ℕ) → window_words ≤ length words → report_window (after_calls base window_entries (begin_window words) counts) ≡ trend_of (last_of window_entries (entries_of base counts))
last-searches words counts h =
    let r : room_in window_entries words ≡ window_entries = length-take-le window_entries (drop 1 words) (omega (arith, length-drop 1 words, h)) in
    window-trend base window_entries words counts ∙ ap (λ (n : ℕ). trend_of (last_of n (entries_of base counts))) r

-- where every count was accepted, the entries are the whole history
pub all-entered : (bd : Bounds) (cs : List ℕ) → AllWithin bd.expansions cs → entries_of bd cs ≡ cs
unfolding select
all-entered bd [] a = refl
all-entered bd (c ∷ cs) (h, a) = an-entry bd 0 c cs h ∙ ap (λ (t : List ℕ). c ∷ t) (all-entered bd cs a)

entries-within : (bd : Bounds) (cs : List ℕ) → AllWithin bd.expansions (entries_of bd cs)
unfolding select
entries-within bd [] = tt
entries-within bd (c ∷ cs) = on (dec_lt bd.expansions c) (entries-within bd cs)
  where
    on : Dec (bd.expansions < c) → AllWithin bd.expansions (entries_of bd cs) → AllWithin bd.expansions (entries_of bd (c ∷ cs))
    on (yes h) a = subst (AllWithin bd.expansions) (sym (no-entry bd 0 c cs h)) a
    on (no h) a = let e : c ≤ bd.expansions = omega arith in subst (AllWithin bd.expansions) (sym (an-entry bd 0 c cs e)) (e, a)

within-drop : (b n : ℕ) (l : List ℕ) → AllWithin b l → AllWithin b (drop n l)
within-drop b zero l a = a
within-drop b (suc n) [] a = tt
within-drop b (suc n) (x ∷ l) (h, a) = within-drop b n l a

-- THE SUM FITS: 2^34 at most
pub sum_fits : (words counts : List ℕ) → window_words ≤ length words → (report_window (after_calls base window_entries (begin_window words) counts)).sum ≤ window_entries * max_expansions
unfolding trend_of
sum_fits words counts h =
    let last = last_of window_entries (entries_of base counts) in
    let m = total-most max_expansions last (within-drop max_expansions (length (entries_of base counts) - window_entries) (entries_of base counts) (entries-within base counts)) in
    let d = length-drop (length (entries_of base counts) - window_entries) (entries_of base counts) in
    let e = ap (λ (t : Trend). t.sum) (last-searches words counts h) in
    omega (arith, m, d, e)
