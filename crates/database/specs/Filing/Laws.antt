-- Clearing, writing and storing the words in front come to the replacement of the definitions. For every bound on edges.
-- Serves document 01, "Partial paths": "Replacing a file zeroes its slots, appends the new ones in order found and stores the graph's N and F".
use Prim.Native.Nat.{ℕ, zero, suc, ◌+◌, ◌-◌, ◌*◌, ◌≤◌, ◌<◌}
use Rattle.std.proofs.Common.{mul-zero, mul-add, not-suc-le-zero, le_of_suc-le-suc, arith, sym, ◌∙◌, subst, eq-eqb, ne_eqb, leb-true, take-append-drop}
use Rattle.std.proofs.Math.Nat.{mul-suc, mul-le-mul_left, le_trans}
use Rattle.std.proofs.Math.Numerals.{add-one}
use Rattle.std.specs.Prelude.{◌≡◌, refl, Bool, true, false, eqb, leb, get_or, set}
use Rattle.std.proofs.Math.Path.{ap}
use mathlib.Core.List.{List, [], ◌∷◌, ◌++◌, map, append-nil, append_assoc, map-append, flatten}
use borrow.Rule.Slice.PartMut.{mid_of, put_mid, Post-is, mid_len}
use Rattle.std.proofs.Math.ListN.{length, take, drop, length-append, length-drop, length-map, get_or-append}
use Rattle.std.proofs.lemmas.List.{length-replicate}
use Rattle.std.proofs.Math.Seq.{length-take-le, take_at, drop_at, drop-drop, drop-append-add, get_or-take, append_snoc, drop-length}
use Rattle.semantics.specs.Limits.{Bounds, record_words}
use Rattle.semantics.specs.Graph.{Graph}
use Rattle.semantics.specs.Enumeration.{State}
use Rattle.semantics.specs.PartialPaths.{Route, slot}
use Rattle.semantics.specs.Words.{zeros, encode, slots_of}
use Rattle.semantics.specs.Words.Laws.{length-slots}
use Rattle.semantics.specs.Database.{used_in, capacity, encode_slot, records, zero_if, clear_record, replace_words, has_room, record_place}
use Rattle.words.specs.Slots.{put_slot}
use Rattle.database.specs.Records.{InWords, Whole, record_at, put_record, owner_word}
use Rattle.database.specs.Records.Laws.{length-record, put_same, record-owner}
use Rattle.database.specs.Checks.Laws.{capacity-fits}
use Rattle.database.specs.Filing.{with_records, cleared, cleared_to, record_of, filed, put_routes, headed}

-- ---- lengths

pub length-clear : (f : ℕ) (r : List ℕ) → length (clear_record f r) ≡ length r
unfolding clear_record zero_if
length-clear f [] = refl
length-clear f (zero ∷ r) = refl
length-clear f (suc w ∷ r) = on (eqb w f)
  where
    on : (b : Bool) → length (zero_if b (suc w ∷ r)) ≡ length (suc w ∷ r)
    on true = length-replicate (length (suc w ∷ r)) 0
    on false = refl

pub length-slot : (L : ℕ) (f start end : ℕ) (es : List ℕ) → length (encode_slot L (slot f start end es)) ≡ L
unfolding encode_slot
length-slot L f start end es = length-take-le L (suc f ∷ start ∷ end ∷ length es ∷ (es ++ zeros L)) (simp (length-append, length-replicate) (omega arith))

pub flatten-append : (xs ys : List (List ℕ)) → flatten (xs ++ ys) ≡ flatten xs ++ flatten ys
unfolding flatten
flatten-append [] ys = refl
flatten-append (x ∷ xs) ys = ap (λ (l : List ℕ). x ++ l) (flatten-append xs ys) ∙ sym (append_assoc x (flatten xs) (flatten ys))

pub flatten-snoc : (xs : List (List ℕ)) (x : List ℕ) → flatten (xs ++ (x ∷ [])) ≡ flatten xs ++ x
unfolding flatten
flatten-snoc xs x = flatten-append xs (x ∷ []) ∙ ap (λ (l : List ℕ). flatten xs ++ l) (append-nil x)

-- records of L words each
abbrev pub Packed : ℕ → List (List ℕ) → Type 0
Packed L rs = length (flatten rs) ≡ L * length rs

pub packed_none : (L : ℕ) → Packed L []
unfolding flatten
packed_none L = sym (mul-zero L)

pub packed-append : (L : ℕ) (xs ys : List (List ℕ)) → Packed L xs → Packed L ys → Packed L (xs ++ ys)
packed-append L xs ys h g = ap length (flatten-append xs ys) ∙ simp length-append (omega (arith, h, g, mul-add L (length xs) (length ys)))

packed-slots : (L f n : ℕ) (a : List ℕ) → L * n ≤ length a → Packed L (map (clear_record f) (slots_of L n a))
unfolding slots_of flatten
packed-slots L f zero a h = packed_none L
packed-slots L f (suc n) a h =
    let x : length (clear_record f (take L a)) ≡ L = length-clear f (take L a) ∙ length-take-le L a (omega (arith, mul-suc L n)) in
    let ih : Packed L (map (clear_record f) (slots_of L n (drop L a))) = packed-slots L f n (drop L a) (simp length-drop (omega (arith, mul-suc L n))) in
    simp length-append (omega (arith, x, ih, mul-suc L (length (map (clear_record f) (slots_of L n (drop L a))))))

packed-routes : (bd : Bounds) (f : ℕ) (rs : List Route) → Packed (record_words bd) (map (record_of bd f) rs)
unfolding flatten
packed-routes bd f [] = packed_none (record_words bd)
packed-routes bd f (r ∷ rs) =
    simp length-append (omega (arith, length-slot (record_words bd) f r.start r.current r.edges, packed-routes bd f rs, mul-suc (record_words bd) (length (map (record_of bd f) rs))))

-- ---- the words with their first n records replaced: the next one is still the old one, and is written

module _ (bd : Bounds) (rs : List (List ℕ)) (n : ℕ) (ws : List ℕ) (count : length rs ≡ n) (packed : Packed (record_words bd) rs) where
  front : List ℕ
  front = take 3 ws ++ flatten rs

  rest : List ℕ
  rest = drop (record_words bd * n) (drop 3 ws)

  parted : with_records bd rs ws ≡ front ++ rest
  unfolding with_records front rest
  parted = rw count (sym (append_assoc (take 3 ws) (flatten rs) rest))

  module _ (room : record_place bd n ≤ length ws) where
    length_front : length front ≡ record_place bd n
    unfolding front
    length_front = simp length-append (omega (arith, packed, ap (λ (k : ℕ). record_words bd * k) count, length-take-le 3 ws (omega (arith, room))))

    pub length-with : length (with_records bd rs ws) ≡ length ws
    unfolding rest
    length-with = ap length parted ∙ simp (length-append, length-drop) (omega (arith, length_front, room))

    pub with-front : (k : ℕ) → k < 3 → get_or (with_records bd rs ws) k 0 ≡ get_or ws k 0
    unfolding with_records
    with-front k h =
        get_or-append (take 3 ws) (flatten rs ++ drop (record_words bd * length rs) (drop 3 ws)) 0 k (omega (arith, length-take-le 3 ws (omega (arith, room)))) ∙ get_or-take 3 ws k 0 h

    next-record : record_at bd n (with_records bd rs ws) ≡ record_at bd n ws
    unfolding rest
    next-record =
        ap (λ (l : List ℕ). record_at bd n l) parted
        ∙ ap (take (record_words bd)) (drop_at front rest (record_place bd n) length_front ∙ drop-drop (record_words bd * n) 3 ws)

    -- a record further behind is still the old one, too
    pub later-record : (i : ℕ) → n ≤ i → record_at bd i (with_records bd rs ws) ≡ record_at bd i ws
    unfolding rest
    later-record i h =
        let L : ℕ = record_words bd in
        let d : ℕ = L * i - L * n in
        let m : L * n ≤ L * i = mul-le-mul_left L h in
        let q : record_place bd i ≡ length front + d = omega (arith, length_front, m) in
        let o : L * n + d ≡ L * i = omega (arith, m) in
        ap (λ (l : List ℕ). record_at bd i l) parted
        ∙ ap (take L)
        (ap (λ (k : ℕ). drop k (front ++ rest)) q
        ∙ drop-append-add front rest d
        ∙ drop-drop d (L * n) (drop 3 ws)
        ∙ ap (λ (k : ℕ). drop k (drop 3 ws)) o
        ∙ drop-drop (L * i) 3 ws)

    -- the records from n to before m are zeroed at once, z being the part that comes back
    pub zeroed-behind : (m : ℕ) (x z : List ℕ) → x ≡ with_records bd rs ws → n ≤ m → record_place bd m ≤ length ws
        → z ≡ zeros (length (mid_of (record_place bd n) (record_place bd m - record_place bd n) x))
        → put_mid (record_place bd n) (record_place bd m - record_place bd n) x z ≡ take 3 ws ++ (flatten rs ++ (zeros (record_words bd * m - record_words bd * n) ++ drop (record_words bd * m) (drop 3 ws)))
    unfolding front rest
    zeroed-behind m x z e h g k =
        let L : ℕ = record_words bd in
        let le : L * n ≤ L * m = mul-le-mul_left L h in
        let lx : length x ≡ length ws = ap length e ∙ length-with in
        let a : take (record_place bd n) x ≡ front = ap (take (record_place bd n)) (e ∙ parted) ∙ take_at front rest (record_place bd n) length_front in
        let d : ℕ = L * m - L * n in
        let q : record_place bd m ≡ length front + d = omega (arith, length_front, le) in
        let o : L * n + d ≡ L * m = omega (arith, le) in
        let b : drop (record_place bd m) x ≡ drop (L * m) (drop 3 ws) =
        ap (drop (record_place bd m)) (e ∙ parted)
        ∙ ap (λ (j : ℕ). drop j (front ++ rest)) q
        ∙ drop-append-add front rest d
        ∙ drop-drop d (L * n) (drop 3 ws)
        ∙ ap (λ (j : ℕ). drop j (drop 3 ws)) o in
        let p : drop (record_place bd m - record_place bd n) (drop (record_place bd n) x) ≡ drop (L * m) (drop 3 ws) = Post-is (record_place bd n) (record_place bd m) x (omega (arith, le)) ∙ b in
        let w : record_place bd m - record_place bd n ≡ d = omega (arith, le) in
        let y : z ≡ zeros d = k ∙ ap zeros (mid_len (record_place bd n) (record_place bd m) x (omega (arith, g, lx)) ∙ w) in
        ap (λ (l : List ℕ). take (record_place bd n) x ++ (z ++ l)) p
        ∙ ap (λ (l : List ℕ). l ++ (z ++ drop (L * m) (drop 3 ws))) a
        ∙ ap (λ (l : List ℕ). front ++ (l ++ drop (L * m) (drop 3 ws))) y
        ∙ append_assoc (take 3 ws) (flatten rs) (zeros d ++ drop (L * m) (drop 3 ws))

    pub put_next : (r : List ℕ) → put_record bd n r (with_records bd rs ws) ≡ with_records bd (rs ++ (r ∷ [])) ws
    unfolding put_record with_records front rest
    put_next r =
        let L : ℕ = record_words bd in
        let m : ℕ = length (rs ++ (r ∷ [])) in
        let old : List ℕ = drop (L * m) (drop 3 ws) in
        let a : take (record_place bd n) (front ++ rest) ≡ front = take_at front rest (record_place bd n) length_front in
        let b : drop (record_place bd n + L) (front ++ rest) ≡ drop L rest = ap (λ (k : ℕ). drop (k + L) (front ++ rest)) (sym length_front) ∙ drop-append-add front rest L in
        let e : m ≡ suc n = length-append rs (r ∷ []) ∙ add-one (length rs) ∙ ap suc count in
        let q : L * n + L ≡ L * m = omega (arith, ap (λ (k : ℕ). L * k) e, mul-suc L n) in
        let d : drop L rest ≡ old = drop-drop L (L * n) (drop 3 ws) ∙ ap (λ (k : ℕ). drop k (drop 3 ws)) q in
        ap (put_record bd n r) parted
        ∙ ap (λ (l : List ℕ). l ++ (r ++ drop (record_place bd n + L) (front ++ rest))) a
        ∙ ap (λ (l : List ℕ). front ++ (r ++ l)) (b ∙ d)
        ∙ append_assoc (take 3 ws) (flatten rs) (r ++ old)
        ∙ ap (λ (l : List ℕ). take 3 ws ++ l) (sym (append_assoc (flatten rs) r old) ∙ ap (λ (l : List ℕ). l ++ old) (sym (flatten-snoc rs r)))

-- ---- clearing: one record after another

pub slots-more : (L n : ℕ) (a : List ℕ) → slots_of L (suc n) a ≡ slots_of L n a ++ (take L (drop (L * n) a) ∷ [])
unfolding slots_of
slots-more L zero a = rw mul-zero
slots-more L (suc n) a =
    let q : L + L * n ≡ L * suc n = omega (arith, mul-suc L n) in
    ap (λ (l : List (List ℕ)). take L a ∷ l) (slots-more L n (drop L a) ∙ ap (λ (l : List ℕ). slots_of L n (drop L a) ++ (take L l ∷ [])) (drop-drop (L * n) L a ∙ ap (λ (k : ℕ). drop k a) q))

-- the first n records, cleared
cleared_records : Bounds → ℕ → ℕ → List ℕ → List (List ℕ)
cleared_records bd f n ws = map (clear_record f) (slots_of (record_words bd) n (drop 3 ws))

module _ (bd : Bounds) (f n : ℕ) (ws : List ℕ) where
  count-cleared : length (cleared_records bd f n ws) ≡ n
  unfolding cleared_records
  count-cleared = length-map (slots_of (record_words bd) n (drop 3 ws)) (clear_record f) ∙ length-slots (record_words bd) n (drop 3 ws)

  packed-cleared : record_place bd n ≤ length ws → Packed (record_words bd) (cleared_records bd f n ws)
  unfolding cleared_records
  packed-cleared h = packed-slots (record_words bd) f n (drop 3 ws) (simp length-drop (omega (arith, h)))

  cleared-next : cleared_records bd f (suc n) ws ≡ cleared_records bd f n ws ++ (clear_record f (record_at bd n ws) ∷ [])
  unfolding cleared_records
  cleared-next =
      ap (map (clear_record f)) (slots-more (record_words bd) n (drop 3 ws))
      ∙ map-append (clear_record f) (slots_of (record_words bd) n (drop 3 ws)) (take (record_words bd) (drop (record_words bd * n) (drop 3 ws)) ∷ [])
      ∙ ap (λ (l : List ℕ). map (clear_record f) (slots_of (record_words bd) n (drop 3 ws)) ++ (clear_record f (take (record_words bd) l) ∷ [])) (drop-drop (record_words bd * n) 3 ws)

  -- the words x, in which the first n records are cleared: the next one, cleared
  pub cleared_more : (x : List ℕ) → x ≡ cleared_to bd f n ws → InWords bd n ws → put_record bd n (clear_record f (record_at bd n x)) x ≡ cleared_to bd f (n + 1) ws
  unfolding cleared_to cleared_records
  cleared_more x e h =
      let g : record_place bd n ≤ length ws = omega (arith, h) in
      let p = packed-cleared g in
      ap (λ (l : List ℕ). put_record bd n (clear_record f (record_at bd n l)) l) e
      ∙ ap (λ (r : List ℕ). put_record bd n (clear_record f r) (with_records bd (cleared_records bd f n ws) ws)) (next-record bd (cleared_records bd f n ws) n ws count-cleared p g)
      ∙ put_next bd (cleared_records bd f n ws) n ws count-cleared p g (clear_record f (record_at bd n ws))
      ∙ ap (λ (l : List (List ℕ)). with_records bd l ws) (sym cleared-next)
      ∙ ap (λ (k : ℕ). with_records bd (cleared_records bd f k ws) ws) (sym (add-one n))

pub length-cleared : (bd : Bounds) (f n : ℕ) (ws : List ℕ) → record_place bd n ≤ length ws → length (cleared_to bd f n ws) ≡ length ws
unfolding cleared_to cleared_records
length-cleared bd f n ws h = length-with bd (cleared_records bd f n ws) n ws (count-cleared bd f n ws) (packed-cleared bd f n ws h) h

pub cleared-none : (bd : Bounds) (f : ℕ) (ws : List ℕ) → ws ≡ cleared_to bd f 0 ws
unfolding cleared_to with_records slots_of flatten
cleared-none bd f ws = sym (rw mul-zero (take-append-drop 3 ws))

pub cleared-all : (bd : Bounds) (f n : ℕ) (ws : List ℕ) → n ≡ used_in ws → cleared_to bd f n ws ≡ cleared bd f ws
unfolding cleared_to cleared records
cleared-all bd f n ws e = rw e

-- ---- a live record of the owner, or another one

clear-other : (f : ℕ) (r : List ℕ) → (get_or r 0 0 ≡ suc f → ⊥) → clear_record f r ≡ r
unfolding clear_record zero_if
clear-other f [] h = refl
clear-other f (zero ∷ r) h = refl
clear-other f (suc w ∷ r) h = rw (ne_eqb w f (λ (e : w ≡ f). h (ap suc e)))

clear-owned : (f : ℕ) (r : List ℕ) → get_or r 0 0 ≡ suc f → clear_record f r ≡ zeros (length r)
unfolding clear_record zero_if
clear-owned f [] h = absurd (omega arith)
clear-owned f (zero ∷ r) h = absurd (omega arith)
clear-owned f (suc w ∷ r) h = rw (eq-eqb w f (omega arith))

-- record i of the words, cleared
module _ (bd : Bounds) (f i : ℕ) (ws : List ℕ) where
  pub cleared-owned : owner_word bd i ws ≡ suc f → InWords bd i ws → put_record bd i (zeros (record_words bd)) ws ≡ put_record bd i (clear_record f (record_at bd i ws)) ws
  cleared-owned e h = ap (λ (r : List ℕ). put_record bd i r ws) (sym (clear-owned f (record_at bd i ws) (record-owner bd i ws ∙ e) ∙ ap zeros (length-record bd i ws h)))

  pub cleared-other : (owner_word bd i ws ≡ suc f → ⊥) → ws ≡ put_record bd i (clear_record f (record_at bd i ws)) ws
  cleared-other h =
      sym (put_same bd i ws)
      ∙ ap (λ (r : List ℕ). put_record bd i r ws) (sym (clear-other f (record_at bd i ws) (λ (e : get_or (record_at bd i ws) 0 0 ≡ suc f). h (sym (record-owner bd i ws) ∙ e))))

-- ---- the new routes: state after those of a list, and one more

module _ (bd : Bounds) (f : ℕ) (ws : List ℕ) where
  filed_records : List Route → List (List ℕ)
  filed_records rs = cleared_records bd f (used_in ws) ws ++ map (record_of bd f) rs

  count-filed : (rs : List Route) → length (filed_records rs) ≡ used_in ws + length rs
  unfolding filed_records
  count-filed rs = simp length-append (omega (arith, count-cleared bd f (used_in ws) ws, length-map rs (record_of bd f)))

  packed-filed : (rs : List Route) → Whole bd ws → Packed (record_words bd) (filed_records rs)
  unfolding filed_records
  packed-filed rs h = packed-append (record_words bd) (cleared_records bd f (used_in ws) ws) (map (record_of bd f) rs) (packed-cleared bd f (used_in ws) ws h) (packed-routes bd f rs)

  -- all used records are cleared, and no route is written yet
  pub filed-none : cleared bd f ws ≡ filed bd f [] ws
  unfolding filed cleared cleared_records records
  filed-none = ap (λ (l : List (List ℕ)). with_records bd l ws) (sym (append-nil (cleared_records bd f (used_in ws) ws)))

  module _ (rs : List Route) (h : record_place bd (used_in ws + length rs) ≤ length ws) where
    still : Whole bd ws
    still = le_trans (omega (arith, mul-add (record_words bd) (used_in ws) (length rs))) h

    pub length-filed : length (filed bd f rs ws) ≡ length ws
    unfolding filed filed_records cleared_records records
    length-filed = length-with bd (filed_records rs) (used_in ws + length rs) ws (count-filed rs) (packed-filed rs still) h

    -- the words in front are the old ones
    pub filed-front : (k : ℕ) → k < 3 → get_or (filed bd f rs ws) k 0 ≡ get_or ws k 0
    unfolding filed filed_records cleared_records records
    filed-front k l = with-front bd (filed_records rs) (used_in ws + length rs) ws (count-filed rs) (packed-filed rs still) h k l

    -- the words x, in which these routes are written: the next one, written behind
    pub filed-more : (x : List ℕ) (r : Route) → x ≡ filed bd f rs ws → put_record bd (used_in ws + length rs) (record_of bd f r) x ≡ filed bd f (rs ++ (r ∷ [])) ws
    unfolding filed filed_records cleared_records records
    filed-more x r e =
        ap (put_record bd (used_in ws + length rs) (record_of bd f r)) e
        ∙ put_next bd (filed_records rs) (used_in ws + length rs) ws (count-filed rs) (packed-filed rs still) h (record_of bd f r)
        ∙ ap (λ (l : List (List ℕ)). with_records bd l ws)
        (append_assoc (cleared_records bd f (used_in ws) ws) (map (record_of bd f) rs) (record_of bd f r ∷ [])
        ∙ ap (λ (l : List (List ℕ)). cleared_records bd f (used_in ws) ws ++ l) (sym (map-append (record_of bd f) rs (r ∷ []))))

  -- all routes of a list, one after another
  pub filed-all : (rs ss : List Route) → record_place bd (used_in ws + length (rs ++ ss)) ≤ length ws → put_routes bd f (used_in ws + length rs) ss (filed bd f rs ws) ≡ filed bd f (rs ++ ss) ws
  unfolding put_routes
  filed-all rs [] h = ap (λ (l : List Route). filed bd f l ws) (sym (append-nil rs))
  filed-all rs (r ∷ ss) h =
      let q : suc (used_in ws + length rs) ≡ used_in ws + length (rs ++ (r ∷ [])) = rw length-append (omega arith) in
      let a : rs ++ (r ∷ []) ++ ss ≡ rs ++ r ∷ ss = append_snoc rs r ss in
      let m : used_in ws + length rs ≤ used_in ws + length (rs ++ r ∷ ss) = rw length-append (omega arith) in
      let k : record_place bd (used_in ws + length rs) ≤ length ws = le_trans (omega (arith, mul-le-mul_left (record_words bd) m)) h in
      ap (put_routes bd f (suc (used_in ws + length rs)) ss) (filed-more rs k (filed bd f rs ws) r refl)
      ∙ ap (λ (i : ℕ). put_routes bd f i ss (filed bd f (rs ++ (r ∷ [])) ws)) q
      ∙ filed-all (rs ++ (r ∷ [])) ss (subst (λ (l : List Route). record_place bd (used_in ws + length l) ≤ length ws) (sym a) h)
      ∙ ap (λ (l : List Route). filed bd f l ws) a

  -- the words x, in which all kept routes are written: those in front, stored last
  pub filed-end : (g : Graph) (s : State Route) (x : List ℕ) → 3 ≤ length ws → x ≡ filed bd f s.kept ws → headed (used_in ws + length s.kept) (length g.nodes) g.files x ≡ replace_words bd g f s ws
  unfolding filed filed_records with_records cleared_records replace_words records
  filed-end g s x h e =
      let L : ℕ = record_words bd in
      let xs : List (List ℕ) = cleared_records bd f (used_in ws) ws in
      let ys : List (List ℕ) = map (record_of bd f) s.kept in
      let old : List ℕ = drop (L * (used_in ws + length s.kept)) (drop 3 ws) in
      let a : drop 3 (with_records bd (xs ++ ys) ws) ≡ flatten (xs ++ ys) ++ drop (L * length (xs ++ ys)) (drop 3 ws) =
      drop_at (take 3 ws) (flatten (xs ++ ys) ++ drop (L * length (xs ++ ys)) (drop 3 ws)) 3 (length-take-le 3 ws h) in
      let b : drop (L * length (xs ++ ys)) (drop 3 ws) ≡ old = ap (λ (k : ℕ). drop (L * k) (drop 3 ws)) (count-filed s.kept) in
      ap (λ (l : List ℕ). (used_in ws + length s.kept) ∷ length g.nodes ∷ g.files ∷ l)
      (ap (drop 3) e ∙ a ∙ ap (λ (l : List ℕ). flatten (xs ++ ys) ++ l) b ∙ ap (λ (l : List ℕ). l ++ old) (flatten-append xs ys) ∙ append_assoc (flatten xs) (flatten ys) old)

  -- there is room for the kept routes
  pub room_for : (s : State Route) → 3 ≤ length ws → has_room bd s ws ≡ true → record_place bd (used_in ws + length s.kept) ≤ length ws
  unfolding has_room
  room_for s h r = capacity-fits bd ws (used_in ws + length s.kept) h (leb-true (used_in ws + length s.kept) (capacity bd ws) r)

  -- and what is asked for it, n being how many were kept
  pub room-is : (n : ℕ) (s : State Route) → n ≡ length s.kept → leb (used_in ws + n) (capacity bd ws) ≡ has_room bd s ws
  unfolding has_room
  room-is n s e = rw e

  -- A FILE REPLACED: cleared, each kept route written in order from the used records on, then the words in front
  pub replaced-in-steps : (g : Graph) (s : State Route) → record_place bd (used_in ws + length s.kept) ≤ length ws
      → headed (used_in ws + length s.kept) (length g.nodes) g.files (put_routes bd f (used_in ws) s.kept (cleared bd f ws)) ≡ replace_words bd g f s ws
  replaced-in-steps g s h =
      let q : used_in ws ≡ used_in ws + length {A = Route} [] = omega arith in
      filed-end g s (put_routes bd f (used_in ws) s.kept (cleared bd f ws)) (omega (arith, h))
      (ap (put_routes bd f (used_in ws) s.kept) filed-none ∙ ap (λ (i : ℕ). put_routes bd f i s.kept (filed bd f [] ws)) q ∙ filed-all [] s.kept h)

-- ---- the words in front, stored one by one

pub header-stored : (used nodes files : ℕ) (ws : List ℕ) → 3 ≤ length ws → set (set (set ws 0 used) 1 nodes) 2 files ≡ headed used nodes files ws
header-stored used nodes files [] h = absurd (omega arith)
header-stored used nodes files (x ∷ []) h = absurd (omega arith)
header-stored used nodes files (x ∷ y ∷ []) h = absurd (omega arith)
header-stored used nodes files (x ∷ y ∷ z ∷ ws) h = refl

-- ---- a record written in four steps: owner + 1, start, end, and the slot of the edges in the part behind

take-zeros : (m j k : ℕ) → m ≤ j → m ≤ k → take m (zeros j) ≡ take m (zeros k)
take-zeros zero j k h g = refl
take-zeros (suc m) zero k h g = absurd (not-suc-le-zero h)
take-zeros (suc m) (suc j) zero h g = absurd (not-suc-le-zero g)
take-zeros (suc m) (suc j) (suc k) h g = ap (λ (l : List ℕ). 0 ∷ l) (take-zeros m j k (le_of_suc-le-suc h) (le_of_suc-le-suc g))

-- how many zeros stand behind plays no part as long as there are enough
take-padded : (m j k : ℕ) (es : List ℕ) → m ≤ length es + j → m ≤ length es + k → take m (es ++ zeros j) ≡ take m (es ++ zeros k)
take-padded m j k [] h g = take-zeros m j k (omega arith) (omega arith)
take-padded zero j k (e ∷ es) h g = refl
take-padded (suc m) j k (e ∷ es) h g = ap (λ (l : List ℕ). e ∷ l) (take-padded m j k es (omega arith) (omega arith))

record-slot : (K f start end : ℕ) (es : List ℕ) → encode_slot (suc (suc (suc K))) (slot f start end es) ≡ suc f ∷ start ∷ end ∷ encode K es
unfolding encode_slot encode
record-slot zero f start end es = refl
record-slot (suc m) f start end es = ap (λ (l : List ℕ). suc f ∷ start ∷ end ∷ length es ∷ l) (take-padded m (suc (suc (suc (suc m)))) (suc m) es (omega arith) (omega arith))

put_only : (K : ℕ) (s a : List ℕ) → length a ≡ K → put_slot K 0 s a ≡ s
unfolding put_slot
put_only K s a e =
    let z : K * 0 ≡ 0 = mul-zero K in
    let q : K * 0 + K ≡ length a = omega arith in
    let d : drop (K * 0 + K) a ≡ [] = ap (λ (k : ℕ). drop k a) q ∙ drop-length a in
    ap (λ (k : ℕ). take k a ++ s ++ drop (K * 0 + K) a) z ∙ ap (λ (l : List ℕ). s ++ l) d ∙ append-nil s

-- r with its first three words stored, and p in the place of the others
pub laid_out : (K f start end : ℕ) (es r p : List ℕ) → length r ≡ suc (suc (suc K))
    → p ≡ put_slot K 0 (encode K es) (mid_of 3 K (set (set (set r 0 (f + 1)) 1 start) 2 end))
    → put_mid 3 K (set (set (set r 0 (f + 1)) 1 start) 2 end) p ≡ encode_slot (suc (suc (suc K))) (slot f start end es)
laid_out K f start end es [] p e h = absurd (omega arith)
laid_out K f start end es (x ∷ []) p e h = absurd (omega arith)
laid_out K f start end es (x ∷ y ∷ []) p e h = absurd (omega arith)
laid_out K f start end es (x ∷ y ∷ z ∷ r) p e h =
    let l : length r ≡ K = omega arith in
    let a : p ≡ encode K es = h ∙ put_only K (encode K es) (take K r) (length-take-le K r (omega arith)) in
    let d : drop K r ≡ [] = ap (λ (k : ℕ). drop k r) (sym l) ∙ drop-length r in
    ap (λ (t : List ℕ). (f + 1) ∷ start ∷ end ∷ (p ++ t)) d
    ∙ ap (λ (t : List ℕ). (f + 1) ∷ start ∷ end ∷ t) (append-nil p ∙ a)
    ∙ ap (λ (k : ℕ). k ∷ start ∷ end ∷ encode K es) (add-one f)
    ∙ sym (record-slot K f start end es)

-- the same for a record of so many edges
pub laid-out-for : (most f start end : ℕ) (es r p : List ℕ) → length r ≡ most + 4
    → p ≡ put_slot (most + 1) 0 (encode (most + 1) es) (mid_of 3 (most + 4 - 3) (set (set (set r 0 (f + 1)) 1 start) 2 end))
    → put_mid 3 (most + 4 - 3) (set (set (set r 0 (f + 1)) 1 start) 2 end) p ≡ encode_slot (most + 4) (slot f start end es)
laid-out-for most f start end es r p e h =
    let q : most + 4 - 3 ≡ most + 1 = omega arith in
    let n : suc (suc (suc (most + 1))) ≡ most + 4 = omega arith in
    let x : List ℕ = set (set (set r 0 (f + 1)) 1 start) 2 end in
    ap (λ (k : ℕ). put_mid 3 k x p) q
    ∙ laid_out (most + 1) f start end es r p (e ∙ sym n) (h ∙ ap (λ (k : ℕ). put_slot (most + 1) 0 (encode (most + 1) es) (mid_of 3 k x)) q)
    ∙ ap (λ (k : ℕ). encode_slot k (slot f start end es)) n
