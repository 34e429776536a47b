-- Slot by slot, the new area becomes what the definition says. For every two bounds and every choice of owners.
-- Serves document 02, order 6.
use Rattle.std.specs.Prelude.{ℕ, zero, suc, ◌+◌, ◌-◌, ◌*◌, ◌≤◌, ◌<◌, ◌≡◌, refl, Bool, true, false, ltb, length, get_or, take, drop, Err, Ok}
use Rattle.std.proofs.Common.{not-suc-le-zero, le_of_suc-le-suc, mul-suc, add-one, arith, ◌∙◌, ap₂, le-leb, leb-true, length-append, take-append-drop, drop_of_length-le, length-take-le, take_all, take-suc, drop_at}
use Rattle.std.proofs.Math.Nat.{mul-zero}
use Rattle.std.proofs.Math.Path.{sym, ap}
use mathlib.Core.List.{List, [], ◌∷◌, ◌++◌, map, flatten, map-append}
use Rattle.std.proofs.lemmas.Bool.{lt-leb}
use Rattle.std.proofs.Math.Dec.{leb}
use Rattle.std.proofs.lemmas.List.{length-replicate, length-map}
use Rattle.std.proofs.Math.Seq.{drop-cons}
use Rattle.semantics.specs.Limits.{Bounds, record_words}
use Rattle.semantics.specs.Lists.{and, pick}
use Rattle.semantics.specs.Lists.Laws.{and-true}
use Rattle.semantics.specs.PartialPaths.{Slot, dead, slot}
use Rattle.semantics.specs.Words.{zeros, whole_slots}
use Rattle.semantics.specs.Told.{told_conversion}
use Rattle.semantics.specs.Database.{used_in, nodes_in, files_in, capacity, encode_slot, slots_in, well_formed, record_place}
use Rattle.semantics.specs.Database.Conversion.{fits_in, all_fit, convert_words, convert_call}
use Rattle.database.specs.Records.{InWords, put_record, owner_word, start_word, end_word, count_word, edge_words}
use Rattle.database.specs.Records.Laws.{slot-dead, length-edges, within, count-slots}
use Rattle.database.specs.Checks.Laws.{formed-whole, formed-live, formed-slot, capacity-fits}
use Rattle.database.specs.Filing.{with_records, headed}
use Rattle.database.specs.Filing.Laws.{Packed, packed_none, put_next, length-with}
use Rattle.conversion.specs.Slots.{has_room_for}
use Rattle.semantics.specs.PublicAnswers.{Conversion}
use Rattle.semantics.specs.declared.answer.ConversionRefusal.{ConversionRefusal}

-- ---- one slot of the old area

module _ (old : Bounds) (known : ℕ → ℕ → Bool) (ws : List ℕ) (formed : well_formed old known ws ≡ true) (i : ℕ) (used : i < used_in ws) where
  pub there : InWords old i ws
  there = within old i ws used (formed-whole old known ws formed)

  pub slot-gone : owner_word old i ws ≤ 0 → get_or (slots_in old ws) i dead ≡ dead
  slot-gone h = slot-dead old i ws used (omega arith)

  module _ (f : ℕ) (owned : owner_word old i ws ≡ suc f) where
    pub slot-there : get_or (slots_in old ws) i dead ≡ slot f (start_word old i ws) (end_word old i ws) (edge_words old i ws)
    slot-there = formed-slot old known ws formed i f used owned

    pub slot-few : count_word old i ws ≤ old.edges
    slot-few = (formed-live old known ws formed i f used owned).few

    count-there : length (edge_words old i ws) ≡ count_word old i ws
    count-there = length-edges old i ws there slot-few

    -- it fits as far as its count does
    pub fits-there : (new : Bounds) → leb (count_word old i ws) new.edges ≡ fits_in new (get_or (slots_in old ws) i dead)
    unfolding fits_in
    fits-there new = sym (ap (fits_in new) slot-there ∙ ap (λ (n : ℕ). leb n new.edges) count-there)

    pub count_fits : (new : Bounds) → fits_in new (get_or (slots_in old ws) i dead) ≡ true → length (edge_words old i ws) ≤ new.edges
    count_fits new h = omega (arith, count-there, leb-true (count_word old i ws) new.edges (fits-there new ∙ h))

    -- start, end and edges are those that were read
    pub put-there : (new : Bounds) (start end : ℕ) (es x y : List ℕ) → start ≡ start_word old i ws → end ≡ end_word old i ws → es ≡ edge_words old i ws
        → y ≡ put_record new i (encode_slot (record_words new) (slot f start end es)) x → y ≡ put_record new i (encode_slot (record_words new) (get_or (slots_in old ws) i dead)) x
    put-there new start end es x y s t l e =
        e
        ∙ ap (λ (k : ℕ). put_record new i (encode_slot (record_words new) (slot f k end es)) x) s
        ∙ ap (λ (k : ℕ). put_record new i (encode_slot (record_words new) (slot f (start_word old i ws) k es)) x) t
        ∙ ap (λ (k : List ℕ). put_record new i (encode_slot (record_words new) (slot f (start_word old i ws) (end_word old i ws) k)) x) l
        ∙ ap (λ (k : Slot). put_record new i (encode_slot (record_words new) k) x) (sym slot-there)

  pub fits-gone : (new : Bounds) → owner_word old i ws ≤ 0 → true ≡ fits_in new (get_or (slots_in old ws) i dead)
  unfolding fits_in
  fits-gone new h = sym (ap (fits_in new) (slot-gone h))

  pub put-gone : (new : Bounds) (x y : List ℕ) → owner_word old i ws ≤ 0 → y ≡ put_record new i (zeros (record_words new)) x → y ≡ put_record new i (encode_slot (record_words new) (get_or (slots_in old ws) i dead)) x
  unfolding encode_slot
  put-gone new x y h e = e ∙ ap (λ (s : Slot). put_record new i (encode_slot (record_words new) s) x) (sym (slot-gone h))

-- ---- all slots: what is left to test

module _ (bd : Bounds) (ss : List Slot) (i : ℕ) where
  fit-first : i < length ss → all_fit bd (drop i ss) ≡ and (fits_in bd (get_or ss i dead)) (all_fit bd (drop (i + 1) ss))
  unfolding all_fit
  fit-first h = rw (add-one, drop-cons ss i dead h)

  pub fit_passed : i < length ss → fits_in bd (get_or ss i dead) ≡ true → all_fit bd (drop (i + 1) ss) ≡ all_fit bd (drop i ss)
  fit_passed h e = sym (fit-first h ∙ ap (λ (b : Bool). and b (all_fit bd (drop (i + 1) ss))) e)

  pub fit-failed : i < length ss → fits_in bd (get_or ss i dead) ≡ false → all_fit bd (drop i ss) ≡ false
  fit-failed h e = fit-first h ∙ ap (λ (b : Bool). and b (all_fit bd (drop (i + 1) ss))) e

  pub fit-done : length ss ≤ i → all_fit bd (drop i ss) ≡ true
  unfolding all_fit
  fit-done h = rw (drop_of_length-le ss {i = i} h)

pub fit_at : (bd : Bounds) (ss : List Slot) (i : ℕ) → all_fit bd ss ≡ true → i < length ss → fits_in bd (get_or ss i dead) ≡ true
unfolding all_fit
fit_at bd [] i h l = absurd (not-suc-le-zero l)
fit_at bd (s ∷ ss) zero h l = (and-true (fits_in bd s) (all_fit bd ss) h).0
fit_at bd (s ∷ ss) (suc i) h l = fit_at bd ss i (and-true (fits_in bd s) (all_fit bd ss) h).1 (le_of_suc-le-suc l)

-- ---- the loop: the first i slots are written

-- the records of the first i of these slots
abbrev pub written : Bounds → ℕ → List Slot → List (List ℕ)
written bd i ss = map (encode_slot (record_words bd)) (take i ss)

length-encoded : (L : ℕ) (s : Slot) → length (encode_slot L s) ≡ L
unfolding encode_slot
length-encoded L dead = length-replicate L 0
length-encoded L (slot f start end es) = length-take-le L (suc f ∷ start ∷ end ∷ length es ∷ (es ++ zeros L)) (simp (length-append, length-replicate) (omega arith))

packed-encoded : (L : ℕ) (ss : List Slot) → Packed L (map (encode_slot L) ss)
unfolding flatten
packed-encoded L [] = packed_none L
packed-encoded L (s ∷ ss) = simp length-append (omega (arith, length-encoded L s, packed-encoded L ss, mul-suc L (length (map (encode_slot L) ss))))

module _ (bd : Bounds) (ss : List Slot) (ws : List ℕ) where
  pub written_none : ws ≡ with_records bd (written bd 0 ss) ws
  unfolding with_records flatten
  written_none = sym (rw mul-zero (take-append-drop 3 ws))

  count-written : (i : ℕ) → i ≤ length ss → length (written bd i ss) ≡ i
  count-written i h = length-map (take i ss) (encode_slot (record_words bd)) ∙ length-take-le i ss h

  written_next : (i : ℕ) → i < length ss → written bd (i + 1) ss ≡ written bd i ss ++ (encode_slot (record_words bd) (get_or ss i dead) ∷ [])
  written_next i h =
      ap (λ (n : ℕ). written bd n ss) (add-one i)
      ∙ ap (map (encode_slot (record_words bd))) (take-suc ss i dead h)
      ∙ map-append (encode_slot (record_words bd)) (take i ss) (get_or ss i dead ∷ [])

  pub written-more : (i : ℕ) (x : List ℕ) → i < length ss → record_place bd i ≤ length ws → x ≡ with_records bd (written bd i ss) ws
      → put_record bd i (encode_slot (record_words bd) (get_or ss i dead)) x ≡ with_records bd (written bd (i + 1) ss) ws
  written-more i x h room e =
      ap (put_record bd i (encode_slot (record_words bd) (get_or ss i dead))) e
      ∙ put_next bd (written bd i ss) i ws (count-written i (omega arith)) (packed-encoded (record_words bd) (take i ss)) room (encode_slot (record_words bd) (get_or ss i dead))
      ∙ ap (λ (r : List (List ℕ)). with_records bd r ws) (sym (written_next i h))

  pub written_all : (i : ℕ) → i ≡ length ss → with_records bd (written bd i ss) ws ≡ with_records bd (map (encode_slot (record_words bd)) ss) ws
  written_all i e = ap (λ (l : List Slot). with_records bd (map (encode_slot (record_words bd)) l) ws) (take_all i ss (omega arith))

  pub written-length : record_place bd (length ss) ≤ length ws → length (with_records bd (map (encode_slot (record_words bd)) ss) ws) ≡ length ws
  written-length room = length-with bd (map (encode_slot (record_words bd)) ss) (length ss) ws (length-map ss (encode_slot (record_words bd))) (packed-encoded (record_words bd) ss) room

-- ---- the whole area

drop-zeros : (k m : ℕ) → drop k (zeros m) ≡ zeros (m - k)
drop-zeros zero m = let q : m - 0 ≡ m = omega arith in rw q
drop-zeros (suc k) zero = let q : zero - suc k ≡ zero = omega arith in rw q
drop-zeros (suc k) (suc m) = let q : suc m - suc k ≡ m - k = omega arith in rw q (drop-zeros k m)

-- x is what the loop leaves behind in zeros
pub converted : (old new : Bounds) (ws z x : List ℕ) (len : ℕ) → z ≡ zeros len → 3 ≤ len → x ≡ with_records new (map (encode_slot (record_words new)) (slots_in old ws)) z
    → headed (used_in ws) (nodes_in ws) (files_in ws) x ≡ convert_words old new ws len
unfolding convert_words with_records
converted old new ws z x len e h w =
    let L : ℕ = record_words new in
    let rs : List (List ℕ) = map (encode_slot L) (slots_in old ws) in
    let n : length rs ≡ used_in ws = length-map (slots_in old ws) (encode_slot L) ∙ count-slots old ws in
    let lz : length z ≡ len = ap length e ∙ length-replicate len 0 in
    let t : drop (L * length rs) (drop 3 z) ≡ zeros (len - 3 - L * used_in ws) =
    ap (λ (l : List ℕ). drop (L * length rs) (drop 3 l)) e ∙ ap (drop (L * length rs)) (drop-zeros 3 len) ∙ drop-zeros (L * length rs) (len - 3) ∙ ap (λ (k : ℕ). zeros (len - 3 - L * k)) n in
    let d : drop 3 x ≡ flatten rs ++ zeros (len - 3 - L * used_in ws) =
    ap (drop 3) w ∙ drop_at (take 3 z) (flatten rs ++ drop (L * length rs) (drop 3 z)) 3 (length-take-le 3 z (omega (arith, lz))) ∙ ap (λ (l : List ℕ). flatten rs ++ l) t in
    ap (λ (l : List ℕ). used_in ws ∷ nodes_in ws ∷ files_in ws ∷ l) d

-- ---- the room

-- the capacity of an area depends on its length alone
capacity-zeros : (bd : Bounds) (ws : List ℕ) → capacity bd ws ≡ capacity bd (zeros (length ws))
unfolding capacity
capacity-zeros bd ws =
    ap (λ (n : ℕ). pick (ltb (whole_slots (record_words bd) (n - 3)) 4096) (whole_slots (record_words bd) (n - 3)) 4096) (sym (length-replicate (length ws) 0))

module _ (bd : Bounds) (n : ℕ) (ws : List ℕ) where
  pub room-short : length ws < 3 → false ≡ has_room_for bd n (length ws)
  room-short h = sym (ap (λ (b : Bool). and b (leb n (capacity bd (zeros (length ws))))) (lt-leb 3 (length ws) h))

  pub room-slots : (used most : ℕ) → 3 ≤ length ws → used ≡ n → most ≡ capacity bd ws → leb used most ≡ has_room_for bd n (length ws)
  room-slots used most h e k =
      ap₂ (λ (u m : ℕ). leb u m) e (k ∙ capacity-zeros bd ws) ∙ sym (ap (λ (b : Bool). and b (leb n (capacity bd (zeros (length ws))))) (le-leb 3 (length ws) h))

  pub room-there : (len : ℕ) → length ws ≡ len → has_room_for bd n len ≡ true → (3 ≤ len) × (record_place bd n ≤ length ws)
  room-there len q h =
      let a = and-true (leb 3 len) (leb n (capacity bd (zeros len))) h in
      let t : 3 ≤ len = leb-true 3 len a.0 in
      let m : n ≤ capacity bd (zeros len) = leb-true n (capacity bd (zeros len)) a.1 in
      let e : capacity bd (zeros len) ≡ capacity bd ws = ap (λ (k : ℕ). capacity bd (zeros k)) (sym q) ∙ sym (capacity-zeros bd ws) in
      (t, capacity-fits bd ws n (omega (arith, t, q)) (omega (arith, m, e)))

-- ---- the outcomes

abbrev pub Outcome : Bounds → Bounds → (ℕ → ℕ → Bool) → List ℕ → ℕ → Conversion → List ℕ → Type 0
Outcome old new known ws len r x =
    (told_conversion r ≡ told_conversion (convert_call old new known ws len).answer) × (x ≡ (convert_call old new known ws len).written)

module _ (old new : Bounds) (known : ℕ → ℕ → Bool) (ws : List ℕ) (len : ℕ) (x : List ℕ) where
  pub outcome-malformed : well_formed old known ws ≡ false → x ≡ zeros len → Outcome old new known ws len (Err ConversionRefusal.Malformed) x
  unfolding convert_call
  outcome-malformed f z = rw f (refl, z)

  pub outcome-full : well_formed old known ws ≡ true → has_room_for new (used_in ws) len ≡ false → x ≡ zeros len → Outcome old new known ws len (Err ConversionRefusal.Full) x
  unfolding convert_call
  outcome-full f h z = rw (f, h) (refl, z)

  pub outcome-long : well_formed old known ws ≡ true → has_room_for new (used_in ws) len ≡ true → all_fit new (slots_in old ws) ≡ false → x ≡ zeros len → Outcome old new known ws len (Err ConversionRefusal.TooLong) x
  unfolding convert_call
  outcome-long f h a z = rw (f, h, a) (refl, z)

  pub outcome-done : well_formed old known ws ≡ true → has_room_for new (used_in ws) len ≡ true → all_fit new (slots_in old ws) ≡ true → x ≡ convert_words old new ws len → Outcome old new known ws len (Ok tt) x
  unfolding convert_call
  outcome-done f h a z = rw (f, h, a) (refl, z)
