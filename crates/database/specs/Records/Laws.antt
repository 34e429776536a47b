-- A record is read word by word, written as a part of the words, and is one of the slots that the definitions speak of. For every bound on edges.
-- Serves document 01, "Partial paths": the words of a slot.
use Rattle.std.specs.Prelude.{ℕ, zero, suc, ◌+◌, ◌-◌, ◌*◌, ◌≤◌, ◌<◌, ◌≡◌, refl, length, get_or, take, drop}
use Rattle.std.proofs.Common.{add-zero, mul-suc, mul-le-mul_left, le_trans, arith, sym, ◌∙◌, length-append, length-drop, take-append-drop, length-take-le, get_or-take, get_or-drop, drop-drop, take-take}
use Rattle.std.proofs.Math.Path.{ap}
use mathlib.Core.List.{List, [], ◌∷◌, ◌++◌}
use borrow.Rule.Slice.PartMut.{put_mid, Post-is}
use Rattle.std.proofs.lemmas.List.{length-map}
use Rattle.std.proofs.Math.ListN.{get_or-map}
use Rattle.semantics.specs.Limits.{Bounds, record_words}
use Rattle.semantics.specs.PartialPaths.{dead, slot}
use Rattle.semantics.specs.Words.Laws.{length-slots, get_or-slots, drop-take}
use Rattle.semantics.specs.Database.{used_in, decode, records, slots_in, record_place}
use Rattle.database.specs.Records.{InWords, Whole, record_at, put_record, owner_word, start_word, end_word, count_word, edge_words}

-- ---- places

-- a used record lies in the words
pub within : (bd : Bounds) (i : ℕ) (ws : List ℕ) → i < used_in ws → Whole bd ws → InWords bd i ws
within bd i ws h g = le_trans (omega (arith, mul-suc (record_words bd) i, mul-le-mul_left (record_words bd) h)) g

pub length-record : (bd : Bounds) (i : ℕ) (ws : List ℕ) → InWords bd i ws → length (record_at bd i ws) ≡ record_words bd
length-record bd i ws h = length-take-le (record_words bd) (drop (record_place bd i) ws) (simp length-drop (omega arith))

pub length-put : (bd : Bounds) (i : ℕ) (r ws : List ℕ) → length r ≡ record_words bd → InWords bd i ws → length (put_record bd i r ws) ≡ length ws
unfolding put_record
length-put bd i r ws e h = simp (length-append, length-drop) (omega (arith, length-take-le (record_place bd i) ws (omega arith)))

-- the part of the words that is record i, as it is lent, and the words when it is back
pub part-record : (bd : Bounds) (i : ℕ) (ws : List ℕ) → take (record_place bd i + record_words bd - record_place bd i) (drop (record_place bd i) ws) ≡ record_at bd i ws
part-record bd i ws = let q : record_place bd i + record_words bd - record_place bd i ≡ record_words bd = omega arith in rw q

pub length_part : (bd : Bounds) (i : ℕ) (ws : List ℕ) → InWords bd i ws → length (take (record_place bd i + record_words bd - record_place bd i) (drop (record_place bd i) ws)) ≡ record_words bd
length_part bd i ws h = ap length (part-record bd i ws) ∙ length-record bd i ws h

pub put-part : (bd : Bounds) (i : ℕ) (r ws : List ℕ) → put_mid (record_place bd i) (record_place bd i + record_words bd - record_place bd i) ws r ≡ put_record bd i r ws
unfolding put_record
put-part bd i r ws = rw (Post-is (record_place bd i) (record_place bd i + record_words bd) ws (omega arith))

-- a record written back as it was alters nothing
pub put_same : (bd : Bounds) (i : ℕ) (ws : List ℕ) → put_record bd i (record_at bd i ws) ws ≡ ws
unfolding put_record
put_same bd i ws =
    ap (λ (t : List ℕ). take (record_place bd i) ws ++ (record_at bd i ws ++ t)) (sym (drop-drop (record_words bd) (record_place bd i) ws))
    ∙ ap (λ (t : List ℕ). take (record_place bd i) ws ++ t) (take-append-drop (record_words bd) (drop (record_place bd i) ws))
    ∙ take-append-drop (record_place bd i) ws

-- ---- what a record decodes to

decode-dead : (r : List ℕ) → get_or r 0 0 ≡ 0 → decode r ≡ dead
unfolding decode
decode-dead [] o = refl
decode-dead (zero ∷ r) o = refl
decode-dead (suc f ∷ r) o = absurd (omega arith)

decode-live : (f : ℕ) {start end count : ℕ} {es : List ℕ} (r : List ℕ) → get_or r 0 0 ≡ suc f → get_or r 1 0 ≡ start → get_or r 2 0 ≡ end → get_or r 3 0 ≡ count → take count (drop 4 r) ≡ es → decode r ≡ slot f start end es
unfolding decode
decode-live f [] o s t n e = absurd (omega arith)
decode-live f (zero ∷ r) o s t n e = absurd (omega arith)
decode-live f (suc w ∷ r) o s t n e = let q : w ≡ f = omega arith in rw (q, s, t, n, e)

-- ---- the words of a record

module _ (bd : Bounds) (i : ℕ) (ws : List ℕ) where
  record-word : (k : ℕ) → k < record_words bd → get_or (record_at bd i ws) k 0 ≡ get_or ws (record_place bd i + k) 0
  record-word k h = get_or-take (record_words bd) (drop (record_place bd i) ws) k 0 h ∙ get_or-drop (record_place bd i) ws k 0

  pub record-owner : get_or (record_at bd i ws) 0 0 ≡ owner_word bd i ws
  record-owner = record-word 0 (omega arith) ∙ ap (λ (k : ℕ). get_or ws k 0) (add-zero (record_place bd i))

  pub record-start : get_or (record_at bd i ws) 1 0 ≡ start_word bd i ws
  record-start = record-word 1 (omega arith)

  pub record-end : get_or (record_at bd i ws) 2 0 ≡ end_word bd i ws
  record-end = record-word 2 (omega arith)

  pub record-count : get_or (record_at bd i ws) 3 0 ≡ count_word bd i ws
  record-count = record-word 3 (omega arith)

  pub record-edges : count_word bd i ws ≤ bd.edges → take (count_word bd i ws) (drop 4 (record_at bd i ws)) ≡ edge_words bd i ws
  record-edges h =
      let p : bd.edges + 4 ≡ 4 + bd.edges = omega arith in
      let x : drop 4 (record_at bd i ws) ≡ take bd.edges (drop (record_place bd i + 4) ws) =
      ap (λ (k : ℕ). drop 4 (take k (drop (record_place bd i) ws))) p ∙ drop-take 4 bd.edges (drop (record_place bd i) ws) ∙ ap (take bd.edges) (drop-drop 4 (record_place bd i) ws) in
      ap (take (count_word bd i ws)) x ∙ take-take (count_word bd i ws) bd.edges (drop (record_place bd i + 4) ws) h

  pub length-edges : InWords bd i ws → count_word bd i ws ≤ bd.edges → length (edge_words bd i ws) ≡ count_word bd i ws
  length-edges h l = length-take-le (count_word bd i ws) (drop (record_place bd i + 4) ws) (simp length-drop (omega arith))

  -- the part of the words that the code takes for its edges, n being the count that it read
  pub part-edges : {n : ℕ} → n ≡ count_word bd i ws → take (record_place bd i + 4 + n - (record_place bd i + 4)) (drop (record_place bd i + 4) ws) ≡ edge_words bd i ws
  part-edges {n} e = let q : record_place bd i + 4 + n - (record_place bd i + 4) ≡ n = omega arith in rw (q, e)

  -- ---- record i is slot i of the definitions

  pub record_is : i < used_in ws → get_or (records bd ws) i [] ≡ record_at bd i ws
  unfolding records
  record_is h = get_or-slots (record_words bd) (used_in ws) i (drop 3 ws) h ∙ ap (take (record_words bd)) (drop-drop (record_words bd * i) 3 ws)

  pub slot_is : i < used_in ws → get_or (slots_in bd ws) i dead ≡ decode (record_at bd i ws)
  unfolding slots_in decode
  slot_is h = get_or-map decode (records bd ws) i [] ∙ ap decode (record_is h)

  -- for stitching: a dead record is a dead slot, a live one the slot of its owner, start, end and edges
  pub slot-dead : i < used_in ws → owner_word bd i ws ≡ 0 → get_or (slots_in bd ws) i dead ≡ dead
  slot-dead h e = slot_is h ∙ decode-dead (record_at bd i ws) (record-owner ∙ e)

  pub slot-live : (f : ℕ) → i < used_in ws → owner_word bd i ws ≡ suc f → count_word bd i ws ≤ bd.edges → get_or (slots_in bd ws) i dead ≡ slot f (start_word bd i ws) (end_word bd i ws) (edge_words bd i ws)
  slot-live f h e l =
      slot_is h
      ∙ decode-live f (record_at bd i ws) (record-owner ∙ e) record-start record-end record-count (record-edges l)

pub count-slots : (bd : Bounds) (ws : List ℕ) → length (slots_in bd ws) ≡ used_in ws
unfolding slots_in records
count-slots bd ws = length-map (records bd ws) decode ∙ length-slots (record_words bd) (used_in ws) (drop 3 ws)
