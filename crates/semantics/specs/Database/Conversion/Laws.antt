-- What a conversion keeps: the slots, demand 3's premise, and that the words are a database.
-- Document 02, order 6.
use Prim.Native.Nat.{ℕ, zero, suc, ◌+◌, ◌-◌, ◌*◌, ◌≤◌}
use Rattle.std.proofs.Common.{arith, add-zero, ◌∙◌, subst, ⊎_elim, true≢false, le→leb}
use Rattle.std.specs.Prelude.{◌≡◌, Bool, not, ltb, take, drop, Err, Ok}
use Rattle.semantics.specs.PublicAnswers.{Conversion}
use Rattle.std.proofs.Math.Path.{refl, sym, ap}
use Rattle.std.proofs.Math.Bool.{true, false}
use mathlib.Core.List.Memᴰ
use mathlib.Core.List.{List, [], ◌∷◌, ◌++◌, map, flatten, append-nil, Memᴰ}
use Rattle.std.proofs.Math.Dec.{leb, leb→le}
use Rattle.std.proofs.Math.ListN.{length, get_or, length-append, length-replicate, length-drop}
use Rattle.std.proofs.Math.Seq.{length-take-le}
use Rattle.semantics.specs.Lists.{and, pick}
use Rattle.semantics.specs.Lists.Laws.{and-true, eq→T, T→eq}
use Rattle.semantics.specs.Limits.{Bounds, record_words}
use Rattle.semantics.specs.Graph.{View}
use Rattle.semantics.specs.PartialPaths.{Slot, dead, slot}
use Rattle.semantics.specs.Words.{zeros, slots_of}
use Rattle.semantics.specs.Words.Laws.{length-slots}
use Rattle.semantics.specs.Database.{used_in, nodes_in, files_in, capacity, decode, encode_slot, records, slots_in, sound, every, well_formed}
use Rattle.semantics.specs.Database.Laws.{AllLong, slots-flatten, slots-long, slots-none, decode-encode, decode-zeros, length-map, length-packed, same-capacity, whole-records}
use Rattle.semantics.specs.Database.Conversion.{Converted, turned_back, fits_in, all_fit, convert_words, convert_call}
use Rattle.semantics.specs.Demand.{Owners, Holds}
use Rattle.semantics.specs.declared.answer.ConversionRefusal.{ConversionRefusal}

encode-all-long : (L : ℕ) (ss : List Slot) → AllLong L (map (encode_slot L) ss)
unfolding encode_slot
encode-all-long L [] = tt
encode-all-long L (dead ∷ ss) = (length-replicate L 0, encode-all-long L ss)
encode-all-long L (slot f s e es ∷ ss) = (length-take-le L (suc f ∷ s ∷ e ∷ length es ∷ (es ++ zeros L)) (simp (length-append, length-replicate) (omega arith)), encode-all-long L ss)

decode-all : (bd : Bounds) (ss : List Slot) → all_fit bd ss ≡ true → map decode (map (encode_slot (record_words bd)) ss) ≡ ss
unfolding all_fit fits_in
decode-all bd [] h = refl
decode-all bd (dead ∷ ss) h = ap (λ (x : Slot). x ∷ map decode (map (encode_slot (record_words bd)) ss)) (gone (record_words bd)) ∙ ap (λ (l : List Slot). dead ∷ l) (decode-all bd ss h)
  where
    gone : (L : ℕ) → decode (encode_slot L dead) ≡ dead
    gone L = unfold encode_slot in decode-zeros L
decode-all bd (slot f s e es ∷ ss) h =
    let k = and-true (leb (length es) bd.edges) (all_fit bd ss) h in
    ap (λ (x : Slot). x ∷ map decode (map (encode_slot (record_words bd)) ss)) (decode-encode bd.edges f s e es (leb→le (length es) bd.edges (eq→T _ k.0))) ∙ ap (λ (l : List Slot). slot f s e es ∷ l) (decode-all bd ss k.1)

-- EVERY LIVE PATH AND EVERY NUMBER SURVIVES: slot by slot, the new area holds what the old one held
pub convert-slots : (old new : Bounds) (ws : List ℕ) (len : ℕ) → all_fit new (slots_in old ws) ≡ true → slots_in new (convert_words old new ws len) ≡ slots_in old ws
unfolding slots_in records convert_words
convert-slots old new ws len h =
    let L = record_words new in
    let ss : List Slot = slots_in old ws in
    let xs : List (List ℕ) = map (encode_slot L) ss in
    let rest : List ℕ = zeros (len - 3 - L * used_in ws) in
    let n : length xs ≡ used_in ws = length-map (encode_slot L) ss ∙ length-map decode (slots_of (record_words old) (used_in ws) (drop 3 ws)) ∙ length-slots (record_words old) (used_in ws) (drop 3 ws) in
    ap (λ i. map decode (slots_of L i (flatten xs ++ rest))) (sym n ∙ sym (add-zero (length xs)))
    ∙ ap (map decode) (slots-flatten L 0 xs rest (encode-all-long L ss) ∙ ap (λ (w : List (List ℕ)). xs ++ w) (slots-none L rest) ∙ append-nil xs)
    ∙ decode-all new ss h

-- the premise of demand 3 survives: where every live path fits, there is no longer one
all-fit-at : (bd : Bounds) (ss : List Slot) → all_fit bd ss ≡ true → (f s e : ℕ) (es : List ℕ) → Memᴰ (slot f s e es) ss → length es ≤ bd.edges
unfolding all_fit fits_in
all-fit-at bd ss h f s e es m = on ss h m
  where
    fits : (x : Slot) → fits_in bd x ≡ true → slot f s e es ≡ x → length es ≤ bd.edges
    fits x k q = leb→le (length es) bd.edges (eq→T _ (unfold fits_in in (ap (fits_in bd) q ∙ k)))

    on : (l : List Slot) → all_fit bd l ≡ true → Memᴰ (slot f s e es) l → length es ≤ bd.edges
    on [] k n = absurd (Memᴰ.not-nil n)
    on (x ∷ l) k n = let j = and-true (fits_in bd x) (all_fit bd l) k in ⊎_elim (λ (q : slot f s e es ≡ x). fits x j.0 q) (λ i. on l j.1 i) (Memᴰ.cases_cons n)

pub convert-holds : (O : Owners) (old new : Bounds) (g : View) (db : List Slot) → new.edges ≤ old.edges → all_fit new db ≡ true → Holds O old g db → Holds O new g db
convert-holds O old new g db less fit h = record {
  every = λ f r k p. h.every f r k (record { begins = p.begins; walk = p.walk; some-edge = p.some-edge; fits = omega (arith, p.fits, less); distinct = p.distinct; short = p.short; endpoint = p.endpoint });
  only = λ f s t es m. let o = h.only f s t es m in let p = o.1 in (o.0, record { begins = p.begins; walk = p.walk; some-edge = p.some-edge; fits = all-fit-at new db fit f s t es m; distinct = p.distinct; short = p.short; endpoint = p.endpoint });
}

-- NO 35 AFTER IT
sound-zeros : (bd : Bounds) (known : ℕ → ℕ → Bool) (nodes files n : ℕ) → sound bd known nodes files (zeros n) ≡ true
unfolding sound
sound-zeros bd known nodes files zero = refl
sound-zeros bd known nodes files (suc n) = refl

sound-dead : (bd : Bounds) (known : ℕ → ℕ → Bool) (nodes files L : ℕ) → sound bd known nodes files (encode_slot L dead) ≡ true
unfolding encode_slot
sound-dead bd known nodes files L = sound-zeros bd known nodes files L

sound-slot : (bd : Bounds) (known : ℕ → ℕ → Bool) (nodes files f s e : ℕ) (es : List ℕ)
    → sound bd known nodes files (encode_slot (record_words bd) (slot f s e es)) ≡ and (known files f) (and (ltb s nodes) (and (leb 1 (length es)) (leb (length es) bd.edges)))
unfolding sound encode_slot
sound-slot bd known nodes files f s e es =
    let q : bd.edges + 4 ≡ suc (suc (suc (suc bd.edges))) = omega arith in
    ap (λ k. sound bd known nodes files (take k (suc f ∷ s ∷ e ∷ length es ∷ (es ++ zeros (bd.edges + 4))))) q

module _ (old new : Bounds) (known : ℕ → ℕ → Bool) (nodes files : ℕ) where
  sound-encoded : (r : List ℕ) → length r ≡ record_words old → sound old known nodes files r ≡ true → fits_in new (decode r) ≡ true → sound new known nodes files (encode_slot (record_words new) (decode r)) ≡ true
  unfolding decode
  sound-encoded [] l h t = sound-dead new known nodes files (record_words new)
  sound-encoded (zero ∷ w) l h t = sound-dead new known nodes files (record_words new)
  sound-encoded (suc f ∷ w) l h t = live (unfold sound in h) (unfold fits_in in t)
    where
      live : and (known files f) (and (ltb (get_or w 0 0) nodes) (and (leb 1 (get_or w 2 0)) (leb (get_or w 2 0) old.edges))) ≡ true → leb (length (take (get_or w 2 0) (drop 3 w))) new.edges ≡ true
          → sound new known nodes files (encode_slot (record_words new) (slot f (get_or w 0 0) (get_or w 1 0) (take (get_or w 2 0) (drop 3 w)))) ≡ true
      live k j =
          let a = and-true (known files f) _ k in
          let b = and-true (ltb (get_or w 0 0) nodes) _ a.1 in
          let d = and-true (leb 1 (get_or w 2 0)) (leb (get_or w 2 0) old.edges) b.1 in
          let c : length (take (get_or w 2 0) (drop 3 w)) ≡ get_or w 2 0 = length-take-le (get_or w 2 0) (drop 3 w) (omega (arith, length-drop 3 w, l, leb→le (get_or w 2 0) old.edges (eq→T _ d.1))) in
          let o : leb 1 (length (take (get_or w 2 0) (drop 3 w))) ≡ true = ap (leb 1) c ∙ d.0 in
          sound-slot new known nodes files f (get_or w 0 0) (get_or w 1 0) (take (get_or w 2 0) (drop 3 w)) ∙ rw (a.0, b.0, o, j)

  every-encoded : (xs : List (List ℕ)) → AllLong (record_words old) xs → every (sound old known nodes files) xs ≡ true → all_fit new (map decode xs) ≡ true
      → every (sound new known nodes files) (map (encode_slot (record_words new)) (map decode xs)) ≡ true
  unfolding every all_fit
  every-encoded [] l h t = refl
  every-encoded (x ∷ xs) l h t =
      let a = and-true (sound old known nodes files x) (every (sound old known nodes files) xs) h in
      let b = and-true (fits_in new (decode x)) (all_fit new (map decode xs)) t in
      rw (sound-encoded x l.0 a.0 b.0, every-encoded xs l.1 a.1 b.1)

convert-records : (old new : Bounds) (ws : List ℕ) (len : ℕ) → records new (convert_words old new ws len) ≡ map (encode_slot (record_words new)) (slots_in old ws)
unfolding slots_in records convert_words
convert-records old new ws len =
    let L = record_words new in
    let ss : List Slot = slots_in old ws in
    let xs : List (List ℕ) = map (encode_slot L) ss in
    let rest : List ℕ = zeros (len - 3 - L * used_in ws) in
    let n : length xs ≡ used_in ws = length-map (encode_slot L) ss ∙ length-map decode (slots_of (record_words old) (used_in ws) (drop 3 ws)) ∙ length-slots (record_words old) (used_in ws) (drop 3 ws) in
    ap (λ i. slots_of L i (flatten xs ++ rest)) (sym n ∙ sym (add-zero (length xs)))
    ∙ slots-flatten L 0 xs rest (encode-all-long L ss) ∙ ap (λ (w : List (List ℕ)). xs ++ w) (slots-none L rest) ∙ append-nil xs

module _ (old new : Bounds) (known : ℕ → ℕ → Bool) (ws : List ℕ) (len : ℕ) (good : well_formed old known ws ≡ true) (three : 3 ≤ len) (room : used_in ws ≤ capacity new (zeros len)) (fit : all_fit new (slots_in old ws) ≡ true) where
  parts : (used_in ws ≤ capacity old ws) × (every (sound old known (nodes_in ws) (files_in ws)) (records old ws) ≡ true)
  unfolding well_formed
  parts =
      let a = and-true (leb 3 (length ws)) _ good in
      let b = and-true (leb (used_in ws) (capacity old ws)) _ a.1 in
      (leb→le (used_in ws) (capacity old ws) (eq→T _ b.0), b.1)

  room-words : record_words new * used_in ws ≤ len - 3
  room-words =
      let x : List ℕ = used_in ws ∷ zeros (len - 1) in
      let l : length x ≡ len = omega (arith, length-replicate {A = ℕ} (len - 1) 0, three) in
      let z : length (zeros len) ≡ len = length-replicate len 0 in
      omega (arith, whole-records new x (subst (λ n. used_in ws ≤ n) (same-capacity new (zeros len) x (z ∙ sym l)) room), length-drop 3 x, l)

  pub convert-length : length (convert_words old new ws len) ≡ len
  unfolding convert_words slots_in records
  convert-length =
      let L = record_words new in
      let ss : List Slot = slots_in old ws in
      let xs : List (List ℕ) = map (encode_slot L) ss in
      let n : length xs ≡ used_in ws = length-map (encode_slot L) ss ∙ length-map decode (slots_of (record_words old) (used_in ws) (drop 3 ws)) ∙ length-slots (record_words old) (used_in ws) (drop 3 ws) in
      let a : length (flatten xs) ≡ L * used_in ws = length-packed L xs (encode-all-long L ss) ∙ ap (λ k. L * k) n in
      let r : List ℕ = zeros (len - 3 - L * used_in ws) in
      omega (arith, length-append (flatten xs) r, a, length-replicate {A = ℕ} (len - 3 - L * used_in ws) 0, room-words, three)

  pub convert-good : well_formed new known (convert_words old new ws len) ≡ true
  unfolding well_formed
  convert-good =
      let w : List ℕ = convert_words old new ws len in
      let u : used_in w ≡ used_in ws = unfold convert_words in refl in
      let n : nodes_in w ≡ nodes_in ws = unfold convert_words in refl in
      let f : files_in w ≡ files_in ws = unfold convert_words in refl in
      let c : capacity new w ≡ capacity new (zeros len) = same-capacity new w (zeros len) (convert-length ∙ sym (length-replicate len 0)) in
      let a : leb 3 (length w) ≡ true = T→eq _ (le→leb 3 (length w) (omega (arith, convert-length, three))) in
      let b : leb (used_in w) (capacity new w) ≡ true = T→eq _ (le→leb (used_in w) (capacity new w) (omega (arith, u, c, room))) in
      let e : every (sound new known (nodes_in w) (files_in w)) (records new w) ≡ true =
      ap (λ k. every (sound new known k (files_in w)) (records new w)) n
      ∙ ap (λ k. every (sound new known (nodes_in ws) k) (records new w)) f
      ∙ ap (every (sound new known (nodes_in ws) (files_in ws))) (convert-records old new ws len)
      ∙ all in
      rw (a, b, e)
    where
      all : every (sound new known (nodes_in ws) (files_in ws)) (map (encode_slot (record_words new)) (slots_in old ws)) ≡ true
      all = unfold slots_in in every-encoded old new known (nodes_in ws) (files_in ws) (records old ws) long parts.1 (unfold slots_in in fit)
        where
          long : AllLong (record_words old) (records old ws)
          long = unfold records in slots-long (record_words old) (used_in ws) (drop 3 ws) (whole-records old ws parts.0)

-- ON THE CALL

-- what each test of it must say for an answer of 0
pub record Passes (old new : Bounds) (known : ℕ → ℕ → Bool) (ws : List ℕ) (len : ℕ) : Type 0 where
  pub good : well_formed old known ws ≡ true
  pub lent : and (leb 3 len) (leb (used_in ws) (capacity new (zeros len))) ≡ true
  pub fit : all_fit new (slots_in old ws) ≡ true

malformed-undone : ◌≡◌ {A = Conversion} (Err ConversionRefusal.Malformed) (Ok tt) → ⊥
malformed-undone e = let z : ◌≡◌ {A = Bool} true false = cc in true≢false z

full-undone : ◌≡◌ {A = Conversion} (Err ConversionRefusal.Full) (Ok tt) → ⊥
full-undone e = let z : ◌≡◌ {A = Bool} true false = cc in true≢false z

long-undone : ◌≡◌ {A = Conversion} (Err ConversionRefusal.TooLong) (Ok tt) → ⊥
long-undone e = let z : ◌≡◌ {A = Bool} true false = cc in true≢false z

module _ (old new : Bounds) (known : ℕ → ℕ → Bool) (ws : List ℕ) (len : ℕ) where
  -- the call, by what its tests say
  abbrev outcome : Bool → Bool → Bool → Converted
  outcome good lent fit =
      pick (not good) (turned_back (Err ConversionRefusal.Malformed) len) (pick (not lent) (turned_back (Err ConversionRefusal.Full) len) (pick (not fit) (turned_back (Err ConversionRefusal.TooLong) len) (record { answer = Ok tt; written = convert_words old new ws len })))

  -- IT ANSWERS 0 EXACTLY WHERE ALL THREE PASS
  pub done-passes : (convert_call old new known ws len).answer ≡ Ok tt → Passes old new known ws len
  unfolding convert_call
  done-passes e = on (well_formed old known ws) (and (leb 3 len) (leb (used_in ws) (capacity new (zeros len)))) (all_fit new (slots_in old ws)) refl refl refl e
    where
      on : (a b c : Bool) → well_formed old known ws ≡ a → and (leb 3 len) (leb (used_in ws) (capacity new (zeros len))) ≡ b → all_fit new (slots_in old ws) ≡ c → (outcome a b c).answer ≡ Ok tt → Passes old new known ws len
      on false b c p q r k = absurd (malformed-undone k)
      on true false c p q r k = absurd (full-undone k)
      on true true false p q r k = absurd (long-undone k)
      on true true true p q r k = record { good = p; lent = q; fit = r }

  pub passes-done : Passes old new known ws len → convert_call old new known ws len ≡ record { answer = Ok tt; written = convert_words old new ws len }
  unfolding convert_call
  passes-done p = rw (p.good, p.lent, p.fit)

  -- 35 BEFORE 33 BEFORE 39, and zeros with each
  pub converts-malformed : well_formed old known ws ≡ false → convert_call old new known ws len ≡ turned_back (Err ConversionRefusal.Malformed) len
  unfolding convert_call
  converts-malformed p = rw p

  pub converts-full : well_formed old known ws ≡ true → and (leb 3 len) (leb (used_in ws) (capacity new (zeros len))) ≡ false → convert_call old new known ws len ≡ turned_back (Err ConversionRefusal.Full) len
  unfolding convert_call
  converts-full p q = rw (p, q)

  pub converts-long : well_formed old known ws ≡ true → and (leb 3 len) (leb (used_in ws) (capacity new (zeros len))) ≡ true → all_fit new (slots_in old ws) ≡ false → convert_call old new known ws len ≡ turned_back (Err ConversionRefusal.TooLong) len
  unfolding convert_call
  converts-long p q r = rw (p, q, r)

  -- answered 0, the written words have the slots of the old ones under their numbers, pass 35 and are as many as were lent
  pub record Survived : Type 0 where
    pub slots : slots_in new (convert_call old new known ws len).written ≡ slots_in old ws
    pub good : well_formed new known (convert_call old new known ws len).written ≡ true
    pub long : length (convert_call old new known ws len).written ≡ len

  pub survived : (convert_call old new known ws len).answer ≡ Ok tt → Survived
  survived e =
      let p = done-passes e in
      let w : (convert_call old new known ws len).written ≡ convert_words old new ws len = ap (λ (o : Converted). o.written) (passes-done p) in
      let b = and-true (leb 3 len) (leb (used_in ws) (capacity new (zeros len))) p.lent in
      let three : 3 ≤ len = leb→le 3 len (eq→T _ b.0) in
      let room : used_in ws ≤ capacity new (zeros len) = leb→le (used_in ws) (capacity new (zeros len)) (eq→T _ b.1) in
      record {
        slots = ap (slots_in new) w ∙ convert-slots old new ws len p.fit;
        good = ap (well_formed new known) w ∙ convert-good old new known ws len p.good three room p.fit;
        long = ap length w ∙ convert-length old new known ws len p.good three room p.fit;
      }

  -- A DATABASE THAT MET DEMAND 3'S PREMISE UNDER THE OLD BOUND MEETS IT UNDER THE NEW ONE, for the files and for the alias set alike
  pub converted-holds : (O : Owners) (g : View) → new.edges ≤ old.edges → (convert_call old new known ws len).answer ≡ Ok tt → Holds O old g (slots_in old ws) → Holds O new g (slots_in new (convert_call old new known ws len).written)
  converted-holds O g less e h = subst (λ (db : List Slot). Holds O new g db) (sym (survived e).slots) (convert-holds O old new g (slots_in old ws) less (done-passes e).fit h)
