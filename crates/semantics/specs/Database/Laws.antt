-- The words of a database after a file is replaced decode to the slots with that file replaced.
-- Links the words of document 01, "Partial paths", to the slots of which demand 3 speaks.
use Rattle.std.specs.Prelude.{ℕ, zero, suc, ◌+◌, ◌≤◌, ◌-◌, ◌*◌, ◌≡◌, refl, Bool, true, false, not, eqb, leb, ltb, length, take, drop}
use Rattle.std.proofs.Common.{add-zero, zero-add, suc-add, mul-zero, mul-suc, mul-le-mul_left, le_trans, arith, sym, ◌∙◌, ap, leb→le, nltb→le, length-append, length-drop, length-take-le, take_at, drop_at, take-take}
use mathlib.Core.List.{List, [], ◌∷◌, ◌++◌, map, append-nil, append_assoc, Memᴰ, map-append, flatten}
use Rattle.std.proofs.lemmas.List.{length-replicate}
use Rattle.std.proofs.Math.Seq.{take-append_seam}
use Rattle.semantics.specs.declared.refusal.DatabaseRefusal.TheVariants.{Malformed, Outgrown}
use Rattle.semantics.specs.Limits.{Bounds, record_words}
use Rattle.semantics.specs.Answer.{ok, and_then, ok_if}
use Rattle.semantics.specs.Answer.Laws.{ok-inj, refuse-ok}
use Rattle.semantics.specs.Lists.{and, pick}
use Rattle.semantics.specs.Lists.Laws.{and-true, eq→T}
use Rattle.semantics.specs.Graph.{Graph}
use Rattle.semantics.specs.Enumeration.{State}
use Rattle.semantics.specs.PartialPaths.{Route, Slot, dead, slot, slot_of, clear, dead_if, replaced}
use Rattle.semantics.specs.Words.{zeros, whole_slots, slots_of}
use Rattle.semantics.specs.Words.Laws.{whole-fits, length-slots}
use Rattle.semantics.specs.Database.{used_in, nodes_in, files_in, well_formed, check_database, capacity, decode, encode_slot, records, slots_in, zero_if, clear_record, replace_words, fresh_words}

abbrev pub AllLong : ℕ → List (List ℕ) → Type 0
AllLong L [] = Unit {0}
AllLong L (x ∷ xs) = (length x ≡ L) × AllLong L xs

pub slots-flatten : (L n : ℕ) (xs : List (List ℕ)) (rest : List ℕ) → AllLong L xs → slots_of L (length xs + n) (flatten xs ++ rest) ≡ xs ++ slots_of L n rest
unfolding slots_of flatten
slots-flatten L n [] rest h = ap (λ k. slots_of L k rest) (zero-add n)
slots-flatten L n (x ∷ xs) rest h =
    let a : x ++ flatten xs ++ rest ≡ x ++ (flatten xs ++ rest) = append_assoc x (flatten xs) rest in
    let t : take L (x ++ flatten xs ++ rest) ≡ x = ap (take L) a ∙ take_at x (flatten xs ++ rest) L h.0 in
    let d : drop L (x ++ flatten xs ++ rest) ≡ flatten xs ++ rest = ap (drop L) a ∙ drop_at x (flatten xs ++ rest) L h.0 in
    ap (λ k. slots_of L k (x ++ flatten xs ++ rest)) (suc-add (length xs) n)
    ∙ ap (λ (w : List ℕ). w ∷ slots_of L (length xs + n) (drop L (x ++ flatten xs ++ rest))) t
    ∙ ap (λ (w : List ℕ). x ∷ slots_of L (length xs + n) w) d
    ∙ ap (λ (w : List (List ℕ)). x ∷ w) (slots-flatten L n xs rest h.1)

pub slots-long : (L n : ℕ) (ws : List ℕ) → L * n ≤ length ws → AllLong L (slots_of L n ws)
unfolding slots_of
slots-long L zero ws h = tt
slots-long L (suc n) ws h = (length-take-le L ws (omega (arith, mul-suc L n)), slots-long L n (drop L ws) (simp length-drop (omega (arith, mul-suc L n))))

pub length-map : {A B : Type 0} (f : A → B) (l : List A) → length (map f l) ≡ length l
length-map f [] = refl
length-map f (x ∷ l) = ap suc (length-map f l)

pub length-packed : (L : ℕ) (xs : List (List ℕ)) → AllLong L xs → length (flatten xs) ≡ L * length xs
unfolding flatten
length-packed L [] h = sym (mul-zero L)
length-packed L (x ∷ xs) h = omega (arith, length-append x (flatten xs), h.0, length-packed L xs h.1, mul-suc L (length xs))

clear-long : (L f : ℕ) (xs : List (List ℕ)) → AllLong L xs → AllLong L (map (clear_record f) xs)
unfolding clear_record zero_if
clear-long L f [] h = tt
clear-long L f ([] ∷ xs) h = (h.0, clear-long L f xs h.1)
clear-long L f ((zero ∷ x) ∷ xs) h = (h.0, clear-long L f xs h.1)
clear-long L f ((suc w ∷ x) ∷ xs) h = (on (eqb w f), clear-long L f xs h.1)
  where
    on : (b : Bool) → length (zero_if b (suc w ∷ x)) ≡ L
    on true = length-replicate (length (suc w ∷ x)) 0 ∙ h.0
    on false = h.0

encode-long : (L f : ℕ) (rs : List Route) → AllLong L (map (λ r. encode_slot L (slot_of f r)) rs)
unfolding encode_slot
encode-long L f [] = tt
encode-long L f (r ∷ rs) = (length-take-le L (suc f ∷ r.start ∷ r.current ∷ length r.edges ∷ (r.edges ++ zeros L)) (simp (length-append, length-replicate) (omega arith)), encode-long L f rs)

-- a record that is written is read back
pub decode-encode : (m f s t : ℕ) (es : List ℕ) → length es ≤ m → decode (encode_slot (m + 4) (slot f s t es)) ≡ slot f s t es
unfolding decode encode_slot
decode-encode m f s t es h =
    let q : m + 4 ≡ suc (suc (suc (suc m))) = omega arith in
    ap (λ k. decode (take k (suc f ∷ s ∷ t ∷ length es ∷ (es ++ zeros (m + 4))))) q
    ∙ ap (slot f s t) (take-take (length es) m (es ++ zeros (m + 4)) h ∙ take-append_seam es (zeros (m + 4)))

pub decode-zeros : (n : ℕ) → decode (zeros n) ≡ dead
unfolding decode
decode-zeros zero = refl
decode-zeros (suc n) = refl

decode-clear : (f : ℕ) (xs : List (List ℕ)) → map decode (map (clear_record f) xs) ≡ clear f (map decode xs)
unfolding clear_record zero_if clear decode dead_if
decode-clear f [] = refl
decode-clear f ([] ∷ xs) = ap (λ (w : List Slot). dead ∷ w) (decode-clear f xs)
decode-clear f ((zero ∷ x) ∷ xs) = ap (λ (w : List Slot). dead ∷ w) (decode-clear f xs)
decode-clear f ((suc w ∷ x) ∷ xs) = on (eqb w f) refl (decode-clear f xs)
  where
    on : (b : Bool) → eqb w f ≡ b → map decode (map (clear_record f) xs) ≡ clear f (map decode xs) → decode (zero_if (eqb w f) (suc w ∷ x)) ∷ map decode (map (clear_record f) xs) ≡ dead_if (eqb w f) (decode (suc w ∷ x)) ∷ clear f (map decode xs)
    on b e ih = ap (λ c. decode (zero_if c (suc w ∷ x)) ∷ map decode (map (clear_record f) xs)) e ∙ both b ∙ ap (λ c. dead_if c (decode (suc w ∷ x)) ∷ clear f (map decode xs)) (sym e)
      where
        both : (c : Bool) → decode (zero_if c (suc w ∷ x)) ∷ map decode (map (clear_record f) xs) ≡ dead_if c (decode (suc w ∷ x)) ∷ clear f (map decode xs)
        both true = ap (λ (v : List Slot). dead ∷ v) ih
        both false = ap (λ (v : List Slot). decode (suc w ∷ x) ∷ v) ih

decode-new : (m f : ℕ) (rs : List Route) → ((r : Route) → Memᴰ r rs → length r.edges ≤ m) → map decode (map (λ r. encode_slot (m + 4) (slot_of f r)) rs) ≡ map (slot_of f) rs
decode-new m f [] h = refl
decode-new m f (r ∷ rs) h =
    let a = decode-encode m f r.start r.current r.edges (h r (Memᴰ.head refl)) in
    let b = decode-new m f rs (λ x k. h x (Memᴰ.tail k)) in
    ap (λ (w : Slot). w ∷ map decode (map (λ y. encode_slot (m + 4) (slot_of f y)) rs)) a ∙ ap (λ (w : List Slot). slot_of f r ∷ w) b

pub slots-none : (L : ℕ) (ws : List ℕ) → slots_of L 0 ws ≡ []
unfolding slots_of
slots-none L ws = refl

-- THE LINK: replacing on words is replacing on slots
pub slots-replaced : (bd : Bounds) (g : Graph) (f : ℕ) (s : State Route) (ws : List ℕ) → record_words bd * used_in ws ≤ length (drop 3 ws) → ((r : Route) → Memᴰ r s.kept → length r.edges ≤ bd.edges)
    → slots_in bd (replace_words bd g f s ws) ≡ replaced f (slots_in bd ws) s
unfolding slots_in records replace_words replaced
slots-replaced bd g f s ws h k =
    let L = record_words bd in
    let old : List (List ℕ) = slots_of L (used_in ws) (drop 3 ws) in
    let xs : List (List ℕ) = map (clear_record f) old in
    let ys : List (List ℕ) = map (λ r. encode_slot L (slot_of f r)) s.kept in
    let rest : List ℕ = drop (L * (used_in ws + length s.kept)) (drop 3 ws) in
    let n : length xs ≡ used_in ws = length-map (clear_record f) old ∙ length-slots L (used_in ws) (drop 3 ws) in
    let m : length ys + 0 ≡ length s.kept = add-zero (length ys) ∙ length-map (λ r. encode_slot L (slot_of f r)) s.kept in
    let a : slots_of L (length xs + (length ys + 0)) (flatten xs ++ (flatten ys ++ rest)) ≡ xs ++ slots_of L (length ys + 0) (flatten ys ++ rest) = slots-flatten L (length ys + 0) xs (flatten ys ++ rest) (clear-long L f old (slots-long L (used_in ws) (drop 3 ws) h)) in
    let b : slots_of L (length ys + 0) (flatten ys ++ rest) ≡ ys ++ [] = slots-flatten L 0 ys rest (encode-long L f s.kept) ∙ ap (λ (w : List (List ℕ)). ys ++ w) (slots-none L rest) in
    let c : used_in ws + length s.kept ≡ length xs + (length ys + 0) = omega (arith, n, m) in
    ap (λ i. map decode (slots_of L i (flatten xs ++ (flatten ys ++ rest)))) c
    ∙ ap (map decode) (a ∙ ap (λ (w : List (List ℕ)). xs ++ w) (b ∙ append-nil ys))
    ∙ map-append decode xs ys
    ∙ ap (λ (w : List Slot). w ++ map decode ys) (decode-clear f old)
    ∙ ap (λ (w : List Slot). clear f (map decode old) ++ w) (decode-new bd.edges f s.kept k)

-- the capacity of an area depends on its length alone
pub same-capacity : (bd : Bounds) (xs ys : List ℕ) → length xs ≡ length ys → capacity bd xs ≡ capacity bd ys
unfolding capacity
same-capacity bd xs ys e = ap (λ n. pick (ltb (whole_slots (record_words bd) (n - 3)) 4096) (whole_slots (record_words bd) (n - 3)) 4096) e

-- a database within its capacity has all its records whole
pub whole-records : (bd : Bounds) (ws : List ℕ) → used_in ws ≤ capacity bd ws → record_words bd * used_in ws ≤ length (drop 3 ws)
unfolding capacity
whole-records bd ws h = on (ltb (whole_slots (record_words bd) (length ws - 3)) 4096) refl h
  where
    on : (b : Bool) → ltb (whole_slots (record_words bd) (length ws - 3)) 4096 ≡ b → used_in ws ≤ pick b (whole_slots (record_words bd) (length ws - 3)) 4096 → record_words bd * used_in ws ≤ length (drop 3 ws)
    on true e k = simp length-drop (le_trans (mul-le-mul_left (record_words bd) k) (whole-fits (record_words bd) (length ws - 3)))
    on false e k = simp length-drop (le_trans (mul-le-mul_left (record_words bd) (le_trans k (least e))) (whole-fits (record_words bd) (length ws - 3)))
      where
        least : ltb (whole_slots (record_words bd) (length ws - 3)) 4096 ≡ false → 4096 ≤ whole_slots (record_words bd) (length ws - 3)
        least j = nltb→le (whole_slots (record_words bd) (length ws - 3)) 4096 (eq→T (not (ltb (whole_slots (record_words bd) (length ws - 3)) 4096)) (ap not j))

-- a database that is not refused is searched over its own slots
pub checked : (bd : Bounds) (known : ℕ → ℕ → Bool) (g : Graph) (words : List ℕ) (db : List Slot) → check_database bd known g words ≡ ok db → slots_in bd words ≡ db
unfolding check_database ok_if
checked bd known g words db e = on1 (well_formed bd known words) e
  where
    on2 : (b : Bool) → ok_if b Outgrown (slots_in bd words) ≡ ok db → slots_in bd words ≡ db
    on2 true k = ok-inj (slots_in bd words) db k
    on2 false k = absurd (refuse-ok Outgrown db k)

    on1 : (b : Bool) → and_then (ok_if b Malformed words) (λ x. ok_if (and (leb (nodes_in words) (length g.nodes)) (leb (files_in words) g.files)) Outgrown (slots_in bd words)) ≡ ok db → slots_in bd words ≡ db
    on1 true k = on2 (and (leb (nodes_in words) (length g.nodes)) (leb (files_in words) g.files)) k
    on1 false k = absurd (refuse-ok Malformed db k)

-- what the words tell when they are not refused
pub checked-used : (bd : Bounds) (known : ℕ → ℕ → Bool) (g : Graph) (words : List ℕ) (db : List Slot) → check_database bd known g words ≡ ok db → used_in words ≤ capacity bd words
unfolding check_database ok_if well_formed
checked-used bd known g words db e = on1 (well_formed bd known words) refl e
  where
    on1 : (b : Bool) → well_formed bd known words ≡ b → and_then (ok_if b Malformed words) (λ x. ok_if (and (leb (nodes_in words) (length g.nodes)) (leb (files_in words) g.files)) Outgrown (slots_in bd words)) ≡ ok db → used_in words ≤ capacity bd words
    on1 true h k =
        let a = and-true (leb 3 (length words)) _ h in
        let c = and-true (leb (used_in words) (capacity bd words)) _ a.1 in
        leb→le (used_in words) (capacity bd words) (eq→T (leb (used_in words) (capacity bd words)) c.0)
    on1 false h k = absurd (refuse-ok Malformed db k)

pub fresh-slots : (bd : Bounds) (g : Graph) (len : ℕ) → slots_in bd (fresh_words g len) ≡ []
unfolding slots_in records slots_of
fresh-slots bd g len = refl
