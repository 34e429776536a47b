-- The steps come to the compaction of the definitions. For every bound on edges.
-- Serves document 02, order 7.
use Prim.Native.Nat.{ℕ, zero, suc, ◌+◌, ◌-◌, ◌*◌, ◌≤◌, ◌<◌}
use Rattle.std.proofs.Common.{add-zero, mul-zero, le_trans, add-one, arith, sym, ◌∙◌, subst, length-append, length-drop, take-append-drop, take-add, drop-drop, take_all, drop-cons}
use Rattle.std.proofs.Math.Nat.{mul-le-mul_left}
use Rattle.std.specs.Prelude.{◌≡◌, Bool, true, false, length, get_or, take, Err, Ok}
use Rattle.std.proofs.Math.Path.{refl, ap, ap₂}
use mathlib.Core.List.{List, [], ◌∷◌, ◌++◌, flatten, append-nil, append_assoc}
use borrow.Rule.Slice.PartMut.{mid_of, put_mid, Post-is, mid_len}
use borrow.Author.Tests.{lt-ltb, le-ltb}
use Rattle.std.proofs.Math.ListN.{set, drop}
use Rattle.std.proofs.Math.Seq.{drop-length, append_snoc, set-append_seam}
use Rattle.semantics.specs.Limits.{Bounds, record_words}
use Rattle.semantics.specs.Lists.{pick, cons_if}
use Rattle.semantics.specs.Words.{zeros, slots_of}
use Rattle.semantics.specs.Words.Laws.{length-slots, drop-zeros}
use Rattle.semantics.specs.Told.{told_compaction}
use Rattle.semantics.specs.Database.{used_in, records, well_formed, record_place}
use Rattle.semantics.specs.Database.Laws.{AllLong, slots-long, length-packed}
use Rattle.semantics.specs.Database.Compaction.{is_live, live_of, live_count, renumbered, compact_words, compact_call}
use Rattle.semantics.proofs.Theorems.Database.Compaction.Laws.{length-renumbered, live-long, few-live}
use Rattle.words.specs.Slots.{slot_at, put_slot}
use Rattle.database.specs.Records.{InWords, Whole, record_at, put_record, owner_word}
use Rattle.database.specs.Records.Laws.{put_same, record-owner}
use Rattle.database.specs.Filing.{with_records}
use Rattle.database.specs.Filing.Laws.{Packed, slots-more, length-with, with-front, later-record, put_next, zeroed-behind}
use Rattle.compaction.specs.Moves.{first_records, noted, Keeps, Closed, freed}
use Rattle.semantics.specs.PublicAnswers.{Compaction}
use Rattle.semantics.specs.declared.answer.CompactionRefusal.{CompactionRefusal}

-- ---- a record is live or dead

word_live : (r : List ℕ) → 0 < get_or r 0 0 → is_live r ≡ true
unfolding is_live
word_live [] h = absurd (omega arith)
word_live (zero ∷ r) h = absurd (omega arith)
word_live (suc f ∷ r) h = refl

word-dead : (r : List ℕ) → get_or r 0 0 ≡ 0 → is_live r ≡ false
unfolding is_live
word-dead [] h = refl
word-dead (zero ∷ r) h = refl
word-dead (suc f ∷ r) h = absurd (omega arith)

word_some : (r : List ℕ) → is_live r ≡ true → 0 < get_or r 0 0
unfolding is_live
word_some [] h = absurd (let z : ◌≡◌ {A = Bool} true false = sym h in unlike z)
  where
    unlike : ◌≡◌ {A = Bool} true false → ⊥
    unlike e = let z : ◌≡◌ {A = ℕ} 1 0 = ap (λ (b : Bool). pick b 1 0) e in omega arith
word_some (zero ∷ r) h = absurd (let z : ◌≡◌ {A = ℕ} 0 1 = ap (λ (b : Bool). pick b 1 0) h in omega arith)
word_some (suc f ∷ r) h = omega arith

module _ (bd : Bounds) (i : ℕ) (ws : List ℕ) where
  pub record-live : 0 < owner_word bd i ws → is_live (record_at bd i ws) ≡ true
  record-live h = word_live (record_at bd i ws) (omega (arith, record-owner bd i ws))

  pub record-dead : owner_word bd i ws ≤ 0 → is_live (record_at bd i ws) ≡ false
  record-dead h = word-dead (record_at bd i ws) (omega (arith, record-owner bd i ws))

-- ---- the live ones of a list with one more behind

live_more : (xs : List (List ℕ)) (x : List ℕ) → live_of (xs ++ (x ∷ [])) ≡ live_of xs ++ cons_if (is_live x) x []
unfolding live_of
live_more [] x = refl
live_more (y ∷ xs) x = on (is_live y) (live_more xs x)
  where
    on : (b : Bool) → live_of (xs ++ (x ∷ [])) ≡ live_of xs ++ cons_if (is_live x) x [] → cons_if b y (live_of (xs ++ (x ∷ []))) ≡ cons_if b y (live_of xs) ++ cons_if (is_live x) x []
    on true ih = ap (λ (l : List (List ℕ)). y ∷ l) ih
    on false ih = ih

renumbered-more : (i k : ℕ) (xs : List (List ℕ)) (x : List ℕ)
    → renumbered i k (xs ++ (x ∷ [])) ≡ renumbered i k xs ++ pick (is_live x) ((i + length xs) ∷ (k + length (live_of xs)) ∷ []) []
unfolding renumbered live_of is_live
renumbered-more i k [] [] = refl
renumbered-more i k [] (zero ∷ x) = refl
renumbered-more i k [] (suc f ∷ x) = rw (add-zero i, add-zero k)
renumbered-more i k ([] ∷ xs) x = shift i (length xs) (is_live x) (k + length (live_of xs)) (renumbered (suc i) k xs) (renumbered-more (suc i) k xs x)
  where
    shift : (i n : ℕ) (b : Bool) (m : ℕ) (l : List ℕ) {y : List ℕ} → y ≡ l ++ pick b ((suc i + n) ∷ m ∷ []) [] → y ≡ l ++ pick b ((i + suc n) ∷ m ∷ []) []
    shift i n b m l e = let q : suc i + n ≡ i + suc n = omega arith in e ∙ ap (λ (j : ℕ). l ++ pick b (j ∷ m ∷ []) []) q
renumbered-more i k ((zero ∷ y) ∷ xs) x = let q : suc i + length xs ≡ i + suc (length xs) = omega arith in renumbered-more (suc i) k xs x ∙ ap (λ (j : ℕ). renumbered (suc i) k xs ++ pick (is_live x) (j ∷ (k + length (live_of xs)) ∷ []) []) q
renumbered-more i k ((suc f ∷ y) ∷ xs) x =
    let q : suc i + length xs ≡ i + suc (length xs) = omega arith in
    let p : suc k + length (live_of xs) ≡ k + suc (length (live_of xs)) = omega arith in
    ap (λ (l : List ℕ). i ∷ k ∷ l) (renumbered-more (suc i) (suc k) xs x ∙ ap₂ (λ (j m : ℕ). renumbered (suc i) (suc k) xs ++ pick (is_live x) (j ∷ m ∷ []) []) q p)

packed-live : (L : ℕ) (xs : List (List ℕ)) → AllLong L xs → Packed L (live_of xs)
packed-live L xs h = length-packed L (live_of xs) (live-long L xs h)

-- ---- the first records of a database, with one more

module _ (bd : Bounds) (ws : List ℕ) where
  records-more : (i : ℕ) → first_records bd (i + 1) ws ≡ first_records bd i ws ++ (record_at bd i ws ∷ [])
  records-more i =
      ap (λ (n : ℕ). first_records bd n ws) (add-one i)
      ∙ slots-more (record_words bd) i (drop 3 ws)
      ∙ ap (λ (l : List ℕ). first_records bd i ws ++ (take (record_words bd) l ∷ [])) (drop-drop (record_words bd * i) 3 ws)

  live-next : (i : ℕ) → live_of (first_records bd (i + 1) ws) ≡ live_of (first_records bd i ws) ++ cons_if (is_live (record_at bd i ws)) (record_at bd i ws) []
  live-next i = ap live_of (records-more i) ∙ live_more (first_records bd i ws) (record_at bd i ws)

  pub count_next : (i : ℕ) → length (live_of (first_records bd (i + 1) ws)) ≡ pick (is_live (record_at bd i ws)) (length (live_of (first_records bd i ws)) + 1) (length (live_of (first_records bd i ws)))
  count_next i = ap length (live-next i) ∙ length-append (live_of (first_records bd i ws)) (cons_if (is_live (record_at bd i ws)) (record_at bd i ws) []) ∙ on (is_live (record_at bd i ws)) (length (live_of (first_records bd i ws)))
    where
      on : (b : Bool) (n : ℕ) → n + length (cons_if b (record_at bd i ws) []) ≡ pick b (n + 1) n
      on true n = refl
      on false n = add-zero n

  count-grows : (i : ℕ) → length (live_of (first_records bd i ws)) ≤ length (live_of (first_records bd (i + 1) ws))
  count-grows i = subst (λ (m : ℕ). length (live_of (first_records bd i ws)) ≤ m) (sym (count_next i)) (on (is_live (record_at bd i ws)) (length (live_of (first_records bd i ws))))
    where
      on : (b : Bool) (n : ℕ) → n ≤ pick b (n + 1) n
      on true n = omega arith
      on false n = omega arith

  count-later : (i d : ℕ) → length (live_of (first_records bd i ws)) ≤ length (live_of (first_records bd (i + d) ws))
  count-later i zero = rw (add-zero i) (omega arith)
  count-later i (suc d) = let q : i + d + 1 ≡ i + suc d = omega arith in subst (λ (n : ℕ). length (live_of (first_records bd i ws)) ≤ length (live_of (first_records bd n ws))) q (le_trans (count-later i d) (count-grows (i + d)))

  pub count-all : (n : ℕ) → n ≡ used_in ws → length (live_of (first_records bd n ws)) ≡ live_count bd ws
  unfolding records
  count-all n e = rw e

  -- the live ones up to a used record are no more than all
  count_most : (i : ℕ) → i ≤ used_in ws → length (live_of (first_records bd i ws)) ≤ live_count bd ws
  count_most i h =
      let q : i + (used_in ws - i) ≡ used_in ws = omega arith in
      omega (arith, count-later i (used_in ws - i), count-all (i + (used_in ws - i)) q)

  packed-first : (i : ℕ) → record_place bd i ≤ length ws → Packed (record_words bd) (live_of (first_records bd i ws))
  packed-first i h = packed-live (record_words bd) (first_records bd i ws) (slots-long (record_words bd) i (drop 3 ws) (simp length-drop (omega arith)))

-- ---- counting

pub counted_none : (bd : Bounds) (ws : List ℕ) → 0 ≡ length (live_of (first_records bd 0 ws))
unfolding slots_of live_of
counted_none bd ws = refl

pub counted-more : (bd : Bounds) (i n r : ℕ) (ws : List ℕ) → n ≡ length (live_of (first_records bd i ws)) → r ≡ pick (is_live (record_at bd i ws)) (n + 1) n → r ≡ length (live_of (first_records bd (i + 1) ws))
counted-more bd i n r ws e h = h ∙ ap (λ (k : ℕ). pick (is_live (record_at bd i ws)) (k + 1) k) e ∙ sym (count_next bd ws i)

pub pick-most : (b : Bool) (n i : ℕ) → n ≤ i → pick b (n + 1) n ≤ i + 1
pick-most true n i h = omega arith
pick-most false n i h = omega arith

-- ---- a record that stands right, and one that is copied behind the words in front

pub put-stays : (bd : Bounds) (i to : ℕ) (ws : List ℕ) → to ≤ i → i ≤ to → ws ≡ put_record bd to (record_at bd i ws) ws
put-stays bd i to ws h g = let q : i ≡ to = omega arith in rw q (sym (put_same bd to ws))

pub part-rest : (ws : List ℕ) → 3 ≤ length ws → take (length ws - 3) (drop 3 ws) ≡ drop 3 ws
part-rest ws h = take_all (length ws - 3) (drop 3 ws) (omega (arith, length-drop 3 ws))

-- p being the part behind the words in front, as it comes back
pub copied : (bd : Bounds) (i to : ℕ) (ws p : List ℕ) → 3 ≤ length ws
    → p ≡ put_slot (record_words bd) to (slot_at (record_words bd) i (mid_of 3 (length ws - 3) ws)) (mid_of 3 (length ws - 3) ws)
    → put_mid 3 (length ws - 3) ws p ≡ put_record bd to (record_at bd i ws) ws
unfolding put_slot slot_at put_record
copied bd i to ws p h e =
    let L : ℕ = record_words bd in
    let s : List ℕ = take L (drop (L * i) (drop 3 ws)) in
    let m : mid_of 3 (length ws - 3) ws ≡ drop 3 ws = part-rest ws h in
    let z : drop (length ws - 3) (drop 3 ws) ≡ [] = Post-is 3 (length ws) ws h ∙ drop-length ws in
    let a : s ≡ record_at bd i ws = ap (take L) (drop-drop (L * i) 3 ws) in
    let q : 3 + (L * to + L) ≡ record_place bd to + L = omega arith in
    let d : drop (L * to + L) (drop 3 ws) ≡ drop (record_place bd to + L) ws = drop-drop (L * to + L) 3 ws ∙ ap (λ (k : ℕ). drop k ws) q in
    let b : p ≡ take (L * to) (drop 3 ws) ++ record_at bd i ws ++ drop (record_place bd to + L) ws =
    e
    ∙ ap (λ (l : List ℕ). take (L * to) l ++ take L (drop (L * i) l) ++ drop (L * to + L) l) m
    ∙ ap₂ (λ (x y : List ℕ). take (L * to) (drop 3 ws) ++ x ++ y) a d in
    ap (λ (l : List ℕ). take 3 ws ++ (p ++ l)) z
    ∙ ap (λ (l : List ℕ). take 3 ws ++ l) (append-nil p ∙ b)
    ∙ ap (λ (l : List ℕ). take 3 ws ++ l) (append_assoc (take (L * to) (drop 3 ws)) (record_at bd i ws) (drop (record_place bd to + L) ws))
    ∙ sym (append_assoc (take 3 ws) (take (L * to) (drop 3 ws)) (record_at bd i ws ++ drop (record_place bd to + L) ws))
    ∙ ap (λ (l : List ℕ). l ++ (record_at bd i ws ++ drop (record_place bd to + L) ws)) (sym (take-add 3 (L * to) ws))

-- ---- the list with one more pair

two-more : (p q : List ℕ) (k i j : ℕ) → length p ≡ 2 * k → 2 * k + 2 ≤ length q → set (set (p ++ drop (2 * k) q) (2 * k) i) (2 * k + 1) j ≡ p ++ (i ∷ j ∷ []) ++ drop (2 * (k + 1)) q
two-more p q k i j e h =
    let y : ℕ = get_or q (2 * k) 0 in
    let z : ℕ = get_or q (suc (2 * k)) 0 in
    let t : List ℕ = drop (suc (suc (2 * k))) q in
    let o : suc (suc (2 * k)) ≡ 2 * (k + 1) = omega arith in
    let d : drop (2 * k) q ≡ y ∷ z ∷ t = drop-cons q (2 * k) 0 (omega arith) ∙ ap (λ (l : List ℕ). y ∷ l) (drop-cons q (suc (2 * k)) 0 (omega arith)) in
    let a : set (p ++ drop (2 * k) q) (2 * k) i ≡ p ++ i ∷ z ∷ t = ap₂ (λ (l : List ℕ) (n : ℕ). set (p ++ l) n i) d (sym e) ∙ set-append_seam p y (z ∷ t) i in
    let s : p ++ i ∷ z ∷ t ≡ p ++ (i ∷ []) ++ z ∷ t = sym (append_snoc p i (z ∷ t)) in
    let m : 2 * k + 1 ≡ length (p ++ (i ∷ [])) = sym (length-append p (i ∷ []) ∙ ap (λ (n : ℕ). n + 1) e) in
    ap (λ (l : List ℕ). set l (2 * k + 1) j) (a ∙ s)
    ∙ ap (λ (n : ℕ). set (p ++ (i ∷ []) ++ z ∷ t) n j) m
    ∙ set-append_seam (p ++ (i ∷ [])) z t j
    ∙ append_snoc p i (j ∷ t)
    ∙ sym (append_assoc p (i ∷ j ∷ []) t)
    ∙ ap (λ (n : ℕ). p ++ (i ∷ j ∷ []) ++ drop n q) o

-- ---- the loop

pub closed_none : (bd : Bounds) (ws l : List ℕ) → Closed bd 0 0 ws l ws l
unfolding slots_of live_of renumbered with_records flatten
closed_none bd ws l = record {
  count = refl;
  most = omega arith;
  held = sym (rw mul-zero (take-append-drop 3 ws));
  listed = refl;
}

module _ (bd : Bounds) (i to : ℕ) (ws₀ l₀ ws l : List ℕ) (k : Closed bd i to ws₀ l₀ ws l) (inside : InWords bd i ws₀) where
  room : record_place bd i ≤ length ws₀
  room = omega (arith, inside)

  rs : List (List ℕ)
  rs = live_of (first_records bd i ws₀)

  placed : record_place bd to ≤ length ws₀
  placed = omega (arith, inside, mul-le-mul_left (record_words bd) k.most)

  still : record_at bd i ws ≡ record_at bd i ws₀
  unfolding rs
  still = ap (record_at bd i) k.held ∙ later-record bd rs to ws₀ (sym k.count) (packed-first bd ws₀ i room) placed i k.most

  -- a live record has its two words in the list
  pub closed-room : i < used_in ws₀ → 2 * live_count bd ws₀ ≤ length l₀ → 0 < owner_word bd i ws → 2 * to + 2 ≤ length l₀
  closed-room h g o =
      let b : is_live (record_at bd i ws₀) ≡ true = ap is_live (sym still) ∙ record-live bd i ws o in
      let e : length (live_of (first_records bd (i + 1) ws₀)) ≡ length (live_of (first_records bd i ws₀)) + 1 = count_next bd ws₀ i ∙ ap (λ (t : Bool). pick t (length (live_of (first_records bd i ws₀)) + 1) (length (live_of (first_records bd i ws₀)))) b in
      let m : length (live_of (first_records bd (i + 1) ws₀)) ≤ live_count bd ws₀ = count_most bd ws₀ (i + 1) (omega arith) in
      omega (arith, e, m, k.count, g)

  pub closed-more : (r : ℕ) (ws' l' : List ℕ) → i < used_in ws₀ → 2 * live_count bd ws₀ ≤ length l₀ → Keeps bd i to ws l r ws' l' → Closed bd (i + 1) r ws₀ l₀ ws' l'
  unfolding rs
  closed-more r ws' l' h g s = on (is_live (record_at bd i ws)) refl s.2 s.3 s.4
    where
      first : first_records bd (i + 1) ws₀ ≡ first_records bd i ws₀ ++ (record_at bd i ws₀ ∷ [])
      first = records-more bd ws₀ i

      numbers : renumbered 0 0 (first_records bd (i + 1) ws₀) ≡ renumbered 0 0 (first_records bd i ws₀) ++ pick (is_live (record_at bd i ws₀)) ((0 + length (first_records bd i ws₀)) ∷ (0 + length (live_of (first_records bd i ws₀))) ∷ []) []
      numbers = ap (renumbered 0 0) first ∙ renumbered-more 0 0 (first_records bd i ws₀) (record_at bd i ws₀)

      on : (b : Bool) → is_live (record_at bd i ws) ≡ b → r ≡ pick b (to + 1) to → ws' ≡ pick b (put_record bd to (record_at bd i ws) ws) ws → l' ≡ pick b (noted i to l) l → Closed bd (i + 1) r ws₀ l₀ ws' l'
      on true b c w n =
          let b₀ : is_live (record_at bd i ws₀) ≡ true = ap is_live (sym still) ∙ b in
          let x : live_of (first_records bd (i + 1) ws₀) ≡ rs ++ (record_at bd i ws₀ ∷ []) = live-next bd ws₀ i ∙ ap (λ (t : Bool). rs ++ cons_if t (record_at bd i ws₀) []) b₀ in
          let p : List ℕ = renumbered 0 0 (first_records bd i ws₀) in
          let lp : length p ≡ 2 * to = length-renumbered 0 0 (first_records bd i ws₀) ∙ ap (λ (m : ℕ). 2 * m) (sym k.count) in
          let qi : 0 + length (first_records bd i ws₀) ≡ i = omega (arith, length-slots (record_words bd) i (drop 3 ws₀)) in
          let qt : 0 + length (live_of (first_records bd i ws₀)) ≡ to = omega (arith, k.count) in
          let u : renumbered 0 0 (first_records bd (i + 1) ws₀) ≡ p ++ (i ∷ to ∷ []) =
          numbers ∙ ap (λ (t : Bool). p ++ pick t ((0 + length (first_records bd i ws₀)) ∷ (0 + length (live_of (first_records bd i ws₀))) ∷ []) []) b₀ ∙ ap₂ (λ (m j : ℕ). p ++ (m ∷ j ∷ [])) qi qt in
          let o : 0 < owner_word bd i ws = omega (arith, word_some (record_at bd i ws) b, record-owner bd i ws) in
          record {
            count = c ∙ ap (λ (m : ℕ). m + 1) k.count ∙ sym (count_next bd ws₀ i ∙ ap (λ (t : Bool). pick t (length (live_of (first_records bd i ws₀)) + 1) (length (live_of (first_records bd i ws₀)))) b₀);
            most = omega (arith, c, k.most);
            held = w ∙ ap₂ (λ (y v : List ℕ). put_record bd to y v) still k.held ∙ put_next bd rs to ws₀ (sym k.count) (packed-first bd ws₀ i room) placed (record_at bd i ws₀) ∙ ap (λ (y : List (List ℕ)). with_records bd y ws₀) (sym x);
            listed = n ∙ ap (noted i to) k.listed ∙ two-more p l₀ to i to lp (closed-room h g o) ∙ ap₂ (λ (y : List ℕ) (m : ℕ). y ++ drop (2 * m) l₀) (sym u) (sym c);
          }
      on false b c w n =
          let b₀ : is_live (record_at bd i ws₀) ≡ false = ap is_live (sym still) ∙ b in
          let x : live_of (first_records bd (i + 1) ws₀) ≡ rs = live-next bd ws₀ i ∙ ap (λ (t : Bool). rs ++ cons_if t (record_at bd i ws₀) []) b₀ ∙ append-nil rs in
          let p : List ℕ = renumbered 0 0 (first_records bd i ws₀) in
          let u : renumbered 0 0 (first_records bd (i + 1) ws₀) ≡ p = numbers ∙ ap (λ (t : Bool). p ++ pick t ((0 + length (first_records bd i ws₀)) ∷ (0 + length (live_of (first_records bd i ws₀))) ∷ []) []) b₀ ∙ append-nil p in
          record {
            count = c ∙ k.count ∙ ap length (sym x);
            most = omega (arith, c, k.most);
            held = w ∙ k.held ∙ ap (λ (y : List (List ℕ)). with_records bd y ws₀) (sym x);
            listed = n ∙ k.listed ∙ ap₂ (λ (y : List ℕ) (m : ℕ). y ++ drop (2 * m) l₀) (sym u) (sym c);
          }

-- all used records were looked at
module _ (bd : Bounds) (i to : ℕ) (ws₀ l₀ ws l : List ℕ) (k : Closed bd i to ws₀ l₀ ws l) (all : i ≡ used_in ws₀) where
  pub all-count : to ≡ live_count bd ws₀
  all-count = k.count ∙ count-all bd ws₀ i all

  pub all_held : ws ≡ with_records bd (live_of (records bd ws₀)) ws₀
  unfolding records
  all_held = k.held ∙ ap (λ (n : ℕ). with_records bd (live_of (first_records bd n ws₀)) ws₀) all

  pub all_listed : l ≡ renumbered 0 0 (records bd ws₀) ++ drop (2 * live_count bd ws₀) l₀
  unfolding records
  all_listed = k.listed ∙ ap₂ (λ (n m : ℕ). renumbered 0 0 (first_records bd n ws₀) ++ drop (2 * m) l₀) all all-count

-- ---- the freed records

-- z being the part that comes back
pub freed-part : (bd : Bounds) (k used : ℕ) (ws z : List ℕ) → used ≡ used_in ws → Whole bd ws → k ≤ used_in ws
    → z ≡ zeros (length (mid_of (record_place bd k) (record_place bd used - record_place bd k) ws))
    → set (put_mid (record_place bd k) (record_place bd used - record_place bd k) ws z) 0 k ≡ freed bd k ws
unfolding freed
freed-part bd k used ws z e g h y =
    let L : ℕ = record_words bd in
    let le : L * k ≤ L * used_in ws = mul-le-mul_left L h in
    let w : record_place bd (used_in ws) - record_place bd k ≡ L * used_in ws - L * k = omega (arith, le) in
    let x : z ≡ zeros (L * used_in ws - L * k) = y ∙ ap (λ (u : ℕ). zeros (length (mid_of (record_place bd k) (record_place bd u - record_place bd k) ws))) e ∙ ap zeros (mid_len (record_place bd k) (record_place bd (used_in ws)) ws g ∙ w) in
    ap (λ (u : ℕ). set (put_mid (record_place bd k) (record_place bd u - record_place bd k) ws z) 0 k) e
    ∙ ap₂ (λ (a b : List ℕ). set (take (record_place bd k) ws ++ (a ++ b)) 0 k) x (Post-is (record_place bd k) (record_place bd (used_in ws)) ws (omega (arith, le)))

headed-three : (k : ℕ) (ws x : List ℕ) → 3 ≤ length ws → set (take 3 ws ++ x) 0 k ≡ k ∷ get_or ws 1 0 ∷ get_or ws 2 0 ∷ x
headed-three k [] x h = absurd (omega arith)
headed-three k (a ∷ []) x h = absurd (omega arith)
headed-three k (a ∷ b ∷ []) x h = absurd (omega arith)
headed-three k (a ∷ b ∷ c ∷ ws) x h = refl

-- x is what the loop leaves behind
module _ (bd : Bounds) (ws x : List ℕ) (held : x ≡ with_records bd (live_of (records bd ws)) ws) (whole : Whole bd ws) where
  placed-all : record_place bd (live_count bd ws) ≤ length ws
  placed-all = omega (arith, whole, mul-le-mul_left (record_words bd) (few-live bd ws))

  packed_all : Packed (record_words bd) (live_of (records bd ws))
  unfolding records
  packed_all = packed-first bd ws (used_in ws) whole

  pub left-used : used_in x ≡ used_in ws
  left-used = ap used_in held ∙ with-front bd (live_of (records bd ws)) (live_count bd ws) ws refl packed_all placed-all 0 (omega arith)

  pub left-length : length x ≡ length ws
  left-length = ap length held ∙ length-with bd (live_of (records bd ws)) (live_count bd ws) ws refl packed_all placed-all

  pub left-freed : (n : ℕ) → n ≡ live_count bd ws → freed bd n x ≡ compact_words bd ws
  unfolding freed compact_words
  left-freed n e =
      let L : ℕ = record_words bd in
      let m : ℕ = live_count bd ws in
      let u : ℕ = used_in ws in
      let z : List ℕ = zeros (L * u - L * m) in
      let le : L * m ≤ L * u = mul-le-mul_left L (few-live bd ws) in
      let w : record_place bd u - record_place bd m ≡ L * u - L * m = omega (arith, le) in
      let y : z ≡ zeros (length (mid_of (record_place bd m) (record_place bd u - record_place bd m) x)) = ap zeros (sym (mid_len (record_place bd m) (record_place bd u) x (omega (arith, left-length, whole)) ∙ w)) in
      ap (λ (j : ℕ). set (take (record_place bd j) x ++ (zeros (L * used_in x - L * j) ++ drop (record_place bd (used_in x)) x)) 0 j) e
      ∙ ap (λ (j : ℕ). set (take (record_place bd m) x ++ (zeros (L * j - L * m) ++ drop (record_place bd j) x)) 0 m) left-used
      ∙ ap (λ (b : List ℕ). set (take (record_place bd m) x ++ (z ++ b)) 0 m) (sym (Post-is (record_place bd m) (record_place bd u) x (omega (arith, le))))
      ∙ ap (λ (b : List ℕ). set b 0 m) (zeroed-behind bd (live_of (records bd ws)) m ws refl packed_all placed-all u x z held (few-live bd ws) whole y)
      ∙ headed-three m ws (flatten (live_of (records bd ws)) ++ (z ++ drop (L * u) (drop 3 ws))) (omega (arith, whole))

-- ---- the outcomes

-- the answer as it is told, the words and the list of the whole call
abbrev pub Outcome : Bounds → (ℕ → ℕ → Bool) → List ℕ → ℕ → Compaction → List ℕ → List ℕ → Type 0
Outcome bd known ws len r ws' l' =
    (told_compaction r ≡ told_compaction (compact_call bd known ws len).answer) × (ws' ≡ (compact_call bd known ws len).database) × (l' ≡ (compact_call bd known ws len).list)

module _ (bd : Bounds) (known : ℕ → ℕ → Bool) (ws : List ℕ) (len : ℕ) where
  pub outcome-malformed : (l : List ℕ) → well_formed bd known ws ≡ false → l ≡ zeros len → Outcome bd known ws len (Err CompactionRefusal.Malformed) ws l
  unfolding compact_call
  outcome-malformed l f z = rw f (refl, refl, z)

  pub outcome-short : (l : List ℕ) → well_formed bd known ws ≡ true → len < 2 * live_count bd ws → l ≡ zeros len → Outcome bd known ws len (Err CompactionRefusal.ListTooShort) ws l
  unfolding compact_call
  outcome-short l f h z = rw (f, lt-ltb len (2 * live_count bd ws) h) (refl, refl, z)

  pub outcome-done : (n : ℕ) (l₀ l ws' : List ℕ) → well_formed bd known ws ≡ true → 2 * live_count bd ws ≤ len → n ≡ live_count bd ws → ws' ≡ compact_words bd ws → l₀ ≡ zeros len
      → l ≡ renumbered 0 0 (records bd ws) ++ drop (2 * live_count bd ws) l₀ → Outcome bd known ws len (Ok n) ws' l
  unfolding compact_call
  outcome-done n l₀ l ws' f h e w z y =
      rw (f, le-ltb len (2 * live_count bd ws) h)
      (ap (λ (m : ℕ). told_compaction (Ok m)) e, w, y ∙ ap (λ (q : List ℕ). renumbered 0 0 (records bd ws) ++ q) (ap (drop (2 * live_count bd ws)) z ∙ drop-zeros (2 * live_count bd ws) len))
