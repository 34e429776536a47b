-- One record more is linked; following the links passes the live slots of a node by ascending number, and the tries of a path are these.
-- Serves document 01, "Partial paths": "Stitching tries partial paths from the path's end by ascending number".
use Prim.Native.Nat.{ℕ, zero, suc, ◌+◌, ◌-◌, ◌<◌, ◌≤◌}
use native.Mathlib.Omega.{arith}
use Rattle.std.proofs.Common.{add-one, zero-add, add-zero, ◌∙◌, lt-ltb, le-ltb, eq-eqb, ne_eqb, ltb-true, drop_of_length-le, drop-cons, get_or-set_other}
use Rattle.std.proofs.Math.Decide.{dec_lt, ℕ_discrete}
use Rattle.std.proofs.Math.Path.{◌≡◌, refl, sym, ap, subst}
use Rattle.std.specs.Prelude.{Bool, true, eqb, ltb, length, get_or, set, drop}
use Rattle.std.proofs.Math.Bool.{false}
use mathlib.Core.List.{List, [], ◌∷◌, map}
use Rattle.std.proofs.Math.ListN.{length-set}
use Rattle.std.proofs.lemmas.List.{length-map, length-replicate, get_or-replicate}
use Rattle.std.proofs.Math.Seq.{get_or-set_same}
use Rattle.semantics.specs.declared.refusal.SearchRefusal.{SearchRefusal}
use Rattle.semantics.specs.Lists.{pick, and, or, cons_if}
use Rattle.semantics.specs.Lists.Laws.{and-true, or-true}
use Rattle.semantics.specs.Limits.{Bounds, base, nobody, Limit}
use Rattle.semantics.specs.Graph.{View}
use Rattle.semantics.specs.Path.{Path}
use Rattle.semantics.specs.Enumeration.{Try}
use Rattle.semantics.specs.PartialPaths.{Slot, dead, slot}
use Rattle.semantics.specs.Words.{zeros}
use Rattle.semantics.specs.Database.{used_in, files_in, known_owners, slots_in}
use Rattle.semantics.specs.Stitching.{judge_slot, slot_tries}
use Rattle.semantics.specs.Hidden.{sees, sees_owner, slot_if, seen_slot}
use Rattle.storage.specs.Index.{NODES}
use Rattle.database.specs.Records.{InWords, owner_word, start_word, end_word, edge_words}
use Rattle.database.specs.Records.Laws.{within, slot-dead, count-slots}
use Rattle.database.specs.Checks.Laws.{capacity-most, formed-used, formed-whole, formed-live, formed-slot}
use Rattle.stitching_trial.specs.Links.{RECORDS, NEXT, LINKS, cell, first_link, next_link, Passes, put_link, starting_at, is_tried, ShowsAll, seen_in, Readable, Linking, LinkedFrom, Linked, Tryable, Each}

-- ---- one word of a row

cell_in : (l : List ℕ) (from width n : ℕ) → n < width → cell l from width n ≡ get_or l (from + n) 0
unfolding cell
cell_in l from width n h = rw (lt-ltb n width h)

cell_out : (l : List ℕ) (from width n : ℕ) → width ≤ n → cell l from width n ≡ 0
unfolding cell
cell_out l from width n h = rw (le-ltb n width h)

cell_same : (l : List ℕ) (from width n v : ℕ) → n < width → from + n < length l → cell (set l (from + n) v) from width n ≡ v
cell_same l from width n v h b = cell_in (set l (from + n) v) from width n h ∙ get_or-set_same l (from + n) v 0 b

-- a store elsewhere leaves it
cell_other : (l : List ℕ) (from width n i v : ℕ) → (n < width → from + n ≡ i → ⊥) → cell (set l i v) from width n ≡ cell l from width n
cell_other l from width n i v h = go (dec_lt n width)
  where
    go : Dec (n < width) → cell (set l i v) from width n ≡ cell l from width n
    go (yes p) = cell_in (set l i v) from width n p ∙ get_or-set_other l i (from + n) v 0 (h p) ∙ sym (cell_in l from width n p)
    go (no p) = cell_out (set l i v) from width n (omega arith) ∙ sym (cell_out l from width n (omega arith))

-- ---- words that were checked

module _ {words : List ℕ} (r : Readable words) where
  pub readable-front : 3 ≤ length words
  readable-front = omega (arith, formed-whole base known_owners words r.formed)

  pub readable-used : used_in words ≤ RECORDS
  readable-used = omega (arith, formed-used base known_owners words r.formed, (capacity-most base words).0)

  module _ (i : ℕ) (h : i < used_in words) where
    pub readable-inside : InWords base i words
    readable-inside = within base i words h (formed-whole base known_owners words r.formed)

    -- a live record has a file behind its first word
    owned : 0 < owner_word base i words → owner_word base i words ≡ suc (owner_word base i words - 1)
    owned l = omega (arith, l)

    pub readable-start : 0 < owner_word base i words → start_word base i words < NODES
    readable-start l = omega (arith, (formed-live base known_owners words r.formed i (owner_word base i words - 1) h (owned l)).starts, r.nodes)

    pub readable-try : 0 < owner_word base i words → Tryable words i
    readable-try l =
        let v = formed-live base known_owners words r.formed i (owner_word base i words - 1) h (owned l) in
        record { known = omega (arith, h, readable-used); inside = readable-inside; some = v.some; few = v.few }

    readable-slot : 0 < owner_word base i words → get_or (slots_in base words) i dead ≡ slot (owner_word base i words - 1) (start_word base i words) (end_word base i words) (edge_words base i words)
    readable-slot l = formed-slot base known_owners words r.formed i (owner_word base i words - 1) h (owned l)

    -- so a live slot is the record's
    readable-is : (f s e : ℕ) (es : List ℕ) → get_or (slots_in base words) i dead ≡ slot f s e es → (0 < owner_word base i words) × (es ≡ edge_words base i words)
    readable-is f s e es q = on (dec_lt 0 (owner_word base i words))
      where
        never : dead ≡ slot f s e es → ⊥
        never z = let y : ◌≡◌ {A = ℕ} 0 1 = cc in omega arith

        same : (a b c : ℕ) (d : List ℕ) → slot f s e es ≡ slot a b c d → es ≡ d
        same a b c d z = cc

        on : Dec (0 < owner_word base i words) → (0 < owner_word base i words) × (es ≡ edge_words base i words)
        on (yes l) = (l, same (owner_word base i words - 1) (start_word base i words) (end_word base i words) (edge_words base i words) (sym q ∙ readable-slot l))
        on (no l) = absurd (never (sym (slot-dead base i words h (omega (arith, l))) ∙ q))

-- ---- what is seen of the slots

get_d_map : {A : Type 0} (f : A → A) (d : A) (l : List A) (k : ℕ) → f d ≡ d → get_or (map f l) k d ≡ f (get_or l k d)
get_d_map f d [] k h = sym h
get_d_map f d (x ∷ l) zero h = refl
get_d_map f d (x ∷ l) (suc k) h = get_d_map f d l k h

module _ (see : ℕ → Bool) where
  pub count-seen : (words : List ℕ) → length (seen_in see words) ≡ used_in words
  count-seen words = length-map (slots_in base words) (seen_slot see) ∙ count-slots base words

  seen_at : (words : List ℕ) (i : ℕ) → get_or (seen_in see words) i dead ≡ seen_slot see (get_or (slots_in base words) i dead)
  unfolding seen_slot
  seen_at words i = get_d_map (seen_slot see) dead (slots_in base words) i refl

  -- a live slot that is seen is the slot itself
  seen-is : (x : Slot) (f s e : ℕ) (es : List ℕ) → seen_slot see x ≡ slot f s e es → x ≡ slot f s e es
  unfolding seen_slot slot_if
  seen-is dead f s e es q = q
  seen-is (slot g a b ds) f s e es q = on (sees_owner see g) q
    where
      never : dead ≡ slot f s e es → ⊥
      never z = let y : ◌≡◌ {A = ℕ} 0 1 = cc in omega arith

      on : (x : Bool) → slot_if x (slot g a b ds) ≡ slot f s e es → slot g a b ds ≡ slot f s e es
      on true k = k
      on false k = absurd (never k)

-- ---- the numbers of the slots that start at a node

readable-seen : (see : ℕ → Bool) {words : List ℕ} → Readable words → (i : ℕ) → i < used_in words → (f s e : ℕ) (es : List ℕ) → get_or (seen_in see words) i dead ≡ slot f s e es → (0 < owner_word base i words) × (es ≡ edge_words base i words)
readable-seen see {words} r i h f s e es q = readable-is r i h f s e es (seen-is see (get_or (slots_in base words) i dead) f s e es (sym (seen_at see words i) ∙ q))

cons_if-length : (b : Bool) (x : ℕ) (l : List ℕ) → length (cons_if b x l) ≤ suc (length l)
cons_if-length true x l = omega arith
cons_if-length false x l = omega arith

pub starting-length : (n i : ℕ) (ss : List Slot) → length (starting_at n i ss) ≤ length ss
unfolding starting_at
starting-length n i [] = omega arith
starting-length n i (dead ∷ ss) = let h = starting-length n (suc i) ss in omega (arith, h)
starting-length n i (slot f s e es ∷ ss) =
    let h = starting-length n (suc i) ss in
    let k = cons_if-length (eqb s n) i (starting_at n (suc i) ss) in omega (arith, h, k)

module _ (P : ℕ → Type 0) where
  cons_if-each : (b : Bool) (x : ℕ) (l : List ℕ) → P x → Each P l → Each P (cons_if b x l)
  cons_if-each true x l p h = (p, h)
  cons_if-each false x l p h = h

  -- what holds of every live slot's number
  starting-each : (n i : ℕ) (ss : List Slot) → ((k f s e : ℕ) (es : List ℕ) → k < length ss → get_or ss k dead ≡ slot f s e es → P (i + k)) → Each P (starting_at n i ss)
  unfolding starting_at
  starting-each n i [] h = tt
  starting-each n i (dead ∷ ss) h = starting-each n (suc i) ss (λ k f s e es l q. subst P (let z : i + suc k ≡ suc i + k = omega arith in z) (h (suc k) f s e es (omega (arith, l)) q))
  starting-each n i (slot g a b ds ∷ ss) h =
      cons_if-each (eqb a n) i (starting_at n (suc i) ss) (subst P (add-zero i) (h zero g a b ds (omega arith) refl))
      (starting-each n (suc i) ss (λ k f s e es l q. subst P (let z : i + suc k ≡ suc i + k = omega arith in z) (h (suc k) f s e es (omega (arith, l)) q)))

starting-above : (n i : ℕ) (ss : List Slot) → Each (λ j. i ≤ j) (starting_at n i ss)
starting-above n i ss = starting-each (λ j. i ≤ j) n i ss (λ k f s e es l q. omega arith)

pub starting-tryable : (see : ℕ → Bool) {words : List ℕ} → Readable words → (n : ℕ) → Each (Tryable words) (starting_at n 0 (seen_in see words))
starting-tryable see {words} r n = starting-each (Tryable words) n 0 (seen_in see words) (λ k f s e es l q. subst (Tryable words) (sym (zero-add k)) (live k f s e es (omega (arith, l, count-seen see words)) q))
  where
    live : (k f s e : ℕ) (es : List ℕ) → k < used_in words → get_or (seen_in see words) k dead ≡ slot f s e es → Tryable words k
    live k f s e es h q = readable-try r k h (readable-seen see r k h f s e es q).0

-- ---- what is tried on a path

module _ (bd : Bounds) (lim : Limit) (g : View) (p : Path) (edges : ℕ → List ℕ) where
  abbrev tried : ℕ → Try SearchRefusal Path
  tried i = judge_slot bd lim g p (edges i)

  cons_if-map : (b : Bool) (i : ℕ) {es : List ℕ} (l : List ℕ) → es ≡ edges i → cons_if b (judge_slot bd lim g p es) (map tried l) ≡ map tried (cons_if b i l)
  cons_if-map true i l e = ap (λ (x : List ℕ). judge_slot bd lim g p x ∷ map tried l) e
  cons_if-map false i l e = refl

  -- the slots from number i on, whose edges are read by number
  tries-from : (i : ℕ) (ss : List Slot) → ((k f s e : ℕ) (es : List ℕ) → k < length ss → get_or ss k dead ≡ slot f s e es → es ≡ edges (i + k)) → slot_tries bd lim g ss p ≡ map tried (starting_at p.end i ss)
  unfolding slot_tries starting_at
  tries-from i [] h = refl
  tries-from i (dead ∷ ss) h = tries-from (suc i) ss (λ k f s e es l q. h (suc k) f s e es (omega (arith, l)) q ∙ ap edges (let z : i + suc k ≡ suc i + k = omega arith in z))
  tries-from i (slot a b c ds ∷ ss) h =
      ap (cons_if (eqb b p.end) (judge_slot bd lim g p ds)) (tries-from (suc i) ss (λ k f s e es l q. h (suc k) f s e es (omega (arith, l)) q ∙ ap edges (let z : i + suc k ≡ suc i + k = omega arith in z)))
      ∙ cons_if-map (eqb b p.end) i (starting_at p.end (suc i) ss) (h zero a b c ds (omega arith) refl ∙ ap edges (add-zero i))

pub tries-are : (see : ℕ → Bool) {words : List ℕ} → Readable words → (lim : Limit) (g : View) (p : Path)
    → slot_tries base lim g (seen_in see words) p ≡ map (λ i. judge_slot base lim g p (edge_words base i words)) (starting_at p.end 0 (seen_in see words))
tries-are see {words} r lim g p =
    tries-from base lim g p (λ i. edge_words base i words) 0 (seen_in see words)
    (λ k f s e es l q. (readable-seen see r k (omega (arith, l, count-seen see words)) f s e es q).1 ∙ ap (λ (j : ℕ). edge_words base j words) (sym (zero-add k)))

-- ---- one record more is linked

first-in : (links : List ℕ) (n : ℕ) → n < NODES → first_link links n ≡ get_or links n 0
first-in links n h = cell_in links 0 NODES n h ∙ ap (λ (k : ℕ). get_or links k 0) (zero-add n)

-- what the code reads
pub first-known : (links : List ℕ) (n : ℕ) {v : ℕ} → n < NODES → v ≡ get_or links n 0 → v ≡ first_link links n
first-known links n h e = e ∙ sym (first-in links n h)

pub first-none : (links : List ℕ) (n : ℕ) → NODES ≤ n → 0 ≡ first_link links n
first-none links n h = sym (cell_out links 0 NODES n h)

pub next_known : (links : List ℕ) (i : ℕ) → i < RECORDS → get_or links (NEXT + i) 0 ≡ next_link links i
next_known links i h = sym (cell_in links NEXT RECORDS i h)

module _ (links : List ℕ) (long : length links ≡ LINKS) (i s : ℕ) (h : i < RECORDS) (b : s < NODES) where
  abbrev half : List ℕ
  half = set links (NEXT + i) (get_or links s 0)

  half-long : length half ≡ LINKS
  half-long = length-set links (NEXT + i) (get_or links s 0) ∙ long

  put-long : length (put_link i s links) ≡ LINKS
  unfolding put_link
  put-long = length-set half s (i + 1) ∙ half-long

  put_first : first_link (put_link i s links) s ≡ i + 1
  unfolding put_link
  put_first = first-in (set half s (i + 1)) s b ∙ get_or-set_same half s (i + 1) 0 (let z = half-long in omega (arith, z, b))

  put_other : (n : ℕ) → (n ≡ s → ⊥) → first_link (put_link i s links) n ≡ first_link links n
  unfolding put_link
  put_other n d = cell_other half 0 NODES n s (i + 1) (λ l q. d (omega (arith, q))) ∙ cell_other links 0 NODES n (NEXT + i) (get_or links s 0) (λ l q. omega (arith, l, q))

  put_next : next_link (put_link i s links) i ≡ first_link links s
  unfolding put_link
  put_next = cell_other half NEXT RECORDS i s (i + 1) (λ l q. omega (arith, b, q)) ∙ cell_same links NEXT RECORDS i (get_or links s 0) h (omega (arith, long, h)) ∙ sym (first-in links s b)

  put-later : (j : ℕ) → i < j → next_link (put_link i s links) j ≡ next_link links j
  unfolding put_link
  put-later j l = cell_other half NEXT RECORDS j s (i + 1) (λ m q. omega (arith, b, q)) ∙ cell_other links NEXT RECORDS j (NEXT + i) (get_or links s 0) (λ m q. omega (arith, l, q))

  -- later records are passed as before
  passes-later : (is : List ℕ) (link : ℕ) → Each (λ j. suc i ≤ j) is → Passes links link is → Passes (put_link i s links) link is
  passes-later [] link e p = p
  passes-later (j ∷ is) link e p = (p.0, subst (λ (x : ℕ). Passes (put_link i s links) x is) (sym (put-later j (omega (arith, e.0)))) (passes-later is (next_link links j) e.1 p.1))

  -- and record i in front of them, where it starts at the node
  passes-more : (n : ℕ) (is : List ℕ) → Each (λ j. suc i ≤ j) is → Passes links (first_link links n) is → Passes (put_link i s links) (first_link (put_link i s links) n) (cons_if (eqb s n) i is)
  passes-more n is e p = on (ℕ_discrete s n)
    where
      on : Dec (s ≡ n) → Passes (put_link i s links) (first_link (put_link i s links) n) (cons_if (eqb s n) i is)
      on (yes q) =
          rw (eq-eqb s n q)
          (ap (first_link (put_link i s links)) (sym q) ∙ put_first, subst (λ (x : ℕ). Passes (put_link i s links) x is) (sym (put_next ∙ ap (first_link links) q)) (passes-later is (first_link links n) e p))
      on (no q) = rw (ne_eqb s n q) (subst (λ (x : ℕ). Passes (put_link i s links) x is) (sym (put_other n (λ z. q (sym z)))) (passes-later is (first_link links n) e p))

module _ {db : List Slot} {links : List ℕ} (i : ℕ) (h : i < length db) (was : Linking db links (i + 1)) where
  -- slot i and those behind it
  from-here : drop i db ≡ get_or db i dead ∷ drop (suc i) db
  from-here = drop-cons db i dead h

  behind : (n : ℕ) → Passes links (first_link links n) (starting_at n (suc i) (drop (suc i) db))
  behind n = subst (λ (k : ℕ). Passes links (first_link links n) (starting_at n k (drop k db))) (add-one i) (was.passes n)

  -- a dead one is passed over
  pub slot-unlinked : get_or db i dead ≡ dead → Linking db links i
  unfolding starting_at
  slot-unlinked e = record { long = was.long; passes = λ n. rw (from-here, e) (behind n) }

  -- a live one goes in front of those with the same start
  pub slot-linked : (f s e : ℕ) (es : List ℕ) → get_or db i dead ≡ slot f s e es → i < RECORDS → s < NODES → Linking db (put_link i s links) i
  unfolding starting_at
  slot-linked f s e es q k b = record {
    long = put-long links was.long i s k b;
    passes = λ n. rw (from-here, q) (passes-more links was.long i s k b n (starting_at n (suc i) (drop (suc i) db)) (starting-above n (suc i) (drop (suc i) db)) (behind n));
  }

-- what the first word of a record says
pub tried-live : (see : ℕ → Bool) (w : ℕ) → is_tried see w ≡ true → (0 < w) × (sees_owner see (w - 1) ≡ true)
tried-live see w e = let a = and-true (ltb 0 w) (sees_owner see (w - 1)) e in (ltb-true 0 w a.0, a.1)

-- as the code asks it
pub told_tried : (see : ℕ → Bool) (words : List ℕ) (i : ℕ) {w : ℕ} {b x : Bool} → w ≡ owner_word base i words → b ≡ is_tried see w → b ≡ x → is_tried see (owner_word base i words) ≡ x
told_tried see words i e q t = ap (is_tried see) (sym e) ∙ sym q ∙ t

pub tried-start : (see : ℕ → Bool) {words : List ℕ} (r : Readable words) (i : ℕ) → i < used_in words → is_tried see (owner_word base i words) ≡ true → start_word base i words < NODES
tried-start see {words} r i h e = readable-start r i h (tried-live see (owner_word base i words) e).0

-- where no file is hidden, every owner that the words name is seen
owner-seen : (see : ℕ → Bool) (files f : ℕ) → known_owners files f ≡ true → ((k : ℕ) → k < files → see k ≡ true) → sees_owner see f ≡ true
owner-seen see files f known all = on (dec_lt f files)
  where
    on : Dec (f < files) → sees_owner see f ≡ true
    on (yes h) = rw (all f h) (or-true (eqb f nobody))
    on (no h) = rw (sym (ap (λ (b : Bool). or b (eqb f nobody)) (le-ltb f files (omega (arith, h)))) ∙ known)

pub shown : {words : List ℕ} (r : Readable words) (i : ℕ) → i < used_in words → {hides : Bool} (visible : List ℕ) → ShowsAll hides visible words
    → {w : ℕ} → w ≡ owner_word base i words → hides ≡ false → 0 < w → sees_owner (sees visible) (w - 1) ≡ true
shown {words} r i h {hides} visible all {w} e none l =
    let v = formed-live base known_owners words r.formed i (w - 1) h (sym e ∙ (let z : w ≡ suc (w - 1) = omega (arith, l) in z)) in
    owner-seen (sees visible) (files_in words) (w - 1) v.named (all none)

module _ (see : ℕ → Bool) (w : ℕ) where
  pub live-tried : 1 ≤ w → (0 < w → sees_owner see (w - 1) ≡ true) → true ≡ is_tried see w
  live-tried h all = simp (lt-ltb 0 w (omega (arith, h)), all (omega (arith, h)))

  pub none_tried : w < 1 → false ≡ is_tried see w
  none_tried h = simp (le-ltb 0 w (omega (arith, h)))

  pub nobody-tried : 1 ≤ w → w - 1 ≡ nobody → true ≡ is_tried see w
  nobody-tried h e = simp (lt-ltb 0 w (omega (arith, h)), eq-eqb (w - 1) nobody e)

  pub file-tried : 1 ≤ w → (w - 1 ≡ nobody → ⊥) → see (w - 1) ≡ is_tried see w
  file-tried h d = simp (lt-ltb 0 w (omega (arith, h)), ne_eqb (w - 1) nobody d)

module _ (see : ℕ → Bool) {words : List ℕ} (links : List ℕ) (r : Readable words) (i : ℕ) (h : i < used_in words) (was : LinkedFrom see words links (i + 1)) where
  in-slots : i < length (seen_in see words)
  in-slots = omega (arith, h, count-seen see words)

  pub linked-dead : is_tried see (owner_word base i words) ≡ false → LinkedFrom see words links i
  unfolding seen_slot slot_if
  linked-dead e = slot-unlinked i in-slots was (seen_at see words i ∙ on (dec_lt 0 (owner_word base i words)))
    where
      on : Dec (0 < owner_word base i words) → seen_slot see (get_or (slots_in base words) i dead) ≡ dead
      on (no l) = ap (seen_slot see) (slot-dead base i words h (omega (arith, l)))
      on (yes l) =
          let z : sees_owner see (owner_word base i words - 1) ≡ false = sym (ap (λ (b : Bool). and b (sees_owner see (owner_word base i words - 1))) (lt-ltb 0 (owner_word base i words) l)) ∙ e in
          ap (seen_slot see) (readable-slot r i h l) ∙ ap (λ (b : Bool). slot_if b (slot (owner_word base i words - 1) (start_word base i words) (end_word base i words) (edge_words base i words))) z

  pub linked-live : is_tried see (owner_word base i words) ≡ true → LinkedFrom see words (put_link i (start_word base i words) links) i
  unfolding seen_slot slot_if
  linked-live e =
      let l = tried-live see (owner_word base i words) e in
      slot-linked i in-slots was (owner_word base i words - 1) (start_word base i words) (end_word base i words) (edge_words base i words)
      (seen_at see words i ∙ ap (seen_slot see) (readable-slot r i h l.0) ∙ ap (λ (b : Bool). slot_if b (slot (owner_word base i words - 1) (start_word base i words) (end_word base i words) (edge_words base i words))) l.1)
      (omega (arith, h, readable-used r)) (readable-start r i h l.0)

-- ---- the loop

-- behind the last slot nothing is linked
pub linking-none : (db : List Slot) {links : List ℕ} → links ≡ zeros LINKS → (i : ℕ) → length db ≤ i → Linking db links i
unfolding starting_at
linking-none db {links} e i q = record {
  long = ap length e ∙ length-replicate {A = ℕ} LINKS 0;
  passes = λ n. rw (drop_of_length-le db {i = i} q) (none n (dec_lt n NODES));
}
  where
    none : (n : ℕ) → Dec (n < NODES) → first_link links n ≡ 0
    none n (yes l) = first-in links n l ∙ ap (λ (x : List ℕ). get_or x n 0) e ∙ get_or-replicate LINKS n 0 0 (omega (arith, l))
    none n (no l) = cell_out links 0 NODES n (omega (arith, l))

pub link_start : (see : ℕ → Bool) (words : List ℕ) {links : List ℕ} → links ≡ zeros LINKS → {i : ℕ} → i ≡ used_in words → LinkedFrom see words links i
link_start see words {links} e {i} q = linking-none (seen_in see words) e i (omega (arith, q, count-seen see words))

-- from number 0 on all are
pub linking-all : {db : List Slot} {links : List ℕ} {i : ℕ} → i ≤ 0 → Linking db links i → (n : ℕ) → Passes links (first_link links n) (starting_at n 0 db)
linking-all {db} {links} {i} h k n = let z : i ≡ 0 = omega (arith, h) in subst (λ (j : ℕ). Passes links (first_link links n) (starting_at n j (drop j db))) z (k.passes n)

pub link-end : (see : ℕ → Bool) {words : List ℕ} (links : List ℕ) → Readable words → (i : ℕ) → i ≤ 0 → LinkedFrom see words links i → Linked see words links
link-end see links r i h k = record { readable = r; long = k.long; passes = linking-all h k }

-- ---- following the links: 0 ends it, every other link is the next record plus 1

pub passes-end : (links is : List ℕ) → Passes links 0 is → is ≡ []
passes-end links [] r = refl
passes-end links (i ∷ is) r = absurd (omega (arith, r.0))

pub passes-next : (links : List ℕ) (link : ℕ) (is : List ℕ) → 0 < link → Passes links link is → (rest : List ℕ) × (is ≡ (link - 1) ∷ rest) × Passes links (next_link links (link - 1)) rest
passes-next links link [] h r = absurd (omega (arith, r))
passes-next links link (i ∷ is) h r =
    let z : i ≡ link - 1 = omega (arith, r.0) in
    (is, ap (λ (x : ℕ). x ∷ is) z, subst (λ (x : ℕ). Passes links (next_link links x) is) z r.1)

-- how many records are still passed, at most `most`: the measure of a loop over them
unfoldable pub to_pass : List ℕ → ℕ → ℕ → ℕ
to_pass links zero link = 0
to_pass links (suc most) link = pick (eqb link 0) 0 (suc (to_pass links most (next_link links (link - 1))))

passes_count : (links : List ℕ) (most link : ℕ) (is : List ℕ) → Passes links link is → length is ≤ most → to_pass links most link ≡ length is
unfolding to_pass
passes_count links zero link [] r h = refl
passes_count links zero link (i ∷ is) r h = absurd (omega (arith, h))
passes_count links (suc most) link [] r h = rw (eq-eqb link 0 r)
passes_count links (suc most) link (i ∷ is) r h =
    let z : link - 1 ≡ i = omega (arith, r.0) in
    rw (ne_eqb link 0 (λ q. omega (arith, q, r.0)), z) (ap suc (passes_count links most (next_link links i) is r.1 (omega (arith, h))))

abbrev pub left : List ℕ → ℕ → ℕ
left links link = to_pass links RECORDS link

pub left_less : (links : List ℕ) (link : ℕ) (is : List ℕ) → 0 < link → Passes links link is → length is ≤ RECORDS → left links (next_link links (link - 1)) < left links link
left_less links link is h r b =
    let n = passes-next links link is h r in
    let c : length is ≡ suc (length n.0) = ap length n.1 in
    let x : left links link ≡ length is = passes_count links RECORDS link is r b in
    let y : left links (next_link links (link - 1)) ≡ length n.0 = passes_count links RECORDS (next_link links (link - 1)) n.0 n.2 (omega (arith, b, c)) in
    omega (arith, c, x, y)
