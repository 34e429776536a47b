-- What a compaction keeps: the live slots and their order, the area's length, that the words are a database, every partial path under its new number.
-- Document 02, order 7.
use Prim.Native.Nat.{ℕ, zero, suc, ◌+◌, ◌-◌, ◌*◌, ◌≤◌, ◌<◌}
use Rattle.std.proofs.Common.{arith, add-zero, zero-add, not-suc-le-zero, le_of_suc-le-suc, ◌∙◌, subst, ⊎_elim, true≢false, leb→le, le→leb, nltb→le}
use Rattle.std.proofs.Math.Nat.{mul-le-mul_left}
use Rattle.std.specs.Prelude.{◌≡◌, ◌⊎◌, Bool, not, get_or, take, drop, Err, Ok}
use Rattle.std.proofs.Math.Path.{refl, sym, ap}
use Rattle.std.proofs.Math.Logic.{inl, inr}
use Rattle.std.proofs.Math.Bool.{true, false}
use Rattle.std.proofs.lemmas.Bool.{false≢true}
use mathlib.Core.List.{List, [], ◌∷◌, ◌++◌, map, flatten, append-nil}
use Rattle.std.proofs.Math.Dec.{leb, ltb}
use Rattle.std.proofs.Math.ListN.{length, length-append, length-replicate, length-drop, get_or-append, get_or-map}
use Rattle.semantics.specs.Lists.{pick, cons_if}
use Rattle.semantics.specs.Lists.Laws.{and-true, eq→T, T→eq}
use Rattle.semantics.specs.Limits.{Bounds, record_words}
use Rattle.semantics.specs.Graph.{Graph}
use Rattle.semantics.specs.PartialPaths.{Slot, dead, only_live, SameLive}
use Rattle.semantics.proofs.Theorems.PartialPaths.Laws.{live-again}
use Rattle.semantics.specs.Words.{zeros, slots_of}
use Rattle.semantics.specs.Words.Laws.{length-slots}
use Rattle.semantics.specs.Database.{used_in, nodes_in, files_in, capacity, decode, records, slots_in, sound, every, well_formed, edges_part, record_place, lookup_part, words_of}
use Rattle.semantics.specs.Database.Laws.{AllLong, slots-flatten, slots-long, slots-none, length-packed, same-capacity, whole-records}
use Rattle.semantics.specs.Database.Checked.{Checked}
use Rattle.semantics.specs.Database.Lookup.{slot_edges, lookup-at, lookup-edges}
use Rattle.semantics.specs.Database.Compaction.{is_live, live_of, live_in, live_count, new_number, renumbered, compact_words, Compacted, uncompacted, compact_call}
use Rattle.semantics.specs.declared.answer.CompactionRefusal.{CompactionRefusal}

-- THE LIVE RECORDS
decode-live : (xs : List (List ℕ)) → map decode (live_of xs) ≡ only_live (map decode xs)
unfolding live_of is_live decode only_live
decode-live [] = refl
decode-live ([] ∷ xs) = decode-live xs
decode-live ((zero ∷ x) ∷ xs) = decode-live xs
decode-live ((suc f ∷ x) ∷ xs) = ap (λ (l : List Slot). decode (suc f ∷ x) ∷ l) (decode-live xs)

pub live-long : (L : ℕ) (xs : List (List ℕ)) → AllLong L xs → AllLong L (live_of xs)
unfolding live_of is_live
live-long L [] h = tt
live-long L ([] ∷ xs) h = live-long L xs h.1
live-long L ((zero ∷ x) ∷ xs) h = live-long L xs h.1
live-long L ((suc f ∷ x) ∷ xs) h = (h.0, live-long L xs h.1)

pub live-fewer : (xs : List (List ℕ)) → length (live_of xs) ≤ length xs
unfolding live_of is_live
live-fewer [] = omega arith
live-fewer ([] ∷ xs) = omega (arith, live-fewer xs)
live-fewer ((zero ∷ x) ∷ xs) = omega (arith, live-fewer xs)
live-fewer ((suc f ∷ x) ∷ xs) = omega (arith, live-fewer xs)

every-live : (t : List ℕ → Bool) (xs : List (List ℕ)) → every t xs ≡ true → every t (live_of xs) ≡ true
unfolding every live_of is_live
every-live t [] h = refl
every-live t ([] ∷ xs) h = every-live t xs (and-true (t []) _ h).1
every-live t ((zero ∷ x) ∷ xs) h = every-live t xs (and-true (t (zero ∷ x)) _ h).1
every-live t ((suc f ∷ x) ∷ xs) h = let k = and-true (t (suc f ∷ x)) (every t xs) h in rw k.0 (every-live t xs k.1)

pub few-live : (bd : Bounds) (ws : List ℕ) → live_count bd ws ≤ used_in ws
unfolding records
few-live bd ws = omega (arith, live-fewer (slots_of (record_words bd) (used_in ws) (drop 3 ws)), length-slots (record_words bd) (used_in ws) (drop 3 ws))

-- THE WORDS AFTER IT, of a database that does not meet 35
module _ (bd : Bounds) (known : ℕ → ℕ → Bool) (ws : List ℕ) (good : well_formed bd known ws ≡ true) where
  parts : (leb 3 (length ws) ≡ true) × (leb (used_in ws) (capacity bd ws) ≡ true) × (every (sound bd known (nodes_in ws) (files_in ws)) (records bd ws) ≡ true)
  unfolding well_formed
  parts = let a = and-true (leb 3 (length ws)) _ good in let b = and-true (leb (used_in ws) (capacity bd ws)) _ a.1 in (a.0, b.0, b.1)

  within-capacity : used_in ws ≤ capacity bd ws
  within-capacity = leb→le (used_in ws) (capacity bd ws) (eq→T _ parts.1)

  whole : record_words bd * used_in ws ≤ length (drop 3 ws)
  whole = whole-records bd ws within-capacity

  three : 3 ≤ length ws
  three = leb→le 3 (length ws) (eq→T _ parts.0)

  long : AllLong (record_words bd) (live_in bd ws)
  unfolding records
  long = live-long (record_words bd) (slots_of (record_words bd) (used_in ws) (drop 3 ws)) (slots-long (record_words bd) (used_in ws) (drop 3 ws) whole)

  freed : List ℕ
  freed = zeros (record_words bd * used_in ws - record_words bd * live_count bd ws)

  behind : List ℕ
  behind = drop (record_words bd * used_in ws) (drop 3 ws)

  pub compact-records : records bd (compact_words bd ws) ≡ live_in bd ws
  unfolding records compact_words freed behind
  compact-records =
      let L = record_words bd in
      let live : List (List ℕ) = live_of (slots_of L (used_in ws) (drop 3 ws)) in
      ap (λ n. slots_of L n (flatten live ++ (freed ++ behind))) (sym (add-zero (length live)))
      ∙ slots-flatten L 0 live (freed ++ behind) long
      ∙ ap (λ (w : List (List ℕ)). live ++ w) (slots-none L (freed ++ behind))
      ∙ append-nil live

  -- the slots are the live ones, in their old order
  pub compact-slots : slots_in bd (compact_words bd ws) ≡ only_live (slots_in bd ws)
  unfolding slots_in
  compact-slots = ap (map decode) compact-records ∙ decode-live (records bd ws)

  -- the area keeps its length
  pub compact-length : length (compact_words bd ws) ≡ length ws
  unfolding compact_words freed behind
  compact-length =
      let L = record_words bd in
      let front : List ℕ = flatten (live_in bd ws) in
      let a : length front ≡ L * live_count bd ws = length-packed L (live_in bd ws) long in
      let z : length freed ≡ L * used_in ws - L * live_count bd ws = length-replicate (L * used_in ws - L * live_count bd ws) 0 in
      let r : length behind ≡ length (drop 3 ws) - L * used_in ws = length-drop (L * used_in ws) (drop 3 ws) in
      let d : length (drop 3 ws) ≡ length ws - 3 = length-drop 3 ws in
      let e : length (front ++ (freed ++ behind)) ≡ length front + (length freed + length behind) = length-append front (freed ++ behind) ∙ ap (λ n. length front + n) (length-append freed behind) in
      let m : L * live_count bd ws ≤ L * used_in ws = mul-le-mul_left L (few-live bd ws) in
      omega (arith, a, z, r, d, e, m, whole, three)

  pub compact-capacity : capacity bd (compact_words bd ws) ≡ capacity bd ws
  compact-capacity = same-capacity bd (compact_words bd ws) ws compact-length

  pub compact-used : used_in (compact_words bd ws) ≡ live_count bd ws
  unfolding compact_words
  compact-used = refl

  pub compact-nodes : nodes_in (compact_words bd ws) ≡ nodes_in ws
  unfolding compact_words
  compact-nodes = refl

  pub compact-files : files_in (compact_words bd ws) ≡ files_in ws
  unfolding compact_words
  compact-files = refl

  -- no 35 after it
  pub compact-good : well_formed bd known (compact_words bd ws) ≡ true
  unfolding well_formed
  compact-good =
      let w : List ℕ = compact_words bd ws in
      let a : leb 3 (length w) ≡ true = ap (leb 3) compact-length ∙ parts.0 in
      let u : leb (used_in w) (capacity bd w) ≡ true = T→eq _ (le→leb (used_in w) (capacity bd w) (omega (arith, compact-used, compact-capacity, few-live bd ws, within-capacity))) in
      let e : every (sound bd known (nodes_in w) (files_in w)) (records bd w) ≡ true =
      ap (λ n. every (sound bd known n (files_in w)) (records bd w)) compact-nodes
      ∙ ap (λ n. every (sound bd known (nodes_in ws) n) (records bd w)) compact-files
      ∙ ap (every (sound bd known (nodes_in ws) (files_in ws))) compact-records
      ∙ every-live (sound bd known (nodes_in ws) (files_in ws)) (records bd ws) parts.2 in
      rw (a, u, e)

-- THE NUMBERS: a live record i has the new number k, how many live ones stand before it
live_at : (xs : List (List ℕ)) (i : ℕ) → i < length xs → is_live (get_or xs i []) ≡ true → get_or (live_of xs) (length (live_of (take i xs))) [] ≡ get_or xs i []
unfolding live_of
live_at [] i h b = absurd (not-suc-le-zero h)
live_at (x ∷ xs) zero h b = rw b
live_at (x ∷ xs) (suc i) h b = on (is_live x) (live_at xs i (le_of_suc-le-suc h) b)
  where
    on : (t : Bool) → get_or (live_of xs) (length (live_of (take i xs))) [] ≡ get_or xs i [] → get_or (cons_if t x (live_of xs)) (length (cons_if t x (live_of (take i xs)))) [] ≡ get_or xs i []
    on true ih = ih
    on false ih = ih

live-less : (xs : List (List ℕ)) (i : ℕ) → i < length xs → is_live (get_or xs i []) ≡ true → length (live_of (take i xs)) < length (live_of xs)
unfolding live_of
live-less [] i h b = absurd (not-suc-le-zero h)
live-less (x ∷ xs) zero h b = rw b (omega arith)
live-less (x ∷ xs) (suc i) h b = on (is_live x) (live-less xs i (le_of_suc-le-suc h) b)
  where
    on : (t : Bool) → length (live_of (take i xs)) < length (live_of xs) → length (cons_if t x (live_of (take i xs))) < length (cons_if t x (live_of xs))
    on true ih = omega (arith, ih)
    on false ih = ih

live-ascending : (xs : List (List ℕ)) (i j : ℕ) → i < j → i < length xs → is_live (get_or xs i []) ≡ true → length (live_of (take i xs)) < length (live_of (take j xs))
unfolding live_of
live-ascending xs i zero l h b = absurd (not-suc-le-zero l)
live-ascending [] i (suc j) l h b = absurd (not-suc-le-zero h)
live-ascending (x ∷ xs) zero (suc j) l h b = rw b (omega arith)
live-ascending (x ∷ xs) (suc i) (suc j) l h b = on (is_live x) (live-ascending xs i j (le_of_suc-le-suc l) (le_of_suc-le-suc h) b)
  where
    on : (t : Bool) → length (live_of (take i xs)) < length (live_of (take j xs)) → length (cons_if t x (live_of (take i xs))) < length (cons_if t x (live_of (take j xs)))
    on true ih = omega (arith, ih)
    on false ih = ih

-- the record that gets the number k
live-with : (xs : List (List ℕ)) (k : ℕ) → k < length (live_of xs) → (i : ℕ) × (i < length xs) × (is_live (get_or xs i []) ≡ true) × (length (live_of (take i xs)) ≡ k)
unfolding live_of
live-with [] k h = absurd (not-suc-le-zero h)
live-with (x ∷ xs) k h = on (is_live x) refl k h (λ j l. live-with xs j l)
  where
    on : (t : Bool) → is_live x ≡ t → (k : ℕ) → k < length (cons_if t x (live_of xs)) → ((j : ℕ) → j < length (live_of xs) → (i : ℕ) × (i < length xs) × (is_live (get_or xs i []) ≡ true) × (length (live_of (take i xs)) ≡ j))
        → (i : ℕ) × (i < suc (length xs)) × (is_live (get_or (x ∷ xs) i []) ≡ true) × (length (live_of (take i (x ∷ xs))) ≡ k)
    on true e zero l ih = (0, omega arith, e, refl)
    on true e (suc k) l ih = let r = ih k (le_of_suc-le-suc l) in (suc r.0, omega (arith, r.1), r.2, rw e (ap suc r.3))
    on false e k l ih = let r = ih k l in (suc r.0, omega (arith, r.1), r.2, rw e r.3)

pair-at : (n k : ℕ) (xs : List (List ℕ)) (i : ℕ) → i < length xs → is_live (get_or xs i []) ≡ true
    → (get_or (renumbered n k xs) (2 * length (live_of (take i xs))) 0 ≡ n + i) × (get_or (renumbered n k xs) (2 * length (live_of (take i xs)) + 1) 0 ≡ k + length (live_of (take i xs)))
unfolding renumbered live_of is_live
pair-at n k [] i h b = absurd (not-suc-le-zero h)
pair-at n k ([] ∷ xs) zero h b = absurd (false≢true b)
pair-at n k ((zero ∷ x) ∷ xs) zero h b = absurd (false≢true b)
pair-at n k ((suc f ∷ x) ∷ xs) zero h b = (sym (add-zero n), sym (add-zero k))
pair-at n k ([] ∷ xs) (suc i) h b = let r = pair-at (suc n) k xs i (le_of_suc-le-suc h) b in let u : suc n + i ≡ n + suc i = omega arith in (r.0 ∙ u, r.1)
pair-at n k ((zero ∷ x) ∷ xs) (suc i) h b = let r = pair-at (suc n) k xs i (le_of_suc-le-suc h) b in let u : suc n + i ≡ n + suc i = omega arith in (r.0 ∙ u, r.1)
pair-at n k ((suc f ∷ x) ∷ xs) (suc i) h b =
    let m : ℕ = length (live_of (take i xs)) in
    let l : List ℕ = renumbered (suc n) (suc k) xs in
    let r = pair-at (suc n) (suc k) xs i (le_of_suc-le-suc h) b in
    let p : 2 * suc m ≡ suc (suc (2 * m)) = omega arith in
    let q : 2 * suc m + 1 ≡ suc (suc (2 * m + 1)) = omega arith in
    let u : suc n + i ≡ n + suc i = omega arith in
    let v : suc k + m ≡ k + suc m = omega arith in
    (ap (λ j. get_or (n ∷ k ∷ l) j 0) p ∙ r.0 ∙ u, ap (λ j. get_or (n ∷ k ∷ l) j 0) q ∙ r.1 ∙ v)

pub length-renumbered : (i k : ℕ) (xs : List (List ℕ)) → length (renumbered i k xs) ≡ 2 * length (live_of xs)
unfolding renumbered live_of is_live
length-renumbered i k [] = refl
length-renumbered i k ([] ∷ xs) = length-renumbered (suc i) k xs
length-renumbered i k ((zero ∷ y) ∷ xs) = length-renumbered (suc i) k xs
length-renumbered i k ((suc f ∷ y) ∷ xs) = omega (arith, length-renumbered (suc i) (suc k) xs)

-- record i is used and live
pub record LiveAt (bd : Bounds) (ws : List ℕ) (i : ℕ) : Type 0 where
  pub used : i < used_in ws
  pub alive : is_live (get_or (records bd ws) i []) ≡ true

count-records : (bd : Bounds) (ws : List ℕ) → length (records bd ws) ≡ used_in ws
unfolding records
count-records bd ws = length-slots (record_words bd) (used_in ws) (drop 3 ws)

module _ (bd : Bounds) (ws : List ℕ) where
  there : (i : ℕ) → LiveAt bd ws i → i < length (records bd ws)
  there i a = omega (arith, a.used, count-records bd ws)

  -- the new numbers are those below the number of live slots, in the order of the old ones
  pub number-less : (i : ℕ) → LiveAt bd ws i → new_number bd i ws < live_count bd ws
  number-less i a = live-less (records bd ws) i (there i a) a.alive

  pub number-ascending : (i j : ℕ) → LiveAt bd ws i → i < j → new_number bd i ws < new_number bd j ws
  number-ascending i j a l = live-ascending (records bd ws) i j l (there i a) a.alive

  pub number-of-one : (k : ℕ) → k < live_count bd ws → (i : ℕ) × LiveAt bd ws i × (new_number bd i ws ≡ k)
  number-of-one k h = let r = live-with (records bd ws) k h in (r.0, record { used = omega (arith, r.1, count-records bd ws); alive = r.2 }, r.3)

-- THE CALL
-- what an unrefused one leaves
pub record Compacts (bd : Bounds) (known : ℕ → ℕ → Bool) (ws : List ℕ) (len n : ℕ) : Type 0 where
  pub formed : well_formed bd known ws ≡ true
  pub room : 2 * live_count bd ws ≤ len
  pub live : n ≡ live_count bd ws
  pub words : (compact_call bd known ws len).database ≡ compact_words bd ws
  pub listed : (compact_call bd known ws len).list ≡ renumbered 0 0 (records bd ws) ++ zeros (len - 2 * live_count bd ws)

module _ (bd : Bounds) (known : ℕ → ℕ → Bool) (ws : List ℕ) (len : ℕ) where
  compacted : Compacted
  compacted = record { answer = Ok (live_count bd ws); database = compact_words bd ws; list = renumbered 0 0 (records bd ws) ++ zeros (len - 2 * live_count bd ws) }

  by_tests : Bool → Bool → Compacted
  by_tests b c = pick (not b) (uncompacted (Err CompactionRefusal.Malformed) ws len) (pick c (uncompacted (Err CompactionRefusal.ListTooShort) ws len) compacted)

  call-is : (b c : Bool) → well_formed bd known ws ≡ b → ltb len (2 * live_count bd ws) ≡ c → compact_call bd known ws len ≡ by_tests b c
  unfolding compact_call by_tests compacted
  call-is b c e f = rw (e, f)

  pub compact-done : (n : ℕ) → (compact_call bd known ws len).answer ≡ Ok n → Compacts bd known ws len n
  unfolding by_tests compacted
  compact-done n d = on (well_formed bd known ws) (ltb len (2 * live_count bd ws)) refl refl
    where
      told : (b c : Bool) → compact_call bd known ws len ≡ by_tests b c → (by_tests b c).answer ≡ Ok n
      told b c e = sym (ap (λ (o : Compacted). o.answer) e) ∙ d

      on : (b c : Bool) → well_formed bd known ws ≡ b → ltb len (2 * live_count bd ws) ≡ c → Compacts bd known ws len n
      on false c e f = let k = told false c (call-is false c e f) in absurd (let z : ◌≡◌ {A = Bool} true false = cc in true≢false z)
      on true true e f = let k = told true true (call-is true true e f) in absurd (let z : ◌≡◌ {A = Bool} true false = cc in true≢false z)
      on true false e f =
          let k = call-is true false e f in
          let t = told true false k in
          record {
            formed = e;
            room = nltb→le len (2 * live_count bd ws) (eq→T (not (ltb len (2 * live_count bd ws))) (ap not f));
            live = cc;
            words = ap (λ (o : Compacted). o.database) k;
            listed = ap (λ (o : Compacted). o.list) k;
          }

  -- the words stay as they are, or are those of an unrefused call
  pub compact-either : ((compact_call bd known ws len).database ≡ ws) ⊎ ((well_formed bd known ws ≡ true) × ((compact_call bd known ws len).database ≡ compact_words bd ws))
  unfolding by_tests compacted
  compact-either = on (well_formed bd known ws) (ltb len (2 * live_count bd ws)) refl refl
    where
      on : (b c : Bool) → well_formed bd known ws ≡ b → ltb len (2 * live_count bd ws) ≡ c → ((compact_call bd known ws len).database ≡ ws) ⊎ ((well_formed bd known ws ≡ true) × ((compact_call bd known ws len).database ≡ compact_words bd ws))
      on false c e f = inl (ap (λ (o : Compacted). o.database) (call-is false c e f))
      on true true e f = inl (ap (λ (o : Compacted). o.database) (call-is true true e f))
      on true false e f = inr (e, ap (λ (o : Compacted). o.database) (call-is true false e f))

  -- THE SAME SLOTS ARE LIVE, IN THE SAME ORDER, whatever the call answers
  pub compact-live : SameLive (slots_in bd ws) (slots_in bd (compact_call bd known ws len).database)
  compact-live = ⊎_elim
      (λ (e : (compact_call bd known ws len).database ≡ ws). ap (λ (w : List ℕ). only_live (slots_in bd w)) (sym e))
      (λ (p : (well_formed bd known ws ≡ true) × ((compact_call bd known ws len).database ≡ compact_words bd ws)). sym (ap (λ (w : List ℕ). only_live (slots_in bd w)) p.1 ∙ ap only_live (compact-slots bd known ws p.0) ∙ live-again (slots_in bd ws)))
      compact-either

  -- 35 and 34 are met by the words after it exactly when they are met before it
  pub compact-formed : well_formed bd known (compact_call bd known ws len).database ≡ well_formed bd known ws
  compact-formed = ⊎_elim
      (λ (e : (compact_call bd known ws len).database ≡ ws). ap (well_formed bd known) e)
      (λ (p : (well_formed bd known ws ≡ true) × ((compact_call bd known ws len).database ≡ compact_words bd ws)). ap (well_formed bd known) p.1 ∙ compact-good bd known ws p.0 ∙ sym p.0)
      compact-either

  pub same_nodes : nodes_in (compact_call bd known ws len).database ≡ nodes_in ws
  same_nodes = ⊎_elim
      (λ (e : (compact_call bd known ws len).database ≡ ws). ap nodes_in e)
      (λ (p : (well_formed bd known ws ≡ true) × ((compact_call bd known ws len).database ≡ compact_words bd ws)). ap nodes_in p.1 ∙ compact-nodes bd known ws p.0)
      compact-either

  pub same-files : files_in (compact_call bd known ws len).database ≡ files_in ws
  same-files = ⊎_elim
      (λ (e : (compact_call bd known ws len).database ≡ ws). ap files_in e)
      (λ (p : (well_formed bd known ws ≡ true) × ((compact_call bd known ws len).database ≡ compact_words bd ws)). ap files_in p.1 ∙ compact-files bd known ws p.0)
      compact-either

-- THE LIST AND THE LOOKUP
slot_at : (bd : Bounds) (ws : List ℕ) (i : ℕ) → get_or (slots_in bd ws) i dead ≡ decode (get_or (records bd ws) i [])
unfolding slots_in decode
slot_at bd ws i = get_or-map decode (records bd ws) i []

module _ (bd : Bounds) (known : ℕ → ℕ → Bool) (ws : List ℕ) (len n : ℕ) (done : (compact_call bd known ws len).answer ≡ Ok n) where
  c : Compacts bd known ws len n
  c = compact-done bd known ws len n done

  in_list : (m : ℕ) → m < 2 * live_count bd ws → get_or (compact_call bd known ws len).list m 0 ≡ get_or (renumbered 0 0 (records bd ws)) m 0
  in_list m h =
      ap (λ (l : List ℕ). get_or l m 0) c.listed
      ∙ get_or-append (renumbered 0 0 (records bd ws)) (zeros (len - 2 * live_count bd ws)) 0 m (omega (arith, h, length-renumbered 0 0 (records bd ws)))

  module _ (i : ℕ) (a : LiveAt bd ws i) where
    -- the pair of numbers of a live slot stands in the list, at twice its new number
    pub compact-listed : (get_or (compact_call bd known ws len).list (2 * new_number bd i ws) 0 ≡ i) × (get_or (compact_call bd known ws len).list (2 * new_number bd i ws + 1) 0 ≡ new_number bd i ws)
    compact-listed =
        let r = pair-at 0 0 (records bd ws) i (there bd ws i a) a.alive in
        let l = number-less bd ws i a in
        (in_list (2 * new_number bd i ws) (omega (arith, l)) ∙ r.0 ∙ zero-add i, in_list (2 * new_number bd i ws + 1) (omega (arith, l)) ∙ r.1 ∙ zero-add (new_number bd i ws))

    -- the record with the new number is that record, every word of it
    pub compact-moved : get_or (records bd (compact_call bd known ws len).database) (new_number bd i ws) [] ≡ get_or (records bd ws) i []
    compact-moved =
        ap (λ (w : List ℕ). get_or (records bd w) (new_number bd i ws) []) c.words
        ∙ ap (λ (l : List (List ℕ)). get_or l (new_number bd i ws) []) (compact-records bd known ws c.formed)
        ∙ live_at (records bd ws) i (there bd ws i a) a.alive

    used-after : new_number bd i ws < used_in (compact_call bd known ws len).database
    used-after = omega (arith, ap used_in c.words, compact-used bd known ws c.formed, number-less bd ws i a)

    formed-after : well_formed bd known (compact_call bd known ws len).database ≡ true
    formed-after = compact-formed bd known ws len ∙ c.formed

    -- A LOOKUP OF THE NEW NUMBER gives the part of that record which a lookup of the old one gave, at its new place
    pub compact-lookup : (lookup_part bd known i ws ≡ edges_part (record_place bd i) (get_or (records bd ws) i []))
        × (lookup_part bd known (new_number bd i ws) (compact_call bd known ws len).database ≡ edges_part (record_place bd (new_number bd i ws)) (get_or (records bd ws) i []))
    compact-lookup = (
      lookup-at bd known i ws c.formed a.used,
      lookup-at bd known (new_number bd i ws) (compact_call bd known ws len).database formed-after used-after ∙ ap (edges_part (record_place bd (new_number bd i ws))) compact-moved,
    )

    -- and the same edges
    pub compact-edges : words_of (lookup_part bd known (new_number bd i ws) (compact_call bd known ws len).database) (compact_call bd known ws len).database ≡ words_of (lookup_part bd known i ws) ws
    compact-edges =
        lookup-edges bd known (new_number bd i ws) (compact_call bd known ws len).database formed-after used-after
        ∙ ap slot_edges (slot_at bd (compact_call bd known ws len).database (new_number bd i ws) ∙ ap decode compact-moved ∙ sym (slot_at bd ws i))
        ∙ sym (lookup-edges bd known i ws c.formed a.used)

-- the part is as long wherever the record stands
pub part-long : (at r : ℕ) (x : List ℕ) → (edges_part at x).up_to - (edges_part at x).from ≡ (edges_part r x).up_to - (edges_part r x).from
unfolding edges_part
part-long at r [] = refl
part-long at r (zero ∷ x) = refl
part-long at r (suc f ∷ x) = omega arith

-- words that meet neither 35 nor 34 after it met neither before it
pub compact-checked : (bd : Bounds) (known : ℕ → ℕ → Bool) (g : Graph) (ws : List ℕ) (len : ℕ) → Checked bd known g (compact_call bd known ws len).database → Checked bd known g ws
compact-checked bd known g ws len k = ⊎_elim
    (λ (e : (compact_call bd known ws len).database ≡ ws). subst (λ (w : List ℕ). Checked bd known g w) e k)
    (λ (p : (well_formed bd known ws ≡ true) × ((compact_call bd known ws len).database ≡ compact_words bd ws)). record {
      long = three bd known ws p.0;
      used = within-capacity bd known ws p.0;
      sounds = (parts bd known ws p.0).2;
      nodes = subst (λ m. m ≤ length g.nodes) (same_nodes bd known ws len) k.nodes;
      files = subst (λ m. m ≤ g.files) (same-files bd known ws len) k.files;
    })
    (compact-either bd known ws len)
