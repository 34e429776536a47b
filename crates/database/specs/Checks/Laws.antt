-- 35 and 34, outcome by outcome, and what holds of words that meet neither. For every bound on edges and every choice of owners.
-- Serves document 01, "Turned back": 35 and 34.
use Rattle.std.specs.Prelude.{ℕ, zero, suc, ◌+◌, ◌-◌, ◌≤◌, ◌<◌, ◌≡◌, Bool, leb, get_or, drop, Result, Ok, Err}
use Rattle.std.proofs.Common.{not-suc-le-zero, le_of_suc-le-suc, mul-le-mul_left, le_trans, add-one, sym, ◌∙◌, subst, drop_of_length-le}
use Rattle.std.proofs.Math.Nat.{zero-div}
use native.Mathlib.Omega.{arith}
use Rattle.std.proofs.Math.Path.{refl, ap}
use Rattle.std.proofs.Math.Bool.{true, false}
use mathlib.Core.List.{List, [], ◌∷◌}
use borrow.Author.Tests.{ltb-true, ltb-false, leb-true, leb-false, lt-ltb, le-ltb, le-leb, lt-leb}
use Rattle.std.proofs.Math.Dec.{ltb}
use Rattle.std.proofs.Math.ListN.{length}
use Rattle.std.proofs.Math.Seq.{drop-cons}
use Rattle.semantics.specs.declared.refusal.DatabaseRefusal.{DatabaseRefusal}
use Rattle.semantics.specs.declared.refusal.DatabaseRefusal.TheVariants.{Malformed, Outgrown}
use Rattle.semantics.specs.Lists.{and, pick}
use Rattle.semantics.specs.Lists.Laws.{and-true}
use Rattle.semantics.specs.Limits.{Bounds, record_words}
use Rattle.semantics.specs.Answer.{Answer, ok, refuse, and_then, ok_if}
use Rattle.semantics.specs.Graph.{Graph}
use Rattle.semantics.specs.PartialPaths.{Slot, dead, slot}
use Rattle.semantics.specs.Words.{whole_slots}
use Rattle.semantics.specs.Words.Laws.{length-slots, whole-fits}
use Rattle.semantics.specs.Database.{used_in, nodes_in, files_in, capacity, records, slots_in, sound, every, well_formed, check_database, record_place}
use Rattle.database.specs.Records.{Whole, record_at, owner_word, start_word, end_word, count_word, edge_words}
use Rattle.database.specs.Records.Laws.{record-owner, record-start, record-count, record_is, slot-live}
use Rattle.database.specs.Checks.{Live, inspected}

-- ---- the capacity

module _ (bd : Bounds) (ws : List ℕ) where
  pub capacity-short : length ws < 3 → 0 ≡ capacity bd ws
  unfolding capacity
  capacity-short h =
      let q : length ws - 3 ≡ 0 = omega arith in
      let z : whole_slots (record_words bd) (length ws - 3) ≡ 0 = ap (whole_slots (record_words bd)) q ∙ zero-div (record_words bd) in
      rw z

  pub capacity-whole : whole_slots (record_words bd) (length ws - 3) < 4096 → whole_slots (record_words bd) (length ws - 3) ≡ capacity bd ws
  unfolding capacity
  capacity-whole h = rw (lt-ltb (whole_slots (record_words bd) (length ws - 3)) 4096 h)

  pub capacity-full : 4096 ≤ whole_slots (record_words bd) (length ws - 3) → 4096 ≡ capacity bd ws
  unfolding capacity
  capacity-full h = rw (le-ltb (whole_slots (record_words bd) (length ws - 3)) 4096 h)

  pub capacity-most : (capacity bd ws ≤ 4096) × (capacity bd ws ≤ whole_slots (record_words bd) (length ws - 3))
  unfolding capacity
  capacity-most = on (ltb (whole_slots (record_words bd) (length ws - 3)) 4096) refl
    where
      on : (b : Bool) → ltb (whole_slots (record_words bd) (length ws - 3)) 4096 ≡ b
          → (pick b (whole_slots (record_words bd) (length ws - 3)) 4096 ≤ 4096) × (pick b (whole_slots (record_words bd) (length ws - 3)) 4096 ≤ whole_slots (record_words bd) (length ws - 3))
      on true e = (omega (arith, ltb-true (whole_slots (record_words bd) (length ws - 3)) 4096 e), omega arith)
      on false e = (omega arith, ltb-false (whole_slots (record_words bd) (length ws - 3)) 4096 e)

  -- so many records lie in the words
  pub capacity-fits : (n : ℕ) → 3 ≤ length ws → n ≤ capacity bd ws → record_place bd n ≤ length ws
  capacity-fits n h g = omega (arith, whole-fits (record_words bd) (length ws - 3), mul-le-mul_left (record_words bd) (le_trans g capacity-most.1))

-- what is left of the capacity has room for n more
pub room-left : (n used most : ℕ) → used ≤ most → leb n (most - used) ≡ leb (used + n) most
room-left n used most h = on (leb (used + n) most) refl
  where
    on : (b : Bool) → leb (used + n) most ≡ b → leb n (most - used) ≡ leb (used + n) most
    on true e = le-leb n (most - used) (omega (arith, leb-true (used + n) most e)) ∙ sym e
    on false e = lt-leb n (most - used) (omega (arith, leb-false (used + n) most e)) ∙ sym e

-- ---- one record

module _ (bd : Bounds) (known : ℕ → ℕ → Bool) (nodes files : ℕ) where
  record-dead : (r : List ℕ) → get_or r 0 0 ≡ 0 → sound bd known nodes files r ≡ true
  unfolding sound
  record-dead [] e = refl
  record-dead (zero ∷ r) e = refl
  record-dead (suc f ∷ r) e = absurd (omega arith)

  record-live : (f : ℕ) {start count : ℕ} (r : List ℕ) → get_or r 0 0 ≡ suc f → get_or r 1 0 ≡ start → get_or r 3 0 ≡ count
      → sound bd known nodes files r ≡ and (known files f) (and (ltb start nodes) (and (leb 1 count) (leb count bd.edges)))
  unfolding sound
  record-live f [] e s n = absurd (omega arith)
  record-live f (zero ∷ r) e s n = absurd (omega arith)
  record-live f (suc w ∷ r) e s n = let q : w ≡ f = omega arith in rw (q, s, n)

  pub sound-dead : (i : ℕ) (ws : List ℕ) → owner_word bd i ws ≡ 0 → sound bd known nodes files (record_at bd i ws) ≡ true
  sound-dead i ws e = record-dead (record_at bd i ws) (record-owner bd i ws ∙ e)

  sound-live : (i f : ℕ) (ws : List ℕ) → owner_word bd i ws ≡ suc f
      → sound bd known nodes files (record_at bd i ws) ≡ and (known files f) (and (ltb (start_word bd i ws) nodes) (and (leb 1 (count_word bd i ws)) (leb (count_word bd i ws) bd.edges)))
  sound-live i f ws e = record-live f (record_at bd i ws) (record-owner bd i ws ∙ e) (record-start bd i ws) (record-count bd i ws)

  -- the three ways out for a live record
  pub sound-unknown : (i f : ℕ) (ws : List ℕ) → owner_word bd i ws ≡ suc f → known files f ≡ false → sound bd known nodes files (record_at bd i ws) ≡ false
  sound-unknown i f ws e k = sound-live i f ws e ∙ rw k

  pub sound-outside : (i f : ℕ) (ws : List ℕ) → owner_word bd i ws ≡ suc f → known files f ≡ true → nodes ≤ start_word bd i ws → sound bd known nodes files (record_at bd i ws) ≡ false
  sound-outside i f ws e k h = sound-live i f ws e ∙ rw (k, le-ltb (start_word bd i ws) nodes h)

  pub sound-counted : (i f : ℕ) (ws : List ℕ) → owner_word bd i ws ≡ suc f → known files f ≡ true → start_word bd i ws < nodes
      → sound bd known nodes files (record_at bd i ws) ≡ and (leb 1 (count_word bd i ws)) (leb (count_word bd i ws) bd.edges)
  sound-counted i f ws e k h = sound-live i f ws e ∙ rw (k, lt-ltb (start_word bd i ws) nodes h)

-- ---- the scan over all used records: what is left to test, and one more tested

module _ (test : List ℕ → Bool) (xs : List (List ℕ)) (i : ℕ) where
  every_first : i < length xs → every test (drop i xs) ≡ and (test (get_or xs i [])) (every test (drop (i + 1) xs))
  unfolding every
  every_first h = rw (add-one, drop-cons xs i [] h)

  pub every-passed : i < length xs → test (get_or xs i []) ≡ true → every test (drop (i + 1) xs) ≡ every test (drop i xs)
  every-passed h e = sym (every_first h ∙ ap (λ (b : Bool). and b (every test (drop (i + 1) xs))) e)

  pub every-failed : i < length xs → test (get_or xs i []) ≡ false → every test (drop i xs) ≡ false
  every-failed h e = every_first h ∙ ap (λ (b : Bool). and b (every test (drop (i + 1) xs))) e

  pub every-done : length xs ≤ i → every test (drop i xs) ≡ true
  unfolding every
  every-done h = rw (drop_of_length-le xs {i = i} h)

-- each of them
every-at : (test : List ℕ → Bool) (xs : List (List ℕ)) (i : ℕ) → every test xs ≡ true → i < length xs → test (get_or xs i []) ≡ true
unfolding every
every-at test [] i h l = absurd (not-suc-le-zero l)
every-at test (x ∷ xs) zero h l = (and-true (test x) (every test xs) h).0
every-at test (x ∷ xs) (suc i) h l = every-at test xs i (and-true (test x) (every test xs) h).1 (le_of_suc-le-suc l)

pub count-records : (bd : Bounds) (ws : List ℕ) → length (records bd ws) ≡ used_in ws
unfolding records
count-records bd ws = length-slots (record_words bd) (used_in ws) (drop 3 ws)

-- ---- all records: 35

module _ (bd : Bounds) (known : ℕ → ℕ → Bool) (ws : List ℕ) where
  pub formed-short : length ws < 3 → well_formed bd known ws ≡ false
  unfolding well_formed
  formed-short h = rw (lt-leb 3 (length ws) h)

  pub formed-over : capacity bd ws < used_in ws → well_formed bd known ws ≡ false
  unfolding well_formed
  formed-over h = on (leb 3 (length ws))
    where
      on : (b : Bool) → and b (and (leb (used_in ws) (capacity bd ws)) (every (sound bd known (nodes_in ws) (files_in ws)) (records bd ws))) ≡ false
      on true = rw (lt-leb (used_in ws) (capacity bd ws) h)
      on false = refl

  pub formed-rest : 3 ≤ length ws → used_in ws ≤ capacity bd ws → well_formed bd known ws ≡ every (sound bd known (nodes_in ws) (files_in ws)) (records bd ws)
  unfolding well_formed
  formed-rest h g = rw (le-leb 3 (length ws) h, le-leb (used_in ws) (capacity bd ws) g)

  pub whole : 3 ≤ length ws → used_in ws ≤ capacity bd ws → Whole bd ws
  whole h g = capacity-fits bd ws (used_in ws) h g

  -- words that do not meet 35
  module _ (formed : well_formed bd known ws ≡ true) where
    parts : (3 ≤ length ws) × (used_in ws ≤ capacity bd ws) × (every (sound bd known (nodes_in ws) (files_in ws)) (records bd ws) ≡ true)
    unfolding well_formed
    parts =
        let a = and-true (leb 3 (length ws)) _ formed in
        let b = and-true (leb (used_in ws) (capacity bd ws)) _ a.1 in
        (leb-true 3 (length ws) a.0, leb-true (used_in ws) (capacity bd ws) b.0, b.1)

    pub formed-used : used_in ws ≤ capacity bd ws
    formed-used = parts.1

    pub formed-whole : Whole bd ws
    formed-whole = whole parts.0 parts.1

    pub formed-sound : (i : ℕ) → i < used_in ws → sound bd known (nodes_in ws) (files_in ws) (record_at bd i ws) ≡ true
    formed-sound i h =
        subst (λ (r : List ℕ). sound bd known (nodes_in ws) (files_in ws) r ≡ true) (record_is bd i ws h)
        (every-at (sound bd known (nodes_in ws) (files_in ws)) (records bd ws) i parts.2 (omega (arith, count-records bd ws)))

    -- a live record has a known owner, starts at a node below N and has 1 to as many edges as the bound says
    pub formed-live : (i f : ℕ) → i < used_in ws → owner_word bd i ws ≡ suc f → Live bd known (nodes_in ws) (files_in ws) f (start_word bd i ws) (count_word bd i ws)
    formed-live i f h e =
        let n = count_word bd i ws in
        let a = and-true (known (files_in ws) f) _ (sym (sound-live bd known (nodes_in ws) (files_in ws) i f ws e) ∙ formed-sound i h) in
        let b = and-true (ltb (start_word bd i ws) (nodes_in ws)) _ a.1 in
        let d = and-true (leb 1 n) (leb n bd.edges) b.1 in
        record { named = a.0; starts = ltb-true (start_word bd i ws) (nodes_in ws) b.0; some = leb-true 1 n d.0; few = leb-true n bd.edges d.1 }

    -- so slot i is dead, or what the words of record i say
    pub formed-slot : (i f : ℕ) → i < used_in ws → owner_word bd i ws ≡ suc f → get_or (slots_in bd ws) i dead ≡ slot f (start_word bd i ws) (end_word bd i ws) (edge_words bd i ws)
    formed-slot i f h e = slot-live bd i ws f h e (formed-live i f h e).few

-- ---- the answer of the check: 35, then 34

module _ (bd : Bounds) (known : ℕ → ℕ → Bool) (g : Graph) (ws : List ℕ) where
  pub check-malformed : well_formed bd known ws ≡ false → Err Malformed ≡ inspected (check_database bd known g ws)
  unfolding inspected check_database ok_if
  check-malformed h = rw h

  pub check-nodes : well_formed bd known ws ≡ true → length g.nodes < nodes_in ws → Err Outgrown ≡ inspected (check_database bd known g ws)
  unfolding inspected check_database ok_if
  check-nodes h n = rw (h, lt-leb (nodes_in ws) (length g.nodes) n)

  pub check-files : well_formed bd known ws ≡ true → nodes_in ws ≤ length g.nodes → g.files < files_in ws → Err Outgrown ≡ inspected (check_database bd known g ws)
  unfolding inspected check_database ok_if
  check-files h n f = rw (h, le-leb (nodes_in ws) (length g.nodes) n, lt-leb (files_in ws) g.files f)

  pub check_sound : well_formed bd known ws ≡ true → nodes_in ws ≤ length g.nodes → files_in ws ≤ g.files → Ok tt ≡ inspected (check_database bd known g ws)
  unfolding inspected check_database ok_if
  check_sound h n f = rw (h, le-leb (nodes_in ws) (length g.nodes) n, le-leb (files_in ws) g.files f)

-- ---- what the answer tells a caller

refused-alike : (r x : DatabaseRefusal) → ◌≡◌ {A = Result (Unit {0}) DatabaseRefusal} (Err r) (Err x) → x ≡ r
refused-alike r x e = cc

never-sound : (r : DatabaseRefusal) → ◌≡◌ {A = Result (Unit {0}) DatabaseRefusal} (Err r) (Ok tt) → ⊥
never-sound r e = let z : ◌≡◌ {A = ℕ} 0 1 = cc in omega arith

told-refused : (r : DatabaseRefusal) (a : Answer DatabaseRefusal (List Slot)) → Err r ≡ inspected a → a ≡ refuse r
unfolding inspected
told-refused r (ok db) e = absurd (never-sound r e)
told-refused r (refuse x) e = ap refuse (refused-alike r x e)

told-sound : (ws : List ℕ) (db : List Slot) (formed fitting : Bool) → Ok tt ≡ inspected (and_then (ok_if formed Malformed ws) (λ x. ok_if fitting Outgrown db)) → (formed ≡ true) × (fitting ≡ true)
unfolding inspected ok_if
told-sound ws db true true e = (refl, refl)
told-sound ws db true false e = absurd (never-sound Outgrown (sym e))
told-sound ws db false fitting e = absurd (never-sound Malformed (sym e))

module _ (bd : Bounds) (known : ℕ → ℕ → Bool) (g : Graph) (ws : List ℕ) where
  -- the refusal
  pub inspected-refused : (r : DatabaseRefusal) → Err r ≡ inspected (check_database bd known g ws) → check_database bd known g ws ≡ refuse r
  inspected-refused r e = told-refused r (check_database bd known g ws) e

  -- that the words do not meet 35, and the slots
  pub inspected-sound : Ok tt ≡ inspected (check_database bd known g ws) → (well_formed bd known ws ≡ true) × (check_database bd known g ws ≡ ok (slots_in bd ws))
  unfolding check_database ok_if
  inspected-sound e =
      let t = told-sound ws (slots_in bd ws) (well_formed bd known ws) (and (leb (nodes_in ws) (length g.nodes)) (leb (files_in ws) g.files)) e in
      (t.0, rw (t.0, t.1))
