-- A lookup hands back the edges of the slot with that number, and an empty part where there is none.
-- Document 01, "Partial paths": "A lookup by number hands back the part of the caller's words that holds those edges".
use Rattle.std.specs.Prelude.{ℕ, zero, suc, ◌+◌, ◌*◌, ◌≤◌, ◌<◌, ◌≡◌, Bool, false, leb, length}
use Rattle.std.proofs.Common.{not-suc-le-zero, le_of_suc-le-suc, ◌∙◌, lt→ltb, take-take, drop-drop}
use native.Mathlib.Omega.{arith}
use Rattle.std.proofs.Math.Path.{refl, sym, ap, subst}
use Rattle.std.proofs.Math.Bool.{true}
use mathlib.Core.List.{List, [], ◌∷◌, map}
use Rattle.std.proofs.Math.Dec.{ltb, leb→le}
use Rattle.std.proofs.Math.ListN.{get_or, take, drop, get_or-map}
use Rattle.semantics.specs.Lists.{and}
use Rattle.semantics.specs.Lists.Laws.{T→eq, eq→T, and-true}
use Rattle.semantics.specs.Limits.{Bounds, record_words}
use Rattle.semantics.specs.PartialPaths.{Slot, dead, slot}
use Rattle.semantics.specs.Words.Laws.{length-slots, get_or-slots, drop-take}
use Rattle.semantics.specs.Database.{used_in, nodes_in, files_in, capacity, decode, records, slots_in, sound, every, well_formed, empty_part, edges_part, part_if, record_place, lookup_part, words_of}

-- the edges that a slot holds
unfoldable pub slot_edges : Slot → List ℕ
slot_edges dead = []
slot_edges (slot owner start end edges) = edges

every-at : (test : List ℕ → Bool) (xs : List (List ℕ)) (i : ℕ) → every test xs ≡ true → i < length xs → test (get_or xs i []) ≡ true
unfolding every
every-at test [] i h l = absurd (not-suc-le-zero l)
every-at test (x ∷ xs) zero h l = (and-true (test x) (every test xs) h).0
every-at test (x ∷ xs) (suc i) h l = every-at test xs i (and-true (test x) (every test xs) h).1 (le_of_suc-le-suc l)

module _ (bd : Bounds) (known : ℕ → ℕ → Bool) (i : ℕ) (ws : List ℕ) where
  -- record i, as the words hold it
  record-at : List ℕ
  record-at = take (record_words bd) (drop (record_place bd i) ws)

  record_is : i < used_in ws → get_or (records bd ws) i [] ≡ record-at
  unfolding records record-at
  record_is h = get_or-slots (record_words bd) (used_in ws) i (drop 3 ws) h ∙ ap (take (record_words bd)) (drop-drop (record_words bd * i) 3 ws)

  sound-at : well_formed bd known ws ≡ true → i < used_in ws → sound bd known (nodes_in ws) (files_in ws) record-at ≡ true
  unfolding well_formed records
  sound-at w h =
      let a = and-true (leb 3 (length ws)) _ w in
      let c = and-true (leb (used_in ws) (capacity bd ws)) _ a.1 in
      subst (λ r. sound bd known (nodes_in ws) (files_in ws) r ≡ true) (record_is h)
      (every-at (sound bd known (nodes_in ws) (files_in ws)) (records bd ws) i c.1 (subst (λ n. i < n) (sym (length-slots (record_words bd) (used_in ws) (drop 3 ws))) h))

  -- the edges of a sound record stand in the words four places behind its start
  edges_at : (r : List ℕ) → r ≡ record-at → sound bd known (nodes_in ws) (files_in ws) r ≡ true → words_of (edges_part (record_place bd i) r) ws ≡ slot_edges (decode r)
  unfolding sound edges_part decode slot_edges record-at
  edges_at [] e s = refl
  edges_at (zero ∷ r) e s = refl
  edges_at (suc f ∷ r) e s =
      let n = get_or r 2 0 in
      let at = record_place bd i in
      let a = and-true (known (files_in ws) f) _ s in
      let c = and-true (ltb (get_or r 0 0) (nodes_in ws)) _ a.1 in
      let d = and-true (leb 1 n) (leb n bd.edges) c.1 in
      let l : n ≤ bd.edges = leb→le n bd.edges (eq→T (leb n bd.edges) d.1) in
      let p : bd.edges + 4 ≡ 4 + bd.edges = omega arith in
      let x : drop 3 r ≡ take bd.edges (drop (at + 4) ws) = ap (drop 4) (e ∙ ap (λ k. take k (drop at ws)) p) ∙ drop-take 4 bd.edges (drop at ws) ∙ ap (take bd.edges) (drop-drop 4 at ws) in
      drop-take (at + 4) n ws ∙ sym (take-take n bd.edges (drop (at + 4) ws) l) ∙ ap (take n) (sym x)

  pub lookup-edges : well_formed bd known ws ≡ true → i < used_in ws → words_of (lookup_part bd known i ws) ws ≡ slot_edges (get_or (slots_in bd ws) i dead)
  unfolding lookup_part slots_in part_if record-at decode
  lookup-edges w h =
      let b : ltb i (used_in ws) ≡ true = T→eq (ltb i (used_in ws)) (lt→ltb i (used_in ws) h) in
      let s : get_or (map decode (records bd ws)) i dead ≡ decode record-at = get_or-map decode (records bd ws) i [] ∙ ap decode (record_is h) in
      rw (w, b) (edges_at record-at refl (sound-at w h) ∙ ap slot_edges (sym s))

  -- the whole answer: where the edges of record i stand
  pub lookup-at : well_formed bd known ws ≡ true → i < used_in ws → lookup_part bd known i ws ≡ edges_part (record_place bd i) (get_or (records bd ws) i [])
  unfolding lookup_part part_if record-at
  lookup-at w h =
      let b : ltb i (used_in ws) ≡ true = T→eq (ltb i (used_in ws)) (lt→ltb i (used_in ws) h) in
      rw (w, b) (ap (edges_part (record_place bd i)) (sym (record_is h)))

  -- words that meet 35, or a number beyond use: an empty part
  pub lookup-none : and (well_formed bd known ws) (ltb i (used_in ws)) ≡ false → lookup_part bd known i ws ≡ empty_part
  unfolding lookup_part part_if
  lookup-none h = rw h
