-- Laws of edge lists: comparing two, looking for one among others, dropping copies and beaten ones one after another.
-- Serves document 01, "Answer": `from_complete`.
use Prim.Native.Nat.{ℕ, zero, suc, ◌+◌, ◌-◌, ◌≤◌, ◌<◌}
use Rattle.std.proofs.Common.{not-suc-le-zero, le_of_suc-le-suc, add-one, sym, ap₂, ◌∙◌, inl, inr, eq-eqb, ne_eqb, length-append, drop_of_length-le}
use native.Mathlib.Omega.{arith}
use Rattle.std.specs.Prelude.{◌≡◌, ◌⊎◌, Bool, eqb, get_or, take, drop}
use Rattle.std.proofs.Math.Path.{refl, ap}
use Rattle.std.proofs.Math.Logic.{⊎_elim}
use Rattle.std.proofs.Math.Bool.{true, false}
use mathlib.Core.List.Memᴰ
use mathlib.Core.List.{List, [], ◌∷◌, ◌++◌, Memᴰ, append-nil}
use Rattle.std.proofs.Math.ListN.{length}
use Rattle.std.proofs.Math.Seq.{take-suc, drop-cons, take-length}
use Rattle.semantics.specs.Lists.{or, and, same, pick}
use Rattle.semantics.specs.Lists.Laws.{same-eq, bool_false}
use Rattle.reply.specs.EdgeLists.{has_list, seen_with, distinct_lists, beaten_list, without, unbeaten_lists}

-- ---- two lists compared from their ends

and_assoc : (a b c : Bool) → and a (and b c) ≡ and (and a b) c
and_assoc true b c = refl
and_assoc false b c = refl

and-true-right : (a : Bool) → and a true ≡ a
and-true-right true = refl
and-true-right false = refl

and-false-right : (a : Bool) → and a false ≡ false
and-false-right true = refl
and-false-right false = refl

pub same-lengths : (l r : List ℕ) → (length l ≡ length r → ⊥) → same l r ≡ false
same-lengths l r h = bool_false (same l r) (λ (e : same l r ≡ true). h (ap length (same-eq l r e)))

pub same-starts : (l r : List ℕ) → (get_or l 0 0 ≡ get_or r 0 0 → ⊥) → same l r ≡ false
same-starts l r h = bool_false (same l r) (λ (e : same l r ≡ true). h (ap (λ (m : List ℕ). get_or m 0 0) (same-eq l r e)))

same-last : (l r : List ℕ) (x y : ℕ) → length l ≡ length r → same (l ++ (x ∷ [])) (r ++ (y ∷ [])) ≡ and (same l r) (eqb x y)
unfolding same
same-last [] [] x y h = and-true-right (eqb x y)
same-last [] (v ∷ r) x y h = absurd (omega (arith, h))
same-last (u ∷ l) [] x y h = absurd (omega (arith, h))
same-last (u ∷ l) (v ∷ r) x y h = ap (and (eqb u v)) (same-last l r x y (omega (arith, h))) ∙ and_assoc (eqb u v) (same l r) (eqb x y)

-- two lists of one length, by their last numbers and what is left
module _ {l r : List ℕ} (m k : List ℕ) (x y : ℕ) (left : l ≡ m ++ (x ∷ [])) (right : r ≡ k ++ (y ∷ [])) (long : length l ≡ length r) where
  pub same-long : length m ≡ length k
  same-long = omega (arith, ap length left, ap length right, length-append m (x ∷ []), length-append k (y ∷ []), long)

  last-is : same l r ≡ and (same m k) (eqb x y)
  last-is = ap₂ same left right ∙ same-last m k x y same-long

  -- the last numbers are the same: the others decide
  pub same-on : x ≡ y → same m k ≡ same l r
  same-on q = sym (last-is ∙ ap (and (same m k)) (eq-eqb x y q) ∙ and-true-right (same m k))

  pub same_not : (x ≡ y → ⊥) → false ≡ same l r
  same_not q = sym (last-is ∙ ap (and (same m k)) (ne_eqb x y q) ∙ and-false-right (same m k))

pub same_none : (l r : List ℕ) → length l ≡ length r → length l ≡ 0 → true ≡ same l r
unfolding same
same_none [] [] h e = refl
same_none [] (v ∷ r) h e = absurd (omega (arith, h))
same_none (u ∷ l) r h e = absurd (omega (arith, e))

-- ---- one list among others, the first j of which were looked at

module _ (l : List ℕ) (ms : List (List ℕ)) (j : ℕ) where
  pub has_end : length ms ≤ j → has_list l (drop j ms) ≡ false
  unfolding has_list
  has_end h = rw (drop_of_length-le ms h)

  module _ (h : j < length ms) where
    has_first : has_list l (drop j ms) ≡ or (same l (get_or ms j [])) (has_list l (drop (j + 1) ms))
    unfolding has_list
    has_first = rw (add-one, drop-cons ms j [] h)

    pub has-found : same l (get_or ms j []) ≡ true → has_list l (drop j ms) ≡ true
    has-found e = has_first ∙ ap (λ (b : Bool). or b (has_list l (drop (j + 1) ms))) e

    pub has_on : same l (get_or ms j []) ≡ false → has_list l (drop (j + 1) ms) ≡ has_list l (drop j ms)
    has_on e = sym (has_first ∙ ap (λ (b : Bool). or b (has_list l (drop (j + 1) ms))) e)

-- ---- copies dropped

distinct_append : (seen ls ms : List (List ℕ)) → distinct_lists seen (ls ++ ms) ≡ distinct_lists (distinct_lists seen ls) ms
unfolding distinct_lists
distinct_append seen [] ms = refl
distinct_append seen (l ∷ ls) ms = distinct_append (seen_with seen l) ls ms

-- one list more
pub distinct_more : (ls : List (List ℕ)) (i : ℕ) → i < length ls → distinct_lists [] (take (i + 1) ls) ≡ seen_with (distinct_lists [] (take i ls)) (get_or ls i [])
unfolding distinct_lists
distinct_more ls i h = rw (add-one i, take-suc ls i [] h) (distinct_append [] (take i ls) (get_or ls i [] ∷ []))

pub distinct-shorter : (ls seen : List (List ℕ)) → length (distinct_lists seen ls) ≤ length seen + length ls
unfolding distinct_lists
distinct-shorter [] seen = omega arith
distinct-shorter (l ∷ ls) seen = on (has_list l seen) (λ s. distinct-shorter ls s)
  where
    on : (b : Bool) → ((s : List (List ℕ)) → length (distinct_lists s ls) ≤ length s + length ls) → length (distinct_lists (pick b seen (seen ++ (l ∷ []))) ls) ≤ length seen + suc (length ls)
    on true ih = omega (arith, ih seen)
    on false ih = omega (arith, ih (seen ++ (l ∷ [])), length-append seen (l ∷ []))

-- nothing is new
pub distinct_from : (x : List ℕ) (ls seen : List (List ℕ)) → Memᴰ x (distinct_lists seen ls) → Memᴰ x seen ⊎ Memᴰ x ls
unfolding distinct_lists
distinct_from x [] seen m = inl m
distinct_from x (l ∷ ls) seen m = on (has_list l seen) m (λ s k. distinct_from x ls s k)
  where
    on : (b : Bool) → Memᴰ x (distinct_lists (pick b seen (seen ++ (l ∷ []))) ls) → ((s : List (List ℕ)) → Memᴰ x (distinct_lists s ls) → Memᴰ x s ⊎ Memᴰ x ls) → Memᴰ x seen ⊎ Memᴰ x (l ∷ ls)
    on true k ih = ⊎_elim inl (λ n. inr (Memᴰ.tail n)) (ih seen k)
    on false k ih =
        ⊎_elim (λ n. ⊎_elim inl (λ o. inr (⊎_elim Memᴰ.head (λ z. absurd (Memᴰ.not-nil z)) (Memᴰ.cases_cons o))) (Memᴰ.append_cases seen n)) (λ n. inr (Memᴰ.tail n)) (ih (seen ++ (l ∷ [])) k)

-- ---- lists dropped by a test

module _ (drops : List ℕ → Bool) where
  without-append : (ls ms : List (List ℕ)) → without drops (ls ++ ms) ≡ without drops ls ++ without drops ms
  unfolding without
  without-append [] ms = refl
  without-append (l ∷ ls) ms = on (drops l) (without-append ls ms)
    where
      on : (b : Bool) → without drops (ls ++ ms) ≡ without drops ls ++ without drops ms
          → pick b (without drops (ls ++ ms)) (l ∷ without drops (ls ++ ms)) ≡ pick b (without drops ls) (l ∷ without drops ls) ++ without drops ms
      on true e = e
      on false e = ap (λ (y : List (List ℕ)). l ∷ y) e

  module _ (ls : List (List ℕ)) (i : ℕ) (h : i < length ls) where
    without_more : without drops (take (i + 1) ls) ≡ without drops (take i ls) ++ pick (drops (get_or ls i [])) [] (get_or ls i [] ∷ [])
    unfolding without
    without_more = rw (add-one i, take-suc ls i [] h) (without-append (take i ls) (get_or ls i [] ∷ []))

    -- one list more that is dropped, and one that stays
    pub without-dropped : drops (get_or ls i []) ≡ true → without drops (take i ls) ≡ without drops (take (i + 1) ls)
    without-dropped e = sym (rw (without_more, e) (append-nil (without drops (take i ls))))

    pub without-kept : drops (get_or ls i []) ≡ false → without drops (take i ls) ++ (get_or ls i [] ∷ []) ≡ without drops (take (i + 1) ls)
    without-kept e = sym (rw (without_more, e))

  pub without-shorter : (ls : List (List ℕ)) → length (without drops ls) ≤ length ls
  unfolding without
  without-shorter [] = omega arith
  without-shorter (l ∷ ls) = on (drops l) (without-shorter ls)
    where
      on : (b : Bool) → length (without drops ls) ≤ length ls → length (pick b (without drops ls) (l ∷ without drops ls)) ≤ suc (length ls)
      on true h = omega arith
      on false h = omega arith

  pub without_from : (x : List ℕ) (ls : List (List ℕ)) → Memᴰ x (without drops ls) → Memᴰ x ls
  unfolding without
  without_from x [] m = m
  without_from x (l ∷ ls) m = on (drops l) m (λ k. without_from x ls k)
    where
      on : (b : Bool) → Memᴰ x (pick b (without drops ls) (l ∷ without drops ls)) → (Memᴰ x (without drops ls) → Memᴰ x ls) → Memᴰ x (l ∷ ls)
      on true k ih = Memᴰ.tail (ih k)
      on false k ih = ⊎_elim Memᴰ.head (λ n. Memᴰ.tail (ih n)) (Memᴰ.cases_cons k)

pub unbeaten-shorter : (beats : List ℕ → List ℕ → Bool) (all ls : List (List ℕ)) → length (unbeaten_lists beats all ls) ≤ length ls
unfolding unbeaten_lists
unbeaten-shorter beats all ls = without-shorter (λ l. beaten_list beats l all) ls
