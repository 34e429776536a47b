-- Lists counted by their length: what a list more changes, and that the numbers add up.
-- Serves document 02, order 9.
use Rattle.std.specs.Prelude.{ℕ, zero, suc, ◌+◌, ◌<◌, ◌≤◌, ◌≡◌, refl, Bool, true, false, T, eqb, ltb, length, get_or, set}
use Rattle.std.proofs.Common.{arith, sym, ◌∙◌, ap, ap₂, subst, ⊎_elim, ltb→lt, length-append, eq-eqb, ne_eqb, ltb-false}
use mathlib.Core.List.Memᴰ
use mathlib.Core.List.{List, [], ◌∷◌, ◌++◌, append-nil, Memᴰ}
use Rattle.semantics.specs.Lists.{cons_if}
use Rattle.semantics.specs.Lists.Laws.{eqb-true, eqb_same, cons_if-cases, cons_if-tail}
use Rattle.semantics.specs.Demand.{Once}
use Rattle.semantics.specs.Tally.{of_length, lengths_from}
use Rattle.semantics.specs.Lists.{total}

-- A LIST WITHOUT COPIES is no longer than one that has all its members
record Split (x : List ℕ) (b : List (List ℕ)) : Type 0 where
  pub front : List (List ℕ)
  pub back : List (List ℕ)
  pub whole : b ≡ front ++ (x ∷ back)

split : (x : List ℕ) (b : List (List ℕ)) → Memᴰ x b → Split x b
split x [] m = absurd (Memᴰ.not-nil m)
split x (y ∷ b) m =
    ⊎_elim (λ (e : x ≡ y). record { front = []; back = b; whole = ap (λ (z : List ℕ). z ∷ b) (sym e) })
    (λ n. let s = split x b n in record { front = y ∷ s.front; back = s.back; whole = ap (λ (z : List (List ℕ)). y ∷ z) s.whole }) (Memᴰ.cases_cons m)

pub once-shorter : (a b : List (List ℕ)) → Once a → ((l : List ℕ) → Memᴰ l a → Memᴰ l b) → length a ≤ length b
once-shorter [] b o h = omega arith
once-shorter (x ∷ a) b o h =
    let s = split x b (h x (Memᴰ.head refl)) in
    let k = once-shorter a (s.front ++ s.back) o.1 (λ l m. left s l m) in
    let z = ap length s.whole in
    omega (arith, k, z, length-append s.front s.back, length-append s.front (x ∷ s.back))
  where
    left : (s : Split x b) (l : List ℕ) → Memᴰ l a → Memᴰ l (s.front ++ s.back)
    left s l m =
        ⊎_elim (λ n. Memᴰ.append_left s.back n)
        (λ n. ⊎_elim (λ (e : l ≡ x). absurd (o.0 (subst (λ z. Memᴰ z a) e m))) (λ j. Memᴰ.append_right s.front j) (Memᴰ.cases_cons n))
        (Memᴰ.append_cases s.front (subst (λ z. Memᴰ l z) s.whole (h l (Memᴰ.tail m))))

-- members of a length
pub of_is : (n : ℕ) (ls : List (List ℕ)) (l : List ℕ) → Memᴰ l (of_length n ls) → Memᴰ l ls × (length l ≡ n)
unfolding of_length
of_is n [] l m = absurd (Memᴰ.not-nil m)
of_is n (x ∷ ls) l m =
    ⊎_elim (λ h. (Memᴰ.head h.0, ap length h.0 ∙ eqb-true (length x) n h.1)) (λ k. let z = of_is n ls l k in (Memᴰ.tail z.0, z.1)) (cons_if-cases (eqb (length x) n) x l (of_length n ls) m)

pub is-of : (n : ℕ) (ls : List (List ℕ)) (l : List ℕ) → Memᴰ l ls → length l ≡ n → Memᴰ l (of_length n ls)
unfolding of_length
is-of n [] l m e = absurd (Memᴰ.not-nil m)
is-of n (x ∷ ls) l m e = ⊎_elim here-it (λ k. cons_if-tail (eqb (length x) n) x l (of_length n ls) (is-of n ls l k e)) (Memᴰ.cases_cons m)
  where
    here-it : l ≡ x → Memᴰ l (cons_if (eqb (length x) n) x (of_length n ls))
    here-it z = subst (λ b. Memᴰ l (cons_if b x (of_length n ls))) (sym (eqb_same n) ∙ ap (λ (k : ℕ). eqb k n) (sym e ∙ ap length z)) (Memᴰ.head z)

pub of-once : (n : ℕ) (ls : List (List ℕ)) → Once ls → Once (of_length n ls)
unfolding of_length
of-once n [] o = tt
of-once n (x ∷ ls) o = on (eqb (length x) n) (of-once n ls o.1)
  where
    on : (b : Bool) → Once (of_length n ls) → Once (cons_if b x (of_length n ls))
    on true k = ((λ m. o.0 (of_is n ls x m).0), k)
    on false k = k

-- THE NUMBERS

pub of-append : (n : ℕ) (a b : List (List ℕ)) → of_length n (a ++ b) ≡ of_length n a ++ of_length n b
unfolding of_length
of-append n [] b = refl
of-append n (x ∷ a) b = on (eqb (length x) n) (of-append n a b)
  where
    on : (t : Bool) → of_length n (a ++ b) ≡ of_length n a ++ of_length n b → cons_if t x (of_length n (a ++ b)) ≡ cons_if t x (of_length n a) ++ of_length n b
    on true e = ap (λ (z : List (List ℕ)). x ∷ z) e
    on false e = e

-- all of that length
of-all : (n : ℕ) (ls : List (List ℕ)) → ((l : List ℕ) → Memᴰ l ls → length l ≡ n) → of_length n ls ≡ ls
unfolding of_length
of-all n [] h = refl
of-all n (x ∷ ls) h =
    ap (λ (b : Bool). cons_if b x (of_length n ls)) (ap (λ (k : ℕ). eqb k n) (h x (Memᴰ.head refl)) ∙ eqb_same n)
    ∙ ap (λ (z : List (List ℕ)). x ∷ z) (of-all n ls (λ l m. h l (Memᴰ.tail m)))

-- all of another
of_none : (n m : ℕ) (ls : List (List ℕ)) → (m ≡ n → ⊥) → ((l : List ℕ) → Memᴰ l ls → length l ≡ m) → of_length n ls ≡ []
unfolding of_length
of_none n m [] z h = refl
of_none n m (x ∷ ls) z h =
    ap (λ (b : Bool). cons_if b x (of_length n ls)) (ne_eqb (length x) n (λ e. z (sym (h x (Memᴰ.head refl)) ∙ e)))
    ∙ of_none n m ls z (λ l k. h l (Memᴰ.tail k))

-- lists that are shorter than the first number's
lengths_short : (i k m : ℕ) (ls ms : List (List ℕ)) → m < i → ((l : List ℕ) → Memᴰ l ms → length l ≡ m) → lengths_from i k (ls ++ ms) ≡ lengths_from i k ls
unfolding lengths_from
lengths_short i zero m ls ms h all = refl
lengths_short i (suc k) m ls ms h all =
    ap₂ (λ (x : ℕ) (xs : List ℕ). x ∷ xs)
    (ap length (of-append i ls ms ∙ ap (λ z. of_length i ls ++ z) (of_none i m ms (λ e. omega (arith, h, e)) all) ∙ append-nil (of_length i ls)))
    (lengths_short (suc i) k m ls ms (omega (arith, h)) all)

-- LISTS OF ONE LENGTH MORE: its number goes up by as many
pub lengths-more : (i j k m : ℕ) (ls ms : List (List ℕ)) → m ≡ i + j → ((l : List ℕ) → Memᴰ l ms → length l ≡ m)
    → lengths_from i k (ls ++ ms) ≡ set (lengths_from i k ls) j (get_or (lengths_from i k ls) j 0 + length ms)
unfolding lengths_from
lengths-more i j zero m ls ms e all = refl
lengths-more i zero (suc k) m ls ms e all =
    let z : m ≡ i = omega (arith, e) in
    ap₂ (λ (x : ℕ) (xs : List ℕ). x ∷ xs)
    (ap length (of-append i ls ms ∙ ap (λ y. of_length i ls ++ y) (of-all i ms (λ l h. all l h ∙ z))) ∙ length-append (of_length i ls) ms)
    (lengths_short (suc i) k m ls ms (omega (arith, z)) all)
lengths-more i (suc j) (suc k) m ls ms e all =
    ap₂ (λ (x : ℕ) (xs : List ℕ). x ∷ xs)
    (ap length (of-append i ls ms ∙ ap (λ y. of_length i ls ++ y) (of_none i m ms (λ (z : m ≡ i). omega (arith, e, z)) all) ∙ append-nil (of_length i ls)))
    (lengths-more (suc i) j k m ls ms (omega (arith, e)) all)

-- the number at a place
pub lengths-at : (i k n : ℕ) (ls : List (List ℕ)) → n < k → get_or (lengths_from i k ls) n 0 ≡ length (of_length (i + n) ls)
unfolding lengths_from
lengths-at i zero n ls h = absurd (omega (arith, h))
lengths-at i (suc k) zero ls h = let z : i ≡ i + 0 = omega arith in ap (λ (j : ℕ). length (of_length j ls)) z
lengths-at i (suc k) (suc n) ls h = let z : suc i + n ≡ i + suc n = omega arith in lengths-at (suc i) k n ls (omega (arith, h)) ∙ ap (λ (j : ℕ). length (of_length j ls)) z

-- THEIR SUM: every list is counted once, where none is too long

one-short : (i k : ℕ) (l : List ℕ) (ls : List (List ℕ)) → length l < i → total (lengths_from i k (l ∷ ls)) ≡ total (lengths_from i k ls)
unfolding lengths_from total of_length
one-short i zero l ls h = refl
one-short i (suc k) l ls h =
    ap₂ (λ (x y : ℕ). x + y) (ap (λ (b : Bool). length (cons_if b l (of_length i ls))) (ne_eqb (length l) i (λ e. omega (arith, h, e)))) (one-short (suc i) k l ls (omega (arith, h)))

one-counted : (i k : ℕ) (l : List ℕ) (ls : List (List ℕ)) → i ≤ length l → length l < i + k → total (lengths_from i k (l ∷ ls)) ≡ total (lengths_from i k ls) + 1
unfolding lengths_from total of_length
one-counted i zero l ls low high = absurd (omega (arith, low, high))
one-counted i (suc k) l ls low high = on (λ h. one-counted (suc i) k l ls h (omega (arith, high))) (ltb i (length l)) refl
  where
    on : (suc i ≤ length l → total (lengths_from (suc i) k (l ∷ ls)) ≡ total (lengths_from (suc i) k ls) + 1) → (b : Bool) → ltb i (length l) ≡ b
        → length (cons_if (eqb (length l) i) l (of_length i ls)) + total (lengths_from (suc i) k (l ∷ ls)) ≡ length (of_length i ls) + total (lengths_from (suc i) k ls) + 1
    on more true e =
        let above : i < length l = ltb→lt i (length l) (subst T (sym e) tt) in
        let h = ap (λ (b : Bool). length (cons_if b l (of_length i ls))) (ne_eqb (length l) i (λ (z : length l ≡ i). omega (arith, z, above))) in
        let s = more (omega (arith, above)) in
        omega (arith, h, s)
    on more false e =
        let z : length l ≡ i = (let h = ltb-false i (length l) e in omega (arith, h, low)) in
        let h = ap (λ (b : Bool). length (cons_if b l (of_length i ls))) (eq-eqb (length l) i z) in
        let s = one-short (suc i) k l ls (omega (arith, z)) in
        omega (arith, h, s)

sum-none : (i k : ℕ) → total (lengths_from i k []) ≡ 0
unfolding lengths_from total of_length
sum-none i zero = refl
sum-none i (suc k) = let z = sum-none (suc i) k in omega (arith, z)

pub sum-counted : (k : ℕ) (ls : List (List ℕ)) → ((l : List ℕ) → Memᴰ l ls → length l < k) → total (lengths_from 0 k ls) ≡ length ls
sum-counted k [] h = sum-none 0 k
sum-counted k (l ∷ ls) h =
    let a = one-counted 0 k l ls (omega arith) (let z = h l (Memᴰ.head refl) in omega (arith, z)) in
    let b = sum-counted k ls (λ x m. h x (Memᴰ.tail m)) in
    omega (arith, a, b)
