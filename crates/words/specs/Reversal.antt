-- Two elements of a list exchanged, and a run of its elements turned round. For every element type.
-- Document 01, "Answer": waiting paths are taken in the search's order, for which the newest waiting slots are turned round in place.
use Rattle.std.specs.Prelude.{◌≡◌, refl, set, get_or}
use Rattle.std.proofs.Common.{sym, ap, ◌∙◌, not-suc-le-zero, le_of_suc-le-suc, add-zero, add-one, arith, take-append-drop, get_or-drop}
use mathlib.Core.List.{List, [], ◌∷◌, ◌++◌, append_assoc, append-nil, reverse, reverse-cons, reverse-append}
use Prim.Native.Nat.{ℕ, zero, suc, ◌+◌, ◌-◌, ◌≤◌}
use Rattle.std.proofs.Math.ListN.{length, take, drop, length-drop, length-append, length-reverse}
use Rattle.std.proofs.Math.Seq.{length-take-le, take_at, drop_at, take-add, split_at, take-append-le, drop-append-le}
use Rattle.std.proofs.lemmas.List.{set_at, set_split}

module _ {A : Type 0} where
  -- the n elements from place lo on turned round
  unfoldable pub rev_range : ℕ → ℕ → List A → List A
  rev_range lo n l = take lo l ++ reverse (take n (drop lo l)) ++ drop (lo + n) l

  rev-one : (l : List A) → reverse (take 1 l) ≡ take 1 l
  rev-one [] = refl
  rev-one (x ∷ l) = refl

  -- nothing to turn round
  pub rev_range-short : (lo n : ℕ) (l : List A) → n ≤ 1 → rev_range lo n l ≡ l
  unfolding rev_range
  rev_range-short lo zero l h = rw (append-nil, add-zero) (take-append-drop lo l)
  rev_range-short lo (suc zero) l h = rw (rev-one (drop lo l), ← take-add lo 1 l) (take-append-drop (lo + 1) l)
  rev_range-short lo (suc (suc n)) l h = absurd (not-suc-le-zero (le_of_suc-le-suc h))

  pub rev_range-at : (p x q : List A) (lo n : ℕ) → length p ≡ lo → length x ≡ n → rev_range lo n (p ++ x ++ q) ≡ p ++ reverse x ++ q
  unfolding rev_range
  rev_range-at p x q lo n e f =
      let h1 : take lo (p ++ x ++ q) ≡ p = rw append_assoc (take_at p (x ++ q) lo e) in
      let h2 : drop lo (p ++ x ++ q) ≡ x ++ q = rw append_assoc (drop_at p (x ++ q) lo e) in
      let h3 : drop (lo + n) (p ++ x ++ q) ≡ q = drop_at (p ++ x) q (lo + n) (simp length-append (omega arith)) in
      rw (h1, h2, h3, take_at x q n f)

  rev_ends : (m : List A) (a b : A) → reverse (a ∷ (m ++ (b ∷ []))) ≡ b ∷ (reverse m ++ (a ∷ []))
  rev_ends m a b = rw (reverse-cons, reverse-append)

  -- an exchange of the two ends, and what is between them turned round
  rev-core : (p m q : List A) (a b : A) (lo n : ℕ) → length p ≡ lo → length m ≡ n
      → rev_range lo (n + 2) (p ++ (a ∷ (m ++ (b ∷ []))) ++ q) ≡ rev_range (lo + 1) n ((p ++ (b ∷ [])) ++ m ++ (a ∷ q))
  rev-core p m q a b lo n e f =
      let g : p ++ (b ∷ (reverse m ++ (a ∷ []))) ++ q ≡ (p ++ (b ∷ [])) ++ reverse m ++ (a ∷ q) = simp append_assoc in
      rev_range-at p (a ∷ (m ++ (b ∷ []))) q lo (n + 2) e (simp length-append (omega arith))
      ∙ ap (λ (z : List A). p ++ z ++ q) (rev_ends m a b)
      ∙ g
      ∙ sym (rev_range-at (p ++ (b ∷ [])) m (a ∷ q) (lo + 1) n (simp length-append (omega arith)) f)

  -- l with the elements at i and j exchanged
  abbrev pub exchange : A → ℕ → ℕ → List A → List A
  exchange d i j l = set (set l i (get_or l j d)) j (get_or l i d)

  pub rev-step : (d : A) (lo n : ℕ) (l : List A) → lo + (n + 2) ≤ length l → rev_range lo (n + 2) l ≡ rev_range (lo + 1) n (exchange d lo (lo + 1 + n) l)
  rev-step d lo n l h =
      let p : List A = take lo l in
      let r : List A = drop (suc lo) l in
      let a : A = get_or l lo d in
      let b : A = get_or r n d in
      let m : List A = take n r in
      let q : List A = drop (suc n) r in
      let lp : length p ≡ lo = length-take-le lo l (omega arith) in
      let lr : length r ≡ length l - suc lo = length-drop (suc lo) l in
      let lm : length m ≡ n = length-take-le n r (omega arith) in
      let er : r ≡ m ++ (b ∷ q) = split_at r n d (omega arith) in
      let el : l ≡ p ++ (a ∷ r) = split_at l lo d (omega arith) in
      let eb : get_or l (lo + 1 + n) d ≡ b = ap (λ (k : ℕ). get_or l (k + n) d) (add-one lo) ∙ sym (get_or-drop (suc lo) l n d) in
      let s1 : set l lo b ≡ p ++ (b ∷ (m ++ (b ∷ q))) = set_split l lo b (omega arith) ∙ ap (λ (z : List A). p ++ (b ∷ z)) er in
      let g1 : p ++ (b ∷ (m ++ (b ∷ q))) ≡ (p ++ (b ∷ [])) ++ m ++ (b ∷ q) = simp append_assoc in
      let g2 : p ++ (a ∷ (m ++ (b ∷ q))) ≡ p ++ (a ∷ (m ++ (b ∷ []))) ++ q = simp append_assoc in
      let s2 : set (p ++ (b ∷ (m ++ (b ∷ q)))) (lo + 1 + n) a ≡ (p ++ (b ∷ [])) ++ m ++ (a ∷ q) =
      ap (λ (z : List A). set z (lo + 1 + n) a) g1 ∙ set_at ((p ++ (b ∷ [])) ++ m) b q a (lo + 1 + n) (simp length-append (omega arith)) in
      ap (rev_range lo (n + 2)) (el ∙ ap (λ (z : List A). p ++ (a ∷ z)) er ∙ g2)
      ∙ rev-core p m q a b lo n lp lm
      ∙ ap (rev_range (lo + 1) n) (sym (rw (eb, s1) s2))

  -- what stands behind the run stays
  pub rev_range-append : (lo n : ℕ) (x y : List A) → lo + n ≤ length x → rev_range lo n (x ++ y) ≡ rev_range lo n x ++ y
  unfolding rev_range
  rev_range-append lo n x y h =
      let e1 : take lo (x ++ y) ≡ take lo x = take-append-le lo x y (omega arith) in
      let e2 : drop lo (x ++ y) ≡ drop lo x ++ y = drop-append-le lo x y (omega arith) in
      let e3 : take n (drop lo x ++ y) ≡ take n (drop lo x) = take-append-le n (drop lo x) y (simp length-drop (omega arith)) in
      let e4 : drop (lo + n) (x ++ y) ≡ drop (lo + n) x ++ y = drop-append-le (lo + n) x y h in
      rw (e1, e2, e3, e4) (sym (append_assoc (take lo x ++ reverse (take n (drop lo x))) (drop (lo + n) x) y))

  pub length-rev_range : (lo n : ℕ) (l : List A) → lo + n ≤ length l → length (rev_range lo n l) ≡ length l
  unfolding rev_range
  length-rev_range lo n l h =
      let lx : length (take n (drop lo l)) ≡ n = length-take-le n (drop lo l) (simp length-drop (omega arith)) in
      simp (length-append, length-reverse, length-drop) (omega (arith, length-take-le lo l (omega arith)))

  -- the run at the end of a list's front is turned round there as in the whole
  pub rev_range-take : (lo n : ℕ) (l : List A) → lo + n ≤ length l → rev_range lo n (take (lo + n) l) ≡ take (lo + n) (rev_range lo n l)
  rev_range-take lo n l h =
      let p : List A = take (lo + n) l in
      let q : List A = drop (lo + n) l in
      let lp : length p ≡ lo + n = length-take-le (lo + n) l h in
      let e : rev_range lo n l ≡ rev_range lo n p ++ q = ap (rev_range lo n) (sym (take-append-drop (lo + n) l)) ∙ rev_range-append lo n p q (omega arith) in
      sym (ap (take (lo + n)) e ∙ take_at (rev_range lo n p) q (lo + n) (length-rev_range lo n p (omega arith) ∙ lp))
