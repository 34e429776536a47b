-- Two edge lists compared up to a number of edges. Serves document 01, "Answer": `from_complete`.
use Prim.Native.Nat.{ℕ, zero, suc, ◌+◌, ◌-◌, ◌≤◌, ◌<◌}
use Rattle.std.proofs.Common.{not-suc-le-zero, le_of_suc-le-suc, sym, ap₂, ◌∙◌, eq-eqb, ne_eqb}
use native.Mathlib.Omega.{arith}
use Rattle.std.specs.Prelude.{◌≡◌, Bool, eqb, get_or, take}
use Rattle.std.proofs.Math.Path.{refl, ap}
use Rattle.std.proofs.Math.Bool.{true, false}
use mathlib.Core.List.{List, [], ◌∷◌}
use Rattle.std.proofs.Math.ListN.{length}
use Rattle.std.proofs.Math.Seq.{take-length}
use Rattle.semantics.specs.Lists.{and, same}

and_assoc : (a b c : Bool) → and a (and b c) ≡ and (and a b) c
and_assoc true b c = refl
and_assoc false b c = refl

and-true-right : (a : Bool) → and a true ≡ a
and-true-right true = refl
and-true-right false = refl

and-false-right : (a : Bool) → and a false ≡ false
and-false-right true = refl
and-false-right false = refl

pub same_more : (l r : List ℕ) (k : ℕ) → k < length l → k < length r → same (take (suc k) l) (take (suc k) r) ≡ and (same (take k l) (take k r)) (eqb (get_or l k 0) (get_or r k 0))
unfolding same
same_more [] r k h i = absurd (not-suc-le-zero h)
same_more (x ∷ l) [] k h i = absurd (not-suc-le-zero i)
same_more (x ∷ l) (y ∷ r) zero h i = and-true-right (eqb x y)
same_more (x ∷ l) (y ∷ r) (suc k) h i =
    ap (and (eqb x y)) (same_more l r k (le_of_suc-le-suc h) (le_of_suc-le-suc i)) ∙ and_assoc (eqb x y) (same (take k l) (take k r)) (eqb (get_or l k 0) (get_or r k 0))

pub same_whole : (l r : List ℕ) → length l ≡ length r → same (take (length l) l) (take (length l) r) ≡ same l r
same_whole l r e = ap₂ same (take-length l) (ap (λ (k : ℕ). take k r) e ∙ take-length r)

pub same_none : (l r : List ℕ) (k : ℕ) → k ≤ 0 → true ≡ same (take k l) (take k r)
unfolding same
same_none l r k h = let q : k ≡ 0 = omega arith in rw q

module _ (l r : List ℕ) (k : ℕ) (p : 0 < k) (h : k ≤ length l) (e : length l ≡ length r) where
  same-last : same (take k l) (take k r) ≡ and (same (take (k - 1) l) (take (k - 1) r)) (eqb (get_or l (k - 1) 0) (get_or r (k - 1) 0))
  same-last =
      let q : k ≡ suc (k - 1) = omega arith in
      ap (λ (j : ℕ). same (take j l) (take j r)) q ∙ same_more l r (k - 1) (omega arith) (omega arith)

  -- the last of k numbers is the same: the others decide
  pub same-on : get_or l (k - 1) 0 ≡ get_or r (k - 1) 0 → same (take (k - 1) l) (take (k - 1) r) ≡ same (take k l) (take k r)
  same-on q = sym (same-last ∙ ap (and (same (take (k - 1) l) (take (k - 1) r))) (eq-eqb (get_or l (k - 1) 0) (get_or r (k - 1) 0) q) ∙ and-true-right (same (take (k - 1) l) (take (k - 1) r)))

  pub same_not : (get_or l (k - 1) 0 ≡ get_or r (k - 1) 0 → ⊥) → false ≡ same (take k l) (take k r)
  same_not q = sym (same-last ∙ ap (and (same (take (k - 1) l) (take (k - 1) r))) (ne_eqb (get_or l (k - 1) 0) (get_or r (k - 1) 0) q) ∙ and-false-right (same (take (k - 1) l) (take (k - 1) r)))
