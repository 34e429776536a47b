-- A queue in a list without remainders: c elements from place f on, going round at the end. For every element type.
-- Document 01, "Answer": "Waiting paths are held likewise .. a slot serves again from the pop on".
use Rattle.std.specs.Prelude.{◌≡◌, ◌⊎◌, ℕ, suc, ◌+◌, ◌≤◌, ◌<◌, drop, set}
use Rattle.std.proofs.Common.{sym, ap, ◌∙◌, arith, length-append, drop-set-lt, take-suc-set}
use Rattle.std.proofs.Math.Logic.{⊎_elim}
use mathlib.Core.List.{List, [], ◌∷◌, ◌++◌, append_assoc, append-nil}
use Rattle.std.proofs.Math.Numerals.{add-one}
use Rattle.std.proofs.Math.ListN.{length, take, get_or, length-drop}
use Rattle.std.proofs.Math.Seq.{drop-set-add, take-set-le, take-set-lt, drop-cons, take-suc, take-append-le, take-length, drop-length, length-take-le}
use Rattle.std.proofs.lemmas.List.{set-append_left}
use Rattle.words.specs.Copies.{set-append-add}

module _ {A : Type 0} where
  -- l with its first f elements moved to the end
  unfoldable pub rotl : ℕ → List A → List A
  rotl f l = drop f l ++ take f l

  -- c elements from place f on, going round at the end
  unfoldable pub ring : ℕ → ℕ → List A → List A
  unfolding rotl
  ring f c l = take c (rotl f l)

  length-rotl : (f : ℕ) (l : List A) → f ≤ length l → length (rotl f l) ≡ length l
  unfolding rotl
  length-rotl f l h = simp (length-append, length-drop) (omega (arith, length-take-le f l h))

  rotl-set : (f k i : ℕ) (l : List A) (s : A) → f ≤ length l → k < length l → i < length l → (f + k ≡ i) ⊎ (f + k ≡ i + length l)
      → rotl f (set l i s) ≡ set (rotl f l) k s
  unfolding rotl
  rotl-set f k i l s hf hk hi w = ⊎_elim
      (λ (e : f + k ≡ i). rw (← e, drop-set-add f l k s, take-set-le f l (f + k) s (omega arith)) (sym (set-append_left (drop f l) (take f l) k s (simp length-drop (omega arith)))))
      (λ (e : f + k ≡ i + length l). let q : k ≡ length (drop f l) + i = simp length-drop (omega arith) in
      rw (drop-set-lt f l i s (omega arith), take-set-lt f l i s (omega arith), q) (sym (set-append-add (drop f l) (take f l) i s)))
      w

  -- one more at the end
  pub ring-push : (f c i : ℕ) (l : List A) (s : A) → f ≤ length l → c < length l → i < length l → (f + c ≡ i) ⊎ (f + c ≡ i + length l)
      → ring f (c + 1) (set l i s) ≡ ring f c l ++ (s ∷ [])
  unfolding ring
  ring-push f c i l s hf hc hi w = rw (rotl-set f c i l s hf hc hi w, add-one) (take-suc-set (rotl f l) c s (omega (arith, length-rotl f l hf)))

  -- the first is taken
  pub ring-pop : (f c : ℕ) (l : List A) (d : A) → f < length l → c < length l → ring f (c + 1) l ≡ get_or l f d ∷ ring (f + 1) c l
  unfolding ring rotl
  ring-pop f c l d hf hc =
      rw (add-one c, add-one f, drop-cons l f d hf, take-suc l f d hf)
      (ap (λ (t : List A). get_or l f d ∷ t)
      (sym (ap (take c) (sym (append_assoc (drop (suc f) l) (take f l) (get_or l f d ∷ [])))
      ∙ take-append-le c (drop (suc f) l ++ take f l) (get_or l f d ∷ []) (simp (length-append, length-drop) (omega (arith, length-take-le f l (omega arith)))))))

  -- at the end the place goes back to 0
  pub ring-wrap : (c : ℕ) (l : List A) → ring (length l) c l ≡ ring 0 c l
  unfolding ring rotl
  ring-wrap c l = rw (drop-length, take-length, append-nil)

  pub ring-zero : (c : ℕ) (l : List A) → ring 0 c l ≡ take c l
  unfolding ring rotl
  ring-zero c l = rw append-nil
