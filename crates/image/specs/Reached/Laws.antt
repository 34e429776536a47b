-- A part of the check goes on or is refused, never both.
-- Serves document 01, "Turned back".
use Rattle.std.specs.Prelude.{ℕ, ◌+◌, ◌<◌, ◌≤◌, Bool, not, List, eqb, ◌≡◌, Result, Ok, Err}
use Rattle.std.proofs.Math.Bool.{true, false}
use Rattle.std.proofs.lemmas.Bool.{false≢true}
use borrow.Author.Tests.{lt-ltb, le-ltb, eq-eqb, ne_eqb, ltb-false}
use Rattle.std.proofs.Math.Dec.{ltb}
use Rattle.std.proofs.Math.ListN.{length}
use Rattle.semantics.specs.declared.refusal.ImageRefusal.TheVariants as Image
use Rattle.semantics.specs.Lists.{pick}
use Rattle.semantics.specs.Bytes.{byte_at, long}
use Rattle.semantics.specs.Image.{symbol_bytes, width_in, longest_image, most_bytes, header}
use Rattle.image.specs.Reached.{is_sized, counts_answer}
use Rattle.std.proofs.Common.{arith, sym, ap, ◌∙◌}
use Rattle.std.proofs.Math.Path.{refl}
use Rattle.semantics.specs.Answer.{Answer, ok, refuse, and_then}
use Rattle.semantics.specs.declared.refusal.ImageRefusal.{ImageRefusal}

pub never : {r : ImageRefusal} {x : ℕ} → Err r ≡ Ok x → ⊥
never {r} {x} e = cc

pub next-inj : {x y : ℕ} → ◌≡◌ {A = Result ℕ ImageRefusal} (Ok x) (Ok y) → x ≡ y
next-inj {x} {y} e = cc

-- one part of the check behind another
pub then-refused : {A B : Type 0} (x : Answer ImageRefusal A) (k : A → Answer ImageRefusal B) (r : ImageRefusal) → x ≡ refuse r → refuse r ≡ and_then x k
then-refused x k r e = sym (ap (λ y. and_then y k) e)

pub then_ok : {A B : Type 0} (x : Answer ImageRefusal A) (k : A → Answer ImageRefusal B) (a : A) (y : Answer ImageRefusal B) → x ≡ ok a → y ≡ k a → y ≡ and_then x k
then_ok x k a y e h = h ∙ sym (ap (λ z. and_then z k) e)

-- THE HEADER, by its three parts
pick-twice : {A : Type 0} (a b c : Bool) (x y : A) → pick a x (pick b x (pick (not c) x y)) ≡ pick (pick a false (pick b false c)) y x
pick-twice true b c x y = refl
pick-twice false true c x y = refl
pick-twice false false true x y = refl
pick-twice false false false x y = refl

-- behind size and length: the version, its size, the counts
abbrev behind : List ℕ → Answer ImageRefusal ℕ
behind im = pick (eqb (width_in im) 0) (refuse Image.Version) (pick (ltb (most_bytes (byte_at im 0)) (length im)) (refuse Image.Length) (counts_answer im))

by_parts : (im : List ℕ) → header symbol_bytes im ≡ pick (is_sized im) (behind im) (refuse Image.Length)
unfolding header is_sized counts_answer
by_parts im = pick-twice (ltb (length im) 11) (ltb longest_image (length im)) (eqb (long im 1 + 5) (length im)) (refuse Image.Length) _

module _ (im : List ℕ) where
  pub bad-size : is_sized im ≡ false → refuse Image.Length ≡ header symbol_bytes im
  bad-size h = sym (by_parts im ∙ ap (λ (b : Bool). pick b (behind im) (refuse Image.Length)) h)

  module _ (sized : is_sized im ≡ true) where
    to-version : header symbol_bytes im ≡ behind im
    to-version = by_parts im ∙ ap (λ (b : Bool). pick b (behind im) (refuse Image.Length)) sized

    abbrev to-size : Answer ImageRefusal ℕ
    to-size = pick (ltb (most_bytes (byte_at im 0)) (length im)) (refuse Image.Length) (counts_answer im)

    pub bad-version : width_in im ≡ 0 → refuse Image.Version ≡ header symbol_bytes im
    bad-version v = sym (to-version ∙ ap (λ (b : Bool). pick b (refuse Image.Version) to-size) (eq-eqb (width_in im) 0 v))

    module _ (version : width_in im ≡ 0 → ⊥) where
      of-version : header symbol_bytes im ≡ to-size
      of-version = to-version ∙ ap (λ (b : Bool). pick b (refuse Image.Version) to-size) (ne_eqb (width_in im) 0 version)

      pub too_long : most_bytes (byte_at im 0) < length im → refuse Image.Length ≡ header symbol_bytes im
      too_long l = sym (of-version ∙ ap (λ (b : Bool). pick b (refuse Image.Length) (counts_answer im)) (lt-ltb (most_bytes (byte_at im 0)) (length im) l))

      pub by-counts : length im ≤ most_bytes (byte_at im 0) → counts_answer im ≡ header symbol_bytes im
      by-counts l = sym (of-version ∙ ap (λ (b : Bool). pick b (refuse Image.Length) (counts_answer im)) (le-ltb (most_bytes (byte_at im 0)) (length im) l))

  pub sized-long : is_sized im ≡ true → 10 < length im
  unfolding is_sized
  sized-long h = go (ltb (length im) 11) refl h
    where
      go : (b : Bool) → ltb (length im) 11 ≡ b → pick b false (pick (ltb longest_image (length im)) false (eqb (long im 1 + 5) (length im))) ≡ true → 10 < length im
      go true e q = absurd (false≢true q)
      go false e q = omega (arith, ltb-false (length im) 11 e)
