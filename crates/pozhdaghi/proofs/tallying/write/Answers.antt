-- the first number and those behind it, or none
use native.Mathlib.Omega.{arith}
use Rattle.std.proofs.Common.{ℕ, ◌≡◌, List, [], ◌∷◌, length, refl, sym, ap, ◌∙◌}
use Rattle.semantics.specs.Written.{written}
use Rattle.pozhdaghi.proofs.tallying.write.Goals as goal

pub returns-in-Some : goal.returns-in-Some
unfolding written
returns-in-Some c =
    ap (λ (l : List ℕ). 0 ∷ l) c.write.ensures
    ∙ sym (ap (λ (l : List ℕ). written (length l) (0 ∷ c.args.counts.now)) c.in-Some.ensures.cases.0)

none : (l ns : List ℕ) → length l ≡ 0 → l ≡ written (length l) ns
unfolding written
none [] ns e = refl
none (x ∷ l) ns e = absurd (omega (arith, e))

pub returns-in_default : goal.returns-in_default
returns-in_default c = none c.args.answer.now (0 ∷ c.args.counts.now) c.in_default.ensures.cases
