-- One round of an enumeration of paths, by what stands at its top and what its tries answer.
-- Serves document 01, "Budget and frontier"; 36 of "Turned back".
use Prim.Native.Nat.{ℕ, zero, suc, ◌-◌, ◌<◌}
use Rattle.std.proofs.Common.{arith, ◌∙◌}
use Rattle.std.specs.Prelude.{◌≡◌, List, ◌∷◌}
use Rattle.std.proofs.Math.Path.{ap}
use Rattle.semantics.specs.Answer.{ok, refuse}
use Rattle.semantics.specs.Path.{Path}
use Rattle.semantics.specs.Enumeration.{State, Setting, Try, over, expand, one, each, turn, run, final, follow, merge}

-- the tries of an expansion, one after another
pub each-one : {R W : Type 0} (c : Setting R) (s u : State W) (t : Try R W) (ts : List (Try R W)) → one c s t ≡ ok u → each c s (t ∷ ts) ≡ each c u ts
unfolding each
each-one c s u t ts e = rw e

pub each-stop : {R W : Type 0} (c : Setting R) (s : State W) (x : R) (t : Try R W) (ts : List (Try R W)) → one c s t ≡ refuse x → each c s (t ∷ ts) ≡ refuse x
unfolding each
each-stop c s x t ts e = rw e

module _ {R : Type 0} (c : Setting R) (f : Path → List (Try R Path)) (n : ℕ) (m : State Path) where
  pub run-over : (u : State Path) → turn c m ≡ over u → run c f n m ≡ ok u
  unfolding run final follow
  run-over u e = on n
    where
      on : (n : ℕ) → run c f n m ≡ ok u
      on zero = rw e
      on (suc n) = rw e

  pub run-many : (p : Path) (u : State Path) → turn c m ≡ expand p u → n ≡ 0 → run c f n m ≡ refuse c.too_many
  unfolding run final
  run-many p u e z = rw (z, e)

  pub run-round : (p : Path) (u x : State Path) → turn c m ≡ expand p u → 0 < n → each c u (f p) ≡ ok x → run c f n m ≡ run c f (n - 1) (merge c.order x)
  unfolding run follow
  run-round p u x e h k = let z : n ≡ suc (n - 1) = omega (arith, h) in ap (λ (j : ℕ). run c f j m) z ∙ rw (e, k)

  pub run-refused : (p : Path) (u : State Path) (x : R) → turn c m ≡ expand p u → 0 < n → each c u (f p) ≡ refuse x → run c f n m ≡ refuse x
  unfolding run follow
  run-refused p u x e h k = let z : n ≡ suc (n - 1) = omega (arith, h) in ap (λ (j : ℕ). run c f j m) z ∙ rw (e, k)
