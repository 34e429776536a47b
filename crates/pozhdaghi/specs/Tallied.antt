-- A number in front of others, read by its place: the answer of a tally.
use Rattle.std.specs.Prelude.{ℕ, zero, suc, ◌-◌, ◌<◌, ◌≤◌, ◌≡◌, refl, List, ◌∷◌, length, get_or}
use Rattle.std.proofs.Common.{arith, sym, ap}
use Rattle.std.proofs.Math.ListN.{get_or-eq_default}

pub front_at : (ns : List ℕ) (i : ℕ) → i ≤ 0 → 0 ≡ get_or (0 ∷ ns) i 0
front_at ns zero h = refl
front_at ns (suc i) h = absurd (omega (arith, h))

pub behind-at : (ns : List ℕ) (i : ℕ) → 0 < i → get_or ns (i - 1) 0 ≡ get_or (0 ∷ ns) i 0
behind-at ns zero h = absurd (omega (arith, h))
behind-at ns (suc i) h = let z : suc i - 1 ≡ i = omega arith in ap (λ (j : ℕ). get_or ns j 0) z

pub beyond-at : (ns : List ℕ) (i : ℕ) → length ns < i → 0 ≡ get_or (0 ∷ ns) i 0
beyond-at ns zero h = absurd (omega (arith, h))
beyond-at ns (suc i) h = sym (get_or-eq_default ns 0 {n = i} (omega (arith, h)))
