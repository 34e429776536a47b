-- Laws of the numbers in an answer, over plain numbers and lists; and of the part that a lookup hands back.
use Rattle.std.specs.Prelude.{ℕ, zero, suc, ◌+◌, ◌-◌, ◌<◌, ◌≤◌, ◌≡◌, Bool, true, false, ltb, length, get_or, take, drop}
use Rattle.std.proofs.Common.{not-suc-le-zero, le_of_suc-le-suc, arith, ap, ◌∙◌, ltb-true, ltb-false, length-drop, length-take-le}
use Rattle.std.proofs.Math.Path.{refl, sym, subst}
use mathlib.Core.List.{List, [], ◌∷◌}
use Rattle.semantics.specs.Entries.{lookup_of}
use Rattle.semantics.specs.Told.{told_part}
use Rattle.semantics.specs.Limits.{base}
use Rattle.semantics.specs.Database.{Part, used_in, known_owners, well_formed, empty_part, record_place, words_of}
use Rattle.database.specs.Records.{owner_word, count_word}
use Rattle.database.specs.Checks.Laws.{formed-live}
use Rattle.database.specs.Parts.Laws.{words-part, lookup-malformed, lookup-beyond, lookup-used, edges-dead, edges-live, lookup-inside}

-- THE NUMBER AT A PLACE of the first k of some numbers
pub taken_at : (k i : ℕ) (ns : List ℕ) → i < k → get_or ns i 0 ≡ get_or (take k ns) i 0
taken_at zero i ns h = absurd (not-suc-le-zero h)
taken_at (suc k) i [] h = refl
taken_at (suc k) zero (x ∷ ns) h = refl
taken_at (suc k) (suc i) (x ∷ ns) h = taken_at k i ns (le_of_suc-le-suc h)

pub taken-behind : (k i : ℕ) (ns : List ℕ) → k ≤ i → 0 ≡ get_or (take k ns) i 0
taken-behind zero i ns h = refl
taken-behind (suc k) i [] h = refl
taken-behind (suc k) zero (x ∷ ns) h = absurd (not-suc-le-zero h)
taken-behind (suc k) (suc i) (x ∷ ns) h = taken-behind k i ns (le_of_suc-le-suc h)

pub taken-beyond : (k i : ℕ) (ns : List ℕ) → length ns ≤ i → 0 ≡ get_or (take k ns) i 0
taken-beyond zero i ns h = refl
taken-beyond (suc k) i [] h = refl
taken-beyond (suc k) zero (x ∷ ns) h = absurd (not-suc-le-zero h)
taken-beyond (suc k) (suc i) (x ∷ ns) h = taken-beyond k i ns (le_of_suc-le-suc h)

-- at most three numbers are counted of three, whatever stands behind them
pub three-few : (k a b c : ℕ) (rest : List ℕ) → k < 3 → take k (a ∷ b ∷ c ∷ rest) ≡ take k (a ∷ b ∷ c ∷ [])
three-few zero a b c rest h = refl
three-few (suc zero) a b c rest h = refl
three-few (suc (suc zero)) a b c rest h = refl
three-few (suc (suc (suc k))) a b c rest h = absurd (omega arith)

pub three-all : (k a b c : ℕ) (rest : List ℕ) → 3 ≤ k → take 3 (a ∷ b ∷ c ∷ rest) ≡ take k (a ∷ b ∷ c ∷ [])
three-all zero a b c rest h = absurd (omega arith)
three-all (suc zero) a b c rest h = absurd (omega arith)
three-all (suc (suc zero)) a b c rest h = absurd (omega arith)
three-all (suc (suc (suc zero))) a b c rest h = refl
three-all (suc (suc (suc (suc k)))) a b c rest h = refl

-- A LOOKUP
part_length : (p : Part) (ws : List ℕ) → p.from ≤ p.up_to → p.up_to ≤ length ws → length (words_of p ws) ≡ p.up_to - p.from
part_length p ws h k =
    ap length (sym (words-part p ws h))
    ∙ length-take-le (p.up_to - p.from) (drop p.from ws) (omega (arith, length-drop p.from ws))

module _ (i : ℕ) (ws : List ℕ) where
  -- the place that a part of so many words has: 0 where it is empty, else the place of the record's edges
  Placed : Part → Type 0
  Placed p = (p.up_to - p.from ≡ 0 → p.from ≡ 0) × (0 < p.up_to - p.from → p.from ≡ record_place base i + 4)

  placed : Placed (lookup_of i ws)
  unfolding Placed
  placed = on1 (well_formed base known_owners ws) refl
    where
      none : lookup_of i ws ≡ empty_part → Placed (lookup_of i ws)
      none e = subst Placed (sym e) ((λ h. refl), (λ (h : 0 < 0). absurd (not-suc-le-zero h)))

      on3 : (w : well_formed base known_owners ws ≡ true) → i < used_in ws → (o : ℕ) → owner_word base i ws ≡ o → Placed (lookup_of i ws)
      on3 w h zero e = none (lookup-used base known_owners i ws w h ∙ edges-dead base i ws e)
      on3 w h (suc f) e =
          let l = formed-live base known_owners ws w i f h e in
          let at = record_place base i + 4 in
          subst Placed (sym (lookup-used base known_owners i ws w h ∙ edges-live base i ws (count_word base i ws) (omega (arith, e)) refl))
          ((λ (z : at + count_word base i ws - at ≡ 0). absurd (omega (arith, z, l.some))), (λ z. refl))

      on2 : well_formed base known_owners ws ≡ true → (b : Bool) → ltb i (used_in ws) ≡ b → Placed (lookup_of i ws)
      on2 w true e = on3 w (ltb-true i (used_in ws) e) (owner_word base i ws) refl
      on2 w false e = none (lookup-beyond base known_owners i ws w (ltb-false i (used_in ws) e))

      on1 : (b : Bool) → well_formed base known_owners ws ≡ b → Placed (lookup_of i ws)
      on1 true w = on2 w (ltb i (used_in ws)) refl
      on1 false w = none (lookup-malformed base known_owners i ws w)

  module _ (part : List ℕ) (is : part ≡ words_of (lookup_of i ws) ws) where
    long : length part ≡ (lookup_of i ws).up_to - (lookup_of i ws).from
    long = let l = lookup-inside base known_owners i ws in ap length is ∙ part_length (lookup_of i ws) ws l.0 l.1

    pub part_none : length part < 1 → 0 ∷ length part ∷ [] ≡ told_part (lookup_of i ws)
    unfolding Placed
    part_none h =
        let z : (lookup_of i ws).up_to - (lookup_of i ws).from ≡ 0 = omega (arith, long, h) in
        let e = placed.0 z in
        λ j. sym e j ∷ long j ∷ []

    pub part-some : 1 ≤ length part → (at : ℕ) → at ≡ record_place base i + 4 → at ∷ length part ∷ [] ≡ told_part (lookup_of i ws)
    unfolding Placed
    part-some h at q =
        let z : 0 < (lookup_of i ws).up_to - (lookup_of i ws).from = omega (arith, long, h) in
        let e = q ∙ sym (placed.1 z) in
        λ j. e j ∷ long j ∷ []
