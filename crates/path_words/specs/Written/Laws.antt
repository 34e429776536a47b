-- Laws of written lists: their numbers one by one, and the list with a number more.
use Rattle.std.specs.Prelude.{ℕ, zero, suc, ◌+◌, ◌<◌, ◌≤◌, ◌≡◌, refl, List, [], ◌∷◌, ◌++◌, length, get_or, set}
use Rattle.std.proofs.Common.{not-suc-le-zero, le_of_suc-le-suc, add-one, sym, ap, ap₂, subst, ◌∙◌, length-set}
use Rattle.semantics.specs.Written.{written}
use Rattle.semantics.specs.Words.{zeros}
use Rattle.path_words.specs.Written.{reached, Filled}

pub written-length : (n : ℕ) (ns : List ℕ) → length (written n ns) ≡ n
unfolding written
written-length zero ns = refl
written-length (suc n) [] = ap suc (written-length n [])
written-length (suc n) (x ∷ ns) = ap suc (written-length n ns)

-- the number at a place below n, 0 behind the list's own
pub written_at : (n : ℕ) (ns : List ℕ) (i : ℕ) → i < n → get_or (written n ns) i 0 ≡ get_or ns i 0
unfolding written
written_at zero ns i h = absurd (not-suc-le-zero h)
written_at (suc n) [] zero h = refl
written_at (suc n) [] (suc i) h = written_at n [] i (le_of_suc-le-suc h)
written_at (suc n) (x ∷ ns) zero h = refl
written_at (suc n) (x ∷ ns) (suc i) h = written_at n ns i (le_of_suc-le-suc h)

-- ONE NUMBER MORE
more-inside : (n : ℕ) (ns : List ℕ) (v : ℕ) → reached n ns < n → set (written n ns) (reached n ns) v ≡ written n (ns ++ (v ∷ []))
unfolding written reached
more-inside zero ns v h = absurd (not-suc-le-zero h)
more-inside (suc n) [] v h = refl
more-inside (suc n) (x ∷ ns) v h = ap (λ (l : List ℕ). x ∷ l) (more-inside n ns v (le_of_suc-le-suc h))

place_inside : (n : ℕ) (ns : List ℕ) (v : ℕ) → reached n ns < n → suc (reached n ns) ≡ reached n (ns ++ (v ∷ []))
unfolding reached
place_inside zero ns v h = absurd (not-suc-le-zero h)
place_inside (suc zero) [] v h = refl
place_inside (suc (suc n)) [] v h = refl
place_inside (suc n) (x ∷ ns) v h = ap suc (place_inside n ns v (le_of_suc-le-suc h))

more-full : (n : ℕ) (ns : List ℕ) (v : ℕ) → n ≤ reached n ns → written n ns ≡ written n (ns ++ (v ∷ []))
unfolding written reached
more-full zero ns v h = refl
more-full (suc n) [] v h = absurd (not-suc-le-zero h)
more-full (suc n) (x ∷ ns) v h = ap (λ (l : List ℕ). x ∷ l) (more-full n ns v (le_of_suc-le-suc h))

place-full : (n : ℕ) (ns : List ℕ) (v : ℕ) → n ≤ reached n ns → reached n ns ≡ reached n (ns ++ (v ∷ []))
unfolding reached
place-full zero ns v h = refl
place-full (suc n) [] v h = absurd (not-suc-le-zero h)
place-full (suc n) (x ∷ ns) v h = ap suc (place-full n ns v (le_of_suc-le-suc h))

-- a number put at the place that was reached
pub holds_more : (area : List ℕ) (at v : ℕ) (ns : List ℕ) → at < length area → Filled area at ns → Filled (set area at v) (at + 1) (ns ++ (v ∷ []))
holds_more area at v ns h k =
    let n = length area in
    let s : length (set area at v) ≡ n = length-set area at v in
    let b : reached n ns < n = subst (λ (i : ℕ). i < n) k.place h in
    record {
      words = ap₂ (λ (a : List ℕ) (i : ℕ). set a i v) k.words k.place ∙ more-inside n ns v b ∙ ap (λ (m : ℕ). written m (ns ++ (v ∷ []))) (sym s);
      place = add-one at ∙ ap suc k.place ∙ place_inside n ns v b ∙ ap (λ (m : ℕ). reached m (ns ++ (v ∷ []))) (sym s);
    }

-- nothing is put where the area is full
pub holds-full : (area : List ℕ) (at v : ℕ) (ns : List ℕ) → length area ≤ at → Filled area at ns → Filled area at (ns ++ (v ∷ []))
holds-full area at v ns h k =
    let n = length area in
    let b : n ≤ reached n ns = subst (λ (i : ℕ). n ≤ i) k.place h in
    record { words = k.words ∙ more-full n ns v b; place = k.place ∙ place-full n ns v b }

-- at the start
pub written_none : (n : ℕ) → zeros n ≡ written n []
unfolding written
written_none zero = refl
written_none (suc n) = ap (λ (l : List ℕ). 0 ∷ l) (written_none n)

reached-none : (n : ℕ) → 0 ≡ reached n []
unfolding reached
reached-none zero = refl
reached-none (suc n) = refl

pub holds-none : (area : List ℕ) (n : ℕ) → length area ≡ n → area ≡ zeros n → Filled area 0 []
holds-none area n h k = record { words = k ∙ written_none n ∙ ap (λ (m : ℕ). written m []) (sym h); place = reached-none (length area) }
