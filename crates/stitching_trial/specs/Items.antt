-- The words of a slot cut to the first edges of a path, and more edges stored behind them. For every slot length.
-- Document 01, "Answer": a slot has "edge count, edges, zeros .. Waiting paths are held likewise".
use Rattle.std.specs.Prelude.{ℕ, zero, suc, ◌+◌, ◌-◌, ◌<◌, ◌≤◌, ◌≡◌, refl, List, [], ◌∷◌, ◌++◌, length, take, drop, set, get_or}
use Rattle.std.proofs.Common.{arith, sym, ap, ap₂, ◌∙◌, append-nil, append_assoc, length-append, length-drop, length-set, drop_of_length-le, length-take-le, take-suc, take_all}
use borrow.Rule.Slice.PartMut.{put_mid, Post-is}
use Rattle.semantics.specs.Words.{zeros, encode}
use Rattle.search_state.specs.Items.{with_edge}
use Rattle.search_state.specs.Items.Laws.{carries-slot}

-- ---- cut

take-zeros : (m n : ℕ) → m ≤ n → take m (zeros n) ≡ zeros m
take-zeros zero n h = refl
take-zeros (suc m) zero h = absurd (omega (arith, h))
take-zeros (suc m) (suc n) h = ap (λ (l : List ℕ). 0 ∷ l) (take-zeros m n (omega (arith, h)))

take-padded : (es : List ℕ) (m n : ℕ) → length es ≤ m → m ≤ n → take m (es ++ zeros n) ≡ es ++ zeros (m - length es)
take-padded [] m n h k = take-zeros m n k ∙ ap zeros (let z : m ≡ m - 0 = omega arith in z)
take-padded (x ∷ es) zero n h k = absurd (omega (arith, h))
take-padded (x ∷ es) (suc m) n h k = ap (λ (l : List ℕ). x ∷ l) (take-padded es m n (omega (arith, h)) (omega (arith, k)) ∙ ap (λ (j : ℕ). es ++ zeros j) (let z : m - length es ≡ suc m - suc (length es) = omega arith in z))

-- the count stored, and zeros behind the first k edges
pub cut_short : (m : ℕ) (item : List ℕ) (k : ℕ) → length item ≡ suc m → k ≤ m → {z : List ℕ} → z ≡ zeros (m - k) → put_mid (k + 1) (suc m - (k + 1)) (set item 0 k) z ≡ encode (suc m) (take k (drop 1 item))
unfolding encode
cut_short m [] k l h e = absurd (omega (arith, l))
cut_short m (w ∷ rest) k l h {z} e =
    let n : length (take k rest) ≡ k = length-take-le k rest (omega (arith, l, h)) in
    let a : take (k + 1) (k ∷ rest) ≡ k ∷ take k rest = ap (λ (j : ℕ). take j (k ∷ rest)) (let y : k + 1 ≡ suc k = omega arith in y) in
    let b : drop (suc m) (k ∷ rest) ≡ [] = drop_of_length-le (k ∷ rest) {i = suc m} (omega (arith, l)) in
    let c : z ++ drop (suc m) (k ∷ rest) ≡ zeros (m - k) = ap (λ (t : List ℕ). z ++ t) b ∙ append-nil z ∙ e in
    let d : take m (take k rest ++ zeros (suc m)) ≡ take k rest ++ zeros (m - k) = take-padded (take k rest) m (suc m) (omega (arith, n, h)) (omega arith) ∙ ap (λ (j : ℕ). take k rest ++ zeros (m - j)) n in
    rw (Post-is (k + 1) (suc m) (k ∷ rest) (omega (arith, h)))
    (ap₂ (λ (x y : List ℕ). x ++ y) a c ∙ ap₂ (λ (j : ℕ) (t : List ℕ). j ∷ t) (sym n) (sym d))

-- the part that becomes zeros
pub part_length : (m : ℕ) (item : List ℕ) (k : ℕ) → length item ≡ suc m → k ≤ m → length (take (suc m - (k + 1)) (drop (k + 1) (set item 0 k))) ≡ m - k
part_length m item k l h =
    length-take-le (suc m - (k + 1)) (drop (k + 1) (set item 0 k)) (let d = length-drop (k + 1) (set item 0 k) in let e = length-set item 0 k in omega (arith, d, e, l, h))
    ∙ (let z : suc m - (k + 1) ≡ m - k = omega arith in z)

-- the first k edges are so many
pub front_length : (m : ℕ) (item : List ℕ) (k : ℕ) → length item ≡ suc m → k ≤ m → length (take k (drop 1 item)) ≡ k
front_length m item k l h = length-take-le k (drop 1 item) (let d = length-drop 1 item in omega (arith, d, l, h))

-- ---- grown

abbrev pub up_to : ℕ → List ℕ → List ℕ → List ℕ
up_to i ps edges = ps ++ take i edges

up_none : (ps edges : List ℕ) → up_to 0 ps edges ≡ ps
up_none ps edges = append-nil ps

-- at the head of the loop: the first i edges stand behind those of the path
pub grown-start : (m : ℕ) {item : List ℕ} (ps edges : List ℕ) → item ≡ encode (suc m) ps → item ≡ encode (suc m) (up_to 0 ps edges)
grown-start m ps edges e = e ∙ ap (encode (suc m)) (sym (up_none ps edges))

pub grown-again : (m : ℕ) {item : List ℕ} (ps edges : List ℕ) {k : ℕ} (i : ℕ) → item ≡ encode (suc m) (up_to i ps edges) → length ps ≡ k → k + length edges ≤ m → i < length edges
    → {item' : List ℕ} → item' ≡ with_edge item (k + i) (get_or edges i 0) → item' ≡ encode (suc m) (up_to (i + 1) ps edges)
grown-again m ps edges {k} i e n f h q =
    let es = up_to i ps edges in
    let t : length (take i edges) ≡ i = length-take-le i edges (omega (arith, h)) in
    let c : length es ≡ k + i = length-append ps (take i edges) ∙ (let z : length ps + length (take i edges) ≡ k + i = omega (arith, n, t) in z) in
    let g : with_edge (encode (suc m) es) (length es) (get_or edges i 0) ≡ encode (suc m) (es ++ (get_or edges i 0 ∷ [])) = (carries-slot m es (omega (arith, c, f, h))).grows (get_or edges i 0) (omega (arith, c, f, h)) in
    let s : es ++ (get_or edges i 0 ∷ []) ≡ up_to (i + 1) ps edges =
    append_assoc ps (take i edges) (get_or edges i 0 ∷ []) ∙ ap (λ (l : List ℕ). ps ++ l) (sym (take-suc edges i 0 h)) ∙ ap (λ (j : ℕ). up_to j ps edges) (let z : suc i ≡ i + 1 = omega arith in z) in
    q ∙ ap (λ (l : List ℕ). with_edge l (k + i) (get_or edges i 0)) e ∙ ap (λ (j : ℕ). with_edge (encode (suc m) es) j (get_or edges i 0)) (sym c) ∙ g ∙ ap (encode (suc m)) s

pub grown-end : (m : ℕ) {item : List ℕ} (ps edges : List ℕ) (i : ℕ) → item ≡ encode (suc m) (up_to i ps edges) → length edges ≤ i → item ≡ encode (suc m) (ps ++ edges)
grown-end m ps edges i e h = e ∙ ap (λ (l : List ℕ). encode (suc m) (ps ++ l)) (take_all i edges h)

-- the first edges of what was grown are those of the path
pub grown-front : (m : ℕ) (ps es : List ℕ) {k : ℕ} → length ps ≡ k → k + length es ≤ m → take k (drop 1 (encode (suc m) (ps ++ es))) ≡ ps
unfolding encode
grown-front m ps es n h =
    ap (λ (j : ℕ). take j (take m (ps ++ es ++ zeros (suc m)))) (sym n) ∙ front ps es m (zeros (suc m)) (omega (arith, n, h))
  where
    front : (ps es : List ℕ) (m : ℕ) (zs : List ℕ) → length ps ≤ m → take (length ps) (take m (ps ++ es ++ zs)) ≡ ps
    front [] es m zs h = refl
    front (x ∷ ps) es zero zs h = absurd (omega (arith, h))
    front (x ∷ ps) es (suc m) zs h = ap (λ (l : List ℕ). x ∷ l) (front ps es m zs (omega (arith, h)))
