-- What the loops over words come to, each law over plain lists: a turn of a loop that fills or copies, and the loop at its end.
-- They carry the slots of document 01, "Answer"; nothing here knows of slots.
use Rattle.std.specs.Prelude.{◌≡◌, refl, ◌⊎◌, List, [], ◌∷◌, ◌++◌, ℕ, zero, suc, ◌+◌, ◌-◌, ◌≤◌, ◌<◌, length, take, drop, set, get_or}
use Rattle.std.proofs.Common.{sym, ap, ◌∙◌, inl, inr, ⊎_elim, append-nil, not-suc-le-zero, le_of_suc-le-suc, zero-add, suc-add, add-one, arith, length-drop, length-take-le, take_all, get_or-take, get_or-drop, get_or-append-add, drop-set-lt}
use Rattle.std.proofs.Math.ListN.{get_or-append}
use Rattle.std.proofs.Math.Seq.{paste, paste-zero, paste-suc, length_paste_head, drop-length, take-set-lt}
use Rattle.std.proofs.lemmas.List.Edits.{length-paste}
use Rattle.std.proofs.lemmas.List.{set-append_left, take-set-le, drop-set-add}
use Rattle.semantics.specs.Words.{zeros}

-- a fill from the front, when it has come to the end
pub fill-all : (i : ℕ) (d : List ℕ) → i ≡ length d → zeros i ++ drop i d ≡ zeros (length d)
fill-all i d e = rw (e, drop-length) (append-nil _)

copy-suc : (k : ℕ) (s d : List ℕ) → k < length s → k < length d → set (take k s ++ drop k d) k (get_or s k 0) ≡ take (suc k) s ++ drop (suc k) d
copy-suc k [] d h g = absurd (not-suc-le-zero h)
copy-suc k (x ∷ s) [] h g = absurd (not-suc-le-zero g)
copy-suc zero (x ∷ s) (y ∷ d) h g = refl
copy-suc (suc k) (x ∷ s) (y ∷ d) h g = ap (λ (t : List ℕ). x ∷ t) (copy-suc k s d (le_of_suc-le-suc h) (le_of_suc-le-suc g))

-- a copy from the front to the front: one more word, and the end
pub copy_more : (x : List ℕ) (k : ℕ) (s d : List ℕ) → x ≡ take k s ++ drop k d → k < length s → k < length d → set x k (get_or s k 0) ≡ take (k + 1) s ++ drop (k + 1) d
copy_more x k s d e h g = rw (e, add-one) (copy-suc k s d h g)

pub copy-all : (k : ℕ) (s d : List ℕ) → k ≡ length s → length s ≡ length d → take k s ++ drop k d ≡ s
copy-all k s d e f =
    let q : k ≡ length d = e ∙ f in
    let a : take k s ≡ s = take_all k s (omega arith) in
    let b : drop k d ≡ [] = ap (λ (j : ℕ). drop j d) q ∙ drop-length d in
    rw (a, b) (append-nil s)

module _ {A : Type 0} where
  pub set-append-add : (xs ys : List A) (i : ℕ) (a : A) → set (xs ++ ys) (length xs + i) a ≡ xs ++ set ys i a
  set-append-add [] ys i a = rw zero-add
  set-append-add (x ∷ xs) ys i a = rw (suc-add (length xs) i) (ap (λ (t : List A). x ∷ t) (set-append-add xs ys i a))

-- k words of s pasted over d at a place: a word outside of these is d's own
module _ (d : List ℕ) (at : ℕ) (s : List ℕ) (k n : ℕ) (inside : at + k ≤ length d) (enough : k ≤ length s) where
  head-length : length (take at d ++ take k s) ≡ at + k
  head-length = length_paste_head d at s k (omega arith) enough

  pub get_or-paste-out : (n < at) ⊎ (at + k ≤ n) → get_or (paste d at s k) n 0 ≡ get_or d n 0
  get_or-paste-out o = ⊎_elim
      (λ (h : n < at).
      let la : length (take at d) ≡ at = length-take-le at d (omega arith) in
      get_or-append (take at d ++ take k s) (drop (at + k) d) 0 n (omega (arith, head-length))
      ∙ get_or-append (take at d) (take k s) 0 n (omega arith)
      ∙ get_or-take at d n 0 h)
      (λ (h : at + k ≤ n).
      let m : ℕ = n - (at + k) in
      let q : n ≡ length (take at d ++ take k s) + m = omega (arith, head-length) in
      let r : at + k + m ≡ n = omega arith in
      ap (λ (j : ℕ). get_or (paste d at s k) j 0) q
      ∙ get_or-append-add (take at d ++ take k s) (drop (at + k) d) m 0
      ∙ get_or-drop (at + k) d m 0
      ∙ ap (λ (j : ℕ). get_or d j 0) r)
      o

  pub set-paste-out : (v : ℕ) → (n < at) ⊎ (at + k ≤ n) → set (paste d at s k) n v ≡ paste (set d n v) at s k
  set-paste-out v o = ⊎_elim
      (λ (h : n < at).
      let la : length (take at d) ≡ at = length-take-le at d (omega arith) in
      let e1 : take at (set d n v) ≡ set (take at d) n v = take-set-lt at d n v h in
      let e2 : drop (at + k) (set d n v) ≡ drop (at + k) d = drop-set-lt (at + k) d n v (omega arith) in
      set-append_left (take at d ++ take k s) (drop (at + k) d) n v (omega (arith, head-length))
      ∙ ap (λ (l : List ℕ). l ++ drop (at + k) d) (set-append_left (take at d) (take k s) n v (omega arith))
      ∙ sym (rw (e1, e2)))
      (λ (h : at + k ≤ n).
      let m : ℕ = n - (at + k) in
      let q : n ≡ length (take at d ++ take k s) + m = omega (arith, head-length) in
      let r : n ≡ at + k + m = omega arith in
      let e1 : take at (set d n v) ≡ take at d = take-set-le at d n v (omega arith) in
      let e2 : drop (at + k) (set d n v) ≡ set (drop (at + k) d) m v = ap (λ (j : ℕ). drop (at + k) (set d j v)) r ∙ drop-set-add (at + k) d m v in
      ap (λ (j : ℕ). set (paste d at s k) j v) q
      ∙ set-append-add (take at d ++ take k s) (drop (at + k) d) m v
      ∙ sym (rw (e1, e2)))
      o

pub paste_more : (d : List ℕ) (at : ℕ) (s : List ℕ) (k : ℕ) → at + k < length d → k < length s → set (paste d at s k) (at + k) (get_or s k 0) ≡ paste d at s (k + 1)
paste_more d at s k h g = rw add-one (paste-suc d at s k 0 h g)

-- two runs of L words of one list, the one from `from` and the one from `to`, that are the same or lie apart
abbrev pub Apart : ℕ → ℕ → ℕ → Type 0
Apart L from to = (from + L ≤ to) ⊎ (to ≤ from)

outside : (L from to k : ℕ) → Apart L from to → k < L → (from + k < to) ⊎ (to + k ≤ from + k)
outside L from to k o h = ⊎_elim (λ (e : from + L ≤ to). inl (omega arith)) (λ (e : to ≤ from). inr (omega arith)) o

-- a copy within one list: one more word
pub copy_within : (L : ℕ) (x d : List ℕ) (from to k : ℕ) → x ≡ paste d to (drop from d) k → Apart L from to → k < L → from + L ≤ length d → to + L ≤ length d
    → set x (to + k) (get_or x (from + k) 0) ≡ paste d to (drop from d) (k + 1)
copy_within L x d from to k e o h f t =
    let s : List ℕ = drop from d in
    let ls : length s ≡ length d - from = length-drop from d in
    let w : get_or (paste d to s k) (from + k) 0 ≡ get_or s k 0 =
    get_or-paste-out d to s k (from + k) (omega arith) (omega arith) (outside L from to k o h) ∙ sym (get_or-drop from d k 0) in
    rw (e, w) (paste_more d to s k (omega arith) (omega arith))

-- d with the k words from a on and the k words from b on exchanged
abbrev pub exchanged : List ℕ → ℕ → ℕ → ℕ → List ℕ
exchanged d a b k = paste (paste d a (drop b d) k) b (drop a d) k

pub exchanged-none : (d : List ℕ) (a b : ℕ) → d ≡ exchanged d a b 0
exchanged-none d a b = paste-zero d a (drop b d) ∙ paste-zero (paste d a (drop b d) 0) b (drop a d)

-- an exchange within one list: one more word
pub swap-within : (L : ℕ) (x d : List ℕ) (a b k : ℕ) → x ≡ exchanged d a b k → Apart L a b → Apart L b a → k < L → a + L ≤ length d → b + L ≤ length d
    → set (set x (a + k) (get_or x (b + k) 0)) (b + k) (get_or x (a + k) 0) ≡ exchanged d a b (k + 1)
swap-within L x d a b k e o p h f g =
    let s : List ℕ = drop b d in
    let t : List ℕ = drop a d in
    let ls : length s ≡ length d - b = length-drop b d in
    let lt : length t ≡ length d - a = length-drop a d in
    let y : List ℕ = paste d a s k in
    let ly : length y ≡ length d = length-paste d a s k (omega arith) (omega arith) in
    let z : List ℕ = paste d a s (k + 1) in
    let lz : length z ≡ length d = length-paste d a s (k + 1) (omega arith) (omega arith) in
    let wa : get_or (paste y b t k) (a + k) 0 ≡ get_or t k 0 =
    get_or-paste-out y b t k (a + k) (omega arith) (omega arith) (outside L a b k o h)
    ∙ get_or-paste-out d a s k (a + k) (omega arith) (omega arith) (inr (omega arith))
    ∙ sym (get_or-drop a d k 0) in
    let wb : get_or (paste y b t k) (b + k) 0 ≡ get_or s k 0 =
    get_or-paste-out y b t k (b + k) (omega arith) (omega arith) (inr (omega arith))
    ∙ get_or-paste-out d a s k (b + k) (omega arith) (omega arith) (outside L b a k p h)
    ∙ sym (get_or-drop b d k 0) in
    let st : set (paste y b t k) (a + k) (get_or s k 0) ≡ paste z b t k =
    set-paste-out y b t k (a + k) (omega arith) (omega arith) (get_or s k 0) (outside L a b k o h)
    ∙ ap (λ (l : List ℕ). paste l b t k) (paste_more d a s k (omega arith) (omega arith)) in
    ap (λ (l : List ℕ). set (set l (a + k) (get_or l (b + k) 0)) (b + k) (get_or l (a + k) 0)) e
    ∙ ap (λ (v : ℕ). set (set (paste y b t k) (a + k) v) (b + k) (get_or (paste y b t k) (a + k) 0)) wb
    ∙ ap (λ (v : ℕ). set (set (paste y b t k) (a + k) (get_or s k 0)) (b + k) v) wa
    ∙ ap (λ (l : List ℕ). set l (b + k) (get_or t k 0)) st
    ∙ paste_more z b t k (omega arith) (omega arith)
