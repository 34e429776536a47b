-- Edge lists as the words of a slot, and areas whose first slots hold such lists. For every slot length L.
-- Document 01, "Answer": "edge count, edges, zeros. Unused slots, and words behind the last whole slot, are zero".
use Rattle.std.specs.Prelude.{◌≡◌, refl, ◌⊎◌, List, [], ◌∷◌, ◌++◌, map, ℕ, zero, suc, ◌+◌, ◌-◌, ◌*◌, ◌≤◌, ◌<◌, length, take, drop, set, get_or}
use Rattle.std.proofs.Common.{sym, ap, ◌∙◌, subst, append_assoc, append-nil, not-suc-le-zero, le_of_suc-le-suc, mul-suc, add-one, arith, length-drop, drop_of_length-le, length-append, take_at, drop_at}
use borrow.Rule.Slice.PartMut.{mid_of, put_mid, mid_len, Post-is}
use Rattle.std.proofs.lemmas.List.{length-replicate, replicate-append-replicate}
use Rattle.std.proofs.Math.Seq.{append_snoc, take-append_seam, take-append-add, set-append_seam}
use Rattle.semantics.specs.Words.{zeros, encode, flat, area, slots_of}
use Rattle.semantics.specs.Words.Laws.{length-encode, length-flat}
use Rattle.words.specs.Ring.{ring, ring-push, ring-pop}
use Rattle.words.specs.Slots.{SlotsIn, slot_at, put_slot}
use Rattle.words.specs.Slots.Laws.{put-at, get_or-slots, length-slots, slots-put}

-- ---- a list as a slot

zeros-split : (k m : ℕ) → zeros (k + m) ≡ zeros k ++ zeros m
zeros-split k m = sym (replicate-append-replicate k m 0)

pub take-zeros : (k m : ℕ) → k ≤ m → take k (zeros m) ≡ zeros k
take-zeros k m h =
    let q : m ≡ k + (m - k) = omega arith in
    ap (λ (j : ℕ). take k (zeros j)) q ∙ ap (take k) (zeros-split k (m - k)) ∙ take_at (zeros k) (zeros (m - k)) k (length-replicate k 0)

-- a list that has room in its slot stands there whole
pub encode-room : (L : ℕ) (es : List ℕ) → length es < L → encode L es ≡ length es ∷ (es ++ zeros (L - suc (length es)))
unfolding encode
encode-room zero es h = absurd (not-suc-le-zero h)
encode-room (suc n) es h =
    let m : ℕ = suc n - suc (length es) in
    let q : n ≡ length es + m = omega arith in
    let e : take n (es ++ zeros (suc n)) ≡ es ++ zeros m =
    ap (λ (j : ℕ). take j (es ++ zeros (suc n))) q
    ∙ take-append-add es (zeros (suc n)) m
    ∙ ap (λ (l : List ℕ). es ++ l) (take-zeros m (suc n) (omega arith)) in
    ap (λ (l : List ℕ). length es ∷ l) e

-- a slot of zeros is the slot of no edges
pub encode-none : (L : ℕ) → encode L [] ≡ zeros L
unfolding encode
encode-none L = take-zeros L (suc L) (omega arith)

-- the count and the edges that a slot holds
pub encode-count : (L : ℕ) (es : List ℕ) → length es < L → get_or (encode L es) 0 0 ≡ length es
encode-count L es h = rw (encode-room L es h)

pub encode-edges : (L : ℕ) (es : List ℕ) → length es < L → take (length es) (drop 1 (encode L es)) ≡ es
encode-edges L es h = rw (encode-room L es h) (take-append_seam es (zeros (L - suc (length es))))

-- one more edge: its word, and the count
pub encode_snoc : (L : ℕ) (es : List ℕ) (e : ℕ) → length es + 1 < L → set (set (encode L es) (length es + 1) e) 0 (length es + 1) ≡ encode L (es ++ (e ∷ []))
encode_snoc L es e h =
    let m : ℕ = L - suc (length es + 1) in
    let lo : length (es ++ (e ∷ [])) ≡ length es + 1 = length-append es (e ∷ []) in
    let old : encode L es ≡ length es ∷ (es ++ (0 ∷ zeros m)) =
    encode-room L es (omega arith) ∙ ap (λ (j : ℕ). length es ∷ (es ++ zeros j)) (let q : L - suc (length es) ≡ suc m = omega arith in q) in
    let new : encode L (es ++ (e ∷ [])) ≡ (length es + 1) ∷ (es ++ (e ∷ zeros m)) =
    encode-room L (es ++ (e ∷ [])) (omega arith)
    ∙ ap (λ (j : ℕ). j ∷ (es ++ (e ∷ []) ++ zeros (L - suc j))) lo
    ∙ ap (λ (l : List ℕ). (length es + 1) ∷ l) (append_snoc es e (zeros m)) in
    let put : set (es ++ (0 ∷ zeros m)) (length es) e ≡ es ++ (e ∷ zeros m) = set-append_seam es 0 (zeros m) e in
    ap (λ (l : List ℕ). set (set l (length es + 1) e) 0 (length es + 1)) old
    ∙ ap (λ (j : ℕ). set (set (length es ∷ (es ++ (0 ∷ zeros m))) j e) 0 (length es + 1)) (add-one (length es))
    ∙ ap (λ (l : List ℕ). (length es + 1) ∷ l) put
    ∙ sym new

-- ---- a slot written in three steps: the count, the edges into one part of it, zeros into the part behind

-- the slot d with its count set and p in the place of the edges
abbrev pub with_edges : List ℕ → ℕ → List ℕ → List ℕ
with_edges d n p = put_mid 1 (1 + n - 1) (set d 0 n) p

module _ (d es : List ℕ) (room : length es < length d) where
  laid-front : with_edges d (length es) es ≡ (length es ∷ es) ++ drop (length es) (drop 1 d)
  laid-front = front d room
    where
      front : (d : List ℕ) → length es < length d → with_edges d (length es) es ≡ (length es ∷ es) ++ drop (length es) (drop 1 d)
      front [] h = absurd (not-suc-le-zero h)
      front (x ∷ d) h = let q : 1 + length es - 1 ≡ length es = omega arith in rw q

  pub laid-length : length (with_edges d (length es) es) ≡ length d
  laid-length = ap length laid-front ∙ simp (length-append, length-drop) (omega arith)

  laid-rest : length (mid_of (1 + length es) (length d - (1 + length es)) (with_edges d (length es) es)) ≡ length d - (1 + length es)
  laid-rest = mid_len (1 + length es) (length d) (with_edges d (length es) es) (omega (arith, laid-length))

  laid : put_mid (1 + length es) (length d - (1 + length es)) (with_edges d (length es) es) (zeros (length d - (1 + length es))) ≡ encode (length d) es
  laid =
      let n : ℕ = length es in
      let l : List ℕ = with_edges d n es in
      let m : ℕ = length d - (1 + n) in
      let r : List ℕ = drop n (drop 1 d) in
      let c : length (n ∷ es) ≡ 1 + n = omega arith in
      let a : take (1 + n) l ≡ n ∷ es = ap (take (1 + n)) laid-front ∙ take_at (n ∷ es) r (1 + n) c in
      let b : drop m (drop (1 + n) l) ≡ [] = Post-is (1 + n) (length d) l (omega arith) ∙ drop_of_length-le l {i = length d} (omega (arith, laid-length)) in
      let q : m ≡ length d - suc n = omega arith in
      ap (λ (w : List ℕ). w ++ (zeros m ++ drop m (drop (1 + n) l))) a
      ∙ ap (λ (w : List ℕ). (n ∷ es) ++ (zeros m ++ w)) b
      ∙ ap (λ (w : List ℕ). (n ∷ es) ++ w) (append-nil (zeros m) ∙ ap zeros q)
      ∙ sym (encode-room (length d) es room)

  -- the slot after the three steps, p and z being what the two parts hold when they are back
  pub laid_out : (p z : List ℕ) → p ≡ es → z ≡ zeros (length (mid_of (1 + length es) (length d - (1 + length es)) (with_edges d (length es) p)))
      → put_mid (1 + length es) (length d - (1 + length es)) (with_edges d (length es) p) z ≡ encode (length d) es
  laid_out p z e f =
      let n : ℕ = length es in
      let m : ℕ = length d - (1 + n) in
      let g : z ≡ zeros m = f ∙ ap (λ (w : List ℕ). zeros (length (mid_of (1 + n) m (with_edges d n w)))) e ∙ ap zeros laid-rest in
      ap (λ (w : List ℕ). put_mid (1 + n) m (with_edges d n w) z) e ∙ ap (put_mid (1 + n) m (with_edges d n es)) g ∙ laid

-- ---- lists in the first slots of an area

pub flat_append : (L : ℕ) (ls ms : List (List ℕ)) → flat L (ls ++ ms) ≡ flat L ls ++ flat L ms
unfolding flat
flat_append L [] ms = refl
flat_append L (es ∷ ls) ms = rw (flat_append L ls ms) (sym (append_assoc (encode L es) (flat L ls) (flat L ms)))

-- the next list is written behind those that are there
pub area-put : (L len : ℕ) (ls : List (List ℕ)) (es : List ℕ) → L * length ls + L ≤ len → put_slot L (length ls) (encode L es) (area L len ls) ≡ area L len (ls ++ (es ∷ []))
unfolding area flat
area-put L len ls es h =
    let m : ℕ = len - L * length (ls ++ (es ∷ [])) in
    let q : len - L * length ls ≡ L + m = rw (length-append, add-one) (omega (arith, mul-suc L (length ls))) in
    let old : area L len ls ≡ flat L ls ++ zeros L ++ zeros m =
    ap (λ (j : ℕ). flat L ls ++ zeros j) q ∙ ap (λ (l : List ℕ). flat L ls ++ l) (zeros-split L m) ∙ sym (append_assoc (flat L ls) (zeros L) (zeros m)) in
    let new : flat L (ls ++ (es ∷ [])) ≡ flat L ls ++ encode L es = flat_append L ls (es ∷ []) ∙ ap (λ (l : List ℕ). flat L ls ++ l) (append-nil (encode L es)) in
    ap (put_slot L (length ls) (encode L es)) old
    ∙ put-at L (length ls) (flat L ls) (zeros L) (zeros m) (encode L es) (length-flat L ls) (length-replicate L 0)
    ∙ ap (λ (l : List ℕ). l ++ zeros m) (sym new)

-- the slots of these lists
pub slots-flat : (L : ℕ) (ls : List (List ℕ)) (rest : List ℕ) → slots_of L (length ls) (flat L ls ++ rest) ≡ map (encode L) ls
unfolding flat slots_of
slots-flat L [] rest = refl
slots-flat L (es ∷ ls) rest =
    let r : List ℕ = flat L ls ++ rest in
    rw (append_assoc (encode L es) (flat L ls) rest, take_at (encode L es) r L (length-encode L es), drop_at (encode L es) r L (length-encode L es), slots-flat L ls rest)

pub slots-area : (L len : ℕ) (ls : List (List ℕ)) → slots_of L (length ls) (area L len ls) ≡ map (encode L) ls
unfolding area
slots-area L len ls = slots-flat L ls (zeros (len - L * length ls))

get_d_map : (f : List ℕ → List ℕ) (ls : List (List ℕ)) (i : ℕ) → i < length ls → get_or (map f ls) i [] ≡ f (get_or ls i [])
get_d_map f [] i h = absurd (not-suc-le-zero h)
get_d_map f (es ∷ ls) zero h = refl
get_d_map f (es ∷ ls) (suc i) h = get_d_map f ls i (le_of_suc-le-suc h)

-- slot i holds list i
pub slot_at-area : (L len i : ℕ) (ls : List (List ℕ)) → i < length ls → slot_at L i (area L len ls) ≡ encode L (get_or ls i [])
slot_at-area L len i ls h =
    sym (get_or-slots L (length ls) i (area L len ls) h) ∙ ap (λ (l : List (List ℕ)). get_or l i []) (slots-area L len ls) ∙ get_d_map (encode L) ls i h

-- ---- lists in a ring of slots

-- a slot written behind the last that waits is one more that waits
pub ring-put : (L n f c i : ℕ) (s ws : List ℕ) → f ≤ n → c < n → i < n → (f + c ≡ i) ⊎ (f + c ≡ i + n) → length s ≡ L → SlotsIn L n ws
    → ring f (c + 1) (slots_of L n (put_slot L i s ws)) ≡ ring f c (slots_of L n ws) ++ (s ∷ [])
ring-put L n f c i s ws a b d w e g =
    let l : n ≡ length (slots_of L n ws) = sym (length-slots L n ws) in
    ap (ring f (c + 1)) (slots-put L n i s ws d e g)
    ∙ ring-push f c i (slots_of L n ws) s (omega arith) (omega arith) (omega arith) (subst (λ (k : ℕ). (f + c ≡ i) ⊎ (f + c ≡ i + k)) l w)

-- the slot at the ring's place is the first that waits
pub ring-first : (L n f c : ℕ) (ws : List ℕ) → f < n → c < n → ring f (c + 1) (slots_of L n ws) ≡ slot_at L f ws ∷ ring (f + 1) c (slots_of L n ws)
ring-first L n f c ws a b =
    let l : n ≡ length (slots_of L n ws) = sym (length-slots L n ws) in
    ring-pop f c (slots_of L n ws) [] (omega arith) (omega arith) ∙ ap (λ (s : List ℕ). s ∷ ring (f + 1) c (slots_of L n ws)) (get_or-slots L n f ws a)
