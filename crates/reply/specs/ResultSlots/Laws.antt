-- What result slots hold, how a mark changes it, and how the slots that stay are closed up. For every slot length L.
-- Serves document 01, "Answer": `from_complete` on result slots.
use Rattle.std.specs.Prelude.{ℕ, zero, suc, ◌+◌, ◌-◌, ◌*◌, ◌≤◌, ◌<◌, ◌≡◌, Bool, length, drop}
use Rattle.std.proofs.Common.{not-suc-le-zero, le_of_suc-le-suc, add-zero, arith, sym, ◌∙◌, lt-ltb, le-ltb, length-append, length-drop, length-take-le, drop_at, take-take, drop-drop, get_or-take, get_or-drop, ext_get_or}
use Rattle.std.proofs.Math.Path.{refl, ap, ap₂}
use Rattle.std.proofs.Math.Bool.{true, false}
use mathlib.Core.List.{List, [], ◌∷◌, ◌++◌, map, Memᴰ}
use Rattle.std.proofs.Math.ListN.{get_or, take}
use Rattle.std.proofs.lemmas.List.{length-map}
use Rattle.std.proofs.Math.Seq.{get_or-set_same, drop-set-lt}
use Rattle.semantics.specs.Lists.{pick}
use Rattle.semantics.specs.Words.{zeros, encode, flat, area, slots_of}
use Rattle.semantics.specs.Words.Laws.{length-encode, length-flat, drop-take}
use Rattle.words.specs.Slots.{slot_at}
use Rattle.words.specs.Slots.Laws.{within, length-slots, get_or-slots}
use Rattle.words.specs.Area.{encode-count, encode-edges, slots-flat}
use Rattle.reply.specs.ResultSlots.{Lists, count_of, edges_in, edges_at, lists_at, Fitting, slot_of, Held, Marked}

-- ---- reading a slot

pub slot-first : (L i : ℕ) (ws : List ℕ) → 0 < L → get_or (slot_at L i ws) 0 0 ≡ get_or ws (L * i) 0
unfolding slot_at
slot-first L i ws h = get_or-take L (drop (L * i) ws) 0 0 h ∙ get_or-drop (L * i) ws 0 0 ∙ ap (λ (k : ℕ). get_or ws k 0) (add-zero (L * i))

-- the part of the area that holds the edges of slot i, as it is lent
pub edges-part : (L i : ℕ) (ws : List ℕ) → Fitting L i ws
    → take (L * i + 1 + count_of L (get_or ws (L * i) 0) - (L * i + 1)) (drop (L * i + 1) ws) ≡ edges_at L i ws
unfolding edges_in slot_at
edges-part L i ws f =
    let x : List ℕ = drop (L * i) ws in
    let c : ℕ = count_of L (get_or ws (L * i) 0) in
    let small : c < L = f.fits in
    let q : L * i + 1 + c - (L * i + 1) ≡ c = omega arith in
    let l : L ≡ 1 + (L - 1) = omega arith in
    let d : drop 1 (take L x) ≡ take (L - 1) (drop 1 x) = ap (λ (k : ℕ). drop 1 (take k x)) l ∙ drop-take 1 (L - 1) x in
    ap (λ (k : ℕ). take k (drop (L * i + 1) ws)) q
    ∙ ap (take c) (sym (drop-drop 1 (L * i) ws))
    ∙ sym (take-take c (L - 1) (drop 1 x) (omega arith))
    ∙ ap (take c) (sym d)
    ∙ ap (λ (k : ℕ). take (count_of L k) (drop 1 (take L x))) (sym (slot-first L i ws (omega arith)))

module _ (L i : ℕ) (ws : List ℕ) (f : Fitting L i ws) where
  abbrev many : ℕ
  many = count_of L (get_or ws (L * i) 0)

  behind-count : many ≤ length (drop (L * i + 1) ws)
  behind-count = omega (arith, f.inside, f.fits, length-drop (L * i + 1) ws)

  edges-taken : edges_at L i ws ≡ take many (drop (L * i + 1) ws)
  edges-taken =
      let q : L * i + 1 + many - (L * i + 1) ≡ many = omega arith in
      sym (edges-part L i ws f) ∙ ap (λ (k : ℕ). take k (drop (L * i + 1) ws)) q

  pub edges-length : length (edges_at L i ws) ≡ many
  edges-length = ap length edges-taken ∙ length-take-le many (drop (L * i + 1) ws) behind-count

  -- edge t of the slot stands behind its count
  pub edges_word : (t : ℕ) → t < many → get_or (edges_at L i ws) t 0 ≡ get_or ws (L * i + 1 + t) 0
  edges_word t h = ap (λ (l : List ℕ). get_or l t 0) edges-taken ∙ get_or-take many (drop (L * i + 1) ws) t 0 h ∙ get_or-drop (L * i + 1) ws t 0

pub length-lists : (L n : ℕ) (ws : List ℕ) → length (lists_at L n ws) ≡ n
unfolding lists_at
length-lists L n ws = length-map (slots_of L n ws) (edges_in L) ∙ length-slots L n ws

get_or-in : (f : List ℕ → List ℕ) (ss : List (List ℕ)) (i : ℕ) → i < length ss → get_or (map f ss) i [] ≡ f (get_or ss i [])
get_or-in f [] i h = absurd (not-suc-le-zero h)
get_or-in f (s ∷ ss) zero h = refl
get_or-in f (s ∷ ss) (suc i) h = get_or-in f ss i (le_of_suc-le-suc h)

pub lists_at_lem : (L n i : ℕ) (ws : List ℕ) → i < n → get_or (lists_at L n ws) i [] ≡ edges_at L i ws
unfolding lists_at
lists_at_lem L n i ws h = get_or-in (edges_in L) (slots_of L n ws) i (omega (arith, length-slots L n ws)) ∙ ap (edges_in L) (get_or-slots L n i ws h)

-- ---- the slot of a list

module _ (L : ℕ) (es : List ℕ) (room : length es < L) where
  slot-word : (m : Bool) → get_or (slot_of L m es) 0 0 ≡ pick m (length es + L) (length es)
  unfolding slot_of
  slot-word true = get_or-set_same (encode L es) 0 (length es + L) 0 (omega (arith, length-encode L es))
  slot-word false = encode-count L es room

  word_count : (m : Bool) → count_of L (pick m (length es + L) (length es)) ≡ length es
  word_count true = let q : length es + L - L ≡ length es = omega arith in rw (le-ltb (length es + L) L (omega arith)) q
  word_count false = rw (lt-ltb (length es) L room)

  slot-edges : (m : Bool) → drop 1 (slot_of L m es) ≡ drop 1 (encode L es)
  unfolding slot_of
  slot-edges true = drop-set-lt 1 (encode L es) 0 (length es + L) (omega arith)
  slot-edges false = refl

  -- a mark changes nothing of the list
  slot-list : (m : Bool) → edges_in L (slot_of L m es) ≡ es
  unfolding edges_in
  slot-list m =
      ap₂ (λ (k : ℕ) (l : List ℕ). take k l) (ap (count_of L) (slot-word m) ∙ word_count m) (slot-edges m) ∙ encode-edges L es room

-- ---- slots that hold lists

module _ (L : ℕ) (mark : ℕ → Bool) (ls : List (List ℕ)) (ws : List ℕ) (k : Held L mark ls ws) (j : ℕ) (h : j < length ls) where
  pub held_word : get_or ws (L * j) 0 ≡ pick (mark j) (length (get_or ls j []) + L) (length (get_or ls j []))
  held_word =
      sym (slot-first L j ws (omega (arith, k.short j h))) ∙ ap (λ (s : List ℕ). get_or s 0 0) (k.slot j h) ∙ slot-word L (get_or ls j []) (k.short j h) (mark j)

  pub held_fits : Fitting L j ws
  held_fits = record {
    inside = within L (length ls) j ws h k.inside;
    fits = omega (arith, ap (count_of L) held_word ∙ word_count L (get_or ls j []) (k.short j h) (mark j), k.short j h);
  }

  pub held-edges : edges_at L j ws ≡ get_or ls j []
  held-edges = ap (edges_in L) (k.slot j h) ∙ slot-list L (get_or ls j []) (k.short j h) (mark j)

pub held-lists : (L : ℕ) (mark : ℕ → Bool) (ls : List (List ℕ)) (ws : List ℕ) → Held L mark ls ws → lists_at L (length ls) ws ≡ ls
held-lists L mark ls ws k =
    ext_get_or [] (lists_at L (length ls) ws) ls (length-lists L (length ls) ws) on
  where
    on : (i : ℕ) → i < length (lists_at L (length ls) ws) → get_or (lists_at L (length ls) ws) i [] ≡ get_or ls i []
    on i h =
        let m : i < length ls = omega (arith, length-lists L (length ls) ws) in
        lists_at_lem L (length ls) i ws m ∙ held-edges L mark ls ws k i m

pub get_or-mem : (ls : List (List ℕ)) (i : ℕ) → i < length ls → Memᴰ (get_or ls i []) ls
get_or-mem [] i h = absurd (not-suc-le-zero h)
get_or-mem (l ∷ ls) zero h = Memᴰ.head refl
get_or-mem (l ∷ ls) (suc i) h = Memᴰ.tail (get_or-mem ls i (le_of_suc-le-suc h))

-- lists in the first slots, whatever stands behind
pub flat-held : (L : ℕ) (ls : List (List ℕ)) (ws rest : List ℕ) → ((es : List ℕ) → Memᴰ es ls → length es < L) → ws ≡ flat L ls ++ rest → Held L (λ j. false) ls ws
flat-held L ls ws rest short e = record {
  inside = omega (arith, ap length e, length-append (flat L ls) rest, length-flat L ls);
  short = λ j h. short (get_or ls j []) (get_or-mem ls j h);
  slot = on;
}
  where
    on : (j : ℕ) → j < length ls → slot_at L j ws ≡ slot_of L false (get_or ls j [])
    on j h =
        unfold slot_of in (sym (get_or-slots L (length ls) j ws h)
        ∙ ap (λ (l : List ℕ). get_or (slots_of L (length ls) l) j []) e
        ∙ ap (λ (l : List (List ℕ)). get_or l j []) (slots-flat L ls rest)
        ∙ get_or-in (encode L) ls j h)

-- the area of these lists: none is marked
pub lists-marked : (L n : ℕ) (ws : List ℕ) (k : Lists L n ws) → Marked L (λ j. false) k.lists ws
unfolding area
lists-marked L n ws k =
    let ls : List (List ℕ) = k.lists in
    let z : List ℕ = zeros (length ws - L * length ls) in
    record {
      held = flat-held L ls ws z k.short k.holds;
      behind = ap (drop (L * length ls)) k.holds ∙ drop_at (flat L ls) z (L * length ls) (length-flat L ls);
    }
