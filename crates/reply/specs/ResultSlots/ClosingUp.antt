-- The slots that stay are moved down one after another, and what is left behind them is cleared. For every slot length L.
-- Document 01, "Answer": "Unused slots, and words behind the last whole slot, are zero".
use Prim.Native.Nat.{ℕ, ◌+◌, ◌-◌, ◌*◌, ◌≤◌, ◌<◌}
use Rattle.std.proofs.Common.{mul-suc, mul-zero, mul-le-mul_left, add-one, arith, ◌∙◌, take-append-drop, take-add, length-take-le}
use Rattle.std.specs.Prelude.{◌≡◌, refl, Bool, true, false, length, take}
use Rattle.std.proofs.Math.Path.{sym, ap, ap₂}
use mathlib.Core.List.{List, [], ◌∷◌, ◌++◌, append-nil, append_assoc, Memᴰ}
use borrow.Rule.Slice.PartMut.{mid_of, put_mid, mid_len, Post-is}
use Rattle.std.proofs.Math.ListN.{drop, length-append}
use Rattle.std.proofs.lemmas.List.{replicate-append-replicate}
use Rattle.std.proofs.Math.Seq.{take_at, drop-drop, drop-append-add}
use Rattle.semantics.specs.Words.{zeros, encode, flat, area}
use Rattle.words.specs.Slots.{InArea, SlotsIn, slot_at, put_slot}
use Rattle.words.specs.Slots.Laws.{within, length-slot_at, length-put}
use Rattle.words.specs.Area.{flat_append}
use Rattle.reply.specs.ResultSlots.{Held, keep_if, Closing, clear_slots}
use Rattle.reply.specs.ResultSlots.Laws.{flat-held}

-- a slot that stays where it is
pub put-own : (L i : ℕ) (ws : List ℕ) → put_slot L i (slot_at L i ws) ws ≡ ws
unfolding put_slot slot_at
put-own L i ws =
    ap (λ (l : List ℕ). l ++ drop (L * i + L) ws) (sym (take-add (L * i) L ws)) ∙ take-append-drop (L * i + L) ws

pub put-stays : (L i to : ℕ) (ws : List ℕ) → to ≤ i → i ≤ to → ws ≡ put_slot L to (slot_at L i ws) ws
put-stays L i to ws h g = let q : i ≡ to = omega arith in rw q (sym (put-own L to ws))

-- a slot that is kept, and one that is not
pub keep-moved : (L i to : ℕ) (b : Bool) (ws ws' : List ℕ) → b ≡ true → ws' ≡ put_slot L to (slot_at L i ws) ws → ws' ≡ keep_if L b i to ws
unfolding keep_if
keep-moved L i to b ws ws' e q = rw e q

pub keep_left : (L i to : ℕ) (b : Bool) (ws : List ℕ) → b ≡ false → ws ≡ keep_if L b i to ws
unfolding keep_if
keep_left L i to b ws e = rw e

-- the part that is cleared, as it comes back
pub clear-part : (L from to : ℕ) (ws z : List ℕ) → from ≤ to → SlotsIn L to ws → z ≡ zeros (length (mid_of (L * from) (L * to - L * from) ws))
    → put_mid (L * from) (L * to - L * from) ws z ≡ clear_slots L from to ws
unfolding clear_slots
clear-part L from to ws z h g e =
    let le : L * from ≤ L * to = mul-le-mul_left L h in
    ap₂ (λ (x y : List ℕ). take (L * from) ws ++ (x ++ y)) (e ∙ ap zeros (mid_len (L * from) (L * to) ws g)) (Post-is (L * from) (L * to) ws le)
    ∙ sym (append_assoc (take (L * from) ws) (zeros (L * to - L * from)) (drop (L * to) ws))

-- nothing is moved yet
pub closing-none : (L n : ℕ) (ws : List ℕ) → Closing L n 0 0 [] ws ws
unfolding flat
closing-none L n ws = record {
  kept = refl;
  before = omega arith;
  within = omega arith;
  same_length = refl;
  front = ap (λ (k : ℕ). take k ws) (mul-zero L);
  rest = refl;
}

module _ (L n i to : ℕ) (out : List (List ℕ)) (ws₀ ws : List ℕ) (k : Closing L n i to out ws₀ ws) where
  -- what stands in front holds the lists that were kept
  pub closing-held : ((es : List ℕ) → Memᴰ es out → length es < L) → Held L (λ j. false) out ws
  closing-held short =
      flat-held L out ws (drop (L * to) ws) short (sym (take-append-drop (L * to) ws) ∙ ap (λ (l : List ℕ). l ++ drop (L * to) ws) k.front)

  -- slot i is still what it was
  pub closing-slot : slot_at L i ws ≡ slot_at L i ws₀
  unfolding slot_at
  closing-slot = ap (take L) k.rest

  module _ (h : i < n) (fits : SlotsIn L n ws₀) where
    rest-on : drop (L * (i + 1)) ws ≡ drop (L * (i + 1)) ws₀
    rest-on =
        let q : L * (i + 1) ≡ L * i + L = rw add-one (omega (arith, mul-suc L i)) in
        ap (λ (j : ℕ). drop j ws) q ∙ sym (drop-drop L (L * i) ws) ∙ ap (drop L) k.rest ∙ drop-drop L (L * i) ws₀ ∙ ap (λ (j : ℕ). drop j ws₀) (sym q)

    -- it is dropped
    pub closing-dropped : Closing L n (i + 1) to out ws₀ ws
    closing-dropped = record { kept = k.kept; before = omega (arith, k.before); within = omega arith; same_length = k.same_length; front = k.front; rest = rest-on }

    here : InArea L i ws
    here = within L n i ws h (omega (arith, k.same_length))

    there : InArea L to ws
    there = within L n to ws (omega (arith, k.before)) (omega (arith, k.same_length))

    -- it stays
    pub closing-kept : (es : List ℕ) → slot_at L i ws₀ ≡ encode L es → Closing L n (i + 1) (to + 1) (out ++ (es ∷ [])) ws₀ (put_slot L to (slot_at L i ws) ws)
    unfolding put_slot flat
    closing-kept es e = record {
      kept = length-append out (es ∷ []) ∙ ap (λ (j : ℕ). j + 1) k.kept;
      before = omega (arith, k.before);
      within = omega arith;
      same_length = length-put L to s ws ls there ∙ k.same_length;
      front = take_at p q (L * (to + 1)) lp ∙ ap₂ (λ (x y : List ℕ). x ++ y) k.front (closing-slot ∙ e) ∙ ap (λ (y : List ℕ). flat L out ++ y) (sym (append-nil (encode L es))) ∙ sym (flat_append L out (es ∷ []));
      rest = ap (λ (j : ℕ). drop j (p ++ q)) far ∙ drop-append-add p q d ∙ drop-drop d (L * to + L) ws ∙ ap (λ (j : ℕ). drop j ws) near ∙ rest-on;
    }
      where
        s : List ℕ
        s = slot_at L i ws

        ls : length s ≡ L
        ls = length-slot_at L i ws here

        p : List ℕ
        p = take (L * to) ws ++ s

        q : List ℕ
        q = drop (L * to + L) ws

        d : ℕ
        d = L * (i + 1) - (L * to + L)

        next : L * (to + 1) ≡ L * to + L
        next = rw add-one (omega (arith, mul-suc L to))

        lp : length p ≡ L * (to + 1)
        lp = omega (arith, length-append (take (L * to) ws) s, length-take-le (L * to) ws (omega (arith, there)), ls, next)

        below : L * to + L ≤ L * (i + 1)
        below = omega (arith, next, mul-le-mul_left L (let z : to + 1 ≤ i + 1 = omega (arith, k.before) in z))

        near : L * to + L + d ≡ L * (i + 1)
        near = omega (arith, below)

        far : L * (i + 1) ≡ length p + d
        far = omega (arith, lp, next, below)

-- all slots were looked at, and those behind the kept ones are cleared
pub closing_end : (L n to : ℕ) (out : List (List ℕ)) (ws₀ ws : List ℕ) → Closing L n n to out ws₀ ws → SlotsIn L n ws₀ → drop (L * n) ws₀ ≡ zeros (length ws₀ - L * n)
    → clear_slots L to n ws ≡ area L (length ws₀) out
unfolding clear_slots area
closing_end L n to out ws₀ ws k fits z =
    let m : ℕ = L * n - L * to in
    let r : ℕ = length ws₀ - L * n in
    let le : L * to ≤ L * n = mul-le-mul_left L k.before in
    let q : m + r ≡ length ws₀ - L * length out = rw k.kept (omega arith) in
    ap₂ (λ (x y : List ℕ). x ++ zeros m ++ y) k.front (k.rest ∙ z)
    ∙ append_assoc (flat L out) (zeros m) (zeros r)
    ∙ ap (λ (y : List ℕ). flat L out ++ y) (replicate-append-replicate m r 0 ∙ ap zeros q)
