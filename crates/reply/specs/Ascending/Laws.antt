-- Lists that stand in ascending order are all different, so no copy is dropped.
-- Serves document 01, "Answer": "`from_complete` drops copies".
use Prim.Native.Nat.{ℕ, zero, suc, ◌+◌, ◌-◌, ◌*◌, ◌<◌, ◌≤◌}
use Rattle.std.proofs.Common.{mul-suc, subst, ◌∙◌, inl, inr, true≢false, leb→le, length-take-le, take_all, take-suc, get_or-take, drop-cons}
use native.Mathlib.Omega.{arith}
use Rattle.std.specs.Prelude.{◌≡◌, Bool, not, T, leb, get_or, take, drop}
use Rattle.std.proofs.Math.Path.{refl, sym, ap}
use Rattle.std.proofs.Math.Bool.{true, false}
use Rattle.std.proofs.Math.Dec.{nleb→lt}
use mathlib.Core.List.{List, [], ◌∷◌, ◌++◌}
use Rattle.std.proofs.Math.ListN.{length}
use Rattle.semantics.specs.Lists.{pick, same, or}
use Rattle.semantics.specs.Lists.Laws.{same-eq, bool_false}
use Rattle.semantics.specs.Words.{encode, area}
use Rattle.words.specs.Slots.{slot_at}
use Rattle.words.specs.Slots.Laws.{part-slot}
use Rattle.reply.specs.EdgeLists.{has_list, seen_with, distinct_lists}
use Rattle.reply.specs.EdgeLists.Laws.{distinct_more}
use Rattle.reply.specs.ResultSlots.{Lists, Leaves, slot_of, Held}
use Rattle.reply.specs.ResultSlots.Laws.{lists-marked}
use Rattle.reply.specs.Ascending.{Ahead, Ascending}

-- ---- the order

ahead-trans : (l m n : List ℕ) → Ahead l m → Ahead m n → Ahead l n
ahead-trans [] m n a b = absurd a
ahead-trans (x ∷ l) [] n a b = absurd a
ahead-trans (x ∷ l) (y ∷ m) [] a b = absurd b
ahead-trans (x ∷ l) (y ∷ m) (z ∷ n) (inl a) (inl b) = inl (omega (arith, a, b))
ahead-trans (x ∷ l) (y ∷ m) (z ∷ n) (inl a) (inr b) = inl (omega (arith, a, b.0))
ahead-trans (x ∷ l) (y ∷ m) (z ∷ n) (inr a) (inl b) = inl (omega (arith, a.0, b))
ahead-trans (x ∷ l) (y ∷ m) (z ∷ n) (inr a) (inr b) = inr (a.0 ∙ b.0, ahead-trans l m n a.1 b.1)

ahead-not : (l : List ℕ) → Ahead l l → ⊥
ahead-not [] a = a
ahead-not (x ∷ l) (inl a) = omega (arith, a)
ahead-not (x ∷ l) (inr a) = ahead-not l a.1

-- ---- two lists compared from their heads

module _ {l m l' m' : List ℕ} {x y : ℕ} (left : l ≡ x ∷ l') (right : m ≡ y ∷ m') where
  -- the heads decide
  pub ahead-here : x < y → Ahead l m
  ahead-here h = subst (λ (z : List ℕ). Ahead z m) (sym left) (subst (λ (z : List ℕ). Ahead (x ∷ l') z) (sym right) (inl h))

  -- what stands behind them decides
  pub ahead-on : x ≡ y → Ahead l' m' → Ahead l m
  ahead-on e h = subst (λ (z : List ℕ). Ahead z m) (sym left) (subst (λ (z : List ℕ). Ahead (x ∷ l') z) (sym right) (inr (e, h)))

-- ---- slots in ascending order

-- the parts of an area that hold two slots
pub ahead-slots : (L i : ℕ) (ws : List ℕ) → Ahead (take (L * i + L - L * i) (drop (L * i) ws)) (take (L * i + L + L - (L * i + L)) (drop (L * i + L) ws)) → Ahead (slot_at L i ws) (slot_at L (i + 1) ws)
ahead-slots L i ws h =
    let s : suc i ≡ i + 1 = omega arith in
    let e : L * i + L ≡ L * (i + 1) = sym (mul-suc L i) ∙ ap (λ (k : ℕ). L * k) s in
    subst (λ (y : List ℕ). Ahead y (slot_at L (i + 1) ws)) (part-slot L i ws)
    (subst (λ (y : List ℕ). Ahead (take (L * i + L - L * i) (drop (L * i) ws)) y) (ap (λ (k : ℕ). take (k + L - k) (drop k ws)) e ∙ part-slot L (i + 1) ws) h)

-- one more slot, behind the one before it
pub ascending-on : (L i : ℕ) (ws : List ℕ) → 1 ≤ i → Ascending L i ws → Ahead (slot_at L (i - 1) ws) (slot_at L (i - 1 + 1) ws) → Ascending L (i + 1) ws
ascending-on L i ws some up next j h = on (leb (j + 2) i) refl
  where
    on : (b : Bool) → leb (j + 2) i ≡ b → Ahead (slot_at L j ws) (slot_at L (j + 1) ws)
    on true e = let k = leb→le (j + 2) i (subst T (sym e) tt) in up j (omega (arith, k))
    on false e =
        let k = nleb→lt (j + 2) i (subst T (sym (ap not e)) tt) in
        let q : i - 1 ≡ j = omega (arith, k, h, some) in
        subst (λ (m : ℕ). Ahead (slot_at L m ws) (slot_at L (m + 1) ws)) q next

module _ (L n : ℕ) (ws : List ℕ) (up : Ascending L n ws) where
  far : (d i : ℕ) → i + suc d < n → Ahead (slot_at L i ws) (slot_at L (i + suc d) ws)
  far zero i h = let e : i + 1 ≡ i + suc zero = omega arith in subst (λ (j : ℕ). Ahead (slot_at L i ws) (slot_at L j ws)) e (up i (omega (arith, h)))
  far (suc d) i h =
      let e : i + suc d + 1 ≡ i + suc (suc d) = omega arith in
      ahead-trans (slot_at L i ws) (slot_at L (i + suc d) ws) (slot_at L (i + suc (suc d)) ws)
      (far d i (omega (arith, h)))
      (subst (λ (j : ℕ). Ahead (slot_at L (i + suc d) ws) (slot_at L j ws)) e (up (i + suc d) (omega (arith, h))))

  module _ {ls : List (List ℕ)} (all : length ls ≡ n) (held : Held L (λ j. false) ls ws) where
    slot_is : (i : ℕ) → i < n → slot_at L i ws ≡ encode L (get_or ls i [])
    unfolding slot_of
    slot_is i h = held.slot i (omega (arith, h, all))

    different : (j i : ℕ) → j < i → i < n → get_or ls j [] ≡ get_or ls i [] → ⊥
    different j i h b e =
        let d : ℕ = i - suc j in
        let q : j + suc (i - suc j) ≡ i = omega (arith, h) in
        let s : slot_at L j ws ≡ slot_at L i ws = slot_is j (omega (arith, h, b)) ∙ ap (encode L) e ∙ sym (slot_is i b) in
        let f : Ahead (slot_at L j ws) (slot_at L i ws) = subst (λ (k : ℕ). Ahead (slot_at L j ws) (slot_at L k ws)) q (far (i - suc j) j (omega (arith, h, b))) in
        ahead-not (slot_at L i ws) (subst (λ (y : List ℕ). Ahead y (slot_at L i ws)) s f)

    -- a list among others stands at some place
    placed : (x : List ℕ) (ms : List (List ℕ)) → has_list x ms ≡ true → (j : ℕ) × (j < length ms) × (get_or ms j [] ≡ x)
    unfolding has_list
    placed x [] e = absurd (true≢false (sym e))
    placed x (m ∷ ms) e = on (same x m) refl e (λ k. placed x ms k)
      where
        on : (b : Bool) → same x m ≡ b → or b (has_list x ms) ≡ true → (has_list x ms ≡ true → (j : ℕ) × (j < length ms) × (get_or ms j [] ≡ x)) → (j : ℕ) × (j < length (m ∷ ms)) × (get_or (m ∷ ms) j [] ≡ x)
        on true f k ih = (0, omega arith, sym (same-eq x m f))
        on false f k ih = let r = ih k in (suc r.0, omega (arith, r.1), r.2)

    new-each : (i : ℕ) → i < n → has_list (get_or ls i []) (take i ls) ≡ false
    new-each i b = bool_false (has_list (get_or ls i []) (take i ls)) old
      where
        old : has_list (get_or ls i []) (take i ls) ≡ true → ⊥
        old e =
            let r = placed (get_or ls i []) (take i ls) e in
            let h : r.0 < i = omega (arith, r.1, length-take-le i ls (omega (arith, b, all))) in
            different r.0 i h b (sym (get_or-take i ls r.0 [] h) ∙ r.2)

    first-lists : (i : ℕ) → i ≤ n → distinct_lists [] (take i ls) ≡ take i ls
    unfolding distinct_lists
    first-lists zero h = refl
    first-lists (suc i) h =
        let s : suc i ≡ i + 1 = omega arith in
        let b : i < length ls = omega (arith, h, all) in
        ap (λ (k : ℕ). distinct_lists [] (take k ls)) s
        ∙ distinct_more ls i b
        ∙ ap (λ (seen : List (List ℕ)). seen_with seen (get_or ls i [])) (first-lists i (omega (arith, h)))
        ∙ ap (λ (t : Bool). pick t (take i ls) (take i ls ++ (get_or ls i [] ∷ []))) (new-each i (omega (arith, h)))
        ∙ sym (take-suc ls i [] b)

    all_stay : distinct_lists [] ls ≡ ls
    all_stay =
        let t : take n ls ≡ ls = take_all n ls (omega (arith, all)) in
        ap (distinct_lists []) (sym t) ∙ first-lists n (omega arith) ∙ t

  -- so they are left as they are
  pub none_dropped : Leaves L n (distinct_lists []) ws n ws
  none_dropped = (refl, omega arith, stays)
    where
      stays : (k : Lists L n ws) → (ws ≡ area L (length ws) (distinct_lists [] k.lists)) × (n ≡ length (distinct_lists [] k.lists))
      stays k =
          let d = all_stay k.count (lists-marked L n ws k).held in
          (k.holds ∙ ap (area L (length ws)) (sym d), sym k.count ∙ ap length (sym d))
