-- The three passes over the slots, one slot more at a time: copies are dropped, shadowed lists are marked, the others are closed up. For every slot length L.
-- Document 01, "Answer": `from_complete`.
use Prim.Native.Nat.{ℕ, zero, suc, ◌+◌, ◌-◌, ◌*◌, ◌≤◌, ◌<◌}
use Rattle.std.proofs.Common.{arith, sym, ap₂, ◌∙◌, ⊎_elim, lt-ltb, le-ltb, take_all}
use Rattle.std.specs.Prelude.{◌≡◌, Bool, true, false, not, length, take, drop}
use Rattle.std.proofs.Math.Path.{refl, ap, subst}
use mathlib.Core.List.Memᴰ
use mathlib.Core.List.{List, [], ◌∷◌, ◌++◌, Memᴰ}
use Rattle.std.proofs.Math.Dec.{ltb}
use Rattle.std.proofs.Math.ListN.{get_or}
use Rattle.semantics.specs.Lists.{pick}
use Rattle.semantics.specs.Words.{zeros, encode, area}
use Rattle.words.specs.Slots.{SlotsIn, slot_at, put_slot}
use Rattle.reply.specs.EdgeLists.{has_list, seen_with, distinct_lists, without}
use Rattle.reply.specs.EdgeLists.Laws.{distinct_more, distinct_from, without-dropped, without-kept}
use Rattle.reply.specs.ResultSlots.{Lists, count_of, edges_in, edges_at, lists_at, Fitting, AllFitting, slot_of, mark_if, Held, Marked, keep_if, Closing, clear_slots}
use Rattle.reply.specs.ResultSlots.Laws.{slot-first, held_word, held_fits, held-edges, held-lists, lists-marked}
use Rattle.reply.specs.ResultSlots.Marking.{up_to, mark-one}
use Rattle.reply.specs.ResultSlots.ClosingUp.{closing-held, closing-slot, closing-dropped, closing-kept, closing_end}

-- ---- what a look at the slots tells

module _ {L n : ℕ} {mark : ℕ → Bool} {ls : List (List ℕ)} {ws : List ℕ} (k : Held L mark ls ws) (e : length ls ≡ n) where
  pub all-fitting : AllFitting L n ws
  all-fitting j h = held_fits L mark ls ws k j (omega arith)

  pub all-lists : lists_at L n ws ≡ ls
  all-lists = ap (λ (m : ℕ). lists_at L m ws) (sym e) ∙ held-lists L mark ls ws k

  -- a test of slot i against all slots is one of list i against all lists
  pub looked : (test : List ℕ → List (List ℕ) → Bool) (i : ℕ) → i < n → test (edges_at L i ws) (lists_at L n ws) ≡ test (get_or ls i []) ls
  looked test i h = ap₂ test (held-edges L mark ls ws k i (omega arith)) all-lists

-- ---- marking

pub mark-next : (L : ℕ) {n : ℕ} (i : ℕ) (test : ℕ → Bool) {ls : List (List ℕ)} {b : Bool} {ws ws' : List ℕ} → length ls ≡ n → Marked L (up_to i test) ls ws → i < n → b ≡ test i → ws' ≡ mark_if L i b ws
    → Marked L (up_to (i + 1) test) ls ws'
mark-next L i test {ls} {ws} e k h t q =
    subst (Marked L (up_to (i + 1) test) ls) (sym (q ∙ ap (λ (x : Bool). mark_if L i x ws) t)) (mark-one L i test ls ws k (omega arith))

-- ---- closing up the slots without a mark

pub pick_next : (b : Bool) (to : ℕ) → pick b (to + 1) to ≤ to + 1
pick_next true to = omega arith
pick_next false to = omega arith

module _ {L n i to : ℕ} (drops : List ℕ → Bool) {ls : List (List ℕ)} {ws₀ ws : List ℕ} (e : length ls ≡ n) (m : Marked L (λ j. drops (get_or ls j [])) ls ws₀)
    (k : Closing L n i to (without drops (take i ls)) ws₀ ws) (h : i < n) where
  abbrev here : List ℕ
  here = get_or ls i []

  inside : i < length ls
  inside = omega arith

  short : length here < L
  short = m.held.short i inside

  room : SlotsIn L n ws₀
  room = subst (λ (x : ℕ). SlotsIn L x ws₀) e m.held.inside

  word : get_or ws (L * i) 0 ≡ pick (drops here) (length here + L) (length here)
  word =
      sym (slot-first L i ws (omega (arith, short)))
      ∙ ap (λ (s : List ℕ). get_or s 0 0) (closing-slot L n i to (without drops (take i ls)) ws₀ ws k)
      ∙ slot-first L i ws₀ (omega (arith, short))
      ∙ held_word L (λ j. drops (get_or ls j [])) ls ws₀ m.held i inside

  pub close-next : {to' : ℕ} {ws' : List ℕ} → ws' ≡ keep_if L (ltb (get_or ws (L * i) 0) L) i to ws → to' ≡ pick (ltb (get_or ws (L * i) 0) L) (to + 1) to
      → Closing L n (i + 1) to' (without drops (take (i + 1) ls)) ws₀ ws'
  unfolding keep_if slot_of
  close-next {to'} {ws'} p q = on (drops here) refl
    where
      moved : (b : Bool) → ltb (get_or ws (L * i) 0) L ≡ b → Closing L n (i + 1) (pick b (to + 1) to) (without drops (take (i + 1) ls)) ws₀ (keep_if L b i to ws) → Closing L n (i + 1) to' (without drops (take (i + 1) ls)) ws₀ ws'
      moved b f c =
          subst (λ (x : ℕ). Closing L n (i + 1) x (without drops (take (i + 1) ls)) ws₀ ws') (sym (q ∙ ap (λ (t : Bool). pick t (to + 1) to) f))
          (subst (Closing L n (i + 1) (pick b (to + 1) to) (without drops (take (i + 1) ls)) ws₀) (sym (p ∙ ap (λ (t : Bool). keep_if L t i to ws) f)) c)

      on : (d : Bool) → drops here ≡ d → Closing L n (i + 1) to' (without drops (take (i + 1) ls)) ws₀ ws'
      on true f =
          let w : get_or ws (L * i) 0 ≡ length here + L = word ∙ ap (λ (b : Bool). pick b (length here + L) (length here)) f in
          moved false (le-ltb (get_or ws (L * i) 0) L (omega arith))
          (subst (λ (x : List (List ℕ)). Closing L n (i + 1) to x ws₀ ws) (without-dropped drops ls i inside f) (closing-dropped L n i to (without drops (take i ls)) ws₀ ws k h room))
      on false f =
          let w : get_or ws (L * i) 0 ≡ length here = word ∙ ap (λ (b : Bool). pick b (length here + L) (length here)) f in
          let s : slot_at L i ws₀ ≡ encode L here = m.held.slot i inside ∙ (ap (λ (b : Bool). slot_of L b here) f) in
          moved true (lt-ltb (get_or ws (L * i) 0) L (omega (arith, short)))
          (subst (λ (x : List (List ℕ)). Closing L n (i + 1) (to + 1) x ws₀ (put_slot L to (slot_at L i ws) ws)) (without-kept drops ls i inside f) (closing-kept L n i to (without drops (take i ls)) ws₀ ws k h room here s))

-- ---- dropping copies

mem-take : (x : List ℕ) (i : ℕ) (ls : List (List ℕ)) → Memᴰ x (take i ls) → Memᴰ x ls
mem-take x zero ls m = absurd (Memᴰ.not-nil m)
mem-take x (suc i) [] m = m
mem-take x (suc i) (l ∷ ls) m = ⊎_elim Memᴰ.head (λ n. Memᴰ.tail (mem-take x i ls n)) (Memᴰ.cases_cons m)

module _ {L n i seen : ℕ} {ws₀ ws : List ℕ} (k : Lists L n ws₀) (c : Closing L n i seen (distinct_lists [] (take i k.lists)) ws₀ ws) where
  abbrev out : List (List ℕ)
  out = distinct_lists [] (take i k.lists)

  short-out : (es : List ℕ) → Memᴰ es out → length es < L
  short-out es m = k.short es (⊎_elim (λ z. absurd (Memᴰ.not-nil z)) (λ z. mem-take es i k.lists z) (distinct_from es (take i k.lists) [] m))

  front : Held L (λ j. false) out ws
  front = closing-held L n i seen out ws₀ ws c short-out

  pub seen-fitting : AllFitting L seen ws
  seen-fitting = all-fitting front c.kept

  module _ (h : i < n) where
    first : i < length k.lists
    first = omega (arith, k.count)

    old : Held L (λ j. false) k.lists ws₀
    old = (lists-marked L n ws₀ k).held

    wide : 0 < L
    wide = omega (arith, old.short i first)

    still : get_or ws (L * i) 0 ≡ get_or ws₀ (L * i) 0
    still = sym (slot-first L i ws wide) ∙ ap (λ (s : List ℕ). get_or s 0 0) (closing-slot L n i seen out ws₀ ws c) ∙ slot-first L i ws₀ wide

    spot : Fitting L i ws₀
    spot = held_fits L (λ j. false) k.lists ws₀ old i first

    pub next-fitting : Fitting L i ws
    next-fitting = record { inside = omega (arith, spot.inside, c.same_length); fits = subst (λ (w : ℕ). count_of L w < L) (sym still) spot.fits }

    -- a copy is one of a list that was seen
    copy_is : has_list (edges_at L i ws) (lists_at L seen ws) ≡ has_list (get_or k.lists i []) out
    copy_is =
        ap₂ has_list (ap (edges_in L) (closing-slot L n i seen out ws₀ ws c) ∙ held-edges L (λ j. false) k.lists ws₀ old i first)
        (all-lists front c.kept)

    pub copy-next : {b : Bool} {seen' : ℕ} {ws' : List ℕ} → b ≡ has_list (edges_at L i ws) (lists_at L seen ws) → ws' ≡ keep_if L (not b) i seen ws → seen' ≡ pick (not b) (seen + 1) seen
        → Closing L n (i + 1) seen' (distinct_lists [] (take (i + 1) k.lists)) ws₀ ws'
    unfolding keep_if slot_of
    copy-next {b} {seen'} {ws'} e p q =
        subst (λ (x : List (List ℕ)). Closing L n (i + 1) seen' x ws₀ ws') (sym (distinct_more k.lists i first))
        (subst (λ (x : ℕ). Closing L n (i + 1) x (seen_with out here) ws₀ ws') (sym q) (subst (Closing L n (i + 1) (pick (not b) (seen + 1) seen) (seen_with out here) ws₀) (sym p) (on b (sym (e ∙ copy_is)))))
      where
        here : List ℕ
        here = get_or k.lists i []

        room : SlotsIn L n ws₀
        room = subst (λ (x : ℕ). SlotsIn L x ws₀) k.count old.inside

        on : (d : Bool) → has_list here out ≡ d → Closing L n (i + 1) (pick (not d) (seen + 1) seen) (seen_with out here) ws₀ (keep_if L (not d) i seen ws)
        on true f = subst (λ (x : List (List ℕ)). Closing L n (i + 1) seen x ws₀ ws) (sym (ap (λ (t : Bool). pick t out (out ++ (here ∷ []))) f)) (closing-dropped L n i seen out ws₀ ws c h room)
        on false f =
            subst (λ (x : List (List ℕ)). Closing L n (i + 1) (seen + 1) x ws₀ (put_slot L seen (slot_at L i ws) ws)) (sym (ap (λ (t : Bool). pick t out (out ++ (here ∷ []))) f))
            (closing-kept L n i seen out ws₀ ws c h room here (old.slot i first))

-- ---- the end of both passes that move slots: those behind are cleared

pub close-end : (L : ℕ) {n i to : ℕ} (keeps : List (List ℕ) → List (List ℕ)) {mark : ℕ → Bool} {ls : List (List ℕ)} {ws₀ ws ws' : List ℕ} → length ls ≡ n → Marked L mark ls ws₀
    → Closing L n i to (keeps (take i ls)) ws₀ ws → n ≤ i → ws' ≡ clear_slots L to n ws → (ws' ≡ area L (length ws₀) (keeps ls)) × (to ≡ length (keeps ls))
close-end L {n} {i} {to} keeps {ls} {ws₀} {ws} e m k h q =
    let z : i ≡ n = omega (arith, k.within) in
    let all : take i ls ≡ ls = take_all i ls (omega arith) in
    let c : Closing L n n to (keeps ls) ws₀ ws =
    subst (λ (x : ℕ). Closing L n x to (keeps ls) ws₀ ws) z (subst (λ (x : List (List ℕ)). Closing L n i to (keeps x) ws₀ ws) all k) in
    let room : SlotsIn L n ws₀ = subst (λ (x : ℕ). SlotsIn L x ws₀) e m.held.inside in
    let rest = subst (λ (x : ℕ). drop (L * x) ws₀ ≡ zeros (length ws₀ - L * x)) e m.behind in
    (q ∙ closing_end L n to (keeps ls) ws₀ ws c room rest, sym c.kept)
