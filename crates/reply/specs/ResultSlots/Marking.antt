-- Slots are marked one after another, and nothing else of them changes. For every slot length L.
-- Serves document 01, "Answer": a shadowed path still shadows others, so all lists stay until all are judged.
use Rattle.std.specs.Prelude.{ℕ, ◌+◌, ◌-◌, ◌*◌, ◌≤◌, ◌<◌, ◌≡◌, Bool, eqb, get_or, take, drop}
use Rattle.std.proofs.Math.Nat.{mul-suc, mul-le-mul_left}
use Rattle.std.proofs.Common.{add-zero, arith, sym, ◌∙◌, subst, length-set}
use Rattle.std.proofs.Math.Path.{refl, ap, ap₂}
use Rattle.std.proofs.Math.Bool.{true, false}
use mathlib.Core.List.{List, []}
use borrow.Author.Tests.{ltb-true, ltb-false, lt-ltb, le-ltb, eqb-true, eqb-false}
use Rattle.std.proofs.Math.Dec.{ltb}
use Rattle.std.proofs.Math.ListN.{length, set}
use Rattle.std.proofs.Math.Seq.{take-set-lt, drop-set-lt}
use Rattle.std.proofs.lemmas.List.{take-set-le, drop-set-add}
use Rattle.semantics.specs.Lists.{and, pick}
use Rattle.semantics.specs.Words.{zeros, encode}
use Rattle.words.specs.Slots.{slot_at}
use Rattle.reply.specs.ResultSlots.{slot_of, mark_if, Marked}
use Rattle.reply.specs.ResultSlots.Laws.{held_word}

-- ---- a word of slot i is written

slot-set-same : (L i v : ℕ) (ws : List ℕ) → 0 < L → slot_at L i (set ws (L * i) v) ≡ set (slot_at L i ws) 0 v
unfolding slot_at
slot-set-same L i v ws h =
    ap (λ (k : ℕ). take L (drop (L * i) (set ws k v))) (sym (add-zero (L * i))) ∙ ap (take L) (drop-set-add (L * i) ws 0 v) ∙ take-set-lt L (drop (L * i) ws) 0 v h

slot-set-before : (L i j v : ℕ) (ws : List ℕ) → j < i → slot_at L j (set ws (L * i) v) ≡ slot_at L j ws
unfolding slot_at
slot-set-before L i j v ws h =
    let d : ℕ = L * i - L * j in
    let far : L * j + L ≤ L * i = omega (arith, mul-suc L j, mul-le-mul_left L h) in
    let q : L * i ≡ L * j + d = omega arith in
    ap (λ (k : ℕ). take L (drop (L * j) (set ws k v))) q ∙ ap (take L) (drop-set-add (L * j) ws d v) ∙ take-set-le L (drop (L * j) ws) d v (omega arith)

slot-set-after : (L i j v : ℕ) (ws : List ℕ) → 0 < L → i < j → slot_at L j (set ws (L * i) v) ≡ slot_at L j ws
unfolding slot_at
slot-set-after L i j v ws p h = ap (take L) (drop-set-lt (L * j) ws (L * i) v (omega (arith, mul-suc L i, mul-le-mul_left L h)))

-- ---- the marks that were made of the first i slots

-- the test holds of the first i alone
abbrev pub up_to : ℕ → (ℕ → Bool) → ℕ → Bool
up_to i test j = and (ltb j i) (test j)

up_to-before : (i j : ℕ) (test : ℕ → Bool) → j < i → up_to i test j ≡ test j
up_to-before i j test h = rw (lt-ltb j i h)

up_to-behind : (i j : ℕ) (test : ℕ → Bool) → i ≤ j → up_to i test j ≡ false
up_to-behind i j test h = rw (le-ltb j i h)

up_to-other : (i j : ℕ) (test : ℕ → Bool) → (j ≡ i → ⊥) → up_to (i + 1) test j ≡ up_to i test j
up_to-other i j test ne = on (ltb j i) refl
  where
    on : (b : Bool) → ltb j i ≡ b → up_to (i + 1) test j ≡ up_to i test j
    on true e = let h = ltb-true j i e in up_to-before (i + 1) j test (omega arith) ∙ sym (up_to-before i j test h)
    on false e =
        let h = ltb-false j i e in
        let n : i + 1 ≤ j = apart (ltb i j) refl h in
        up_to-behind (i + 1) j test n ∙ sym (up_to-behind i j test h)
      where
        apart : (b : Bool) → ltb i j ≡ b → i ≤ j → i + 1 ≤ j
        apart true f h = omega (arith, ltb-true i j f)
        apart false f h = absurd (ne (omega (arith, ltb-false i j f)))

pub length-mark : (L i : ℕ) (b : Bool) (ws : List ℕ) → length (mark_if L i b ws) ≡ length ws
unfolding mark_if
length-mark L i true ws = length-set ws (L * i) (get_or ws (L * i) 0 + L)
length-mark L i false ws = refl

-- ---- one slot more

module _ (L i : ℕ) (test : ℕ → Bool) (ls : List (List ℕ)) (ws : List ℕ) (k : Marked L (up_to i test) ls ws) (h : i < length ls) where
  abbrev es : List ℕ
  es = get_or ls i []

  wordy : 0 < L
  wordy = omega (arith, k.held.short i h)

  plain : slot_at L i ws ≡ encode L es
  unfolding slot_of
  plain = k.held.slot i h ∙ ap (λ (b : Bool). slot_of L b es) (up_to-behind i i test (omega arith))

  word : get_or ws (L * i) 0 ≡ length es
  word = held_word L (up_to i test) ls ws k.held i h ∙ ap (λ (b : Bool). pick b (length es + L) (length es)) (up_to-behind i i test (omega arith))

  -- its count word, to which a mark can be added
  pub mark-word : get_or ws (L * i) 0 < L
  mark-word = omega (arith, word, k.held.short i h)

  -- the slot itself
  own : (b : Bool) → test i ≡ b → slot_at L i (mark_if L i b ws) ≡ slot_of L (up_to (i + 1) test i) es
  unfolding mark_if slot_of
  own true e =
      slot-set-same L i (get_or ws (L * i) 0 + L) ws wordy
      ∙ ap₂ (λ (s : List ℕ) (v : ℕ). set s 0 (v + L)) plain word
      ∙ ap (λ (b : Bool). slot_of L b es) (sym (up_to-before (i + 1) i test (omega arith) ∙ e))
  own false e = plain ∙ ap (λ (b : Bool). slot_of L b es) (sym (up_to-before (i + 1) i test (omega arith) ∙ e))

  -- the others
  others : (b : Bool) (j : ℕ) → (j ≡ i → ⊥) → slot_at L j (mark_if L i b ws) ≡ slot_at L j ws
  unfolding mark_if
  others false j ne = refl
  others true j ne = on (ltb j i) refl
    where
      on : (b : Bool) → ltb j i ≡ b → slot_at L j (set ws (L * i) (get_or ws (L * i) 0 + L)) ≡ slot_at L j ws
      on true e = slot-set-before L i j (get_or ws (L * i) 0 + L) ws (ltb-true j i e)
      on false e = after (ltb i j) refl (ltb-false j i e)
        where
          after : (b : Bool) → ltb i j ≡ b → i ≤ j → slot_at L j (set ws (L * i) (get_or ws (L * i) 0 + L)) ≡ slot_at L j ws
          after true f n = slot-set-after L i j (get_or ws (L * i) 0 + L) ws wordy (ltb-true i j f)
          after false f n = absurd (ne (omega (arith, ltb-false i j f)))

  each : (j : ℕ) → j < length ls → slot_at L j (mark_if L i (test i) ws) ≡ slot_of L (up_to (i + 1) test j) (get_or ls j [])
  each j m = on (eqb j i) refl
    where
      on : (b : Bool) → eqb j i ≡ b → slot_at L j (mark_if L i (test i) ws) ≡ slot_of L (up_to (i + 1) test j) (get_or ls j [])
      on true e = subst (λ (n : ℕ). slot_at L n (mark_if L i (test i) ws) ≡ slot_of L (up_to (i + 1) test n) (get_or ls n [])) (sym (eqb-true j i e)) (own (test i) refl)
      on false e =
          let ne = eqb-false j i e in
          others (test i) j ne ∙ k.held.slot j m ∙ ap (λ (b : Bool). slot_of L b (get_or ls j [])) (sym (up_to-other i j test ne))

  far : (b : Bool) → drop (L * length ls) (mark_if L i b ws) ≡ drop (L * length ls) ws
  unfolding mark_if
  far true = drop-set-lt (L * length ls) ws (L * i) (get_or ws (L * i) 0 + L) (omega (arith, wordy, mul-suc L i, mul-le-mul_left L h))
  far false = refl

  pub mark-one : Marked L (up_to (i + 1) test) ls (mark_if L i (test i) ws)
  mark-one =
      let n : length (mark_if L i (test i) ws) ≡ length ws = length-mark L i (test i) ws in
      record {
        held = record { inside = omega (arith, k.held.inside); short = k.held.short; slot = each };
        behind = far (test i) ∙ k.behind ∙ ap (λ (l : ℕ). zeros (l - L * length ls)) (sym n);
      }

-- ---- from the first slot to the last

-- other marks of the same value
remark : (L : ℕ) (mark new : ℕ → Bool) (ls : List (List ℕ)) (ws : List ℕ) → ((j : ℕ) → j < length ls → mark j ≡ new j) → Marked L mark ls ws → Marked L new ls ws
remark L mark new ls ws e k = record {
  held = record { inside = k.held.inside; short = k.held.short; slot = λ j h. k.held.slot j h ∙ ap (λ (b : Bool). slot_of L b (get_or ls j [])) (e j h) };
  behind = k.behind;
}

pub mark-none : (L : ℕ) (test : ℕ → Bool) (ls : List (List ℕ)) (ws : List ℕ) → Marked L (λ j. false) ls ws → Marked L (up_to 0 test) ls ws
mark-none L test ls ws k = remark L (λ j. false) (up_to 0 test) ls ws (λ j h. sym (up_to-behind 0 j test (omega arith))) k

pub mark-all : (L n : ℕ) (test : ℕ → Bool) (ls : List (List ℕ)) (ws : List ℕ) → length ls ≤ n → Marked L (up_to n test) ls ws → Marked L test ls ws
mark-all L n test ls ws e k = remark L (up_to n test) test ls ws (λ j h. up_to-before n j test (omega arith)) k
