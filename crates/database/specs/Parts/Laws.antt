-- The part that a lookup hands back, outcome by outcome; it lies within the words. For every bound on edges and every choice of owners.
-- Serves document 01, "Partial paths": "or an empty part if dead, beyond use or in words that meet 35".
use Rattle.std.specs.Prelude.{ℕ, zero, suc, ◌+◌, ◌-◌, ◌≤◌, ◌<◌, ◌≡◌, refl, Bool, true, false, List, [], ◌∷◌, ltb, length, get_or, take, drop}
use Rattle.std.proofs.Common.{arith, sym, ◌∙◌, ap, subst}
use borrow.Author.Tests.{ltb-true, ltb-false, lt-ltb, le-ltb}
use Rattle.semantics.specs.Limits.{Bounds}
use Rattle.semantics.specs.Words.Laws.{drop-take}
use Rattle.semantics.specs.Database.{used_in, well_formed, Part, empty_part, edges_part, part_if, record_place, lookup_part, words_of}
use Rattle.database.specs.Records.{record_at, owner_word, count_word}
use Rattle.database.specs.Records.Laws.{within, record-owner, record-count}
use Rattle.database.specs.Checks.Laws.{formed-whole, formed-live}

-- the words from one place up to another, as a slice is taken
pub words-part : (p : Part) (ws : List ℕ) → p.from ≤ p.up_to → take (p.up_to - p.from) (drop p.from ws) ≡ words_of p ws
words-part p ws h =
    let q : p.from + (p.up_to - p.from) ≡ p.up_to = omega arith in
    sym (drop-take p.from (p.up_to - p.from) ws) ∙ ap (λ (k : ℕ). drop p.from (take k ws)) q

part-dead : (at : ℕ) (r : List ℕ) → get_or r 0 0 ≡ 0 → edges_part at r ≡ empty_part
unfolding edges_part
part-dead at [] e = refl
part-dead at (zero ∷ r) e = refl
part-dead at (suc f ∷ r) e = absurd (omega arith)

part-live : (at count : ℕ) (r : List ℕ) → 0 < get_or r 0 0 → get_or r 3 0 ≡ count → edges_part at r ≡ record { from = at + 4; up_to = at + 4 + count }
unfolding edges_part
part-live at count [] o e = absurd (omega arith)
part-live at count (zero ∷ r) o e = absurd (omega arith)
part-live at count (suc f ∷ r) o e = rw e

module _ (bd : Bounds) (i : ℕ) (ws : List ℕ) where
  pub edges-dead : owner_word bd i ws ≡ 0 → edges_part (record_place bd i) (record_at bd i ws) ≡ empty_part
  edges-dead e = part-dead (record_place bd i) (record_at bd i ws) (record-owner bd i ws ∙ e)

  pub edges-live : (n : ℕ) → 0 < owner_word bd i ws → n ≡ count_word bd i ws → edges_part (record_place bd i) (record_at bd i ws) ≡ record { from = record_place bd i + 4; up_to = record_place bd i + 4 + n }
  edges-live n h e = part-live (record_place bd i) n (record_at bd i ws) (omega (arith, record-owner bd i ws)) (record-count bd i ws ∙ sym e)

-- a part lies within the words
abbrev pub Inside : List ℕ → Part → Type 0
Inside ws p = (p.from ≤ p.up_to) × (p.up_to ≤ length ws)

module _ (bd : Bounds) (known : ℕ → ℕ → Bool) (i : ℕ) (ws : List ℕ) where
  pub lookup-malformed : well_formed bd known ws ≡ false → lookup_part bd known i ws ≡ empty_part
  unfolding lookup_part part_if
  lookup-malformed w = rw w

  pub lookup-beyond : well_formed bd known ws ≡ true → used_in ws ≤ i → lookup_part bd known i ws ≡ empty_part
  unfolding lookup_part part_if
  lookup-beyond w h = rw (w, le-ltb i (used_in ws) h)

  pub lookup-used : well_formed bd known ws ≡ true → i < used_in ws → lookup_part bd known i ws ≡ edges_part (record_place bd i) (record_at bd i ws)
  unfolding lookup_part part_if
  lookup-used w h = rw (w, lt-ltb i (used_in ws) h)

  -- what is handed back lies within the words
  pub lookup-inside : Inside ws (lookup_part bd known i ws)
  lookup-inside = on1 (well_formed bd known ws) refl
    where
      none : lookup_part bd known i ws ≡ empty_part → Inside ws (lookup_part bd known i ws)
      none e = subst (Inside ws) (sym e) (omega arith, omega arith)

      on3 : (w : well_formed bd known ws ≡ true) → i < used_in ws → (o : ℕ) → owner_word bd i ws ≡ o → Inside ws (lookup_part bd known i ws)
      on3 w h zero e = none (lookup-used w h ∙ edges-dead bd i ws e)
      on3 w h (suc f) e =
          let l = formed-live bd known ws w i f h e in
          subst (Inside ws) (sym (lookup-used w h ∙ edges-live bd i ws (count_word bd i ws) (omega (arith, e)) refl))
          (omega arith, omega (arith, l.few, within bd i ws h (formed-whole bd known ws w)))

      on2 : well_formed bd known ws ≡ true → (b : Bool) → ltb i (used_in ws) ≡ b → Inside ws (lookup_part bd known i ws)
      on2 w true e = on3 w (ltb-true i (used_in ws) e) (owner_word bd i ws) refl
      on2 w false e = none (lookup-beyond w (ltb-false i (used_in ws) e))

      on1 : (b : Bool) → well_formed bd known ws ≡ b → Inside ws (lookup_part bd known i ws)
      on1 true w = on2 w (ltb i (used_in ws)) refl
      on1 false w = none (lookup-malformed w)
