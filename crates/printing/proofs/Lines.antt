-- How the printed lines grow.
use Rattle.std.proofs.Common.{zero, suc, drop-drop, ◌≡◌, ℕ, ◌+◌, ◌-◌, ◌*◌, ◌<◌, min, List, [], ◌∷◌, ◌++◌, refl, sym, ap, ap₂, ◌∙◌, append_assoc, append-nil, length, take, drop, get_or, arith, length-drop}
use Rattle.std.specs.Prelude.{decimal}
use Rattle.std.proofs.lemmas.List.{take_more, take_at, drop_at}
use Rattle.std.proofs.Math.Numerals.{suc-eq-add-one}
use Rattle.printing.specs.Areas.{slots, area_words}
use Rattle.semantics.specs.Limits.{slot_length}
use Rattle.printing.specs.Lines.{spaced, slot_at, path_line, path_lines}

spaced_append : (xs ys : List ℕ) → spaced (xs ++ ys) ≡ spaced xs ++ spaced ys
spaced_append [] ys = refl
spaced_append (x ∷ xs) ys = ap (λ l. (32 ∷ decimal x) ++ l) (spaced_append xs ys) ∙ sym (append_assoc (32 ∷ decimal x) (spaced xs) (spaced ys))

-- one edge more behind the name
pub spaced_more : (name edges : List ℕ) (j : ℕ) → j < length edges
    → (name ++ spaced (take j edges)) ++ ((32 ∷ []) ++ decimal (get_or edges j 0)) ≡ name ++ spaced (take (j + 1) edges)
spaced_more name edges j h =
    let x = get_or edges j 0 in
    let same : take (j + 1) edges ≡ take j edges ++ (x ∷ []) = take_more edges j 0 h in
    let one : spaced (x ∷ []) ≡ 32 ∷ decimal x = append-nil (32 ∷ decimal x) in
    append_assoc name (spaced (take j edges)) (32 ∷ decimal x)
    ∙ ap (λ l. name ++ (spaced (take j edges) ++ l)) (sym one)
    ∙ ap (λ l. name ++ l) (sym (spaced_append (take j edges) (x ∷ [])))
    ∙ ap (λ l. name ++ spaced l) (sym same)

-- what the loop over the slots keeps: n lines were printed, and `left` of the area and `more` slots are still to come
pub record Printed (area left : List ℕ) (size more paths n : ℕ) : Type 0 where
  pub left-is : left ≡ drop (slot_length * n) area
  pub size-is : size ≡ slot_length
  pub count : more + n ≡ min paths slots

pub printed_none : (area : List ℕ) {left : List ℕ} {size more paths : ℕ} → left ≡ area → size ≡ slot_length → more ≡ min paths slots → Printed area left size more paths 0
printed_none area e s m = record { left-is = e; size-is = s; count = omega (arith, m) }

-- the next slot
module _ {area left : List ℕ} {size more paths n : ℕ} (v : Printed area left size more paths n) where
  pub printed_slot : (x left' : List ℕ) → left ≡ x ++ left' → length x ≡ size → x ≡ slot_at area n
  printed_slot x left' e k =
      let z : slot_length * n + slot_length - slot_length * n ≡ slot_length = omega arith in
      sym (ap (λ m. take m (drop (slot_length * n) area)) z ∙ ap (take slot_length) (sym v.left-is ∙ e) ∙ take_at x left' slot_length (k ∙ v.size-is))

  pub printed_more : (x left' : List ℕ) → left ≡ x ++ left' → length x ≡ size → (size' more' m : ℕ) → size' ≡ size → more' + 1 ≡ more → m ≡ n + 1 → Printed area left' size' more' paths m
  printed_more x left' e k size' more' m s o u = record {
    left-is =
        let z : slot_length * n + slot_length ≡ slot_length * m = omega (arith, u) in
        sym (drop_at x left' slot_length (k ∙ v.size-is)) ∙ ap (drop slot_length) (sym e ∙ v.left-is) ∙ drop-drop slot_length (slot_length * n) area ∙ ap (λ i. drop i area) z;
    size-is = s ∙ v.size-is;
    count = omega (arith, v.count, o, u);
  }

  -- no slot is left before all lines are printed
  pub printed_all : length area ≡ area_words → (0 < more → length left < size) → n ≡ min paths slots
  printed_all long h = on more refl
    where
      on : (k : ℕ) → more ≡ k → n ≡ min paths slots
      on zero e = omega (arith, v.count, e)
      on (suc k) e = absurd (omega (arith, h (omega (arith, e)), ap length v.left-is, length-drop (slot_length * n) area, long, v.size-is, v.count, e))

-- one slot more
pub path_lines_more : (name area : List ℕ) (n : ℕ) → path_lines name area n ++ path_line name (slot_at area n) ≡ path_lines name area (n + 1)
path_lines_more name area n = ap (path_lines name area) (suc-eq-add-one n)
