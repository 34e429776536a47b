-- Keys in halves, and one row after another.
-- Serves document 02, order 11.
use Prim.Native.Nat.{ℕ, zero, suc, ◌+◌, ◌-◌, ◌*◌, ◌/◌, ◌%◌, ◌≤◌, ◌<◌, ◌^◌}
use Rattle.std.proofs.Common.{zero-add, suc-add, suc-mul, mul-le-mul_right, add-one, ◌∙◌, lt-ltb, le-ltb, ltb-true, ltb-false, eq-eqb, ne_eqb}
use native.Mathlib.Omega.{arith}
use Rattle.std.specs.Prelude.{◌≡◌, Bool, true, false, List, eqb, ltb}
use Rattle.std.proofs.Math.Path.{refl, sym, ap, ap₂}
use Rattle.std.proofs.Math.Option.{Option, none, some}
use Rattle.std.proofs.Math.ListN.{length}
use Rattle.semantics.specs.Lists.{and, pick}
use Rattle.semantics.specs.Limits.{row_bytes, isin_bytes}
use Rattle.semantics.specs.Halves.{joined}
use Rattle.semantics.specs.Bytes.{long, wide}
use Rattle.semantics.specs.Bytes.Laws.{room, wide-add, wide-long, wide-double}
use Rattle.semantics.specs.Entries.{key_of}
use Rattle.semantics.specs.Directory.{FlowKey, key_at, isin_at, tranche_at, leg_at, reference_at, rises_at, ascends, is_directory, is_at, found_in, looked_up}
use Rattle.std.specs.Prelude as Code
use Rattle.flow_directory.specs.declared.rows.LookUpRefusal.TheVariants.{Missing, Disordered}
use Rattle.flow_directory.specs.Keys.{Looked, given, looked_of}

-- ---- two halves

halves_lt : (K h l h' l' : ℕ) → l < K → h < h' → h * K + l < h' * K + l'
halves_lt K h l h' l' b a =
    let m : suc h * K ≤ h' * K = mul-le-mul_right K a in
    omega (arith, m, suc-mul h K, b)

halves-le : (K h l h' l' : ℕ) → l < K → h < h' → h * K + l ≤ h' * K + l'
halves-le K h l h' l' b a = omega (arith, halves_lt K h l h' l' b a)

pub high-below : (K h l h' l' : ℕ) → l < K → h < h' → true ≡ ltb (h * K + l) (h' * K + l')
high-below K h l h' l' b a = sym (lt-ltb (h * K + l) (h' * K + l') (halves_lt K h l h' l' b a))

pub high-above : (K h l h' l' : ℕ) → l' < K → h' < h → false ≡ ltb (h * K + l) (h' * K + l')
high-above K h l h' l' b a = sym (le-ltb (h * K + l) (h' * K + l') (halves-le K h' l' h l b a))

pub high_same : (K h l h' l' : ℕ) → h ≤ h' → h' ≤ h → ltb l l' ≡ ltb (h * K + l) (h' * K + l')
high_same K h l h' l' a b =
    let z : h ≡ h' = omega arith in
    on (ltb l l') refl ∙ ap (λ (x : ℕ). ltb (h * K + l) (x * K + l')) z
  where
    on : (t : Bool) → ltb l l' ≡ t → ltb l l' ≡ ltb (h * K + l) (h * K + l')
    on true e = e ∙ sym (lt-ltb (h * K + l) (h * K + l') (omega (arith, ltb-true l l' e)))
    on false e = e ∙ sym (le-ltb (h * K + l) (h * K + l') (omega (arith, ltb-false l l' e)))

-- the key of a row, from its four words
pub key-halved : (rows : List ℕ) (i a b c d h l : ℕ) → a ≡ long rows (row_bytes * i) → b ≡ long rows (row_bytes * i + 4) → c ≡ long rows (row_bytes * i + 8) → d ≡ long rows (row_bytes * i + 12) → c < 2 ^ 32 → d < 2 ^ 32 → h ≡ joined b a → l ≡ joined d c
    → (h * 18446744073709551616 + l ≡ key_at rows i) × (l < 2 ^ 64)
unfolding room
key-halved rows i a b c d h l ea eb ec ed bc bd eh el =
    let at : ℕ = row_bytes * i in
    let p : h ≡ wide 8 rows at = eh ∙ ap₂ (λ x y. joined x y) eb ea ∙ sym (wide-double rows at) in
    let z : at + 8 + 4 ≡ at + 12 = omega arith in
    let q : l ≡ wide 8 rows (at + 8) = el ∙ ap₂ (λ x y. joined x y) (ed ∙ ap (long rows) (sym z)) ec ∙ sym (wide-double rows (at + 8)) in
    (ap₂ (λ x y. x * 18446744073709551616 + y) p q ∙ sym (wide-add 8 8 rows at), omega (arith, el, bc, bd))

-- ---- is it the key

module _ (rows isin : List ℕ) (i h l w m : ℕ) (eh : h ≡ joined (long rows (row_bytes * i + 4)) (long rows (row_bytes * i))) (el : l ≡ long rows (row_bytes * i + 8)) (ew : w ≡ joined (long isin 4) (long isin 0)) (em : m ≡ long isin 8) (bl : l < 2 ^ 32) (bm : m < 2 ^ 32) where
  row-isin : isin_at rows i ≡ h * 4294967296 + l
  unfolding room
  row-isin =
      let at : ℕ = row_bytes * i in
      let p : wide 8 rows at ≡ h = wide-double rows at ∙ sym eh in
      let q : wide 4 rows (at + 8) ≡ l = wide-long rows (at + 8) ∙ sym el in
      wide-add 4 8 rows at ∙ ap₂ (λ x y. x * 4294967296 + y) p q

  asked-isin : wide isin_bytes isin 0 ≡ w * 4294967296 + m
  unfolding room
  asked-isin =
      let p : wide 8 isin 0 ≡ w = wide-double isin 0 ∙ sym ew in
      let q : wide 4 isin 8 ≡ m = wide-long isin 8 ∙ sym em in
      wide-add 4 8 isin 0 ∙ ap₂ (λ x y. x * 4294967296 + y) p q

  isin-other : (isin_at rows i ≡ wide isin_bytes isin 0 → ⊥) → (t g : ℕ) → false ≡ is_at rows (key_of isin t g) i
  unfolding is_at
  isin-other ne t g = sym (ap (λ (b : Bool). and b (and (eqb (tranche_at rows i) t) (eqb (leg_at rows i) g))) (ne_eqb (isin_at rows i) (wide isin_bytes isin 0) ne))

  pub other-high : (h ≡ w → ⊥) → (t g : ℕ) → false ≡ is_at rows (key_of isin t g) i
  other-high ne t g = isin-other (λ (e : isin_at rows i ≡ wide isin_bytes isin 0). ne (let z : h * 4294967296 + l ≡ w * 4294967296 + m = sym row-isin ∙ e ∙ asked-isin in omega (arith, z, bl, bm))) t g

  pub other-low : (l ≡ m → ⊥) → (t g : ℕ) → false ≡ is_at rows (key_of isin t g) i
  other-low ne t g = isin-other (λ (e : isin_at rows i ≡ wide isin_bytes isin 0). ne (let z : h * 4294967296 + l ≡ w * 4294967296 + m = sym row-isin ∙ e ∙ asked-isin in omega (arith, z, bl, bm))) t g

  module _ (sh : h ≡ w) (sl : l ≡ m) where
    pub same-isin : (t g : ℕ) → is_at rows (key_of isin t g) i ≡ and (eqb (tranche_at rows i) t) (eqb (leg_at rows i) g)
    unfolding is_at
    same-isin t g =
        let z : isin_at rows i ≡ wide isin_bytes isin 0 = row-isin ∙ ap₂ (λ x y. x * 4294967296 + y) sh sl ∙ sym asked-isin in
        ap (λ (b : Bool). and b (and (eqb (tranche_at rows i) t) (eqb (leg_at rows i) g))) (eq-eqb (isin_at rows i) (wide isin_bytes isin 0) z)

    pub other-tranche : (t g s : ℕ) → s ≡ tranche_at rows i → (s ≡ t → ⊥) → false ≡ is_at rows (key_of isin t g) i
    other-tranche t g s e ne = sym (same-isin t g ∙ ap (λ (b : Bool). and b (eqb (leg_at rows i) g)) (ne_eqb (tranche_at rows i) t (λ (z : tranche_at rows i ≡ t). ne (e ∙ z))))

    pub same-tranche : (t g s x : ℕ) → s ≡ tranche_at rows i → s ≡ t → x ≡ leg_at rows i → eqb x g ≡ is_at rows (key_of isin t g) i
    same-tranche t g s x e k f = ap (λ (y : ℕ). eqb y g) f ∙ sym (same-isin t g ∙ ap (λ (b : Bool). and b (eqb (leg_at rows i) g)) (eq-eqb (tranche_at rows i) t (sym e ∙ k)))

-- ---- one row after another

pub rises-first : (rows : List ℕ) (i : ℕ) → i ≤ 0 → true ≡ rises_at rows i
unfolding rises_at
rises-first rows i h = let z : i ≡ 0 = omega arith in rw z refl

pub rises-above : (rows : List ℕ) (i a b : ℕ) → 0 < i → a ≡ key_at rows (i - 1) → b ≡ key_at rows i → ltb a b ≡ rises_at rows i
rises-above rows i a b h ea eb = let z : suc (i - 1) ≡ i = omega arith in ap₂ ltb ea (eb ∙ ap (key_at rows) (sym z)) ∙ from (i - 1) ∙ ap (rises_at rows) z
  where
    from : (k : ℕ) → ltb (key_at rows k) (key_at rows (suc k)) ≡ rises_at rows (suc k)
    from k = unfold rises_at in refl

pub ascends-more : (rows : List ℕ) (i : ℕ) → ascends rows i ≡ true → (b : Bool) → b ≡ rises_at rows i → ascends rows (i + 1) ≡ b
unfolding ascends
ascends-more rows i a b e = rw add-one (ap (λ (x : Bool). and x (rises_at rows i)) a ∙ sym e)

ascends-stays : (rows : List ℕ) (k n : ℕ) → ascends rows k ≡ false → ascends rows (n + k) ≡ false
unfolding ascends
ascends-stays rows k zero a = rw zero-add a
ascends-stays rows k (suc n) a = rw suc-add (ap (λ (x : Bool). and x (rises_at rows (n + k))) (ascends-stays rows k n a))

pub disordered : (rows : List ℕ) (k : ℕ) → k ≤ length rows / row_bytes → ascends rows k ≡ false → (o : Option ℕ) → Code.Err Disordered ≡ looked_of (is_directory rows) o
unfolding is_directory
disordered rows k h a o =
    let n : ℕ = length rows / row_bytes in
    let z : n - k + k ≡ n = omega arith in
    let f : ascends rows n ≡ false = ap (ascends rows) (sym z) ∙ ascends-stays rows k (n - k) a in
    sym (ap (λ (b : Bool). looked_of (and (eqb (length rows % row_bytes) 0) b) o) f ∙ ap (λ (b : Bool). looked_of b o) (and_no (eqb (length rows % row_bytes) 0)))
  where
    and_no : (b : Bool) → and b false ≡ false
    and_no true = refl
    and_no false = refl

pub left_over : (rows : List ℕ) → 0 < length rows % row_bytes → (o : Option ℕ) → Code.Err Disordered ≡ looked_of (is_directory rows) o
unfolding is_directory
left_over rows h o = sym (ap (λ (b : Bool). looked_of (and b (ascends rows (length rows / row_bytes))) o) (ne_eqb (length rows % row_bytes) 0 (λ (e : length rows % row_bytes ≡ 0). omega (arith, h, e))))

-- the reference of the row that has the key
pub found-more : (rows : List ℕ) (k : FlowKey) (i : ℕ) (found r : Code.Option ℕ) → found ≡ given (found_in rows k i) → r ≡ pick (is_at rows k i) (Code.Some (reference_at rows i)) found → r ≡ given (found_in rows k (i + 1))
unfolding found_in
found-more rows k i found r e h = rw add-one (h ∙ ap (pick (is_at rows k i) (Code.Some (reference_at rows i))) e ∙ on (is_at rows k i))
  where
    on : (b : Bool) → pick b (Code.Some (reference_at rows i)) (given (found_in rows k i)) ≡ given (pick b (some (reference_at rows i)) (found_in rows k i))
    on true = refl
    on false = refl

pub found_none : (rows : List ℕ) (k : FlowKey) → Code.None ≡ given (found_in rows k 0)
unfolding found_in
found_none rows k = refl

module _ (rows : List ℕ) (k : FlowKey) (i : ℕ) (found : Code.Option ℕ) (whole : length rows % row_bytes ≤ 0) (end : i ≡ length rows / row_bytes) (up : ascends rows i ≡ true) (is : found ≡ given (found_in rows k i)) where
  in_order : is_directory rows ≡ true
  unfolding is_directory
  in_order = let z : length rows % row_bytes ≡ 0 = omega arith in ap (λ (b : Bool). and b (ascends rows (length rows / row_bytes))) (eq-eqb (length rows % row_bytes) 0 z) ∙ ap (ascends rows) (sym end) ∙ up

  here : found ≡ given (looked_up rows k)
  unfolding looked_up
  here = is ∙ ap (λ (n : ℕ). given (found_in rows k n)) end

  pub looked-there : Code.ok_or found Missing ≡ looked_of (is_directory rows) (looked_up rows k)
  looked-there = ap (λ (o : Code.Option ℕ). Code.ok_or o Missing) here ∙ on (looked_up rows k) ∙ sym (ap (λ (b : Bool). looked_of b (looked_up rows k)) in_order)
    where
      on : (o : Option ℕ) → Code.ok_or (given o) Missing ≡ looked_of true o
      on none = refl
      on (some r) = refl
