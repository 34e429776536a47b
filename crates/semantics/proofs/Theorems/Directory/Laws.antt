-- At most one row has a key; what one, several and none mean; what is left where a call is refused.
-- Serves document 02, order 11.
use Rattle.std.specs.Prelude.{ℕ, zero, suc, ◌+◌, ◌*◌, ◌≤◌, ◌<◌, ◌≡◌, Bool, List, [], ◌∷◌, eqb, ltb, length, get_or}
use Rattle.std.proofs.Common.{not-suc-le-zero, le_of_suc-le-suc, arith, sym, ap, ap₂, ◌∙◌, true≢false, ltb-true, ltb-false}
use Rattle.std.proofs.Math.Path.{refl}
use Rattle.std.proofs.Math.Bool.{true, false}
use Rattle.std.proofs.Math.Option.{Option, none, some}
use Rattle.semantics.specs.declared.graph.NodeId.{NodeId}
use Rattle.semantics.specs.declared.refusal.ImageRefusal.{ImageRefusal}
use Rattle.semantics.specs.declared.refusal.SearchRefusal.{SearchRefusal}
use Rattle.semantics.specs.declared.answer.Definitions.{Definitions}
use Rattle.semantics.specs.Lists.{and, pick}
use Rattle.semantics.specs.Lists.Laws.{and-true, eqb-true, eqb_same}
use Rattle.semantics.specs.Limits.{Bounds, isin_bytes, row_bytes}
use Rattle.semantics.specs.Answer.{Answer, ok, refuse}
use Rattle.semantics.specs.Bytes.{short, wide}
use Rattle.semantics.specs.Bytes.Laws.{room, wide-add, wide-long}
use Rattle.semantics.specs.Told.{told_flow}
use Rattle.semantics.specs.Graph.{node_id, Graph, view_of}
use Rattle.semantics.specs.Path.{Path}
use Rattle.semantics.specs.Enumeration.{State}
use Rattle.semantics.specs.Direct.{direct}
use Rattle.semantics.specs.Isin.{is_isin}
use Rattle.semantics.specs.Recorded.{returned}
use Rattle.semantics.specs.Calls.{setting_of, search_outcome}
use Rattle.semantics.proofs.Theorems.Calls.Refused.{Zeroed}
use Rattle.semantics.specs.Directory.{key_at, isin_at, tranche_at, leg_at, reference_at, rises_at, ascends, is_directory, FlowKey, is_at, found_in, looked_up, with_end, definitions_of, FlowRequest, request_from, flow_outcome, resolved, if_found, if_directory, if_isin, flow_call}

-- ---- AT MOST ONE ROW HAS A KEY

-- the key is the ISIN, the tranche and the leg
key-parts : (rows : List ℕ) (i : ℕ) → key_at rows i ≡ isin_at rows i * 4294967296 + (tranche_at rows i * 65536 + leg_at rows i)
unfolding room
key-parts rows i =
    let at : ℕ = row_bytes * i in
    let z : at + 12 + 2 ≡ at + 14 = omega arith in
    wide-add 4 12 rows at ∙ ap (λ (x : ℕ). isin_at rows i * 4294967296 + x) (wide-long rows (at + 12) ∙ ap (λ (x : ℕ). tranche_at rows i * 65536 + short rows x) z)

-- the row behind rows that ascend
rises-is : (rows : List ℕ) (m : ℕ) → rises_at rows (suc m) ≡ true → key_at rows m < key_at rows (suc m)
unfolding rises_at
rises-is rows m r = ltb-true (key_at rows m) (key_at rows (suc m)) r

module _ (rows : List ℕ) where
  abbrev Rising : ℕ → Type 0
  Rising n = (i j : ℕ) → i < j → j < n → key_at rows i < key_at rows j

  last-above : (n : ℕ) → Rising n → rises_at rows n ≡ true → (i : ℕ) → i < n → key_at rows i < key_at rows n
  last-above zero ih r i h = absurd (not-suc-le-zero h)
  last-above (suc m) ih r i h = on (ltb i m) refl
    where
      on : (k : Bool) → ltb i m ≡ k → key_at rows i < key_at rows (suc m)
      on true f = let x = ih i m (ltb-true i m f) (omega arith) in omega (arith, x, rises-is rows m r)
      on false f =
          let q : i ≡ m = omega (arith, h, ltb-false i m f) in
          let x : key_at rows i ≡ key_at rows m = ap (key_at rows) q in
          omega (arith, x, rises-is rows m r)

  rising-more : (n : ℕ) → Rising n → rises_at rows n ≡ true → Rising (suc n)
  rising-more n ih r i j h l = on (ltb j n) refl
    where
      on : (k : Bool) → ltb j n ≡ k → key_at rows i < key_at rows j
      on true f = ih i j h (ltb-true j n f)
      on false f =
          let q : j ≡ n = omega (arith, l, ltb-false j n f) in
          let x : key_at rows j ≡ key_at rows n = ap (key_at rows) q in
          let y = last-above n ih r i (omega (arith, h, q)) in
          omega (arith, x, y)

-- keys in rows that ascend are in the order of the rows
pub keys-ascend : (rows : List ℕ) (n : ℕ) → ascends rows n ≡ true → (i j : ℕ) → i < j → j < n → key_at rows i < key_at rows j
unfolding ascends
keys-ascend rows zero a i j h l = absurd (not-suc-le-zero l)
keys-ascend rows (suc n) a i j h l =
    let both = and-true (ascends rows n) (rises_at rows n) a in
    rising-more rows n (keys-ascend rows n both.0) both.1 i j h l

-- a row that has the key
pub at-is : (rows : List ℕ) (k : FlowKey) (i : ℕ) → is_at rows k i ≡ true → key_at rows i ≡ wide isin_bytes k.isin 0 * 4294967296 + (k.tranche * 65536 + k.leg)
unfolding is_at
at-is rows k i h =
    let a = and-true (eqb (isin_at rows i) (wide isin_bytes k.isin 0)) (and (eqb (tranche_at rows i) k.tranche) (eqb (leg_at rows i) k.leg)) h in
    let b = and-true (eqb (tranche_at rows i) k.tranche) (eqb (leg_at rows i) k.leg) a.1 in
    key-parts rows i ∙ ap₂ (λ (x : ℕ) (y : ℕ). x * 4294967296 + y) (eqb-true _ _ a.0) (ap₂ (λ (x : ℕ) (y : ℕ). x * 65536 + y) (eqb-true _ _ b.0) (eqb-true _ _ b.1))

pub only_one : (rows : List ℕ) (n : ℕ) → ascends rows n ≡ true → (k : FlowKey) (i j : ℕ) → i < n → j < n → is_at rows k i ≡ true → is_at rows k j ≡ true → i ≡ j
only_one rows n a k i j hi hj ei ej =
    let z : key_at rows i ≡ key_at rows j = at-is rows k i ei ∙ sym (at-is rows k j ej) in
    on (ltb i j) (ltb j i) refl refl z
  where
    on : (x y : Bool) → ltb i j ≡ x → ltb j i ≡ y → key_at rows i ≡ key_at rows j → i ≡ j
    on true y f g z = absurd (let w = keys-ascend rows n a i j (ltb-true i j f) hj in omega (arith, w, z))
    on false true f g z = absurd (let w = keys-ascend rows n a j i (ltb-true j i g) hi in omega (arith, w, z))
    on false false f g z = omega (arith, ltb-false i j f, ltb-false j i g)

-- the reference that is looked up is that of the row with the key, and there is one unless no row has it
pub found-is : (rows : List ℕ) (k : FlowKey) (n r : ℕ) → found_in rows k n ≡ some r → (i : ℕ) × (i < n) × (is_at rows k i ≡ true) × (r ≡ reference_at rows i)
unfolding found_in
found-is rows k zero r e = absurd (let z : ◌≡◌ {A = Bool} true false = cc in true≢false z)
found-is rows k (suc n) r e = on (is_at rows k n) refl e (λ f. found-is rows k n r f)
  where
    on : (b : Bool) → is_at rows k n ≡ b → pick b (some (reference_at rows n)) (found_in rows k n) ≡ some r → (found_in rows k n ≡ some r → (i : ℕ) × (i < n) × (is_at rows k i ≡ true) × (r ≡ reference_at rows i)) → (i : ℕ) × (i < suc n) × (is_at rows k i ≡ true) × (r ≡ reference_at rows i)
    on true f g ih = let z : reference_at rows n ≡ r = cc in (n, omega arith, f, sym z)
    on false f g ih = let a = ih g in (a.0, omega (arith, a.1), a.2, a.3)

pub found-not : (rows : List ℕ) (k : FlowKey) (n : ℕ) → found_in rows k n ≡ none → (i : ℕ) → i < n → is_at rows k i ≡ false
unfolding found_in
found-not rows k zero e i h = absurd (not-suc-le-zero h)
found-not rows k (suc n) e i h = on (is_at rows k n) refl e (λ f l. found-not rows k n f i l)
  where
    on : (b : Bool) → is_at rows k n ≡ b → pick b (some (reference_at rows n)) (found_in rows k n) ≡ none → (found_in rows k n ≡ none → i < n → is_at rows k i ≡ false) → is_at rows k i ≡ false
    on true f g ih = absurd (let z : ◌≡◌ {A = Bool} true false = cc in true≢false z)
    on false f g ih = at (ltb i n) refl
      where
        at : (c : Bool) → ltb i n ≡ c → is_at rows k i ≡ false
        at true l = ih g (ltb-true i n l)
        at false l = let q : i ≡ n = omega (arith, h, ltb-false i n l) in ap (is_at rows k) q ∙ f

-- ---- WHAT IS LEFT: the work area is zero after every call, and the result area after a refused one
module _ (bd : Bounds) where
  outcome-zeroed : (q : FlowRequest) (a : Answer SearchRefusal (State Path)) → Zeroed told_flow q.work q.result (flow_outcome bd q a)
  unfolding flow_outcome
  outcome-zeroed q (ok s) = record { work = refl; result = λ h. absurd (h refl) }
  outcome-zeroed q (refuse r) = record { work = refl; result = λ h. refl }

  found-zeroed : (o : Option ℕ) (g : Graph) (q : FlowRequest) → Zeroed told_flow q.work q.result (if_found bd o g q)
  unfolding if_found resolved
  found-zeroed (some r) g q = outcome-zeroed q (direct bd q.limits.length (setting_of bd (request_from q r)) (view_of g) r)
  found-zeroed none g q = record { work = refl; result = λ h. refl }

  directory-zeroed : (b : Bool) (rows : List ℕ) (g : Graph) (q : FlowRequest) → Zeroed told_flow q.work q.result (if_directory bd b rows g q)
  unfolding if_directory
  directory-zeroed true rows g q = found-zeroed (looked_up rows q.key) g q
  directory-zeroed false rows g q = record { work = refl; result = λ h. refl }

  isin-zeroed : (b : Bool) (rows : List ℕ) (g : Graph) (q : FlowRequest) → Zeroed told_flow q.work q.result (if_isin bd b rows g q)
  unfolding if_isin
  isin-zeroed true rows g q = directory-zeroed (is_directory rows) rows g q
  isin-zeroed false rows g q = record { work = refl; result = λ h. refl }

  pub flow-zeroed : (image : Answer ImageRefusal Graph) (rows : List ℕ) (q : FlowRequest) → Zeroed told_flow q.work q.result (flow_call bd image rows q)
  unfolding flow_call
  flow-zeroed (ok g) rows q = isin-zeroed (is_isin q.key.isin) rows g q
  flow-zeroed (refuse x) rows q = record { work = refl; result = λ h. refl }

  -- both areas are those of the direct search with its returned paths
  pub same-areas : (q : FlowRequest) (r : ℕ) (a : Answer SearchRefusal (State Path)) → ((flow_outcome bd q a).work ≡ (search_outcome bd returned (request_from q r) a).work) × ((flow_outcome bd q a).result ≡ (search_outcome bd returned (request_from q r) a).result)
  unfolding flow_outcome search_outcome
  same-areas q r (ok s) = (refl, refl)
  same-areas q r (refuse x) = (refl, refl)

-- ---- ONE, SEVERAL, NONE

same-eqb : (a b : ℕ) → a ≡ b → eqb a b ≡ true
same-eqb a b e = ap (eqb a) (sym e) ∙ eqb_same a

one-inj : (x y : NodeId) → Definitions.One x ≡ Definitions.One y → x ≡ y
one-inj x y e = cc

-- none: there are no paths
pub none_is : (ns : List ℕ) → definitions_of ns ≡ Definitions.Nothing → ns ≡ []
unfolding definitions_of with_end
none_is [] e = refl
none_is (n ∷ ns) e = absurd (on (definitions_of ns) e)
  where
    other : (x : NodeId) (b : Bool) → pick b (Definitions.One x) Definitions.Several ≡ Definitions.Nothing → ⊥
    other x true k = let z : ◌≡◌ {A = Bool} true false = cc in true≢false z
    other x false k = let z : ◌≡◌ {A = Bool} true false = cc in true≢false z

    on : (d : Definitions) → with_end n d ≡ Definitions.Nothing → ⊥
    on Definitions.Nothing k = let z : ◌≡◌ {A = Bool} true false = cc in true≢false z
    on (Definitions.One x) k = other x (eqb n x.0) k
    on Definitions.Several k = let z : ◌≡◌ {A = Bool} true false = cc in true≢false z

-- one: every path ends there
pub one-all : (ns : List ℕ) (x : NodeId) → definitions_of ns ≡ Definitions.One x → (j : ℕ) → j < length ns → get_or ns j 0 ≡ x.0
unfolding definitions_of with_end
one-all [] x e j h = absurd (not-suc-le-zero h)
one-all (n ∷ ns) x e j h = on (definitions_of ns) refl e j h (λ k i l. one-all ns x k i l)
  where
    on : (d : Definitions) → definitions_of ns ≡ d → with_end n d ≡ Definitions.One x → (j : ℕ) → j < suc (length ns) → (definitions_of ns ≡ Definitions.One x → (i : ℕ) → i < length ns → get_or ns i 0 ≡ x.0) → get_or (n ∷ ns) j 0 ≡ x.0
    on Definitions.Nothing f k zero l ih = ap (λ (y : NodeId). y.0) (one-inj (node_id n) x k)
    on Definitions.Nothing f k (suc j) l ih = absurd (let z : length ns ≡ 0 = ap length (none_is ns f) in omega (arith, z, l))
    on (Definitions.One y) f k j l ih = at (eqb n y.0) refl k j l
      where
        at : (b : Bool) → eqb n y.0 ≡ b → pick b (Definitions.One y) Definitions.Several ≡ Definitions.One x → (j : ℕ) → j < suc (length ns) → get_or (n ∷ ns) j 0 ≡ x.0
        at true q i zero m = eqb-true n y.0 q ∙ ap (λ (u : NodeId). u.0) (one-inj y x i)
        at true q i (suc j) m = ih (f ∙ i) j (le_of_suc-le-suc m)
        at false q i j m = absurd (let z : ◌≡◌ {A = Bool} true false = cc in true≢false z)
    on Definitions.Several f k j l ih = absurd (let z : ◌≡◌ {A = Bool} true false = cc in true≢false z)

-- and the other way round
pub all_one : (ns : List ℕ) (x : NodeId) → 0 < length ns → ((j : ℕ) → j < length ns → get_or ns j 0 ≡ x.0) → definitions_of ns ≡ Definitions.One x
unfolding definitions_of with_end
all_one [] x h a = absurd (not-suc-le-zero h)
all_one (n ∷ []) x h a = ap (λ (k : ℕ). Definitions.One (node_id k)) (a 0 (omega arith))
all_one (n ∷ m ∷ ns) x h a =
    ap (with_end n) (all_one (m ∷ ns) x (omega arith) (λ j l. a (suc j) (omega (arith, l))))
    ∙ ap (λ (b : Bool). pick b (Definitions.One x) Definitions.Several) (same-eqb n x.0 (a 0 (omega arith)))

-- several: two paths end at different definitions
pub several-of : (ns : List ℕ) (i j : ℕ) → i < length ns → j < length ns → (get_or ns i 0 ≡ get_or ns j 0 → ⊥) → definitions_of ns ≡ Definitions.Several
several-of ns i j h k ne = on (definitions_of ns) refl
  where
    on : (d : Definitions) → definitions_of ns ≡ d → definitions_of ns ≡ Definitions.Several
    on Definitions.Nothing e = absurd (let z : length ns ≡ 0 = ap length (none_is ns e) in omega (arith, z, h))
    on (Definitions.One x) e = absurd (ne (one-all ns x e i h ∙ sym (one-all ns x e j k)))
    on Definitions.Several e = e

none-one : (ns : List ℕ) (x : NodeId) → definitions_of ns ≡ Definitions.One x → length ns ≤ 0 → ⊥
unfolding definitions_of
none-one [] x e h = let z : ◌≡◌ {A = Bool} true false = cc in true≢false z
none-one (n ∷ ns) x e h = omega (arith, h)

-- the other way round: two ends that differ can be named
pub several-is : (ns : List ℕ) → definitions_of ns ≡ Definitions.Several → (i : ℕ) × (j : ℕ) × (i < length ns) × (j < length ns) × (get_or ns i 0 ≡ get_or ns j 0 → ⊥)
unfolding definitions_of with_end
several-is [] e = absurd (let z : ◌≡◌ {A = Bool} true false = cc in true≢false z)
several-is (n ∷ ns) e = on (definitions_of ns) refl e (λ f. several-is ns f)
  where
    on : (d : Definitions) → definitions_of ns ≡ d → with_end n d ≡ Definitions.Several → (definitions_of ns ≡ Definitions.Several → (i : ℕ) × (j : ℕ) × (i < length ns) × (j < length ns) × (get_or ns i 0 ≡ get_or ns j 0 → ⊥))
        → (i : ℕ) × (j : ℕ) × (i < suc (length ns)) × (j < suc (length ns)) × (get_or (n ∷ ns) i 0 ≡ get_or (n ∷ ns) j 0 → ⊥)
    on Definitions.Nothing f k ih = absurd (let z : ◌≡◌ {A = Bool} true false = cc in true≢false z)
    on (Definitions.One x) f k ih = at (eqb n x.0) refl k (ltb 0 (length ns)) refl
      where
        at : (b : Bool) → eqb n x.0 ≡ b → pick b (Definitions.One x) Definitions.Several ≡ Definitions.Several → (c : Bool) → ltb 0 (length ns) ≡ c
            → (i : ℕ) × (j : ℕ) × (i < suc (length ns)) × (j < suc (length ns)) × (get_or (n ∷ ns) i 0 ≡ get_or (n ∷ ns) j 0 → ⊥)
        at true q m c l = absurd (let z : ◌≡◌ {A = Bool} true false = cc in true≢false z)
        at false q m true l = (0, 1, omega arith, omega (arith, ltb-true 0 (length ns) l), λ (u : n ≡ get_or ns 0 0). true≢false (sym (same-eqb n x.0 (u ∙ one-all ns x f 0 (ltb-true 0 (length ns) l))) ∙ q))
        at false q m false l = absurd (none-one ns x f (ltb-false 0 (length ns) l))
    on Definitions.Several f k ih = let a = ih f in (suc a.0, suc a.1, omega (arith, a.2), omega (arith, a.3), a.4)
